-- The lines of a text, one after the other, and the first byte of a kind.
use Rattle.std.proofs.Common.{◌≡◌, ℕ, zero, suc, ◌<◌, false, cond, List, [], ◌∷◌, ◌++◌, ◌-◌, length, take, drop, refl, ap, ap₂, ◌∙◌, arith}
use Rattle.std.specs.Prelude.{◌==◌, ◌≢◌}
use Rattle.std.specs.List.{AllByRecursion, All, slice_split}
use Rattle.std.specs.Str.Lines.{lines, lines_of_parts, strip_carriage_return}
use Rattle.std.proofs.lemmas.List.{length-drop}
use Rattle.std.proofs.lemmas.List.Elements.{All-from_recursion}
use Rattle.std.proofs.lemmas.List.Splits.{slice_split_at, slice_split_none, length-slice_split}
use Rattle.drg_algebra.proofs.Tests.{differ-test}
use Rattle.drg_edges.specs.Reading.{HasNone}

-- what isn't there, as the split asks it
fail : (xs : List ℕ) → HasNone 10 xs → AllByRecursion (λ b. (b == 10) ≡ false) xs
fail [] h = tt
fail (x ∷ xs) h = (differ-test x 10 h.0, fail xs h.1)

none_pass : (xs : List ℕ) → HasNone 10 xs → All (λ b. (b == 10) ≡ false) xs
none_pass xs h = All-from_recursion (λ b. (b == 10) ≡ false) xs (fail xs h)

parts_first : (x : List ℕ) (parts : List (List ℕ)) → 0 < length parts → lines_of_parts (x ∷ parts) ≡ strip_carriage_return x ∷ lines_of_parts parts
parts_first x [] h = absurd (omega (arith, h))
parts_first x (y ∷ more) h = refl

pub lines-first : (x rest : List ℕ) → HasNone 10 x → lines (x ++ 10 ∷ rest) ≡ strip_carriage_return x ∷ lines rest
lines-first x rest none =
    ap lines_of_parts (slice_split_at (λ b. b == 10) x 10 rest (none_pass x none) refl)
    ∙ parts_first x (slice_split (λ b. b == 10) rest) (let long = length-slice_split (λ b. b == 10) rest in omega (arith, long))

pub lines-last : (x : List ℕ) → HasNone 10 x → x ≢ [] → lines x ≡ x ∷ []
lines-last [] none some = absurd (some refl)
lines-last (b ∷ bs) none some =
    ap lines_of_parts (slice_split_none (λ c. c == 10) (b ∷ bs) (none_pass (b ∷ bs) none))
    ∙ ap (λ t. cond t [] ((b ∷ bs) ∷ [])) (differ-test (length (b ∷ bs)) 0 (λ z. omega (arith, z)))

-- the first byte of a kind is at one place
pub one_split : (byte : ℕ) (xs ys rest more : List ℕ) → HasNone byte xs → HasNone byte ys → xs ++ byte ∷ rest ≡ ys ++ byte ∷ more → (xs ≡ ys) × (rest ≡ more)
one_split byte [] [] rest more hx hy e = (refl, (let f = e in cc))
one_split byte [] (y ∷ ys) rest more hx hy e = absurd (hy.0 (let f = e in cc))
one_split byte (x ∷ xs) [] rest more hx hy e = absurd (hx.0 (let f = e in cc))
one_split byte (x ∷ xs) (y ∷ ys) rest more hx hy e =
    let head : x ≡ y = (let f = e in cc) in
    let tail : xs ++ byte ∷ rest ≡ ys ++ byte ∷ more = (let f = e in cc) in
    let same = one_split byte xs ys rest more hx.1 hy.1 tail in
    (ap₂ (λ a b. a ∷ b) head same.0, same.1)

pub none_of_two : (byte : ℕ) (xs rest : List ℕ) → HasNone byte (xs ++ byte ∷ rest) → ⊥
none_of_two byte [] rest h = h.0 refl
none_of_two byte (x ∷ xs) rest h = none_of_two byte xs rest h.1

take_none : (n : ℕ) (xs : List ℕ) → length xs ≡ 0 → take n xs ≡ []
take_none zero xs h = refl
take_none (suc n) [] h = refl
take_none (suc n) (x ∷ xs) h = absurd (omega (arith, h))

pub nothing : (xs : List ℕ) → take (length xs - length xs) (drop (length xs) xs) ≡ []
nothing xs = take_none (length xs - length xs) (drop (length xs) xs) (let e = length-drop (length xs) xs in omega (arith, e))
