-- The counts of a summary add up, and each counts one array after another.
use Rattle.std.proofs.Common.{◌≡◌, ◌∙◌, ◌+◌, ◌<◌, ◌≤◌, ◌++◌, ◌∷◌, [], refl, sym, ap, ap₂, arith, ℕ, zero, suc, Bool, true, false, List, length, take, get_or}
use Rattle.std.proofs.lemmas.List.{append_assoc, append-nil}
use Rattle.std.specs.Prelude.{if◌then◌else◌}
use Rattle.std.specs.List.{flat_map}
use Rattle.drg_array.specs.ClaimOrder.{test_number}
use Rattle.drg_array.specs.declared.test.Test.{Test}
use Rattle.drg_array.specs.declared.test.Test.TheVariants as test
use Rattle.drg_array.specs.declared.test.TheConstants.Test.{ALL}
use Rattle.drg_array.proofs.TestLaws.{one_number}
use Rattle.drg_sample.specs.Laws.{CountsAddUp, OneKind}
use Rattle.drg_sample.specs.Summary.{count_of, infeasible_count, is_same, test_line}
use Rattle.drg_sample.specs.declared.summary.Found.{Found}
use Rattle.drg_sample.specs.declared.summary.Found.TheVariants.{Infeasible, RefusedSpectrum, Survivor, Undecided}

abbrev pub one : Bool → ℕ
one b = if b then 1 else 0

-- how often an array is counted by these tests
abbrev pub times : Found → List Test → ℕ
times found [] = 0
times found (t ∷ ts) = one (is_same (Infeasible t) found) + times found ts

-- one array is counted once
each_once : (found : Found) → one (is_same Survivor found) + one (is_same RefusedSpectrum found) + one (is_same Undecided found) + times found ALL ≡ 1
each_once Survivor = refl
each_once RefusedSpectrum = refl
each_once Undecided = refl
each_once (Infeasible test.First) = refl
each_once (Infeasible test.Degree) = refl
each_once (Infeasible test.Order) = refl
each_once (Infeasible test.Cross) = refl
each_once (Infeasible test.Size) = refl
each_once (Infeasible test.Intersect) = refl
each_once (Infeasible test.Handshake) = refl
each_once (Infeasible test.Induced) = refl
each_once (Infeasible test.Triangles) = refl
each_once (Infeasible test.Mult) = refl
each_once (Infeasible test.Krein) = refl
each_once (Infeasible test.Absolute) = refl
each_once (Infeasible test.Triple) = refl
each_once (Infeasible test.Ktriple) = refl

one_more_infeasible : (found : Found) (rest : List Found) (ts : List Test) → infeasible_count (found ∷ rest) ts ≡ times found ts + infeasible_count rest ts
one_more_infeasible found rest [] = refl
one_more_infeasible found rest (t ∷ ts) =
    swapped (one (is_same (Infeasible t) found)) (count_of (Infeasible t) rest) (times found ts) (infeasible_count rest ts) (infeasible_count (found ∷ rest) ts) (one_more_infeasible found rest ts)
  where
    swapped : (a b c d e : ℕ) → e ≡ c + d → (a + b) + e ≡ (a + c) + (b + d)
    swapped a b c d e h = omega (arith, h)

all_more : (a b c t a2 b2 c2 t2 t3 n : ℕ) → a + b + c + t ≡ 1 → a2 + b2 + c2 + t2 ≡ n → t3 ≡ t + t2 → (a + a2) + (b + b2) + (c + c2) + t3 ≡ suc n
all_more a b c t a2 b2 c2 t2 t3 n h k l = omega (arith, h, k, l)

pub counts_add_up : CountsAddUp
counts_add_up [] = refl
counts_add_up (found ∷ rest) =
    all_more (one (is_same Survivor found)) (one (is_same RefusedSpectrum found)) (one (is_same Undecided found)) (times found ALL)
    (count_of Survivor rest) (count_of RefusedSpectrum rest) (count_of Undecided rest) (infeasible_count rest ALL) (infeasible_count (found ∷ rest) ALL) (length rest)
    (each_once found) (counts_add_up rest) (one_more_infeasible found rest ALL)

swap : (a b c e : ℕ) → e ≡ b + c → a + e ≡ b + (a + c)
swap a b c e h = omega (arith, h)

count_next : (found : Found) (all : List Found) (i : ℕ) (d : Found) → i < length all
    → count_of found (take (suc i) all) ≡ one (is_same found (get_or all i d)) + count_of found (take i all)
count_next found [] i d h = absurd (omega (arith, h))
count_next found (x ∷ all) zero d h = refl
count_next found (x ∷ all) (suc i) d h =
    swap (one (is_same found x)) (one (is_same found (get_or all i d))) (count_of found (take i all)) (count_of found (take (suc i) all)) (count_next found all i d (omega (arith, h)))

-- one more array
pub count_more : (found : Found) (all : List Found) (i : ℕ) (d : Found) → i < length all
    → count_of found (take (i + 1) all) ≡ one (is_same found (get_or all i d)) + count_of found (take i all)
count_more found all i d low = let next : i + 1 ≡ suc i = omega arith in ap (λ n. count_of found (take n all)) next ∙ count_next found all i d low

flat_next : (f : Test → List ℕ) (ts : List Test) (i : ℕ) (d : Test) → i < length ts → flat_map f (take (suc i) ts) ≡ flat_map f (take i ts) ++ f (get_or ts i d)
flat_next f [] i d h = absurd (omega (arith, h))
flat_next f (t ∷ ts) zero d h = append-nil (f t)
flat_next f (t ∷ ts) (suc i) d h =
    ap (λ l. f t ++ l) (flat_next f ts i d (omega (arith, h))) ∙ sym (append_assoc (f t) (flat_map f (take i ts)) (f (get_or ts i d)))

-- one more piece
pub flat_more : (f : Test → List ℕ) (ts : List Test) (i : ℕ) (d : Test) → i < length ts → flat_map f (take (i + 1) ts) ≡ flat_map f (take i ts) ++ f (get_or ts i d)
flat_more f ts i d low = let next : i + 1 ≡ suc i = omega arith in ap (λ n. flat_map f (take n ts)) next ∙ flat_next f ts i d low

-- the line of one more test
pub tests_next : (all : List Found) (old out new : List ℕ) (i : ℕ) (t d : Test) → i < length ALL → out ≡ old ++ flat_map (test_line all) (take i ALL)
    → new ≡ out ++ test_line all t → t ≡ get_or ALL i d → new ≡ old ++ flat_map (test_line all) (take (i + 1) ALL)
tests_next all old out new i t d low was now same =
    now ∙ ap₂ (λ l x. l ++ test_line all x) was same ∙ append_assoc old (flat_map (test_line all) (take i ALL)) (test_line all (get_or ALL i d))
    ∙ ap (λ l. old ++ l) (sym (flat_more (test_line all) ALL i d low))

-- one more array, which is counted or not
pub count_same : (found : Found) (all : List Found) (i count more : ℕ) (same : Bool) (d : Found) → i < length all → count ≡ count_of found (take i all)
    → same ≡ is_same found (get_or all i d) → same ≡ true → more ≡ count + 1 → more ≡ count_of found (take (i + 1) all)
count_same found all i count more same d low was is equal now =
    let step = count_more found all i d low in
    let counted : one (is_same found (get_or all i d)) ≡ 1 = ap one (sym is ∙ equal) in
    omega (arith, step, counted, now, was)

pub count_other : (found : Found) (all : List Found) (i count more : ℕ) (same : Bool) (d : Found) → i < length all → count ≡ count_of found (take i all)
    → same ≡ is_same found (get_or all i d) → same ≡ false → more ≡ count → more ≡ count_of found (take (i + 1) all)
count_other found all i count more same d low was is unlike now =
    let step = count_more found all i d low in
    let counted : one (is_same found (get_or all i d)) ≡ 0 = ap one (sym is ∙ unlike) in
    omega (arith, step, counted, now, was)

low_number : (t : Test) → 1 ≤ test_number t
low_number test.First = omega arith
low_number test.Degree = omega arith
low_number test.Order = omega arith
low_number test.Cross = omega arith
low_number test.Size = omega arith
low_number test.Intersect = omega arith
low_number test.Handshake = omega arith
low_number test.Induced = omega arith
low_number test.Triangles = omega arith
low_number test.Mult = omega arith
low_number test.Krein = omega arith
low_number test.Absolute = omega arith
low_number test.Triple = omega arith
low_number test.Ktriple = omega arith

pub one_kind : OneKind
one_kind Survivor Survivor e = refl
one_kind Survivor RefusedSpectrum e = absurd (omega (arith, e))
one_kind Survivor Undecided e = absurd (omega (arith, e))
one_kind Survivor (Infeasible u) e = absurd (omega (arith, e))
one_kind RefusedSpectrum Survivor e = absurd (omega (arith, e))
one_kind RefusedSpectrum RefusedSpectrum e = refl
one_kind RefusedSpectrum Undecided e = absurd (omega (arith, e))
one_kind RefusedSpectrum (Infeasible u) e = absurd (omega (arith, e))
one_kind Undecided Survivor e = absurd (omega (arith, e))
one_kind Undecided RefusedSpectrum e = absurd (omega (arith, e))
one_kind Undecided Undecided e = refl
one_kind Undecided (Infeasible u) e = let low = low_number u in absurd (omega (arith, e, low))
one_kind (Infeasible t) Survivor e = absurd (omega (arith, e))
one_kind (Infeasible t) RefusedSpectrum e = absurd (omega (arith, e))
one_kind (Infeasible t) Undecided e = let low = low_number t in absurd (omega (arith, e, low))
one_kind (Infeasible t) (Infeasible u) e = ap (λ x. Infeasible x) (one_number t u (omega (arith, e)))
