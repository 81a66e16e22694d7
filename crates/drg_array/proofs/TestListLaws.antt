-- Lists of tests: which names a text has, and room for each test once.
use Rattle.std.proofs.Common.{◌≡◌, ℕ, zero, suc, ◌+◌, ◌-◌, ◌≤◌, ◌<◌, Bool, true, false, inl, inr, List, [], ◌∷◌, ◌++◌, length, None, Some, refl, sym, ap, subst, ◌∙◌, arith, append_assoc, append-nil, length-append}
use Rattle.std.specs.Prelude.{Option, cond, ◌==◌, if◌then◌else◌, map, find, bytes_eq, codes, Contains, ◌||◌, IfNone}
use Rattle.std.specs.List.{slice_split, join_with_byte, before_first, after_first, position_or_len, AllByRecursion, IsDistinct, list_any, onto_first}
use Rattle.std.proofs.lemmas.List.{map-append, length-map}
use Rattle.std.proofs.lemmas.List.Elements.{Contains-append_right, Contains-push_cases}
use Rattle.std.proofs.lemmas.List.Splits.{slice_split-cons_no, slice_split_first, slice_split_none, join_with_byte-slice_split}
use Rattle.std.proofs.lemmas.List.Sums.{fails_before_first}
use Rattle.std.proofs.lemmas.Map.Keys.{IsDistinct-cons}
use Rattle.std.proofs.lemmas.Map.Steps.{length-le_from_distinct_below}
use Rattle.std.proofs.lemmas.Bool.Decides.{nat_tests}
use Rattle.std.proofs.lemmas.Slice.Eq.{bytes_eq-Decides}
use Rattle.std.proofs.lemmas.Option.{slice_get_within}
use Rattle.drg_array.specs.Claims.{test_name}
use Rattle.drg_array.specs.ClaimOrder.{test_number}
use Rattle.drg_array.specs.TestLists.{IsSelection, IsTestList, IsNext}
use Rattle.drg_array.specs.declared.test.Test.{Test}
use Rattle.drg_array.specs.declared.test.Test.TheVariants.{First, Degree, Order, Cross, Size, Intersect, Handshake, Induced, Triangles, Mult, Krein, Absolute, Triple, Ktriple}
use Rattle.drg_array.specs.declared.test.TheConstants.Test.{ALL}
use Rattle.drg_array.specs.declared.test_set.TheConstants.{BUILT}
use Rattle.drg_array.proofs.TestLaws.{is_named, place, one_name, one_place, found-named}

-- the place of the test in the list of all tests, from 0
abbrev place_of : Test → ℕ
place_of t = test_number t - 1

small : (t : Test) → place_of t < 14
small t = slice_get_within ALL (place_of t) t (place t)

-- ---- different tests are at most fourteen
apart : (t : Test) (ts : List Test) → ¬ Contains ts t → AllByRecursion (λ n. (place_of t == n) ≡ false) (map place_of ts)
apart t [] h = tt
apart t (u ∷ us) h =
    let differs : ¬ (place_of t ≡ place_of u) = λ e. h (0, omega arith, sym (one_place t u e)) in
    let test : (place_of t == place_of u) ≡ false = grind (arith, nat_tests, differs) in
    (test, apart t us (λ k. h (Contains-append_right (u ∷ []) us t k)))

distinct : (ts : List Test) → IsSelection ts → IsDistinct ◌==◌ (map place_of ts)
unfolding IsDistinct
distinct [] h = tt
distinct (t ∷ ts) h = IsDistinct-cons ◌==◌ (place_of t) (map place_of ts) (apart t ts h.1) (distinct ts h.2)

below-step : (q : ℕ) (t : Test) (rest : Bool) → (rest ≡ true → q < 14) → (b : Bool) → (q == place_of t) ≡ b → (b || rest) ≡ true → q < 14
below-step q t rest step true e h = let same : q ≡ place_of t = grind (arith, nat_tests) in omega (arith, same, small t)
below-step q t rest step false e h = step h

below : (q : ℕ) (ts : List Test) → list_any (λ n. q == n) (map place_of ts) ≡ true → q < 14
below q [] h = (cc)
below q (t ∷ ts) h = below-step q t (list_any (λ n. q == n) (map place_of ts)) (below q ts) (q == place_of t) refl h

pub room : (ts : List Test) → IsSelection ts → length ts ≤ 14
room ts h =
    let short : length (map place_of ts) ≤ 14 = length-le_from_distinct_below (map place_of ts) 14 (distinct ts h) (λ q k. below q ts k) in
    simp length-map at short

-- ---- one test more
not-in-front : (t u : Test) (ts : List Test) → ¬ Contains (u ∷ ts) t → ¬ Contains ts t
not-in-front t u ts h k = h (Contains-append_right (u ∷ []) ts t k)

not-first : (t u : Test) (ts : List Test) → ¬ Contains (u ∷ ts) t → u ≡ t → ⊥
not-first t u ts h e = h (0, omega arith, e)

pub selection-push : (old : List Test) (t : Test) → IsSelection old → Contains BUILT t → ¬ Contains old t → IsSelection (old ++ t ∷ [])
selection-push [] t h built fresh = (built, (λ k. omega (arith, k.1)), tt)
selection-push (u ∷ us) t h built fresh = (
  h.0,
  (λ k. elim (Contains-push_cases us t u k) [ inl among ↦ h.1 among | inr same ↦ not-first t u us fresh (sym same) ]),
  selection-push us t h.2 built (not-in-front t u us fresh),
)

pub room-for : (old : List Test) (t : Test) → IsSelection old → Contains BUILT t → ¬ Contains old t → length old < 14
room-for old t h built fresh =
    let all = room (old ++ t ∷ []) (selection-push old t h built fresh) in
    let more : length (old ++ t ∷ []) ≡ length old + 1 = simp length-append in
    omega (arith, all, more)

-- the same name again
pub twice : (old tests : List Test) (t : Test) (name : List ℕ) → test_name t ≡ name → Contains old t → IsNext old name tests → ⊥
twice old tests t name e among (u, is, named_so, built, fresh) = fresh (subst (Contains old) (one_name t u (e ∙ sym named_so)) among)

pub built-found : (name : List ℕ) (t : Test) → find (is_named name) BUILT ≡ Some t → (test_name t ≡ name) × Contains BUILT t
built-found name t e = found-named BUILT name t e

pub next : (old new : List Test) (t : Test) (name : List ℕ) → new ≡ old ++ t ∷ [] → find (is_named name) BUILT ≡ Some t → ¬ Contains old t
    → IsNext old name new
next old new t name e h fresh = let k = built-found name t h in (t, e, k.0, k.1, fresh)

-- ---- the names of a text
abbrev pub pieces : List ℕ → List (List ℕ)
pieces text = slice_split (λ b. b == 44) text

abbrev plain : List ℕ → Bool
plain [] = true
plain (c ∷ cs) = if c == 44 then false else plain cs

plain-name : (t : Test) → plain (test_name t) ≡ true
plain-name First = refl
plain-name Degree = refl
plain-name Order = refl
plain-name Cross = refl
plain-name Size = refl
plain-name Intersect = refl
plain-name Handshake = refl
plain-name Induced = refl
plain-name Triangles = refl
plain-name Mult = refl
plain-name Krein = refl
plain-name Absolute = refl
plain-name Triple = refl
plain-name Ktriple = refl

plain-head : (b : Bool) (rest : Bool) → cond b false rest ≡ true → (b ≡ false) × (rest ≡ true)
plain-head true rest e = (cc)
plain-head false rest e = (refl, e)

split-plain : (xs : List ℕ) → plain xs ≡ true → pieces xs ≡ xs ∷ []
split-plain [] h = refl
split-plain (c ∷ cs) h =
    let k = plain-head (c == 44) (plain cs) h in
    slice_split-cons_no (λ b. b == 44) c cs k.0 ∙ ap (onto_first c) (split-plain cs k.1)

split-at : (xs ys : List ℕ) → plain xs ≡ true → pieces (xs ++ 44 ∷ ys) ≡ xs ∷ pieces ys
split-at [] ys h = refl
split-at (c ∷ cs) ys h =
    let k = plain-head (c == 44) (plain cs) h in
    slice_split-cons_no (λ b. b == 44) c (cs ++ 44 ∷ ys) k.0 ∙ ap (onto_first c) (split-at cs ys k.1)

pub pieces-names : (t : Test) (ts : List Test) → pieces (join_with_byte 44 (map test_name (t ∷ ts))) ≡ map test_name (t ∷ ts)
pieces-names t [] = split-plain (test_name t) (plain-name t)
pieces-names t (u ∷ us) =
    split-at (test_name t) (join_with_byte 44 (map test_name (u ∷ us))) (plain-name t) ∙ ap (λ l. test_name t ∷ l) (pieces-names u us)

-- where these tests were read, and this name follows, a list of tests has a next test of this name
next-name : (done tests : List Test) (name : List ℕ) (more : List (List ℕ)) → map test_name tests ≡ map test_name done ++ name ∷ more → IsSelection tests
    → (t : Test) × Contains tests t × (test_name t ≡ name) × Contains BUILT t × (¬ Contains done t)
next-name [] [] name more e h = (cc)
next-name [] (t ∷ ts) name more e h =
    let same : test_name t ≡ name = cc in (t, (0, omega arith, refl), same, h.0, λ k. omega (arith, k.1))
next-name (d ∷ ds) [] name more e h = (cc)
next-name (d ∷ ds) (u ∷ us) name more e h =
    let same : u ≡ d = one_name u d (let k : test_name u ≡ test_name d = cc in k) in
    let rest : map test_name us ≡ map test_name ds ++ name ∷ more = cc in
    let (t, among, is, built, fresh) = next-name ds us name more rest h.2 in
    (t, Contains-append_right (u ∷ []) us t among, is, built, λ k. in-front t d ds (λ f. h.1 (subst (Contains us) (sym (same ∙ f)) among)) fresh k)
  where
    in-front : (t d : Test) (ds : List Test) → (d ≡ t → ⊥) → ¬ Contains ds t → ¬ Contains (d ∷ ds) t
    in-front t d ds differs fresh (zero, less, e) = differs e
    in-front t d ds differs fresh (suc k, less, e) = fresh (k, omega (arith, less), e)

pub refused : (done tests : List Test) (text name : List ℕ) (more : List (List ℕ)) → map test_name done ++ name ∷ more ≡ pieces text → ¬ (text ≡ codes "none")
    → ((new : List Test) → IsNext done name new → ⊥) → IsTestList text tests → ⊥
refused done [] text name more e other none h = other h
refused done (t ∷ ts) text name more e other none (is, selection) =
    let names : map test_name (t ∷ ts) ≡ map test_name done ++ name ∷ more = sym (pieces-names t ts) ∙ (ap pieces (sym is) ∙ sym e) in
    let (u, among, named_so, built, fresh) = next-name done (t ∷ ts) name more names selection in
    none (done ++ u ∷ []) (u, refl, named_so, built, fresh)

-- the names read so far, with one more
pub names-push : (old new : List Test) (name : List ℕ) (rest : List (List ℕ)) → IsNext old name new → map test_name new ++ rest ≡ map test_name old ++ name ∷ rest
names-push old new name rest (t, is, named_so, built, fresh) =
    rw is (rw (map-append test_name old (t ∷ [])) (rw named_so (append_assoc (map test_name old) (name ∷ []) rest)))

pub next-selection : (old new : List Test) (name : List ℕ) → IsSelection old → IsNext old name new → IsSelection new
next-selection old new name h (t, is, named_so, built, fresh) = subst IsSelection (sym is) (selection-push old t h built fresh)

pub first-piece : (text : List ℕ) → position_or_len (λ b. b == 44) text < length text
    → pieces text ≡ before_first (λ b. b == 44) text ∷ pieces (after_first (λ b. b == 44) text)
first-piece text h = slice_split_first (λ b. b == 44) text 0 h

-- the last name was read
pub accepted : (old new : List Test) (text name : List ℕ) → map test_name old ++ name ∷ [] ≡ pieces text → IsSelection old → IsNext old name new → IsTestList text new
accepted old [] text name e h (t, is, named_so, built, fresh) = absurd (omega (arith, ap length is, length-append old (t ∷ [])))
accepted old (n ∷ ns) text name e h next = (
  sym (join_with_byte-slice_split 44 text)
      ∙ ap (join_with_byte 44) (sym e ∙ (sym (names-push old (n ∷ ns) name [] next) ∙ append-nil (map test_name (n ∷ ns)))),
  next-selection old (n ∷ ns) name h next,
)

-- without a comma the text is one name
pub last-piece : (text : List ℕ) → position_or_len (λ b. b == 44) text ≡ length text → pieces text ≡ text ∷ []
last-piece text h = slice_split_none (λ b. b == 44) text (λ k d less. fails_before_first (λ b. b == 44) text k d (omega (arith, less, h)))

pub isnt-none : (text : List ℕ) (b : Bool) → b ≡ bytes_eq text (codes "none") → b ≡ false → ¬ (text ≡ codes "none")
isnt-none text b is bad e = let good = (bytes_eq-Decides text (codes "none")).1 e in cc

pub any-none : {A : Type 0} (o : Option A) {P : Type 0} → P → IfNone o P
any-none None p = p
any-none (Some x) p = tt
