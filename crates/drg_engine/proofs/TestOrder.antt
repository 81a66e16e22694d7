-- The tests in their order: a list of them grows by a later test.
use Rattle.std.proofs.Common.{◌≡◌, ℕ, zero, suc, ◌+◌, ◌-◌, ◌<◌, ◌≤◌, List, [], ◌∷◌, ◌++◌, length, get_or, take, drop, refl, sym, ap, subst, ◌∙◌, arith, inl, inr}
use Rattle.std.specs.Prelude.{◌⊎◌, ⊤, Contains}
use Rattle.std.proofs.lemmas.List.{get_or-take, get_or-drop, length-take, length-drop}
use Rattle.std.proofs.lemmas.List.Elements.{Contains-append_left, Contains-append_right, Contains-push, Contains-push_cases}
use Rattle.drg_array.specs.ClaimOrder.{test_number}
use Rattle.drg_array.specs.TestLists.{IsAlwaysRun}
use Rattle.drg_array.specs.declared.test.Test.{Test}
use Rattle.drg_array.specs.declared.test.Test.TheVariants.{First, Degree, Order, Cross, Size, Intersect, Handshake, Induced, Triangles, Mult, Krein, Absolute, Triple, Ktriple}
use Rattle.drg_array.specs.declared.test.TheConstants.Test.{ALL}
use Rattle.drg_array.proofs.TestLaws.{one_number}
use Rattle.drg_engine.specs.Conditions.{IsBuilt}
use Rattle.drg_engine.specs.Courses.{RunsWithin}
use Rattle.drg_engine.specs.Selections.{Runs, RunsBefore, IsEarlier, IsAscending, AreTests}
use Rattle.drg_engine.proofs.BuiltTests.{always_or_not, built_number, built_or_not, either}

-- ---- the numbers of the tests, from 1
pub from_one : (t : Test) → 1 ≤ test_number t
from_one First = omega arith
from_one Degree = omega arith
from_one Order = omega arith
from_one Cross = omega arith
from_one Size = omega arith
from_one Intersect = omega arith
from_one Handshake = omega arith
from_one Induced = omega arith
from_one Triangles = omega arith
from_one Mult = omega arith
from_one Krein = omega arith
from_one Absolute = omega arith
from_one Triple = omega arith
from_one Ktriple = omega arith

abbrev AreNumbered : ℕ → List Test → Type 0
AreNumbered n [] = ⊤
AreNumbered n (t ∷ ts) = (test_number t ≡ suc n) × AreNumbered (suc n) ts

numbered_at : (n : ℕ) (ts : List Test) (i : ℕ) → i < length ts → AreNumbered n ts → test_number (get_or ts i First) ≡ suc (n + i)
numbered_at n [] i h are = absurd (omega arith)
numbered_at n (t ∷ ts) zero h are = omega (arith, are.0)
numbered_at n (t ∷ ts) (suc i) h are = let next = numbered_at (suc n) ts i (omega arith) are.1 in omega (arith, next)

all_numbered : AreNumbered 0 ALL
all_numbered = (refl, (refl, (refl, (refl, (refl, (refl, (refl, (refl, (refl, (refl, (refl, (refl, (refl, (refl, tt))))))))))))))

pub length_between : (m n : ℕ) → n ≤ 14 → length (take (n - m) (drop m ALL)) ≡ n - m
length_between m n inside = simp (length-take, length-drop) (omega arith)

-- the test at a place between m and n of all tests
pub number_at : (m n i : ℕ) → n ≤ 14 → m + i < n → test_number (get_or (take (n - m) (drop m ALL)) i First) ≡ suc (m + i)
number_at m n i inside below =
    let low : i < n - m = omega arith in
    let at = numbered_at 0 ALL (m + i) (omega (arith, inside, below)) all_numbered in
    let same = get_or-take (n - m) (drop m ALL) i First low ∙ get_or-drop m ALL i First in
    ap test_number same ∙ omega (arith, at)

pub to_fourteen : (t : Test) → test_number t ≤ 14
to_fourteen First = omega arith
to_fourteen Degree = omega arith
to_fourteen Order = omega arith
to_fourteen Cross = omega arith
to_fourteen Size = omega arith
to_fourteen Intersect = omega arith
to_fourteen Handshake = omega arith
to_fourteen Induced = omega arith
to_fourteen Triangles = omega arith
to_fourteen Mult = omega arith
to_fourteen Krein = omega arith
to_fourteen Absolute = omega arith
to_fourteen Triple = omega arith
to_fourteen Ktriple = omega arith

-- ---- lists in order
ascending_push : (ts : List Test) (u : Test) → ((t : Test) → Contains ts t → IsEarlier t u) → IsAscending ts → IsAscending (ts ++ u ∷ [])
ascending_push [] u below order = ((λ v h. absurd (omega (arith, h.1))), tt)
ascending_push (t ∷ ts) u below (first, order) = (
  (λ v h. elim (Contains-push_cases ts u v h) [ inl old ↦ first v old | inr e ↦ subst (λ w. IsEarlier t w) e (below t (0, omega arith, refl)) ]),
  ascending_push ts u (λ v h. below v (Contains-append_right (t ∷ []) ts v h)) order,
)

module _ (tests : List Test) where
  pub none_yet : AreTests (RunsWithin tests 0) []
  none_yet = record {
    order = tt;
    members = λ t. ((λ h. absurd (omega (arith, h.1))), (λ h. absurd (omega (arith, h.1, from_one t))));
  }

  module _ (n : ℕ) (ts : List Test) (u : Test) (are : AreTests (RunsWithin tests n) ts) (next : test_number u ≡ suc n) where
    pub taken : Runs tests u → AreTests (RunsWithin tests (suc n)) (ts ++ u ∷ [])
    taken runs = record {
      order = ascending_push ts u (λ t h. let at = (are.members t).0 h in omega (arith, at.1, next)) are.order;
      members = λ t. (into t, back t);
    } where
      into : (t : Test) → Contains (ts ++ u ∷ []) t → RunsWithin tests (suc n) t
      into t h =
          elim (Contains-push_cases ts u t h) [
            | inl old ↦ (let at = (are.members t).0 old in (at.0, omega (arith, at.1)))
            | inr e ↦ subst (RunsWithin tests (suc n)) e (runs, omega (arith, next))
          ]

      back : (t : Test) → RunsWithin tests (suc n) t → Contains (ts ++ u ∷ []) t
      back t (r, top) = place t r (cases t top) where
        cases : (v : Test) → test_number v ≤ suc n → (test_number v ≤ n) ⊎ (test_number v ≡ test_number u)
        cases v h = grind (arith, next, h)

        place : (v : Test) → Runs tests v → (test_number v ≤ n) ⊎ (test_number v ≡ test_number u) → Contains (ts ++ u ∷ []) v
        place v s (inl low) = Contains-append_left ts (u ∷ []) v ((are.members v).1 (s, low))
        place v s (inr same) = subst (λ w. Contains (ts ++ u ∷ []) w) (sym (one_number v u same)) (Contains-push ts u)

    pub left_out : ¬ Runs tests u → AreTests (RunsWithin tests (suc n)) ts
    left_out never = record {
      order = are.order;
      members = λ t. ((λ h. let at = (are.members t).0 h in (at.0, omega (arith, at.1))), (λ h. (are.members t).1 (h.0, low t h.0 h.1)));
    } where
      low : (t : Test) → Runs tests t → test_number t ≤ suc n → test_number t ≤ n
      low t runs top =
          let other : test_number t ≡ test_number u → ⊥ = λ e. never (subst (Runs tests) (one_number t u e) runs) in
          grind (arith, next, top, other)

  -- each test that runs is one of the first ten
  pub all_within : (ts : List Test) → AreTests (RunsWithin tests 10) ts → AreTests (Runs tests) ts
  all_within ts are = record {
    order = are.order;
    members = λ t. ((λ h. ((are.members t).0 h).0), (λ runs. (are.members t).1 (runs, built_number t runs.0)));
  }

  -- and one of the first nine where mult doesn't run
  pub all_but_mult : (ts : List Test) → ¬ Runs tests Mult → AreTests (RunsWithin tests 9) ts → AreTests (Runs tests) ts
  all_but_mult ts never are = all_within ts (left_out 9 ts Mult are refl never)

  pub all_with_mult : (ts : List Test) → Runs tests Mult → AreTests (RunsWithin tests 9) ts → AreTests (Runs tests) (ts ++ Mult ∷ [])
  all_with_mult ts runs are = all_within (ts ++ Mult ∷ []) (taken 9 ts Mult are refl runs)

  pub all_before : (n : ℕ) (ts : List Test) (last : Test) → test_number last ≡ suc n → AreTests (RunsWithin tests n) ts → AreTests (RunsBefore tests last) ts
  all_before n ts last next are = record {
    order = are.order;
    members = λ t. ((λ h. let at = (are.members t).0 h in (at.0, omega (arith, at.1, next))), (λ h. (are.members t).1 (h.0, omega (arith, h.1, next))));
  }

  -- ---- which tests run can be told
  contains_or_not : (ts : List Test) (t : Test) → Contains ts t ⊎ (¬ Contains ts t)
  contains_or_not [] t = inr (λ h. omega (arith, h.1))
  contains_or_not (u ∷ us) t =
      elim (contains_or_not us t) [
        | inl there ↦ inl (Contains-append_right (u ∷ []) us t there)
        | inr never ↦ elim (same_number (test_number u) (test_number t)) [
          | inl e ↦ inl (0, omega arith, one_number u t e)
          | inr other ↦ inr (λ h. elim (either t u us h) [ inl e ↦ other (ap test_number e) | inr more ↦ never more ])
        ]
      ]
    where
      same_number : (m n : ℕ) → (m ≡ n) ⊎ (¬ (m ≡ n))
      same_number zero zero = inl refl
      same_number zero (suc n) = inr (λ e. omega (arith, e))
      same_number (suc m) zero = inr (λ e. omega (arith, e))
      same_number (suc m) (suc n) = elim (same_number m n) [ inl e ↦ inl (ap suc e) | inr other ↦ inr (λ e. other (omega (arith, e))) ]

  runs_or_not : (t : Test) → Runs tests t ⊎ (¬ Runs tests t)
  runs_or_not t = go (built_or_not t) (always_or_not t) (contains_or_not tests t) where
    go : IsBuilt t ⊎ (¬ IsBuilt t) → IsAlwaysRun t ⊎ (¬ IsAlwaysRun t) → Contains tests t ⊎ (¬ Contains tests t) → Runs tests t ⊎ (¬ Runs tests t)
    go (inr never) always there = inr (λ runs. never runs.0)
    go (inl built) (inl always) there = inl (built, inl always)
    go (inl built) (inr never) (inl there) = inl (built, inr there)
    go (inl built) (inr never) (inr nowhere) = inr (λ runs. elim runs.1 [ inl always ↦ never always | inr there ↦ nowhere there ])

  place : (n : ℕ) → suc n ≤ 14 → test_number (get_or (take (14 - 0) (drop 0 ALL)) n First) ≡ suc n
  place n inside = let at = number_at 0 14 n (omega arith) (omega (arith, inside)) in omega (arith, at)

  pub tests_within : (n : ℕ) → n ≤ 14 → (ts : List Test) × AreTests (RunsWithin tests n) ts
  tests_within zero inside = ([], none_yet)
  tests_within (suc n) inside =
      let (ts, are) = tests_within n (omega (arith, inside)) in
      let u = get_or (take (14 - 0) (drop 0 ALL)) n First in
      let number = place n inside in
      elim (runs_or_not u) [
        | inl runs ↦ (ts ++ u ∷ [], taken n ts u are number runs)
        | inr never ↦ (ts, left_out n ts u are number never)
      ]

  -- the tests that run before this one
  pub tests_before : (last : Test) → (ts : List Test) × AreTests (RunsBefore tests last) ts
  tests_before last =
      let first = from_one last in
      let top = to_fourteen last in
      let n = test_number last - 1 in
      let (ts, are) = tests_within n (omega (arith, top)) in
      (ts, all_before n ts last (omega (arith, first)) are)
