-- Which claims an array doesn't fail, where no claim on its entries fails and some of its numbers pass.
use Rattle.std.proofs.Common.{◌≡◌, ℕ, ◌<◌, ◌≤◌, List, [], ◌∷◌, ap, sym, subst, arith, inl, inr}
use Rattle.std.specs.Prelude.{◌⊎◌}
use Rattle.drg_array.specs.Entries.{Entries}
use Rattle.drg_array.proofs.TestLaws.{one_number}
use Rattle.drg_array.specs.Claims.{test_of}
use Rattle.drg_array.specs.Conditions.{CountsFail, CountsHold}
use Rattle.drg_array.specs.declared.claim.Claim.{Claim}
use Rattle.drg_array.specs.declared.claim.Claim.TheVariants.{First, Degree, Order, Cross, Size, Intersect, Handshake, Induced, Triangles}
use Rattle.drg_array.specs.declared.node.Node.{Node}
use Rattle.drg_array.specs.declared.node.Node.TheVariants.{K, N, P}
use Rattle.drg_array.specs.declared.test.Test.{Test}
use Rattle.drg_array.specs.declared.test.Test.TheVariants as test
use Rattle.drg_array.specs.ClaimOrder.{IsBefore, ComesBefore, test_number}
use Rattle.drg_counting.specs.EntryTests.{IsBasic}
use Rattle.drg_counting.specs.Parity.{IsSelectedParity}
use Rattle.drg_counting.proofs.ClaimLaws.{later_test, within, one_index, two_indices}
use Rattle.drg_intersection.specs.Faults.{AllPass, IsNumbersFault, IsFirstWide, IsReached, Passes, IsBefore as IsNodeBefore}
use Rattle.drg_intersection.specs.declared.fault.NumbersFault.TheVariants.{Fall}
use Rattle.drg_engine.specs.Conditions.{Fails, IsBuilt}
use Rattle.drg_engine.specs.Laws.{UnfailedTestsHold}
use Rattle.drg_engine.specs.Selections.{IsEarlier, Runs}
use Rattle.drg_engine.specs.Courses.{ComesFirst, NoneFailsWithin, RunsWithin}
use Rattle.drg_engine.specs.Verdicts.{IsNodeOf}
use Rattle.drg_engine.proofs.BuiltTests.{array_test, counts_fail, fails_by_counts, is_built}

pub node_test_built : (last : Test) (node : Node) → IsNodeOf last node → IsBuilt last
node_test_built test.Size node part = tt
node_test_built test.Intersect node part = tt
node_test_built last node part = absurd part

-- and one of the first six
pub part_early : (last : Test) (node : Node) → IsNodeOf last node → test_number last ≤ 6
part_early test.Size node part = omega arith
part_early test.Intersect node part = omega arith
part_early last node part = absurd part

passes_size : (a : Entries) (i : ℕ) → Passes a (K i) → Fails a (Size i) → ⊥
passes_size a i passes fails = fails.1 passes.right

passes_number : (a : Entries) (h i j : ℕ) → Passes a (P h i j) → Fails a (Intersect h i j) → ⊥
passes_number a h i j passes (low, middle, high, x, is, fails) = fails (passes.right x is)

three_indices : (h i j k l m : ℕ) → IsBefore (h ∷ i ∷ j ∷ []) (k ∷ l ∷ m ∷ []) → IsNodeBefore (P h i j) (P k l m)
three_indices h i j k l m (inl less) = inl less
three_indices h i j k l m (inr same) = inr (same.0, two_indices i j l m same.1)

pub basic_runs : (tests : List Test) (claim : Claim) → IsBasic claim → Runs tests (test_of claim)
basic_runs tests First basic = (tt, inl (omega arith))
basic_runs tests (Degree i) basic = (tt, inl (omega arith))
basic_runs tests (Order i) basic = (tt, inl (omega arith))
basic_runs tests (Cross i j) basic = (tt, inl (omega arith))
basic_runs tests claim basic = absurd (omega (arith, basic))

-- of two claims, the earlier one is of no later test
pub no_later : (earlier claim : Claim) → ComesBefore earlier claim → test_number (test_of earlier) ≤ test_number (test_of claim)
no_later earlier claim (inl less) = omega (arith, less)
no_later earlier claim (inr same) = omega (arith, same.0)

pub none_basic : (a : Entries) → ((claim : Claim) → IsBasic claim → CountsFail a claim → ⊥) → (claim : Claim) → IsBasic claim → Fails a claim → ⊥
none_basic a none claim basic fails = none claim basic (counts_fail a claim (array_test (test_of claim) (omega (arith, basic))) fails)

pub basic_first : (a : Entries) (tests : List Test) (claim : Claim) → IsBasic claim → CountsFail a claim
    → ((earlier : Claim) → ComesBefore earlier claim → CountsFail a earlier → ⊥) → ComesFirst a tests claim
basic_first a tests claim basic fails first = record {
  runs = basic_runs tests claim basic;
  fails = fails_by_counts a claim fails;
  first = λ earlier before runs failed. first earlier before
      (counts_fail a earlier (array_test (test_of earlier) (let late = no_later earlier claim before in omega (arith, late, basic))) failed);
}

module _ (a : Entries) (no_basic : (claim : Claim) → IsBasic claim → Fails a claim → ⊥) where
  before_size : (i : ℕ) → IsReached a (K i) → (earlier : Claim) → ComesBefore earlier (Size i) → Fails a earlier → ⊥
  before_size i reached First before fails = no_basic First (omega arith) fails
  before_size i reached (Degree l) before fails = no_basic (Degree l) (omega arith) fails
  before_size i reached (Order l) before fails = no_basic (Order l) (omega arith) fails
  before_size i reached (Cross l m) before fails = no_basic (Cross l m) (omega arith) fails
  before_size i reached (Size l) before fails = passes_size a l (reached (K l) fails.0.1 (one_index l i (within 5 (l ∷ []) (i ∷ []) before))) fails
  before_size i reached claim before fails = later_test claim (Size i) (omega arith) before

  before_number : (h i j : ℕ) → IsReached a (P h i j) → (earlier : Claim) → ComesBefore earlier (Intersect h i j) → Fails a earlier → ⊥
  before_number h i j reached First before fails = no_basic First (omega arith) fails
  before_number h i j reached (Degree l) before fails = no_basic (Degree l) (omega arith) fails
  before_number h i j reached (Order l) before fails = no_basic (Order l) (omega arith) fails
  before_number h i j reached (Cross l m) before fails = no_basic (Cross l m) (omega arith) fails
  before_number h i j reached (Size l) before fails = passes_size a l (reached (K l) fails.0.1 tt) fails
  before_number h i j reached (Intersect k l m) before fails =
      passes_number a k l m (reached (P k l m) (fails.0, fails.1, fails.2) (three_indices k l m h i j (within 6 (k ∷ l ∷ m ∷ []) (h ∷ i ∷ j ∷ []) before))) fails
  before_number h i j reached claim before fails = later_test claim (Intersect h i j) (omega arith) before

  size_first : (tests : List Test) (i : ℕ) → IsReached a (K i) → Fails a (Size i) → ComesFirst a tests (Size i)
  size_first tests i reached fails = record { runs = (tt, inl (omega arith)); fails = fails; first = λ earlier before runs. before_size i reached earlier before }

  number_first : (tests : List Test) (h i j : ℕ) → IsReached a (P h i j) → Fails a (Intersect h i j) → ComesFirst a tests (Intersect h i j)
  number_first tests h i j reached fails = record { runs = (tt, inl (omega arith)); fails = fails; first = λ earlier before runs. before_number h i j reached earlier before }

  pub fall_first : (tests : List Test) (claim : Claim) → IsNumbersFault a (Fall claim) → ComesFirst a tests claim
  fall_first tests (Size i) fault = size_first tests i fault.reached fault.failed
  fall_first tests (Intersect h i j) fault = number_first tests h i j fault.reached fault.failed
  fall_first tests claim fault = absurd fault

  -- a number that is too wide
  before_entry : (h i j : ℕ) → IsReached a (P h i j) → (claim : Claim) → test_number (test_of claim) < 6 → Fails a claim → ⊥
  before_entry h i j reached First small fails = no_basic First (omega arith) fails
  before_entry h i j reached (Degree l) small fails = no_basic (Degree l) (omega arith) fails
  before_entry h i j reached (Order l) small fails = no_basic (Order l) (omega arith) fails
  before_entry h i j reached (Cross l m) small fails = no_basic (Cross l m) (omega arith) fails
  before_entry h i j reached (Size l) small fails = passes_size a l (reached (K l) fails.0.1 tt) fails
  before_entry h i j reached claim small fails = absurd (omega (arith, small))

  pub before_wide : (last : Test) (node : Node) → IsNodeOf last node → IsFirstWide a node → (claim : Claim) → IsEarlier (test_of claim) last → Fails a claim → ⊥
  before_wide test.Size (K i) part wide claim earlier fails = no_basic claim (omega (arith, earlier)) fails
  before_wide test.Size N part wide claim earlier fails = no_basic claim (omega (arith, earlier)) fails
  before_wide test.Intersect (P h i j) part wide claim earlier fails = before_entry h i j wide.reached claim earlier fails
  before_wide last node part wide claim earlier fails = absurd part

  -- all numbers pass
  module _ (pass : AllPass a) where
    none_by_numbers : (claim : Claim) → test_number (test_of claim) ≤ 6 → Fails a claim → ⊥
    none_by_numbers First small fails = no_basic First (omega arith) fails
    none_by_numbers (Degree l) small fails = no_basic (Degree l) (omega arith) fails
    none_by_numbers (Order l) small fails = no_basic (Order l) (omega arith) fails
    none_by_numbers (Cross l m) small fails = no_basic (Cross l m) (omega arith) fails
    none_by_numbers (Size l) small fails = passes_size a l (pass (K l) fails.0.1) fails
    none_by_numbers (Intersect k l m) small fails = passes_number a k l m (pass (P k l m) (fails.0, fails.1, fails.2)) fails
    none_by_numbers claim small fails = absurd (omega (arith, small))

    module _ (tests : List Test) where
      -- a failing claim of a test on counts that runs is one of the selected tests of parity
      parity_of : (claim : Claim) → test_number (test_of claim) ≤ 9 → Runs tests (test_of claim) → Fails a claim → IsSelectedParity tests claim
      parity_of (Handshake i) small (built, inr selected) fails = (omega arith, omega arith, selected)
      parity_of (Induced i j) small (built, inr selected) fails = (omega arith, omega arith, selected)
      parity_of (Triangles i) small (built, inr selected) fails = (omega arith, omega arith, selected)
      parity_of (Handshake i) small (built, inl always) fails = absurd (omega (arith, always))
      parity_of (Induced i j) small (built, inl always) fails = absurd (omega (arith, always))
      parity_of (Triangles i) small (built, inl always) fails = absurd (omega (arith, always))
      parity_of First small runs fails = absurd (none_by_numbers First (omega arith) fails)
      parity_of (Degree l) small runs fails = absurd (none_by_numbers (Degree l) (omega arith) fails)
      parity_of (Order l) small runs fails = absurd (none_by_numbers (Order l) (omega arith) fails)
      parity_of (Cross l m) small runs fails = absurd (none_by_numbers (Cross l m) (omega arith) fails)
      parity_of (Size l) small runs fails = absurd (none_by_numbers (Size l) (omega arith) fails)
      parity_of (Intersect k l m) small runs fails = absurd (none_by_numbers (Intersect k l m) (omega arith) fails)
      parity_of claim small runs fails = absurd (omega (arith, small))

      pub parity_first : (claim : Claim) → IsSelectedParity tests claim → CountsFail a claim
          → ((earlier : Claim) → IsSelectedParity tests earlier → ComesBefore earlier claim → CountsFail a earlier → ⊥) → ComesFirst a tests claim
      parity_first claim selected fails first = record {
        runs = (is_built (test_of claim) (omega (arith, selected.1)), inr selected.2);
        fails = fails_by_counts a claim fails;
        first = λ earlier before runs failed.
            let late = no_later earlier claim before in
            let small : test_number (test_of earlier) ≤ 9 = omega (arith, late, selected.1) in
            first earlier (parity_of earlier small runs failed) before (counts_fail a earlier (array_test (test_of earlier) small) failed);
      }

      pub none_within : ((claim : Claim) → IsSelectedParity tests claim → CountsFail a claim → ⊥) → NoneFailsWithin a tests 9
      none_within no_parity claim (runs, small) fails =
          no_parity claim (parity_of claim small runs fails) (counts_fail a claim (array_test (test_of claim) small) fails)

-- the first claim of mult, where no claim on counts fails
pub mult_first : (a : Entries) (tests : List Test) (claim : Claim) → NoneFailsWithin a tests 9 → Runs tests test.Mult → test_of claim ≡ test.Mult → Fails a claim
    → ((earlier : Claim) → test_of earlier ≡ test.Mult → ComesBefore earlier claim → Fails a earlier → ⊥) → ComesFirst a tests claim
mult_first a tests claim none runs is fails first = record {
  runs = subst (Runs tests) (sym is) runs;
  fails = fails;
  first = λ earlier before also failed.
      let late = no_later earlier claim before in
      let ten : test_number (test_of claim) ≡ 10 = ap test_number is in
      elim (nine_or_ten (test_number (test_of earlier)) (omega (arith, late, ten))) [
        | inl small ↦ none earlier (also, small) failed
        | inr same ↦ first earlier (one_number (test_of earlier) test.Mult same) before failed
      ];
} where
  nine_or_ten : (n : ℕ) → n ≤ 10 → (n ≤ 9) ⊎ (n ≡ 10)
  nine_or_ten n h = grind (arith, h)

-- where a number of the array fails, the claim is of size or intersect
pub fall_small : (a : Entries) (claim : Claim) → IsNumbersFault a (Fall claim) → test_number (test_of claim) ≤ 9
fall_small a (Size i) fault = omega arith
fall_small a (Intersect h i j) fault = omega arith
fall_small a claim fault = absurd fault

-- the condition of the first test, where no claim on the entries fails
pub first_holds : UnfailedTestsHold → (a : Entries) → ((claim : Claim) → IsBasic claim → Fails a claim → ⊥) → CountsHold a test.First
first_holds law a none = law a test.First tt (λ asks. absurd asks) (λ claim same fails. let one = ap test_number same in none claim (omega (arith, one)) fails)
