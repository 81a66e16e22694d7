-- Where a number k, n or p is too wide, no verdict but that is right.
use Rattle.std.proofs.Common.{◌≡◌, List, refl, subst, arith, inl, inr}
use Rattle.std.specs.Prelude.{◌≤◌}
use Rattle.drg_array.specs.Entries.{Entries, IsArray}
use Rattle.drg_array.specs.ClaimOrder.{test_number}
use Rattle.drg_array.specs.Claims.{test_of}
use Rattle.drg_array.specs.declared.claim.Claim.{Claim}
use Rattle.drg_array.specs.declared.claim.Claim.TheVariants.{First, Degree, Order, Cross, Size, Intersect, Handshake, Induced, Triangles, Mult}
use Rattle.drg_array.specs.declared.node.Node.{Node}
use Rattle.drg_array.specs.declared.node.Node.TheVariants.{P}
use Rattle.drg_array.specs.declared.test.Test.{Test}
use Rattle.drg_array.specs.declared.test.Test.TheVariants as test
use Rattle.drg_counting.specs.EntryTests.{IsBasic}
use Rattle.drg_evidence.specs.Made.{AreMade}
use Rattle.drg_intersection.specs.Faults.{AllPass, IsFirstWide, IsNumbersFault}
use Rattle.drg_intersection.specs.Laws.{OneFault, NoFaultWhereAllPass}
use Rattle.drg_intersection.specs.declared.fault.NumbersFault.TheVariants as fault
use Rattle.drg_report.specs.declared.verdict.Verdict.{Verdict}
use Rattle.drg_report.specs.declared.verdict.Verdict.TheVariants as verdict
use Rattle.drg_engine.specs.Conditions.{Fails, IsBuilt}
use Rattle.drg_engine.specs.Laws.{IsOpenAt}
use Rattle.drg_engine.specs.Verdicts.{IsNodeOf, IsWideEntry, VerdictHolds}

-- a number is a part of one test
pub one_part : (t u : Test) (node : Node) → IsNodeOf t node → IsNodeOf u node → t ≡ u
one_part test.Size test.Size node part other = refl
one_part test.Intersect test.Intersect node part other = refl
one_part test.Size test.Intersect (P h i j) part other = absurd part
one_part test.Size test.Intersect node part other = absurd other
one_part test.Intersect test.Size (P h i j) part other = absurd other
one_part test.Intersect test.Size node part other = absurd part
one_part test.Size u node part other = absurd other
one_part test.Intersect u node part other = absurd other
one_part t u node part other = absurd part

module _ (one : OneFault) (none : NoFaultWhereAllPass) (a : Entries) (node : Node) (wide : IsFirstWide a node) where
  pub not_all_pass : AllPass a → ⊥
  not_all_pass pass = none a (fault.Wide node) (λ e. cc) pass wide

  pub one_wide : (other : Node) → IsFirstWide a other → other ≡ node
  one_wide other first = let same = one a (fault.Wide other) (fault.Wide node) (λ e. cc) (λ e. cc) first wide in cc

  -- no claim fails whose numbers are made
  pub no_claim : ((claim : Claim) → IsBasic claim → Fails a claim → ⊥) → (claim : Claim) → IsBuilt (test_of claim) → Fails a claim → AreMade a claim → ⊥
  no_claim basic First built fails made = basic First (omega arith) fails
  no_claim basic (Degree i) built fails made = basic (Degree i) (omega arith) fails
  no_claim basic (Order i) built fails made = basic (Order i) (omega arith) fails
  no_claim basic (Cross i j) built fails made = basic (Cross i j) (omega arith) fails
  no_claim basic (Size i) built fails made =
      let falls : IsNumbersFault a (fault.Fall (Size i)) = record { is_node = fails.0.1; reached = made.reached; fits = made.fits; failed = fails } in
      let same = one a (fault.Wide node) (fault.Fall (Size i)) (λ e. cc) (λ e. cc) wide falls in cc
  no_claim basic (Intersect h i j) built fails made =
      let falls : IsNumbersFault a (fault.Fall (Intersect h i j)) = record { is_node = (fails.0, fails.1, fails.2); reached = made.reached; fits = made.fits; failed = fails } in
      let same = one a (fault.Wide node) (fault.Fall (Intersect h i j)) (λ e. cc) (λ e. cc) wide falls in cc
  no_claim basic (Handshake i) built fails made = not_all_pass made
  no_claim basic (Induced i j) built fails made = not_all_pass made
  no_claim basic (Triangles i) built fails made = not_all_pass made
  no_claim basic (Mult i) built fails made = not_all_pass made.0
  no_claim basic claim built fails made = absurd built

  pub stays_open : (tests : List Test) (verdict : Verdict) → ((claim : Claim) → IsBasic claim → Fails a claim → ⊥) → VerdictHolds a tests verdict → IsOpenAt node verdict
  stays_open tests (verdict.Infeasible found) basic right = no_claim basic found.claim right.claimed.runs.0 right.claimed.fails right.made
  stays_open tests (verdict.Undecided found) basic (inl right) = (right.last, subst (λ n. IsWideEntry right.last n found.pending) (one_wide right.node right.wide) right.entry)
  stays_open tests (verdict.Undecided found) basic (inr right) = absurd (not_all_pass right.found_all.pass)
  stays_open tests (verdict.RefusedSpectrum found) basic right = not_all_pass right.found_all.pass
  stays_open tests (verdict.Survivor found) basic right = not_all_pass right.pass
