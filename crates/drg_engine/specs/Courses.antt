-- What is noted of the tests while they run.
use Rattle.std.specs.Prelude.{◌≡◌, ℕ, ◌≤◌, List, []}
use Rattle.drg_array.specs.ClaimOrder.{ComesBefore, test_number}
use Rattle.drg_array.specs.Claims.{test_of}
use Rattle.drg_array.specs.Entries.{Entries}
use Rattle.drg_array.specs.declared.claim.Claim.{Claim}
use Rattle.drg_array.specs.declared.test.Test.{Test}
use Rattle.drg_engine.specs.Conditions.{Fails}
use Rattle.drg_engine.specs.Selections.{AreTests, Runs}
use Rattle.drg_engine.specs.declared.course.Course.{Course}

-- the test runs, and is one of the first n
abbrev pub RunsWithin : List Test → ℕ → Test → Type 0
RunsWithin tests n t = Runs tests t × (test_number t ≤ n)

-- the tests that run are noted as far as they are decided, each as one that holds
pub record IsCourse (tests : List Test) (course : Course) : Type 0 where
  pub passed : AreTests (RunsWithin tests course.decided) course.passed
  pub none_pending : course.pending ≡ []

-- The array fails the claim, and no claim of a test that runs that comes before it.
pub record ComesFirst (a : Entries) (tests : List Test) (claim : Claim) : Type 0 where
  pub runs : Runs tests (test_of claim)
  pub fails : Fails a claim
  pub first : (earlier : Claim) → ComesBefore earlier claim → Runs tests (test_of earlier)
      → Fails a earlier → ⊥

-- no claim of the tests that run and are among the first n fails
abbrev pub NoneFailsWithin : Entries → List Test → ℕ → Type 0
NoneFailsWithin a tests n =
    (claim : Claim) → RunsWithin tests n (test_of claim) → Fails a claim → ⊥
