-- Which tests run, and lists of them in their order.
use Rattle.std.specs.Prelude.{◌↔◌, ◌⊎◌, ◌<◌, List, [], ◌∷◌, Contains}
use Rattle.drg_array.specs.ClaimOrder.{test_number}
use Rattle.drg_array.specs.TestLists.{IsAlwaysRun}
use Rattle.drg_array.specs.declared.test.Test.{Test}
use Rattle.drg_engine.specs.Conditions.{IsBuilt}

-- the test runs: it is built, and it is one of the first six or is selected
abbrev pub Runs : List Test → Test → Type 0
Runs tests t = IsBuilt t × (IsAlwaysRun t ⊎ Contains tests t)

abbrev pub IsEarlier : Test → Test → Type 0
IsEarlier earlier t = test_number earlier < test_number t

-- the test runs, and comes before this one
abbrev pub RunsBefore : List Test → Test → Test → Type 0
RunsBefore tests last t = Runs tests t × IsEarlier t last

-- in the order of the tests, none of them twice
abbrev pub IsAscending : List Test → Type 0
IsAscending [] = Unit {0}
IsAscending (t ∷ ts) = ((u : Test) → Contains ts u → IsEarlier t u) × IsAscending ts

-- the tests with this property, in their order
pub record AreTests (property : Test → Type 0) (ts : List Test) : Type 0 where
  pub order : IsAscending ts
  pub members : (t : Test) → Contains ts t ↔ property t
