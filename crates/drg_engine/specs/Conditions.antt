-- The conditions of the tests that are built: where one holds of an array, and where it fails at
-- the numbers of a claim.
use Rattle.std.specs.Prelude.{⊤, ℕ}
use Rattle.drg_array.specs.Entries.{Entries}
use Rattle.drg_array.specs.Conditions.{CountsHold, CountsFail, IsPlace}
use Rattle.drg_array.specs.declared.test.Test.{Test}
use Rattle.drg_array.specs.declared.test.Test.TheVariants as test
use Rattle.drg_array.specs.declared.claim.Claim.{Claim}
use Rattle.drg_array.specs.declared.claim.Claim.TheVariants.{First, Degree, Order, Cross, Size, Intersect, Handshake, Induced, Triangles, Mult, Krein, Absolute, Triple, Ktriple}
use Rattle.drg_bounds.specs.Multiplicities.{IsPositiveWhole}
use Rattle.drg_evidence.specs.FrameValues.{FrameValues, HasFrame}
use Rattle.drg_evidence.specs.Laws.{FailsMult}
use Rattle.drg_matrix.specs.Frame.{multiplicity}
use Rattle.drg_quadratic.specs.Operations.{value_operations}

-- the test is built: its condition is stated here, and it runs where it is selected
abbrev pub IsBuilt : Test → Type 0
IsBuilt test.First = ⊤
IsBuilt test.Degree = ⊤
IsBuilt test.Order = ⊤
IsBuilt test.Cross = ⊤
IsBuilt test.Size = ⊤
IsBuilt test.Intersect = ⊤
IsBuilt test.Handshake = ⊤
IsBuilt test.Induced = ⊤
IsBuilt test.Triangles = ⊤
IsBuilt test.Mult = ⊤
IsBuilt test.Krein = ⊥
IsBuilt test.Absolute = ⊥
IsBuilt test.Triple = ⊥
IsBuilt test.Ktriple = ⊥

-- What stands for the condition of a test that isn't built. Its body is closed: nothing shows it,
-- and nothing is to be had from it or from its denial. So what is said of the condition of a test
-- is said of tests that are built.
pub IsUnstated : Type 0
IsUnstated = ⊥

-- The array has a frame, and its multiplicities m_1 to m_d are whole numbers above 0.
pub record HoldsMult (a : Entries) : Type 0 where
  pub frame : FrameValues
  pub is : HasFrame a frame
  pub whole : (i : ℕ) → IsPlace a i
      → IsPositiveWhole (value_operations frame.root) (multiplicity frame.dual i)

-- the condition of the test
abbrev pub Holds : Entries → Test → Type 0
Holds a test.First = CountsHold a test.First
Holds a test.Degree = CountsHold a test.Degree
Holds a test.Order = CountsHold a test.Order
Holds a test.Cross = CountsHold a test.Cross
Holds a test.Size = CountsHold a test.Size
Holds a test.Intersect = CountsHold a test.Intersect
Holds a test.Handshake = CountsHold a test.Handshake
Holds a test.Induced = CountsHold a test.Induced
Holds a test.Triangles = CountsHold a test.Triangles
Holds a test.Mult = HoldsMult a
Holds a test.Krein = IsUnstated
Holds a test.Absolute = IsUnstated
Holds a test.Triple = IsUnstated
Holds a test.Ktriple = IsUnstated

-- the array fails the claim: its numbers are in range, and the condition of its test is false at
-- them
abbrev pub Fails : Entries → Claim → Type 0
Fails a First = CountsFail a First
Fails a (Degree i) = CountsFail a (Degree i)
Fails a (Order i) = CountsFail a (Order i)
Fails a (Cross i j) = CountsFail a (Cross i j)
Fails a (Size i) = CountsFail a (Size i)
Fails a (Intersect h i j) = CountsFail a (Intersect h i j)
Fails a (Handshake i) = CountsFail a (Handshake i)
Fails a (Induced i j) = CountsFail a (Induced i j)
Fails a (Triangles i) = CountsFail a (Triangles i)
Fails a (Mult i) = FailsMult a i
Fails a (Krein i j h) = IsUnstated
Fails a (Absolute i j) = IsUnstated
Fails a (Triple u v w) = IsUnstated
Fails a (Ktriple u v w) = IsUnstated
