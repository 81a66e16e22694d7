-- The laws by which what becomes of the frame of an array is one.
use Rattle.std.specs.Prelude.{ℕ}
use Rattle.drg_eigen.specs.FaultLaws as polynomials
use Rattle.drg_eigen.specs.SplitLaws.{OneSplit, OneSplitFault, NoSplitFaultWhereAllFit}
use Rattle.drg_fraction.specs.Rationals.{rational_operations}
use Rattle.drg_matrices.specs.Laws as frames
use Rattle.drg_quadratic.specs.Operations.{value_operations}

-- The polynomials of an array, the divisions of the search for factors and the numbers of a frame
-- have each one fault at most, and none where they fit. A polynomial has one answer of that search.
pub record FrameLaws : Type 0 where
  pub polynomial : polynomials.OneFault
  pub no_polynomial : polynomials.NoFaultWhereAllFit
  pub split : OneSplit
  pub division : OneSplitFault
  pub no_division : NoSplitFaultWhereAllFit
  pub fraction : frames.OneFault rational_operations
  pub no_fraction : frames.NoFaultWhereAllFit rational_operations
  pub number : (root : ℕ) → frames.OneFault (value_operations root)
  pub no_number : (root : ℕ) → frames.NoFaultWhereAllFit (value_operations root)
