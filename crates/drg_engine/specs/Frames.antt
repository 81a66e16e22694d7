-- What becomes of the frame of an array: it is made, or a number on the way to it is too wide, or
-- no one quadratic field holds the eigenvalues.
use Rattle.std.specs.Prelude.{ℕ, zero, suc, List, ◌⊎◌}
use Rattle.drg_array.specs.Entries.{Entries, b_at}
use Rattle.drg_array.specs.declared.node.Node.{Node}
use Rattle.drg_eigen.specs.Candidates.{AllDivisionsFit, IsSplitFault}
use Rattle.drg_eigen.specs.Characteristic.{characteristic}
use Rattle.drg_eigen.specs.Fits.{AllFit, IsFault}
use Rattle.drg_eigen.specs.Spectrum.{IsSpectrum}
use Rattle.drg_eigen.specs.Split.{IsOther}
use Rattle.drg_eigen.specs.declared.fault.EigenFault.TheVariants as eigen
use Rattle.drg_eigen.specs.declared.split.OtherSpectrum.{OtherSpectrum}
use Rattle.drg_evidence.specs.Made.{IsFrameMade}
use Rattle.drg_fraction.specs.Rationals.{rational_operations}
use Rattle.drg_matrices.specs.Faults as frame
use Rattle.drg_matrices.specs.Values.{theta_at}
use Rattle.drg_matrices.specs.declared.fault.FrameFault.TheVariants as fault
use Rattle.drg_quadratic.specs.Operations.{value_operations}
use Rattle.drg_quadratic.specs.declared.eigenvalue.Eigenvalue.{Eigenvalue}

-- the eigenvalues of the array lie over the root, and are these
abbrev pub HasSpectrum : Entries → ℕ → List Eigenvalue → Type 0
HasSpectrum a root thetas = IsSpectrum (b_at a 0) (characteristic a) root thetas

-- The polynomials of the array fit, and so does each division by a candidate that is asked for.
pub record IsFactored (a : Entries) : Type 0 where
  pub polynomials : AllFit a
  pub divisions : AllDivisionsFit (b_at a 0) (characteristic a)

-- the first number of the frame that doesn't fit
abbrev pub IsWideInFrame : Entries → ℕ → List Eigenvalue → Node → Type 0
IsWideInFrame a zero thetas node =
    frame.IsFault rational_operations a (theta_at rational_operations thetas) (fault.Wide node)
IsWideInFrame a (suc n) thetas node =
    frame.IsFault (value_operations (suc n)) a (theta_at (value_operations (suc n)) thetas)
    (fault.Wide node)

-- The frame of the array is made, and each number on the way to it fits.
pub record IsFrameReached (a : Entries) : Type 0 where
  pub factored : IsFactored a
  pub made : IsFrameMade a

-- The polynomials of the array fit, and this is the first division that doesn't.
pub record IsWideDivision (a : Entries) (node : Node) : Type 0 where
  pub polynomials : AllFit a
  pub division : IsSplitFault (b_at a 0) (characteristic a) (eigen.Wide node)

-- The eigenvalues are made, and this is the first number of the frame that doesn't fit.
pub record IsWideNumber (a : Entries) (node : Node) : Type 0 where
  pub factored : IsFactored a
  pub root : ℕ
  pub thetas : List Eigenvalue
  pub spectrum : HasSpectrum a root thetas
  pub wide : IsWideInFrame a root thetas node

-- The first number on the way to the frame that doesn't fit: a polynomial, else a division, else a
-- number of the frame.
abbrev pub IsFirstTooWide : Entries → Node → Type 0
IsFirstTooWide a node = IsFault a (eigen.Wide node) ⊎ (IsWideDivision a node ⊎ IsWideNumber a node)

-- No one quadratic field holds the eigenvalues, and the certificate shows it.
pub record HasOtherSpectrum (a : Entries) (other : OtherSpectrum) : Type 0 where
  pub factored : IsFactored a
  pub certificate : IsOther (b_at a 0) (characteristic a) other
