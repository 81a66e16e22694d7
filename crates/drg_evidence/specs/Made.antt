-- Which numbers of an array a claim rests on.
use Rattle.std.specs.Prelude.{ℕ, zero, suc, List}
use Rattle.drg_array.specs.Entries.{Entries, b_at}
use Rattle.drg_array.specs.declared.claim.Claim.{Claim}
use Rattle.drg_array.specs.declared.claim.Claim.TheVariants.{First, Degree, Order, Cross, Size, Intersect, Handshake, Induced, Triangles, Mult}
use Rattle.drg_array.specs.declared.node.Node.{Node}
use Rattle.drg_array.specs.declared.node.Node.TheVariants.{K, P}
use Rattle.drg_eigen.specs.Characteristic.{characteristic}
use Rattle.drg_eigen.specs.Spectrum.{IsSpectrum}
use Rattle.drg_fraction.specs.Rationals.{rational_operations}
use Rattle.drg_intersection.specs.Faults.{AllPass, IsReached}
use Rattle.drg_intersection.specs.Fits.{Fits}
use Rattle.drg_matrices.specs.Faults.{AllFit}
use Rattle.drg_matrices.specs.Values.{theta_at}
use Rattle.drg_quadratic.specs.Operations.{value_operations}
use Rattle.drg_quadratic.specs.declared.eigenvalue.Eigenvalue.{Eigenvalue}

-- no number before this one fails, and its formula fits
pub record IsMade (a : Entries) (node : Node) : Type 0 where
  pub reached : IsReached a node
  pub fits : Fits a node

-- Each number of the frame fits. Over root 0 it is made with fractions, and else with numbers
-- a + b √root.
abbrev pub FrameFits : Entries → ℕ → List Eigenvalue → Type 0
FrameFits a zero thetas = AllFit rational_operations a (theta_at rational_operations thetas)
FrameFits a (suc n) thetas =
    AllFit (value_operations (suc n)) a (theta_at (value_operations (suc n)) thetas)

-- the eigenvalues of the array lie over one root, and each number of its frame fits
pub record IsFrameMade (a : Entries) : Type 0 where
  pub root : ℕ
  pub thetas : List Eigenvalue
  pub spectrum : IsSpectrum (b_at a 0) (characteristic a) root thetas
  pub fits : FrameFits a root thetas

-- the numbers on which the claim rests are made
abbrev pub AreMade : Entries → Claim → Type 0
AreMade a First = Unit {0}
AreMade a (Degree i) = Unit {0}
AreMade a (Order i) = Unit {0}
AreMade a (Cross i j) = Unit {0}
AreMade a (Size i) = IsMade a (K i)
AreMade a (Intersect h i j) = IsMade a (P h i j)
AreMade a (Handshake i) = AllPass a
AreMade a (Induced i j) = AllPass a
AreMade a (Triangles i) = AllPass a
AreMade a (Mult i) = AllPass a × IsFrameMade a
AreMade a claim = ⊥
