-- The frame of an array (Brouwer, Cohen and Neumaier 1989, section 4.1.B).
use Rattle.std.specs.Prelude.{◌≡◌, ℕ, ◌≤◌, List}
use Rattle.drg_array.specs.Entries.{Entries, IsArray, diameter, b_at}
use Rattle.drg_eigen.specs.Characteristic.{characteristic}
use Rattle.drg_fraction.specs.Operations.{Operations}
use Rattle.drg_quadratic.specs.declared.eigenvalue.Eigenvalue.{Eigenvalue}
use Rattle.drg_matrix.specs.Frame.{IsFrame, multiplicity}
use Rattle.drg_eigen.specs.Spectrum.{IsSpectrum}
use Rattle.drg_matrices.specs.Values.{theta_at, size_value}

-- θ is the spectrum of the array, with P and Q it is a frame of the array, and the u are its cosines:
-- P_ir = k_r u_ir and Q_ri = m_i u_ir, with u_i0 = 1.
pub record IsFrameOf {V : Type 0} (o : Operations V) (root : ℕ) (a : Entries) (theta : ℕ → V) (u p q : ℕ → ℕ → V) : Type 0 where
  pub thetas : List Eigenvalue
  pub spectrum : IsSpectrum (b_at a 0) (characteristic a) root thetas
  pub values : (i : ℕ) → i ≤ diameter a → theta i ≡ theta_at o thetas i
  pub frame : IsFrame o a theta p q
  pub first : (i : ℕ) → i ≤ diameter a → u i 0 ≡ o.unit
  pub rows : (i r : ℕ) → i ≤ diameter a → r ≤ diameter a → p i r ≡ o.times (size_value o a r) (u i r)
  pub columns : (i r : ℕ) → i ≤ diameter a → r ≤ diameter a → q r i ≡ o.times (multiplicity q i) (u i r)

-- an array has at most one frame
pub record AreSame {V : Type 0} (d : ℕ) (theta other_theta : ℕ → V) (u p q other_u other_p other_q : ℕ → ℕ → V) : Type 0 where
  pub thetas : (i : ℕ) → i ≤ d → theta i ≡ other_theta i
  pub cosines : (i r : ℕ) → i ≤ d → r ≤ d → u i r ≡ other_u i r
  pub eigen : (i r : ℕ) → i ≤ d → r ≤ d → p i r ≡ other_p i r
  pub dual : (r i : ℕ) → r ≤ d → i ≤ d → q r i ≡ other_q r i

abbrev pub OneFrame : {V : Type 0} → Operations V → ℕ → Type 0
OneFrame {V} o root = (a : Entries) (theta other_theta : ℕ → V) (u p q other_u other_p other_q : ℕ → ℕ → V) → IsArray a
    → IsFrameOf o root a theta u p q → IsFrameOf o root a other_theta other_u other_p other_q
    → AreSame (diameter a) theta other_theta u p q other_u other_p other_q
