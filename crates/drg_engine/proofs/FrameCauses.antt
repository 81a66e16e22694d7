-- An array has its frame made, or it has one cause why not.
use Rattle.std.proofs.Common.{◌≡◌, ℕ, zero, suc, List, refl, sym, ap, ◌∙◌, subst, inl, inr}
use Rattle.std.specs.Prelude.{◌⊎◌, [], ◌∷◌}
use Rattle.drg_algebra.specs.Rational.{ℚ}
use Rattle.drg_array.specs.Entries.{Entries, b_at}
use Rattle.drg_array.specs.declared.node.Node.{Node}
use Rattle.drg_array.specs.declared.test.Test.{Test}
use Rattle.drg_array.specs.declared.test.Test.TheVariants as test
use Rattle.drg_eigen.specs.Candidates.{AllDivisionsFit, IsSplitFault}
use Rattle.drg_eigen.specs.Characteristic.{characteristic}
use Rattle.drg_eigen.specs.Fits.{AllFit, IsFault}
use Rattle.drg_eigen.specs.Monic.{IsMonic}
use Rattle.drg_eigen.specs.declared.fault.EigenFault.TheVariants as eigen
use Rattle.drg_eigen.specs.declared.split.Split.{Split}
use Rattle.drg_eigen.specs.declared.split.Split.TheVariants as split
use Rattle.drg_eigen.specs.declared.split.OtherSpectrum.{OtherSpectrum}
use Rattle.drg_evidence.specs.Made.{FrameFits}
use Rattle.drg_fraction.specs.Rationals.{rational_operations}
use Rattle.drg_matrices.specs.Values.{theta_at}
use Rattle.drg_matrices.specs.declared.fault.FrameFault.TheVariants as fault
use Rattle.drg_quadratic.specs.Operations.{value_operations}
use Rattle.drg_quadratic.specs.declared.eigenvalue.Eigenvalue.{Eigenvalue}
use Rattle.drg_report.specs.declared.verdict.Cause.{Cause}
use Rattle.drg_report.specs.declared.verdict.Cause.TheVariants.{Wide, Spectrum}
use Rattle.drg_engine.specs.Causes.{IsCause, IsDecidable, IsFrameCause}
use Rattle.drg_engine.specs.FrameLaws.{FrameLaws}
use Rattle.drg_engine.specs.Frames.{HasOtherSpectrum, HasSpectrum, IsFirstTooWide, IsFrameReached, IsWideInFrame}
use Rattle.drg_evidence.proofs.MonicPolynomials.{characteristic_is_monic}
use Rattle.drg_evidence.proofs.OneSpectrum.{one_spectrum}

abbrev other_in : OtherSpectrum → Split → OtherSpectrum
other_in o (split.Spectrum s) = o
other_in o (split.Other p) = p

module _ (laws : FrameLaws) (a : Entries) where
  monic : IsMonic (characteristic a)
  monic = characteristic_is_monic a

  pub one_other : (o p : OtherSpectrum) → HasOtherSpectrum a o → HasOtherSpectrum a p → o ≡ p
  one_other o p has also =
      ap (other_in o) (laws.split (b_at a 0) (characteristic a) (split.Other o) (split.Other p) monic has.certificate also.certificate)

  not_other : (root : ℕ) (thetas : List Eigenvalue) (o : OtherSpectrum) → HasSpectrum a root thetas → HasOtherSpectrum a o → ⊥
  not_other root thetas o has also =
      let same = laws.split (b_at a 0) (characteristic a) (split.Spectrum (record { root = root; thetas = thetas })) (split.Other o) monic has also.certificate in cc

  one_in_frame : (root : ℕ) (thetas : List Eigenvalue) (m n : Node) → IsWideInFrame a root thetas m → IsWideInFrame a root thetas n → m ≡ n
  one_in_frame zero thetas m n wide also =
      let same = laws.fraction a (theta_at rational_operations thetas) (fault.Wide m) (fault.Wide n) (λ e. cc) (λ e. cc) wide also in cc
  one_in_frame (suc r) thetas m n wide also =
      let same = laws.number (suc r) a (theta_at (value_operations (suc r)) thetas) (fault.Wide m) (fault.Wide n) (λ e. cc) (λ e. cc) wide also in cc

  none_in_frame : (root : ℕ) (thetas : List Eigenvalue) (m : Node) → FrameFits a root thetas → IsWideInFrame a root thetas m → ⊥
  none_in_frame zero thetas m fits wide = laws.no_fraction a (theta_at rational_operations thetas) (fault.Wide m) (λ e. cc) fits wide
  none_in_frame (suc r) thetas m fits wide = laws.no_number (suc r) a (theta_at (value_operations (suc r)) thetas) (fault.Wide m) (λ e. cc) fits wide

  no_polynomial : (m : Node) → AllFit a → IsFault a (eigen.Wide m) → ⊥
  no_polynomial m = laws.no_polynomial a (eigen.Wide m) (λ e. cc)

  no_division : (m : Node) → AllDivisionsFit (b_at a 0) (characteristic a) → ¬ IsSplitFault (b_at a 0) (characteristic a) (eigen.Wide m)
  no_division m = laws.no_division (b_at a 0) (characteristic a) (eigen.Wide m) monic (λ e. cc)

  pub one_too_wide : (m n : Node) → IsFirstTooWide a m → IsFirstTooWide a n → m ≡ n
  one_too_wide m n (inl f) (inl g) =
      let same = laws.polynomial a (eigen.Wide m) (eigen.Wide n) (λ e. cc) (λ e. cc) f g in cc
  one_too_wide m n (inl f) (inr (inl g)) = absurd (no_polynomial m g.polynomials f)
  one_too_wide m n (inl f) (inr (inr g)) = absurd (no_polynomial m g.factored.polynomials f)
  one_too_wide m n (inr (inl f)) (inl g) = absurd (no_polynomial n f.polynomials g)
  one_too_wide m n (inr (inr f)) (inl g) = absurd (no_polynomial n f.factored.polynomials g)
  one_too_wide m n (inr (inl f)) (inr (inl g)) =
      let same = laws.division (b_at a 0) (characteristic a) (eigen.Wide m) (eigen.Wide n) monic (λ e. cc) (λ e. cc) f.division g.division in cc
  one_too_wide m n (inr (inl f)) (inr (inr g)) = absurd (no_division m g.factored.divisions f.division)
  one_too_wide m n (inr (inr f)) (inr (inl g)) = absurd (no_division n f.factored.divisions g.division)
  one_too_wide m n (inr (inr f)) (inr (inr g)) =
      let same = one_spectrum laws.split a g.root f.root g.thetas f.thetas g.spectrum f.spectrum in
      one_in_frame f.root f.thetas m n f.wide
      (subst (λ (r : ℕ). IsWideInFrame a r f.thetas n) same.0 (subst (λ (ts : List Eigenvalue). IsWideInFrame a g.root ts n) same.1 g.wide))

  pub not_made : (m : Node) → IsFirstTooWide a m → IsFrameReached a → ⊥
  not_made m (inl f) made = no_polynomial m made.factored.polynomials f
  not_made m (inr (inl f)) made = no_division m made.factored.divisions f.division
  not_made m (inr (inr f)) made =
      let same = one_spectrum laws.split a made.made.root f.root made.made.thetas f.thetas made.made.spectrum f.spectrum in
      none_in_frame f.root f.thetas m
      (subst (λ (r : ℕ). FrameFits a r f.thetas) same.0 (subst (λ (ts : List Eigenvalue). FrameFits a made.made.root ts) same.1 made.made.fits)) f.wide

  pub not_both : (m : Node) (o : OtherSpectrum) → IsFirstTooWide a m → HasOtherSpectrum a o → ⊥
  not_both m o (inl f) other = no_polynomial m other.factored.polynomials f
  not_both m o (inr (inl f)) other = no_division m other.factored.divisions f.division
  not_both m o (inr (inr f)) other = not_other f.root f.thetas o f.spectrum other

  one_frame_cause : (c e : Cause) → IsFrameCause a c → IsFrameCause a e → c ≡ e
  one_frame_cause (Wide m) (Wide n) is also = ap Wide (one_too_wide m n is also)
  one_frame_cause (Wide m) Spectrum is (o, also) = absurd (not_both m o is also)
  one_frame_cause Spectrum (Wide n) (o, is) also = absurd (not_both n o also is)
  one_frame_cause Spectrum Spectrum is also = refl

  no_frame_cause : (c : Cause) → IsFrameCause a c → IsFrameReached a → ⊥
  no_frame_cause (Wide m) is made = not_made m is made
  no_frame_cause Spectrum (o, is) made = not_other made.made.root made.made.thetas o made.made.spectrum is

  -- a test has one cause, and none where the numbers on which it rests are made
  pub one_cause : (t : Test) (c e : Cause) → IsCause a t c → IsCause a t e → c ≡ e
  one_cause test.Mult c e is also = one_frame_cause c e is also
  one_cause t c e is also = absurd is

  pub no_cause : (t : Test) (c : Cause) → IsCause a t c → IsDecidable a t → ⊥
  no_cause test.Mult c is made = no_frame_cause c is made
  no_cause t c is made = absurd is
