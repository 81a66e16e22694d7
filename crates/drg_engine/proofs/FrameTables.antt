-- The tables of a frame as its values, and the claims of the test mult that they fail.
use Rattle.std.proofs.Common.{◌≡◌, ℕ, ◌≤◌, Option, Some, None, refl, sym, ap, ◌∙◌, subst, arith}
use Rattle.std.specs.Prelude.{IfSome, IfNone}
use Rattle.drg_array.specs.ClaimOrder.{ComesBefore, test_number}
use Rattle.drg_array.specs.Claims.{test_of}
use Rattle.drg_array.specs.Entries.{Entries, IsArray, diameter}
use Rattle.drg_array.specs.declared.claim.Claim.{Claim}
use Rattle.drg_array.specs.declared.claim.Claim.TheVariants.{Mult}
use Rattle.drg_array.specs.declared.test.Test.TheVariants as test
use Rattle.drg_bounds.specs.Multiplicities.{FrameFailsMult}
use Rattle.drg_evidence.specs.FrameValues.{HasFrame}
use Rattle.drg_evidence.specs.Laws.{FailsMult, OneFrameOfValues}
use Rattle.drg_evidence.proofs.RationalFrames.{rational_frame}
use Rattle.drg_fraction.specs.Fraction.{rational_of}
use Rattle.drg_fraction.specs.Rationals.{rational_operations}
use Rattle.drg_fraction.specs.declared.fraction.Fraction.{Fraction}
use Rattle.drg_krein.specs.Tables.{KreinTables}
use Rattle.drg_matrices.specs.Frame.{IsFrameOf}
use Rattle.drg_matrices.specs.Tables.{FrameTables, diameter_of, root_of_tables, theta_in, cosine_in, eigen_in, dual_in}
use Rattle.drg_quadratic.specs.Operations.{value_operations}
use Rattle.drg_quadratic.specs.Quadratic.{value_of}
use Rattle.drg_quadratic.specs.Values.{Value, rational}
use Rattle.drg_quadratic.specs.declared.quadratic.Quadratic.{Quadratic as TheQuadratic}
use Rattle.drg_report.specs.declared.verdict.Spectra.{Spectra}
use Rattle.drg_report.specs.declared.verdict.Spectra.TheVariants.{Rational, Quadratic}
use Rattle.drg_engine.specs.Conditions.{Fails}
use Rattle.drg_engine.specs.Verdicts.{AreSpectraOf}
use Rattle.drg_engine.proofs.MultTests.{one_multiplicity}
use Rattle.drg_engine.proofs.SameFrames.{of_fractions, of_quadratics}

-- ---- frames
pub from_fractions : (a : Entries) (t : FrameTables Fraction) (root : ℕ) → root ≡ 0 → root_of_tables t ≡ root
    → IsFrameOf rational_operations root a (theta_in rational_of (λ r. rational_operations) t) (cosine_in rational_of (λ r. rational_operations) t)
    (eigen_in rational_of (λ r. rational_operations) t) (dual_in rational_of (λ r. rational_operations) t)
    → HasFrame a (of_fractions t)
from_fractions a t root zero same is =
    let theta = theta_in rational_of (λ r. rational_operations) t in
    let u = cosine_in rational_of (λ r. rational_operations) t in
    let p = eigen_in rational_of (λ r. rational_operations) t in
    let q = dual_in rational_of (λ r. rational_operations) t in
    let flat = rational_frame a theta u p q (subst (λ (r : ℕ). IsFrameOf rational_operations r a theta u p q) zero is) in
    subst (λ (r : ℕ). IsFrameOf (value_operations r) r a (λ i. rational (theta i)) (λ i r. rational (u i r)) (λ i j. rational (p i j)) (λ i j. rational (q i j)))
    (sym (same ∙ zero)) flat

pub from_quadratics : (a : Entries) (t : FrameTables TheQuadratic) (root : ℕ) → root_of_tables t ≡ root
    → IsFrameOf (value_operations root) root a (theta_in value_of value_operations t) (cosine_in value_of value_operations t)
    (eigen_in value_of value_operations t) (dual_in value_of value_operations t)
    → HasFrame a (of_quadratics t)
from_quadratics a t root same is =
    subst (λ (r : ℕ). IsFrameOf (value_operations r) r a (theta_in value_of value_operations t) (cosine_in value_of value_operations t)
    (eigen_in value_of value_operations t) (dual_in value_of value_operations t)) (sym same) is

-- ---- claims of mult
pub mult_claim : (claim : Claim) → test_of claim ≡ test.Mult → (i : ℕ) × (claim ≡ Mult i)
mult_claim (Mult i) e = (i, refl)
mult_claim claim e = let n = ap test_number e in absurd (omega (arith, n))

module _ (t : FrameTables Fraction) (k : Option (KreinTables Fraction)) where
  abbrev pub FractionFails : Claim → Type 0
  FractionFails = FrameFailsMult rational_of (λ root. rational_operations) t

  pub fraction_test : (claim : Claim) → FractionFails claim → test_of claim ≡ test.Mult
  fraction_test (Mult i) fails = refl
  fraction_test claim fails = absurd fails

  pub fraction_fails : (a : Entries) (claim : Claim) → AreSpectraOf a (Rational (record { frame = t; krein = k })) → FractionFails claim → Fails a claim
  fraction_fails a (Mult i) (d, root, has) (low, high, broken) = record {
    place = (low, omega (arith, high, d));
    frame = of_fractions t;
    is = has;
    broken = λ (n, above, e). broken (n, above, ap (λ (x : Value). x.a) e);
  }
  fraction_fails a claim has fails = absurd fails

  pub fails_fraction : OneFrameOfValues → (a : Entries) → IsArray a → (i : ℕ) → AreSpectraOf a (Rational (record { frame = t; krein = k })) → FailsMult a i → FractionFails (Mult i)
  fails_fraction one a array i (d, root, has) fails = (
    fails.place.0,
    (let high = fails.place.1 in omega (arith, high, d)),
    λ (n, above, e). fails.broken (one_multiplicity one a array (of_fractions t) fails.frame i has fails.is fails.place.1 (n, above, ap rational e)),
  )

module _ (t : FrameTables TheQuadratic) (k : Option (KreinTables TheQuadratic)) where
  abbrev pub QuadraticFails : Claim → Type 0
  QuadraticFails = FrameFailsMult value_of value_operations t

  pub quadratic_test : (claim : Claim) → QuadraticFails claim → test_of claim ≡ test.Mult
  quadratic_test (Mult i) fails = refl
  quadratic_test claim fails = absurd fails

  pub quadratic_fails : (a : Entries) (claim : Claim) → AreSpectraOf a (Quadratic (record { frame = t; krein = k })) → QuadraticFails claim → Fails a claim
  quadratic_fails a (Mult i) (d, root, has) (low, high, broken) = record {
    place = (low, omega (arith, high, d));
    frame = of_quadratics t;
    is = has;
    broken = broken;
  }
  quadratic_fails a claim has fails = absurd fails

  pub fails_quadratic : OneFrameOfValues → (a : Entries) → IsArray a → (i : ℕ) → AreSpectraOf a (Quadratic (record { frame = t; krein = k })) → FailsMult a i → QuadraticFails (Mult i)
  fails_quadratic one a array i (d, root, has) fails = (
    fails.place.0,
    (let high = fails.place.1 in omega (arith, high, d)),
    λ counted. fails.broken (one_multiplicity one a array (of_quadratics t) fails.frame i has fails.is fails.place.1 counted),
  )

-- ---- the first failing claim that is found in the tables of spectra
module _ (spectra : Spectra) (FailsHere : Claim → Type 0) where
  abbrev pub TestFound : Option Claim → Type 0
  TestFound o = IfSome o (λ claim. test_of claim ≡ test.Mult)

  pub test_found : (o : Option Claim) → ((claim : Claim) → FailsHere claim → test_of claim ≡ test.Mult) → IfSome o FailsHere → TestFound o
  test_found (Some claim) is fails = is claim fails
  test_found None is fails = tt

  pub fails_found : (o : Option Claim) → ((a : Entries) (claim : Claim) → AreSpectraOf a spectra → FailsHere claim → Fails a claim) → IfSome o FailsHere
      → IfSome o (λ claim. (a : Entries) → AreSpectraOf a spectra → Fails a claim)
  fails_found (Some claim) into fails = λ a has. into a claim has fails
  fails_found None into fails = tt

  module _ (back : (a : Entries) → IsArray a → (i : ℕ) → AreSpectraOf a spectra → FailsMult a i → FailsHere (Mult i)) where
    fails_here : (a : Entries) → IsArray a → AreSpectraOf a spectra → (claim : Claim) → test_of claim ≡ test.Mult → Fails a claim → FailsHere claim
    fails_here a array has claim e fails =
        let (i, same) = mult_claim claim e in
        subst FailsHere (sym same) (back a array i has (subst (Fails a) same fails))

    pub first_found : (o : Option Claim) → IfSome o (λ claim. (earlier : Claim) → ComesBefore earlier claim → FailsHere earlier → ⊥)
        → IfSome o (λ claim. (a : Entries) → IsArray a → AreSpectraOf a spectra → (earlier : Claim) → test_of earlier ≡ test.Mult → ComesBefore earlier claim → Fails a earlier → ⊥)
    first_found (Some claim) first = λ a array has earlier e before fails. first earlier before (fails_here a array has earlier e fails)
    first_found None first = tt

    pub none_found : (o : Option Claim) → IfNone o ((claim : Claim) → FailsHere claim → ⊥)
        → IfNone o ((a : Entries) → IsArray a → AreSpectraOf a spectra → (claim : Claim) → test_of claim ≡ test.Mult → Fails a claim → ⊥)
    none_found (Some claim) never = tt
    none_found None never = λ a array has claim e fails. never claim (fails_here a array has claim e fails)
