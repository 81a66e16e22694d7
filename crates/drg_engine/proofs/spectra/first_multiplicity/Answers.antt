use Rattle.std.specs.Prelude.{IfSome, IfNone}
use Rattle.std.proofs.Common.{◌≡◌, subst, sym}
use Rattle.drg_array.specs.ClaimOrder.{ComesBefore}
use Rattle.drg_array.specs.Claims.{test_of}
use Rattle.drg_array.specs.Entries.{Entries, IsArray}
use Rattle.drg_array.specs.declared.claim.Claim.{Claim}
use Rattle.drg_array.specs.declared.test.Test.TheVariants as test
use Rattle.drg_report.specs.declared.verdict.Spectra.{Spectra}
use Rattle.drg_report.specs.declared.verdict.Spectra.TheVariants.{Rational, Quadratic}
use Rattle.drg_engine.specs.Conditions.{Fails}
use Rattle.drg_engine.specs.Verdicts.{AreSpectraOf}
use Rattle.drg_engine.proofs.FrameTables.{FractionFails, QuadraticFails, fails_fraction, fails_quadratic, fraction_fails, fraction_test, quadratic_fails, quadratic_test, fails_found, first_found, none_found, test_found}
use Rattle.drg_engine.proofs.spectra.first_multiplicity.Goals as goal

pub returns-in-Rational-clause-fails : goal.returns-in-Rational-clause-fails
returns-in-Rational-clause-fails c =
    let t = c.in-Rational.tables.frame in
    let k = c.in-Rational.tables.krein in
    subst (λ (s : Spectra). IfSome c.multiplicities.result (λ claim. (a : Entries) → AreSpectraOf a s → Fails a claim)) (sym c.in-Rational.is)
    (fails_found (Rational (record { frame = t; krein = k })) (FractionFails t k) c.multiplicities.result (fraction_fails t k) c.multiplicities.ensures.fails)

pub returns-in-Rational-clause-first : goal.returns-in-Rational-clause-first
returns-in-Rational-clause-first c =
    let t = c.in-Rational.tables.frame in
    let k = c.in-Rational.tables.krein in
    subst (λ (s : Spectra). IfSome c.multiplicities.result (λ claim. (a : Entries) → IsArray a → AreSpectraOf a s → (earlier : Claim) → test_of earlier ≡ test.Mult
    → ComesBefore earlier claim → Fails a earlier → ⊥)) (sym c.in-Rational.is)
    (first_found (Rational (record { frame = t; krein = k })) (FractionFails t k) (fails_fraction t k c.frame_law.ensures.one) c.multiplicities.result c.multiplicities.ensures.first)

pub returns-in-Rational-clause-none : goal.returns-in-Rational-clause-none
returns-in-Rational-clause-none c =
    let t = c.in-Rational.tables.frame in
    let k = c.in-Rational.tables.krein in
    subst (λ (s : Spectra). IfNone c.multiplicities.result ((a : Entries) → IsArray a → AreSpectraOf a s → (claim : Claim) → test_of claim ≡ test.Mult → Fails a claim → ⊥))
    (sym c.in-Rational.is)
    (none_found (Rational (record { frame = t; krein = k })) (FractionFails t k) (fails_fraction t k c.frame_law.ensures.one) c.multiplicities.result c.multiplicities.ensures.none)

pub returns-in-Quadratic-clause-fails : goal.returns-in-Quadratic-clause-fails
returns-in-Quadratic-clause-fails c =
    let t = c.in-Quadratic.tables.frame in
    let k = c.in-Quadratic.tables.krein in
    subst (λ (s : Spectra). IfSome c.multiplicities-in-Quadratic.result (λ claim. (a : Entries) → AreSpectraOf a s → Fails a claim)) (sym c.in-Quadratic.is)
    (fails_found (Quadratic (record { frame = t; krein = k })) (QuadraticFails t k) c.multiplicities-in-Quadratic.result (quadratic_fails t k) c.multiplicities-in-Quadratic.ensures.fails)

pub returns-in-Quadratic-clause-first : goal.returns-in-Quadratic-clause-first
returns-in-Quadratic-clause-first c =
    let t = c.in-Quadratic.tables.frame in
    let k = c.in-Quadratic.tables.krein in
    subst (λ (s : Spectra). IfSome c.multiplicities-in-Quadratic.result (λ claim. (a : Entries) → IsArray a → AreSpectraOf a s → (earlier : Claim) → test_of earlier ≡ test.Mult
    → ComesBefore earlier claim → Fails a earlier → ⊥)) (sym c.in-Quadratic.is)
    (first_found (Quadratic (record { frame = t; krein = k })) (QuadraticFails t k) (fails_quadratic t k c.frame_law.ensures.one) c.multiplicities-in-Quadratic.result c.multiplicities-in-Quadratic.ensures.first)

pub returns-in-Quadratic-clause-none : goal.returns-in-Quadratic-clause-none
returns-in-Quadratic-clause-none c =
    let t = c.in-Quadratic.tables.frame in
    let k = c.in-Quadratic.tables.krein in
    subst (λ (s : Spectra). IfNone c.multiplicities-in-Quadratic.result ((a : Entries) → IsArray a → AreSpectraOf a s → (claim : Claim) → test_of claim ≡ test.Mult → Fails a claim → ⊥))
    (sym c.in-Quadratic.is)
    (none_found (Quadratic (record { frame = t; krein = k })) (QuadraticFails t k) (fails_quadratic t k c.frame_law.ensures.one) c.multiplicities-in-Quadratic.result c.multiplicities-in-Quadratic.ensures.none)
