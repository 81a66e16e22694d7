use Rattle.std.proofs.Common.{◌≡◌, ℕ, ap, sym, subst, ◌∙◌}
use Rattle.std.proofs.lemmas.Result.{IfOk-weaker}
use Rattle.drg_array.specs.Entries.{Entries}
use Rattle.drg_evidence.specs.FrameValues.{values_of}
use Rattle.drg_evidence.specs.Lines.{AreFullFrame, AreSizesAndFrame}
use Rattle.drg_fraction.specs.Fraction.{rational_of}
use Rattle.drg_fraction.specs.Rationals.{rational_operations}
use Rattle.drg_intersection.specs.FirstNumbers.{AreFirstNumbers}
use Rattle.drg_intersection.specs.Numbers.{AreNumbersOf}
use Rattle.drg_quadratic.specs.Operations.{value_operations}
use Rattle.drg_quadratic.specs.Quadratic.{value_of}
use Rattle.drg_engine.specs.Verdicts.{AreSpectraOf}
use Rattle.drg_engine.proofs.spectra.frame_lines.Goals as goal

pub mult_lines-requires-clause-diameter : goal.mult_lines-requires-clause-diameter
mult_lines-requires-clause-diameter c =
    let (a, numbers, spectra) = c.requires.one_array in
    let has = subst (AreSpectraOf a) c.in-Rational.is spectra in
    has.0 ∙ (sym numbers.same_d ∙ sym (ap (λ n. n.d) c.first.ensures.value))

pub mult_lines-requires-in-Quadratic-clause-diameter : goal.mult_lines-requires-in-Quadratic-clause-diameter
mult_lines-requires-in-Quadratic-clause-diameter c =
    let (a, numbers, spectra) = c.requires.one_array in
    let has = subst (AreSpectraOf a) c.in-Quadratic.is spectra in
    has.0 ∙ (sym numbers.same_d ∙ sym (ap (λ n. n.d) c.first-in-Quadratic.ensures.value))

pub returns-in-Rational : goal.returns-in-Rational
returns-in-Rational c =
    let t = c.in-Rational.tables.frame in
    IfOk-weaker c.mult_lines.result
    (λ lines. (a : Entries) → AreFirstNumbers a c.first.result.now → AreSizesAndFrame a (values_of rational_of (λ root. rational_operations) t) lines.items)
    (λ lines. (a : Entries) → ℕ → AreNumbersOf a c.args.numbers.now → AreSpectraOf a c.args.spectra.now → AreFullFrame a lines.items)
    (λ lines made a i numbers spectra. record {
      frame = values_of rational_of (λ root. rational_operations) t;
      is = (subst (AreSpectraOf a) c.in-Rational.is spectra).2;
      are = made a (c.first.ensures.are a numbers);
    })
    c.mult_lines.ensures

pub returns-in-Quadratic : goal.returns-in-Quadratic
returns-in-Quadratic c =
    let t = c.in-Quadratic.tables.frame in
    IfOk-weaker c.mult_lines-in-Quadratic.result
    (λ lines. (a : Entries) → AreFirstNumbers a c.first-in-Quadratic.result.now → AreSizesAndFrame a (values_of value_of value_operations t) lines.items)
    (λ lines. (a : Entries) → ℕ → AreNumbersOf a c.args.numbers.now → AreSpectraOf a c.args.spectra.now → AreFullFrame a lines.items)
    (λ lines made a i numbers spectra. record {
      frame = values_of value_of value_operations t;
      is = (subst (AreSpectraOf a) c.in-Quadratic.is spectra).2;
      are = made a (c.first-in-Quadratic.ensures.are a numbers);
    })
    c.mult_lines-in-Quadratic.ensures
