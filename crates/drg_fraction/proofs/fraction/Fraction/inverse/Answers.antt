use Rattle.std.proofs.Common.{◌≡◌, pos, ap₂, sym, ◌∙◌, arith, unsigned_abs}
use Rattle.std.proofs.lemmas.Int.{ints}
use Rattle.drg_algebra.specs.Fields.{invert}
use Rattle.drg_algebra.specs.Gcd.{gcd_of}
use Rattle.drg_algebra.specs.Ratio.{ratio}
use Rattle.drg_algebra.specs.Reduced.{common}
use Rattle.drg_fraction.specs.Fraction.{rational_of}
use Rattle.drg_algebra.proofs.Divisors.{gcd_commutes}
use Rattle.drg_algebra.proofs.RatioLemmas.{sign_of_denominator}
use Rattle.drg_algebra.proofs.WholeParts.{abs_turned}
use Rattle.drg_fraction.proofs.Parts.{numerator_of, denominator_of, zero_of}
use Rattle.drg_fraction.proofs.fraction.Fraction.inverse.Goals as goal

pub invariant_of-result : goal.invariant_of-result
invariant_of-result c =
    let x = c.args.self in
    record {
      above = rw c.negated-den.ensures (omega (arith, ints));
      reduced = ap₂ common c.negated-num.ensures c.negated-den.ensures ∙ ap₂ gcd_of (abs_turned x.den.value) (abs_turned x.num.value) ∙ gcd_commutes (unsigned_abs x.den.value) (unsigned_abs x.num.value) ∙ x.reduced;
    }

pub returns-then-self-lt0 : goal.returns-then-self-lt0
unfolding rational_of invert
returns-then-self-lt0 c =
    let x = c.args.self in
    ap₂ ratio c.negated-num.ensures c.negated-den.ensures ∙ sign_of_denominator x.den.value x.num.value ∙ sym (ap₂ ratio (denominator_of x) (numerator_of x))

pub invariant_of-result-2 : goal.invariant_of-result-2
invariant_of-result-2 c =
    let x = c.args.self in
    let some : ¬ (x.num.value ≡ pos 0) = λ e. c.requires (zero_of x e) in
    record { above = omega (arith, ints, some); reduced = gcd_commutes (unsigned_abs x.den.value) (unsigned_abs x.num.value) ∙ x.reduced }

pub returns : goal.returns
unfolding rational_of invert
returns c = let x = c.args.self in sym (ap₂ ratio (denominator_of x) (numerator_of x))
