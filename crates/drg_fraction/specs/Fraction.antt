-- The rational that a fraction stands for.
use Rattle.std.specs.Prelude.{◌≡◌, pos, ◌<ℤ◌}
use Rattle.std.proofs.Common.{ap, sym, ◌∙◌}
use mathlib.Core.HLevel.{is_prop→PathP}
use native.Mathlib.Nat.{ℕ_set}
use Rattle.drg_algebra.specs.Rational.{ℚ}
use Rattle.drg_algebra.specs.Ratio.{ratio}
use Rattle.drg_algebra.specs.Reduced.{numerator, denominator, numerator_ratio, denominator_ratio, above_prop, common}
use Rattle.drg_fraction.specs.declared.fraction.Fraction.{Fraction}
use Rattle.drg_whole.specs.Whole.{one_whole}

unfoldable pub rational_of : Fraction → ℚ
rational_of f = ratio f.num.value f.den.value

-- a rational has one fraction
pub same_parts : (x y : Fraction) → rational_of x ≡ rational_of y → (x.num.value ≡ y.num.value) × (x.den.value ≡ y.den.value)
unfolding rational_of
same_parts x y e = (
  sym (numerator_ratio x.num.value x.den.value x.above x.reduced) ∙ ap numerator e ∙ numerator_ratio y.num.value y.den.value y.above y.reduced,
  sym (denominator_ratio x.num.value x.den.value x.above x.reduced) ∙ ap denominator e ∙ denominator_ratio y.num.value y.den.value y.above y.reduced,
)

pub one_fraction : (x y : Fraction) → rational_of x ≡ rational_of y → x ≡ y
one_fraction x y e i =
    let p = same_parts x y e in
    let n = one_whole x.num y.num p.0 in
    let d = one_whole x.den y.den p.1 in
    record {
      num = n i;
      den = d i;
      above = is_prop→PathP (λ j. pos 0 <ℤ (d j).value) (λ j. above_prop (d j).value) x.above y.above i;
      reduced = is_prop→PathP (λ j. common (n j).value (d j).value ≡ 1) (λ j. ℕ_set _ _) x.reduced y.reduced i;
    }
