-- A fraction's parts are those of the rational that it stands for.
use Rattle.std.proofs.Common.{◌≡◌, ◌<ℤ◌, ℤ, pos, List, refl, ◌∙◌, arith}
use Rattle.std.specs.Ordering.{int_cmp, MatchOrdering}
use Rattle.std.specs.Cmp.{int_ranks}
use Rattle.std.specs.declared.cmp.Ordering.{Ordering}
use Rattle.std.specs.declared.cmp.Ordering.TheVariants.{Less, Equal, Greater}
use Rattle.std.proofs.lemmas.Int.{ints}
use Rattle.drg_algebra.specs.Ring.{none, ◌⊕◌, ◌⊗◌, ring2}
use Rattle.drg_algebra.specs.Rational.{ℚ, whole, plus, times, rationals}
use Rattle.drg_algebra.specs.Ratio.{ratio}
use Rattle.drg_algebra.specs.Reduced.{numerator, denominator, numerator_ratio, denominator_ratio}
use Rattle.drg_algebra.proofs.WholeParts.{two_halves, numerator_minus, zero_value}
use Rattle.drg_fraction.specs.Field.{HasSign}
use Rattle.drg_fraction.specs.Rationals.{rational_operations}
use Rattle.drg_fraction.specs.declared.fraction.Fraction.{Fraction}
use Rattle.drg_fraction.specs.Fraction.{rational_of}
use Rattle.drg_fraction.specs.Work.{all_fit, fits_at}

pub numerator_of : (f : Fraction) → numerator (rational_of f) ≡ f.num.value
unfolding rational_of
numerator_of f = numerator_ratio f.num.value f.den.value f.above f.reduced

pub denominator_of : (f : Fraction) → denominator (rational_of f) ≡ f.den.value
unfolding rational_of
denominator_of f = denominator_ratio f.num.value f.den.value f.above f.reduced

-- the work numbers of the values are those of the parts
pub fits_is : (work : ℤ → ℤ → ℤ → ℤ → List ℤ) (f g : Fraction) → fits_at work (rational_of f) (rational_of g) ≡ all_fit (work f.num.value f.den.value g.num.value g.den.value)
unfolding fits_at
fits_is work f g i = all_fit (work (numerator_of f i) (denominator_of f i) (numerator_of g i) (denominator_of g i))

-- the sign of a rational is that of its numerator
pub sign_is : (q : ℚ) → HasSign rational_operations q (int_cmp (numerator q) (pos 0))
sign_is q = at (int_cmp (numerator q) (pos 0)) (int_ranks (numerator q) (pos 0))
  where
    at : (o : Ordering) → MatchOrdering o (numerator q <ℤ pos 0) (numerator q ≡ pos 0) (pos 0 <ℤ numerator q) → HasSign rational_operations q o
    at Less h = rw (numerator_minus q) (omega (arith, ints))
    at Equal h = zero_value q h
    at Greater h = h

-- half of s and half of s are s + f 0
pub halves_are : (s f : ℤ) → plus (ratio s (pos 2)) (ratio s (pos 2)) ≡ plus (whole s) (times (whole f) (whole (pos 0)))
halves_are s f = two_halves s ∙ ring2 rationals (λ s f. s) (λ s f. s ⊕ f ⊗ none) refl (whole s) (whole f)

pub zero_of : (f : Fraction) → f.num.value ≡ pos 0 → rational_of f ≡ whole (pos 0)
zero_of f e = zero_value (rational_of f) (numerator_of f ∙ e)
