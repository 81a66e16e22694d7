-- The text of a rational that isn't whole, in two parts.
use Rattle.std.proofs.lemmas.Int.{ints}
use Rattle.std.proofs.Common.{◌≡◌, ℤ, arith, false, [], ◌∷◌, ◌++◌, pos, append_assoc}
use Rattle.std.specs.Fmt.{signed_decimal}
use Rattle.std.specs.Ordering.{int_eq}
use Rattle.drg_algebra.specs.Rational.{ℚ}
use Rattle.drg_algebra.specs.Reduced.{numerator, denominator}
use Rattle.drg_fraction.specs.Text.{rational_text}

pub text_in_two : (q : ℚ) → int_eq (denominator q) (pos 1) ≡ false → rational_text q ≡ (signed_decimal (numerator q) ++ 47 ∷ []) ++ signed_decimal (denominator q)
text_in_two q e = rw (e, append_assoc (signed_decimal (numerator q)) (47 ∷ []) (signed_decimal (denominator q)))

pub not_equal : (x y : ℤ) → ¬ (x ≡ y) → int_eq x y ≡ false
not_equal x y h = grind (arith, ints)
