-- The text of a rational: its numerator, and behind a slash its denominator where that isn't 1.
use Rattle.std.specs.Prelude.{ℕ, pos, List, ◌∷◌, ◌++◌, if◌then◌else◌}
use Rattle.std.specs.Fmt.{signed_decimal}
use Rattle.std.specs.Ordering.{int_eq}
use Rattle.drg_algebra.specs.Rational.{ℚ}
use Rattle.drg_algebra.specs.Reduced.{numerator, denominator}

abbrev pub rational_text : ℚ → List ℕ
rational_text q =
    if int_eq (denominator q) (pos 1) then signed_decimal (numerator q) else signed_decimal (numerator q) ++ 47 ∷ signed_decimal (denominator q)
