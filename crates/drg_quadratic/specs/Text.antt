-- The text of a value a + b √root, as -1/2+1/2r5, 1r2 and -1r2.
use Rattle.std.specs.Prelude.{ℕ, pos, List, [], ◌∷◌, ◌++◌, int_lt, if◌then◌else◌}
use Rattle.std.specs.Fmt.{decimal}
use Rattle.std.specs.Ordering.{int_eq}
use Rattle.drg_algebra.specs.Rational.{ℚ, minus}
use Rattle.drg_algebra.specs.Reduced.{numerator}
use Rattle.drg_fraction.specs.Text.{rational_text}
use Rattle.drg_quadratic.specs.Values.{Value}

-- the text of a, left out where a is 0
abbrev pub first_text : ℚ → List ℕ
first_text a = if int_eq (numerator a) (pos 0) then [] else rational_text a

-- `-` where b is negative, else `+`, which is left out where a is
abbrev pub sign_text : Value → List ℕ
sign_text z =
    if int_lt (numerator z.b) (pos 0) then 45 ∷ [] else (if int_eq (numerator z.a) (pos 0) then [] else 43 ∷ [])

-- the rational without its sign
abbrev pub magnitude_of : ℚ → ℚ
magnitude_of q = if int_lt (numerator q) (pos 0) then minus q else q

-- `r` and the root
abbrev pub root_text : ℕ → List ℕ
root_text root = 114 ∷ decimal root

-- the sign and the magnitude of b, and the root
abbrev pub second_text : ℕ → Value → List ℕ
second_text root z = sign_text z ++ rational_text (magnitude_of z.b) ++ root_text root

-- the text of a where b is 0, else both parts
abbrev pub value_text : ℕ → Value → List ℕ
value_text root z =
    if int_eq (numerator z.b) (pos 0) then rational_text z.a else first_text z.a ++ second_text root z
