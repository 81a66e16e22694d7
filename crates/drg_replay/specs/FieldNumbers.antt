-- Field numbers in a line: a + b √root is written as the numerator and the denominator of a and,
-- where the root isn't 0, those of b.
use Rattle.std.specs.Prelude.{ℕ, zero, suc, ◌+◌, ◌*◌, nat_eq, ℤ, pos, int_lt, Bool, true, false, ◌&&◌, not, if◌then◌else◌, List, length, slice_index_or}
use Rattle.std.specs.Ordering.{int_eq, ordering_then, ordering_reverse}
use Rattle.std.specs.declared.cmp.Ordering.{Ordering}
use Rattle.std.specs.declared.cmp.Ordering.TheVariants.{Less, Greater}
use Rattle.drg_algebra.specs.Rational.{ℚ, whole}
use Rattle.drg_algebra.specs.Ratio.{ratio}
use Rattle.drg_algebra.specs.Reduced.{numerator, denominator, common}
use Rattle.drg_whole.specs.Range.{in_range}
use Rattle.drg_quadratic.specs.Values.{Value, norm}
use Rattle.drg_quadratic.specs.Work.{sign_of}

-- num/den is in lowest terms, with a positive denominator
abbrev pub is_lowest : ℤ → ℤ → Bool
is_lowest num den =
    in_range num && in_range den && int_lt (pos 0) den && nat_eq (common num den) 1

-- the number at a place, and 0 past the end
abbrev pub number_at : List ℤ → ℕ → ℤ
number_at numbers k = slice_index_or numbers k (pos 0)

-- the first m fractions are in lowest terms
unfoldable pub are_lowest : List ℤ → ℕ → Bool
are_lowest numbers zero = true
are_lowest numbers (suc m) =
    are_lowest numbers m && is_lowest (number_at numbers (2 * m)) (number_at numbers (2 * m + 1))

-- how many fractions so many field numbers have
abbrev pub fraction_count : ℕ → ℕ → ℕ
fraction_count zero count = count
fraction_count (suc n) count = 2 * count

-- the numbers are so many field numbers
abbrev pub are_long : ℕ → List ℤ → ℕ → Bool
are_long root numbers count = nat_eq (length numbers) (2 * fraction_count root count)

abbrev pub are_field_numbers : ℕ → List ℤ → ℕ → Bool
are_field_numbers root numbers count =
    are_long root numbers count && are_lowest numbers (fraction_count root count)

-- num/den, and 0 for numbers that no fraction has
abbrev pub fraction_of : ℤ → ℤ → ℚ
fraction_of num den =
    if in_range num && in_range den && not (int_eq den (pos 0)) then ratio num den else whole (pos 0)

-- the fraction at a place
abbrev pub fraction_at : List ℤ → ℕ → ℚ
fraction_at numbers k = fraction_of (number_at numbers (2 * k)) (number_at numbers (2 * k + 1))

-- the field number at a place
abbrev pub value_at : ℕ → List ℤ → ℕ → Value
value_at zero numbers j = record { a = fraction_at numbers j; b = whole (pos 0) }
value_at (suc n) numbers j =
    record { a = fraction_at numbers (2 * j); b = fraction_at numbers (2 * j + 1) }

-- ---- tests of values

-- both stand for one rational
abbrev pub is_same_fraction : ℚ → ℚ → Bool
is_same_fraction x y =
    int_eq (numerator x) (numerator y) && int_eq (denominator x) (denominator y)

abbrev pub is_same_value : Value → Value → Bool
is_same_value x y = is_same_fraction x.a y.a && is_same_fraction x.b y.b

-- the sign of a + b √root by those of a, b and the norm
abbrev pub sign_by : Ordering → Ordering → Ordering → Ordering
sign_by Greater Less norm = norm
sign_by Less Greater norm = ordering_reverse norm
sign_by a b norm = ordering_then a b

abbrev pub sign_at : ℕ → Value → Ordering
sign_at root z = sign_by (sign_of z.a) (sign_of z.b) (sign_of (norm root z))

abbrev pub is_greater : Ordering → Bool
is_greater Greater = true
is_greater _ = false
