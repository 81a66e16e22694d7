-- Eigenvalues (s + f √root) / 2 with whole s and f, and their order: by root, and over one root by value.
use Rattle.std.specs.Prelude.{◌≡◌, pos, ◌*◌, ◌<◌, ◌-ℤ◌, unsigned_abs}
use Rattle.std.proofs.Common.{◌⊎◌}
use Rattle.std.specs.Ordering.{MatchOrdering, nat_cmp, int_cmp, ordering_then, ordering_reverse}
use Rattle.std.specs.declared.cmp.Ordering.{Ordering}
use Rattle.std.specs.declared.cmp.Ordering.TheVariants.{Less, Greater}
use Rattle.drg_algebra.specs.Rational.{whole}
use Rattle.drg_algebra.specs.Ratio.{ratio}
use Rattle.drg_algebra.specs.Order.{IsPositive}
use Rattle.drg_quadratic.specs.Values.{Value, plus, minus}
use Rattle.drg_quadratic.specs.declared.eigenvalue.Eigenvalue.{Eigenvalue}

-- the value (s + f √root) / 2
abbrev pub eigenvalue_of : Eigenvalue → Value
eigenvalue_of x = record { a = ratio x.s (pos 2); b = ratio x.f (pos 2) }

-- the difference of two values over one root
abbrev pub difference : Eigenvalue → Eigenvalue → Value
difference x y = plus (eigenvalue_of x) (minus (eigenvalue_of y))

-- x has the smaller root, or over one root the smaller value
abbrev pub IsBelow : Eigenvalue → Eigenvalue → Type 0
IsBelow x y = (x.root < y.root) ⊎ ((x.root ≡ y.root) × IsPositive y.root (difference y x))

-- ---- the order as it is computed
-- with A and B the differences of the s and of the f: A² against root B²
abbrev pub squares_cmp : Eigenvalue → Eigenvalue → Ordering
squares_cmp x y =
    let a = unsigned_abs (x.s -ℤ y.s) in
    let b = unsigned_abs (x.f -ℤ y.f) in
    nat_cmp (a * a) (x.root * (b * b))

-- how A + B √root stands to 0: where A and B have opposite signs, as the larger one of A² and root B² does
abbrev pub sign_by_squares : Ordering → Ordering → Ordering → Ordering
sign_by_squares Greater Less squares = squares
sign_by_squares Less Greater squares = ordering_reverse squares
sign_by_squares first second squares = ordering_then first second

abbrev pub value_cmp : Eigenvalue → Eigenvalue → Ordering
value_cmp x y = sign_by_squares (int_cmp x.s y.s) (int_cmp x.f y.f) (squares_cmp x y)

abbrev pub eigenvalue_cmp : Eigenvalue → Eigenvalue → Ordering
eigenvalue_cmp x y = ordering_then (nat_cmp x.root y.root) (value_cmp x y)

-- ---- laws
-- `Less` says that x is below y, `Greater` that y is below x, and `Equal` that they are one
abbrev pub OrderOfEigenvalues : Type 0
OrderOfEigenvalues = (x y : Eigenvalue) → MatchOrdering (eigenvalue_cmp x y) (IsBelow x y) (x ≡ y) (IsBelow y x)

-- over one root, different s and f are different values
abbrev pub OneEigenvalue : Type 0
OneEigenvalue = (x y : Eigenvalue) → x.root ≡ y.root → eigenvalue_of x ≡ eigenvalue_of y → x ≡ y

-- twice the value is s + f √root
abbrev pub TwiceEigenvalue : Type 0
TwiceEigenvalue = (x : Eigenvalue) → plus (eigenvalue_of x) (eigenvalue_of x) ≡ record { a = whole x.s; b = whole x.f }
