-- Whether the work numbers of an operation on values are in range: those of the operations on fractions that it takes.
use Rattle.std.specs.Prelude.{ℕ, pos, Bool, true, false, ◌&&◌, if◌then◌else◌}
use Rattle.std.specs.Ordering.{int_cmp}
use Rattle.std.specs.declared.cmp.Ordering.{Ordering}
use Rattle.std.specs.declared.cmp.Ordering.TheVariants.{Less, Greater}
use Rattle.drg_algebra.specs.Rational.{ℚ, whole}
use Rattle.drg_algebra.specs.Rational as Rational
use Rattle.drg_algebra.specs.Reduced.{numerator}
use Rattle.drg_fraction.specs.Work as Parts
use Rattle.drg_quadratic.specs.Values.{Value, times, conjugate, norm}

-- both parts
abbrev pub sum_fits : Value → Value → Bool
sum_fits x y = Parts.sum_fits x.a y.a && Parts.sum_fits x.b y.b

abbrev pub difference_fits : Value → Value → Bool
difference_fits x y = Parts.difference_fits x.a y.a && Parts.difference_fits x.b y.b

-- a c, b e, root (b e), a c + root (b e), a e, b c, and a e + b c
abbrev pub product_fits : ℕ → Value → Value → Bool
product_fits root x y =
    let ac = Rational.times x.a y.a in
    let be = Rational.times x.b y.b in
    let ae = Rational.times x.a y.b in
    let bc = Rational.times x.b y.a in
    Parts.product_fits x.a y.a
    && Parts.product_fits x.b y.b
    && Parts.product_fits (whole (pos root)) be
    && Parts.sum_fits ac (Rational.times (whole (pos root)) be)
    && Parts.product_fits x.a y.b
    && Parts.product_fits x.b y.a
    && Parts.sum_fits ae bc

-- a², b², root b², and a² - root b²
abbrev pub norm_fits : ℕ → Value → Bool
norm_fits root z =
    let aa = Rational.times z.a z.a in
    let bb = Rational.times z.b z.b in
    Parts.product_fits z.a z.a
    && Parts.product_fits z.b z.b
    && Parts.product_fits (whole (pos root)) bb
    && Parts.difference_fits aa (Rational.times (whole (pos root)) bb)

-- the norm of the divisor, the product with its conjugate, and both parts of that by the norm
abbrev pub quotient_fits : ℕ → Value → Value → Bool
quotient_fits root x y =
    let product = times root x (conjugate y) in
    norm_fits root y
    && product_fits root x (conjugate y)
    && Parts.quotient_fits product.a (norm root y)
    && Parts.quotient_fits product.b (norm root y)

-- how a rational stands to 0
abbrev pub sign_of : ℚ → Ordering
sign_of q = int_cmp (numerator q) (pos 0)

-- one is negative and the other positive
abbrev pub are_opposite : Ordering → Ordering → Bool
are_opposite Less Greater = true
are_opposite Greater Less = true
are_opposite _ _ = false

-- none where one part is 0 or the signs agree, else those of the norm
abbrev pub sign_fits : ℕ → Value → Bool
sign_fits root z = if are_opposite (sign_of z.a) (sign_of z.b) then norm_fits root z else true
