-- A quotient is the product with the conjugate, divided by the norm.
use Rattle.std.proofs.Common.{◌≡◌, ℕ, pos, refl}
use Rattle.drg_algebra.specs.Ring.{none, ◌⊗◌, neg, ring6}
use Rattle.drg_algebra.specs.Rational.{ℚ, whole, rationals}
use Rattle.drg_algebra.specs.Rational as Rational
use Rattle.drg_algebra.specs.Pairs.{pair_path, product_a, product_b}
use Rattle.drg_quadratic.specs.Values.{Value, times, conjugate}

-- both parts of a product, scaled, are the product with the scaled parts
pub scaled_product : (root : ℕ) (x y : Value) (r : ℚ)
    → record { a = Rational.times (times root x (conjugate y)).a r; b = Rational.times (times root x (conjugate y)).b r }
    ≡ times root x (record { a = Rational.times y.a r; b = Rational.minus (Rational.times y.b r) })
scaled_product root x y r = pair_path _ _
    (ring6 rationals
    (λ k a b c d r. product_a none (neg k) a b c (neg d) ⊗ r)
    (λ k a b c d r. product_a none (neg k) a b (c ⊗ r) (neg (d ⊗ r)))
    refl (whole (pos root)) x.a x.b y.a y.b r)
    (ring6 rationals
    (λ k a b c d r. product_b none (neg k) a b c (neg d) ⊗ r)
    (λ k a b c d r. product_b none (neg k) a b (c ⊗ r) (neg (d ⊗ r)))
    refl (whole (pos root)) x.a x.b y.a y.b r)
