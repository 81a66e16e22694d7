-- The extension of a ring by a root: the root, conjugates, norms and traces.
use Rattle.std.proofs.Common.{refl}
use Rattle.drg_algebra.specs.Ring.{CommutativeRing, Poly, none, one, ◌⊕◌, ◌⊗◌, neg, ring2, ring3, ring4, ring6}
use Rattle.drg_algebra.specs.Pairs.{pair_path, pair_laws, product_a, product_b}
use Rattle.drg_algebra.specs.RingLaws.{PairLaws}
use Rattle.drg_algebra.proofs.Maps.{constant_map}

-- conjugate, norm, trace and discriminant, as polynomials
abbrev conjugate_a : Poly → Poly → Poly → Poly
conjugate_a s a b = a ⊕ s ⊗ b

abbrev norm_of : Poly → Poly → Poly → Poly → Poly
norm_of s t a b = (a ⊗ a ⊕ s ⊗ (a ⊗ b)) ⊕ t ⊗ (b ⊗ b)

abbrev trace_of : Poly → Poly → Poly → Poly
trace_of s a b = (a ⊕ a) ⊕ s ⊗ b

abbrev twice_of : Poly → Poly
twice_of x = x ⊕ x

abbrev gap : Poly → Poly → Poly
gap s t = s ⊗ s ⊕ neg (twice_of (twice_of t))

pub pair_laws_hold : (r : CommutativeRing) (s t : r.Of) → PairLaws r s t
pair_laws_hold r s t = record {
  ring = pair_laws r s t;
  root = pair_path _ _
      (ring2 r.laws (λ s t. product_a s t none one none one) (λ s t. product_a s t s none none one ⊕ neg t) refl s t)
      (ring2 r.laws (λ s t. product_b s t none one none one) (λ s t. product_b s t s none none one ⊕ neg none) refl s t);
  split = λ x. pair_path _ _
      (ring4 r.laws (λ s t a b. a) (λ s t a b. a ⊕ product_a s t b none none one) refl s t x.a x.b)
      (ring4 r.laws (λ s t a b. b) (λ s t a b. none ⊕ product_b s t b none none one) refl s t x.a x.b);
  constants = constant_map r s t;
  conjugate_plus = λ x y. pair_path _ _
      (ring6 r.laws (λ s t a b c d. conjugate_a s (a ⊕ c) (b ⊕ d)) (λ s t a b c d. conjugate_a s a b ⊕ conjugate_a s c d) refl s t x.a x.b y.a y.b)
      (ring6 r.laws (λ s t a b c d. neg (b ⊕ d)) (λ s t a b c d. neg b ⊕ neg d) refl s t x.a x.b y.a y.b);
  conjugate_times = λ x y. pair_path _ _
      (ring6 r.laws
      (λ s t a b c d. conjugate_a s (product_a s t a b c d) (product_b s t a b c d))
      (λ s t a b c d. product_a s t (conjugate_a s a b) (neg b) (conjugate_a s c d) (neg d))
      refl s t x.a x.b y.a y.b)
      (ring6 r.laws
      (λ s t a b c d. neg (product_b s t a b c d))
      (λ s t a b c d. product_b s t (conjugate_a s a b) (neg b) (conjugate_a s c d) (neg d))
      refl s t x.a x.b y.a y.b);
  conjugate_constant = λ x. pair_path _ _
      (ring2 r.laws (λ s x. conjugate_a s x none) (λ s x. x) refl s x)
      (ring2 r.laws (λ s x. neg none) (λ s x. none) refl s x);
  conjugate_twice = λ x. pair_path _ _
      (ring3 r.laws (λ s a b. conjugate_a s (conjugate_a s a b) (neg b)) (λ s a b. a) refl s x.a x.b)
      (ring2 r.laws (λ a b. neg (neg b)) (λ a b. b) refl x.a x.b);
  times_conjugate = λ x. pair_path _ _
      (ring4 r.laws (λ s t a b. product_a s t a b (conjugate_a s a b) (neg b)) norm_of refl s t x.a x.b)
      (ring4 r.laws (λ s t a b. product_b s t a b (conjugate_a s a b) (neg b)) (λ s t a b. none) refl s t x.a x.b);
  plus_conjugate = λ x. pair_path _ _
      (ring3 r.laws (λ s a b. a ⊕ conjugate_a s a b) trace_of refl s x.a x.b)
      (r.laws.plus_minus x.b);
  norm_times = λ x y. ring6 r.laws
      (λ s t a b c d. norm_of s t (product_a s t a b c d) (product_b s t a b c d))
      (λ s t a b c d. norm_of s t a b ⊗ norm_of s t c d)
      refl s t x.a x.b y.a y.b;
  trace_plus = λ x y. ring6 r.laws
      (λ s t a b c d. trace_of s (a ⊕ c) (b ⊕ d))
      (λ s t a b c d. trace_of s a b ⊕ trace_of s c d)
      refl s t x.a x.b y.a y.b;
  norm_squares = λ x. ring4 r.laws
      (λ s t a b. twice_of (twice_of (norm_of s t a b)))
      (λ s t a b. trace_of s a b ⊗ trace_of s a b ⊕ neg (gap s t ⊗ (b ⊗ b)))
      refl s t x.a x.b;
  trace_squares = λ x. ring4 r.laws
      (λ s t a b. twice_of (trace_of s (product_a s t a b a b) (product_b s t a b a b)))
      (λ s t a b. trace_of s a b ⊗ trace_of s a b ⊕ gap s t ⊗ (b ⊗ b))
      refl s t x.a x.b;
}
