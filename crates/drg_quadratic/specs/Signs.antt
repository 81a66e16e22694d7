-- The sign of a value from those of its parts and of its norm.
use Rattle.std.proofs.Common.{◌≡◌, ℕ, pos, false, refl, ap, sym, subst, inl, inr}
use Rattle.std.specs.Ordering.{ordering_reverse, ordering_then}
use Rattle.std.specs.declared.cmp.Ordering.{Ordering}
use Rattle.std.specs.declared.cmp.Ordering.TheVariants.{Less, Equal, Greater}
use Rattle.drg_algebra.specs.Ring.{◌⊕◌, ◌⊗◌, neg, ring2, ring3}
use Rattle.drg_algebra.specs.Rational.{ℚ, whole, rationals}
use Rattle.drg_algebra.specs.Rational as Rational
use Rattle.drg_algebra.specs.Pairs.{pair_path}
use Rattle.drg_algebra.specs.Order.{IsAbove}
use Rattle.drg_fraction.specs.Field.{HasSign}
use Rattle.drg_fraction.specs.Rationals.{rational_operations}
use Rattle.drg_fraction.proofs.Parts.{sign_is}
use Rattle.drg_quadratic.specs.Values.{IsRoot, IsOver, Value, norm}
use Rattle.drg_quadratic.specs.Operations.{value_operations}
use Rattle.drg_quadratic.specs.Work.{sign_of, are_opposite}
use Rattle.drg_quadratic.specs.Laws.{minus_nil, not_above, norm_is_nil}

abbrev pub RationalSign : ℚ → Ordering → Type 0
RationalSign = HasSign rational_operations

abbrev pub ValueSign : ℕ → Value → Ordering → Type 0
ValueSign root = HasSign (value_operations root)

pub rational_sign : (q : ℚ) (o : Ordering) → o ≡ sign_of q → RationalSign q o
rational_sign q o e = subst (RationalSign q) (sym e) (sign_is q)

twice_minus : (q : ℚ) → IsAbove q → IsAbove (Rational.minus (Rational.minus q))
twice_minus q h = subst IsAbove (ring2 rationals (λ a b. a) (λ a b. neg (neg a)) refl q q) h

-- ---- signs that are not opposite
module _ (root : ℕ) (z : Value) where
  -- the sign of the one part where the other is 0, and the common sign
  pub sign_by_parts : (s t : Ordering) → are_opposite s t ≡ false → RationalSign z.a s → RationalSign z.b t → ValueSign root z (ordering_then s t)
  sign_by_parts Equal Less f e k = inl (inr (minus_nil z.a e), inl k, λ q. not_above _ (ap (λ (x : Value). x.b) q) k)
  sign_by_parts Equal Equal f e k = pair_path _ _ e k
  sign_by_parts Equal Greater f e k = inl (inr e, inl k, λ q. not_above _ (ap (λ (x : Value). x.b) q) k)
  sign_by_parts Less Less f h k = inl (inl h, inl k, λ q. not_above _ (ap (λ (x : Value). x.a) q) h)
  sign_by_parts Less Equal f h e = inl (inl h, inr (minus_nil z.b e), λ q. not_above _ (ap (λ (x : Value). x.a) q) h)
  sign_by_parts Less Greater f h k = absurd (cc f)
  sign_by_parts Greater Less f h k = absurd (cc f)
  sign_by_parts Greater Equal f h e = inl (inl h, inr e, λ q. not_above _ (ap (λ (x : Value). x.a) q) h)
  sign_by_parts Greater Greater f h k = inl (inl h, inl k, λ q. not_above _ (ap (λ (x : Value). x.a) q) h)

-- ---- opposite signs
module _ (root : ℕ) (h : IsRoot root) (z : Value) (o : IsOver root z) where
  -- a > 0 and b < 0: the sign of the norm
  pub sign_by_norm : IsAbove z.a → IsAbove (Rational.minus z.b) → (s : Ordering) → RationalSign (norm root z) s → ValueSign root z s
  sign_by_norm p n Greater k = inr (inl (p, n, k))
  sign_by_norm p n Equal e = norm_is_nil root h z o e
  sign_by_norm p n Less k = inr (inr (
    twice_minus z.a p,
    n,
    subst IsAbove
        (ring3 rationals
        (λ d a b. neg (a ⊗ a ⊕ neg (d ⊗ (b ⊗ b))))
        (λ d a b. d ⊗ (neg b ⊗ neg b) ⊕ neg (neg a ⊗ neg a))
        refl (whole (pos root)) z.a z.b)
        k,
  ))

  -- a < 0 and b > 0: the other sign
  pub sign_by_reverse : IsAbove (Rational.minus z.a) → IsAbove z.b → (s : Ordering) → RationalSign (norm root z) s
      → ValueSign root z (ordering_reverse s)
  sign_by_reverse n p Greater k = inr (inl (
    n,
    twice_minus z.b p,
    subst IsAbove
        (ring3 rationals
        (λ d a b. a ⊗ a ⊕ neg (d ⊗ (b ⊗ b)))
        (λ d a b. neg a ⊗ neg a ⊕ neg (d ⊗ (neg b ⊗ neg b)))
        refl (whole (pos root)) z.a z.b)
        k,
  ))
  sign_by_reverse n p Equal e = norm_is_nil root h z o e
  sign_by_reverse n p Less k = inr (inr (
    n,
    p,
    subst IsAbove
        (ring3 rationals
        (λ d a b. neg (a ⊗ a ⊕ neg (d ⊗ (b ⊗ b))))
        (λ d a b. d ⊗ (b ⊗ b) ⊕ neg (a ⊗ a))
        refl (whole (pos root)) z.a z.b)
        k,
  ))
