-- The values a + b √D over an ordered ring are ordered, where a² = D b² only at nil.
pub use Rattle.drg_algebra.proofs.NumberOrder.{integers_ordered, rationals_ordered}
use Rattle.std.proofs.Common.{◌≡◌, ℕ, ◌<◌, refl, ap, sym, ◌∙◌, subst, pos, ◌⊎◌, inl, inr}
use Rattle.std.specs.Prelude.{◌<ℤ◌}
use Rattle.drg_algebra.specs.Ring.{CommutativeRing, Poly, sub, none, one, ◌⊕◌, ◌⊗◌, neg, from_one, ring2, ring3, ring4, ring5}
use Rattle.drg_algebra.specs.Rational.{ℚ, whole, times, minus, rationals}
use Rattle.drg_algebra.specs.RingLaws.{embedded}
use Rattle.drg_algebra.specs.Pairs.{Pair, pair_path, pairs, product_a, product_b, rational_numbers, root_values}
use Rattle.drg_algebra.specs.Root.{IsSquarefree, only_zeros}
use Rattle.drg_algebra.specs.Order.{IsOrdered, root_norm, AboveRoot, PositiveRoot, IsNotNegative, IsAbove, IsPositive}
use Rattle.drg_algebra.specs.OrderLaws.{OrderedKind, wholes, fractions, quadratics, ordered_ring, IsAboveNil, TwoCasesAreThree, SignOfEmbedded}
use Rattle.drg_algebra.proofs.Ordered.{not_both, square_least, above_more, above_square, above_sum, cancel_above, ordered_by}
use Rattle.drg_algebra.proofs.NumberOrder.{sign_of_whole, root_above}

-- a² - k b², and the parts of (a + b √k) (c + e √k), as polynomials
abbrev gap : Poly → Poly → Poly → Poly
gap k a b = a ⊗ a ⊕ neg (k ⊗ (b ⊗ b))

abbrev first_part : Poly → Poly → Poly → Poly → Poly → Poly
first_part k a b c e = product_a none (neg k) a b c e

abbrev second_part : Poly → Poly → Poly → Poly → Poly → Poly
second_part k a b c e = product_b none (neg k) a b c e

module _ (r : CommutativeRing) (Above : r.Of → Type 0) (o : IsOrdered r Above) (d : r.Of) (big : Above d)
    (only : (z : Pair r.Of) → root_norm r d z ≡ r.nil → z ≡ (pairs r r.nil (r.minus d)).nil) where
  abbrev values : CommutativeRing
  values = pairs r r.nil (r.minus d)

  abbrev n : Pair r.Of → r.Of
  n z = root_norm r d z

  abbrev First : Pair r.Of → Type 0
  First z = Above (root_norm r d z) × Above z.a

  abbrev Second : Pair r.Of → Type 0
  Second z = Above (r.minus (root_norm r d z)) × Above z.b

  norm_times : (x y : Pair r.Of) → n (values.times x y) ≡ r.times (n x) (n y)
  norm_times x y = ring5 r.laws
      (λ k a b c e. gap k (first_part k a b c e) (second_part k a b c e))
      (λ k a b c e. gap k a b ⊗ gap k c e)
      refl d x.a x.b y.a y.b

  norm_minus : (x : Pair r.Of) → n (values.minus x) ≡ n x
  norm_minus x = ring3 r.laws (λ k a b. neg a ⊗ neg a ⊕ neg (k ⊗ (neg b ⊗ neg b))) (λ k a b. gap k a b) refl d x.a x.b

  -- (a c)² - (D b e)² in the first case
  gap_first : (x y : Pair r.Of) → First x → First y
      → Above (sub r (r.times (r.times x.a y.a) (r.times x.a y.a)) (r.times (r.times d (r.times x.b y.b)) (r.times d (r.times x.b y.b))))
  gap_first x y h k = subst Above
      (ring5 r.laws
      (λ k a b c e. gap k a b ⊗ (c ⊗ c) ⊕ k ⊗ gap k c e ⊗ (b ⊗ b))
      (λ k a b c e. (a ⊗ c) ⊗ (a ⊗ c) ⊕ neg ((k ⊗ (b ⊗ e)) ⊗ (k ⊗ (b ⊗ e))))
      refl d x.a x.b y.a y.b)
      (above_more r Above o _ (r.times d (n y)) (r.times x.b x.b) (o.times (n x) (r.times y.a y.a) h.0 (above_square r Above o y.a k.1)) (o.times d (n y) big k.0) (square_least r Above o x.b))

  -- (D b e)² - (a c)² in the second case
  gap_second : (x y : Pair r.Of) → Second x → Second y
      → Above (sub r (r.times (r.times d (r.times x.b y.b)) (r.times d (r.times x.b y.b))) (r.times (r.times x.a y.a) (r.times x.a y.a)))
  gap_second x y h k = subst Above
      (ring5 r.laws
      (λ k a b c e. neg (gap k a b) ⊗ (k ⊗ (e ⊗ e)) ⊕ neg (gap k c e) ⊗ (a ⊗ a))
      (λ k a b c e. (k ⊗ (b ⊗ e)) ⊗ (k ⊗ (b ⊗ e)) ⊕ neg ((a ⊗ c) ⊗ (a ⊗ c)))
      refl d x.a x.b y.a y.b)
      (above_more r Above o _ (r.minus (n y)) (r.times x.a x.a) (o.times (r.minus (n x)) (r.times d (r.times y.b y.b)) h.0 (o.times d (r.times y.b y.b) big (above_square r Above o y.b k.1))) k.0 (square_least r Above o x.a))

  -- (a e)² - (b c)² in the mixed case
  gap_mixed : (x y : Pair r.Of) → First x → Second y
      → Above (sub r (r.times (r.times x.a y.b) (r.times x.a y.b)) (r.times (r.times x.b y.a) (r.times x.b y.a)))
  gap_mixed x y h k = cancel_above r Above o d _ big (subst Above
      (ring5 r.laws
      (λ k a b c e. (a ⊗ a) ⊗ neg (gap k c e) ⊕ gap k a b ⊗ (c ⊗ c))
      (λ k a b c e. k ⊗ ((a ⊗ e) ⊗ (a ⊗ e) ⊕ neg ((b ⊗ c) ⊗ (b ⊗ c))))
      refl d x.a x.b y.a y.b)
      (above_more r Above o _ (n x) (r.times y.a y.a) (o.times (r.times x.a x.a) (r.minus (n y)) (above_square r Above o x.a h.1) k.0) h.0 (square_least r Above o y.a)))

  mixed : (x y : Pair r.Of) → First x → Second y → Second (values.times x y)
  mixed x y h k = (
    subst Above
        (ring2 r.laws (λ x y. x ⊗ neg y) (λ x y. neg (x ⊗ y)) refl (n x) (n y) ∙ ap r.minus (sym (norm_times x y)))
        (o.times (n x) (r.minus (n y)) h.0 k.0),
    subst Above
        (ring4 r.laws (λ a b c e. a ⊗ e ⊕ b ⊗ c) (λ a b c e. a ⊗ e ⊕ b ⊗ c ⊕ none ⊗ (b ⊗ e)) refl x.a x.b y.a y.b)
        (above_sum r Above o (r.times x.a y.b) (r.times x.b y.a) (o.times x.a y.b h.1 k.1) (gap_mixed x y h k)),
  )

  times_above : (x y : Pair r.Of) → AboveRoot r Above d x → AboveRoot r Above d y → AboveRoot r Above d (values.times x y)
  times_above x y (inl h) (inl k) = inl (
    subst Above (sym (norm_times x y)) (o.times (n x) (n y) h.0 k.0),
    subst Above
        (ring5 r.laws (λ k a b c e. a ⊗ c ⊕ k ⊗ (b ⊗ e)) (λ k a b c e. a ⊗ c ⊕ neg (neg k ⊗ (b ⊗ e))) refl d x.a x.b y.a y.b)
        (above_sum r Above o (r.times x.a y.a) (r.times d (r.times x.b y.b)) (o.times x.a y.a h.1 k.1) (gap_first x y h k)),
  )
  times_above x y (inl h) (inr k) = inr (mixed x y h k)
  times_above x y (inr h) (inl k) = inr (subst Second (values.laws.times_comm y x) (mixed y x k h))
  times_above x y (inr h) (inr k) = inl (
    subst Above
        (ring2 r.laws (λ x y. neg x ⊗ neg y) (λ x y. x ⊗ y) refl (n x) (n y) ∙ sym (norm_times x y))
        (o.times (r.minus (n x)) (r.minus (n y)) h.0 k.0),
    subst Above
        (ring5 r.laws (λ k a b c e. k ⊗ (b ⊗ e) ⊕ a ⊗ c) (λ k a b c e. a ⊗ c ⊕ neg (neg k ⊗ (b ⊗ e))) refl d x.a x.b y.a y.b)
        (above_sum r Above o (r.times d (r.times x.b y.b)) (r.times x.a y.a) (o.times d (r.times x.b y.b) big (o.times x.b y.b h.1 k.1)) (gap_second x y h k)),
  )

  first_sum : (x y : Pair r.Of) → First x → First y → First (values.plus x y)
  first_sum x y h k =
      let cross : Above (r.plus (r.times x.a y.a) (r.minus (r.times d (r.times x.b y.b)))) =
      above_sum r Above o (r.times x.a y.a) (r.minus (r.times d (r.times x.b y.b))) (o.times x.a y.a h.1 k.1)
      (subst Above
      (ring2 r.laws (λ x y. x ⊗ x ⊕ neg (y ⊗ y)) (λ x y. x ⊗ x ⊕ neg (neg y ⊗ neg y)) refl (r.times x.a y.a) (r.times d (r.times x.b y.b)))
      (gap_first x y h k)) in (
        subst Above
            (ring5 r.laws
            (λ k a b c e. (gap k a b ⊕ gap k c e) ⊕ ((a ⊗ c ⊕ neg (k ⊗ (b ⊗ e))) ⊕ (a ⊗ c ⊕ neg (k ⊗ (b ⊗ e)))))
            (λ k a b c e. (a ⊕ c) ⊗ (a ⊕ c) ⊕ neg (k ⊗ ((b ⊕ e) ⊗ (b ⊕ e))))
            refl d x.a x.b y.a y.b)
            (o.plus _ _ (o.plus (n x) (n y) h.0 k.0) (o.plus _ _ cross cross)),
        o.plus x.a y.a h.1 k.1,
      )

  second_sum : (x y : Pair r.Of) → Second x → Second y → Second (values.plus x y)
  second_sum x y h k =
      let cross : Above (r.plus (r.times d (r.times x.b y.b)) (r.minus (r.times x.a y.a))) =
      above_sum r Above o (r.times d (r.times x.b y.b)) (r.minus (r.times x.a y.a)) (o.times d (r.times x.b y.b) big (o.times x.b y.b h.1 k.1))
      (subst Above
      (ring2 r.laws (λ x y. x ⊗ x ⊕ neg (y ⊗ y)) (λ x y. x ⊗ x ⊕ neg (neg y ⊗ neg y)) refl (r.times d (r.times x.b y.b)) (r.times x.a y.a))
      (gap_second x y h k)) in (
        subst Above
            (ring5 r.laws
            (λ k a b c e. (neg (gap k a b) ⊕ neg (gap k c e)) ⊕ ((k ⊗ (b ⊗ e) ⊕ neg (a ⊗ c)) ⊕ (k ⊗ (b ⊗ e) ⊕ neg (a ⊗ c))))
            (λ k a b c e. neg ((a ⊕ c) ⊗ (a ⊕ c) ⊕ neg (k ⊗ ((b ⊕ e) ⊗ (b ⊕ e)))))
            refl d x.a x.b y.a y.b)
            (o.plus _ _ (o.plus (r.minus (n x)) (r.minus (n y)) h.0 k.0) (o.plus _ _ cross cross)),
        o.plus x.b y.b h.1 k.1,
      )

  root_sign : (z : Pair r.Of) → AboveRoot r Above d z ⊎ ((z ≡ values.nil) ⊎ AboveRoot r Above d (values.minus z))
  root_sign z = go (o.sign (n z)) (o.sign z.a) (o.sign z.b)
    where
      go : Above (root_norm r d z) ⊎ ((root_norm r d z ≡ r.nil) ⊎ Above (r.minus (root_norm r d z)))
          → Above z.a ⊎ ((z.a ≡ r.nil) ⊎ Above (r.minus z.a)) → Above z.b ⊎ ((z.b ≡ r.nil) ⊎ Above (r.minus z.b))
          → AboveRoot r Above d z ⊎ ((z ≡ (pairs r r.nil (r.minus d)).nil) ⊎ AboveRoot r Above d ((pairs r r.nil (r.minus d)).minus z))
      go (inr (inl e)) s t = inr (inl (only z e))
      go (inl h) (inl s) t = inl (inl (h, s))
      go (inl h) (inr (inr s)) t = inr (inr (inl (subst Above (sym (norm_minus z)) h, s)))
      go (inl h) (inr (inl e)) t =
          -- N = - D b² is not above
          absurd (o.apart (subst Above
          (ring3 r.laws
          (λ k a b. gap k a b ⊕ k ⊗ (b ⊗ b))
          (λ k a b. a ⊗ a)
          refl d z.a z.b ∙ ap (λ w. r.times w w) e ∙ ring2 r.laws (λ x y. none ⊗ none) (λ x y. none) refl d d)
          (above_more r Above o (n z) d (r.times z.b z.b) h big (square_least r Above o z.b))))
      go (inr (inr h)) s (inl t) = inl (inr (h, t))
      go (inr (inr h)) s (inr (inr t)) = inr (inr (inr (subst Above (ap r.minus (sym (norm_minus z))) h, t)))
      go (inr (inr h)) s (inr (inl e)) =
          absurd (o.apart (subst Above
          (ring3 r.laws
          (λ k a b. k ⊗ neg (gap k a b) ⊕ k ⊗ (a ⊗ a))
          (λ k a b. k ⊗ (k ⊗ (b ⊗ b)))
          refl d z.a z.b ∙ ap (λ w. r.times d (r.times d (r.times w w))) e ∙ ring2 r.laws (λ k x. k ⊗ (k ⊗ (none ⊗ none))) (λ k x. none) refl d d)
          (above_more r Above o (r.times d (r.minus (n z))) d (r.times z.a z.a) (o.times d (r.minus (n z)) big h) big (square_least r Above o z.a))))

  -- one of each case
  both : (x y : Pair r.Of) → First x → Second y → AboveRoot r Above d (values.plus x y)
  both x y h k = go (root_sign (values.plus x y))
    where
      back : (x y : Pair r.Of)
          → (pairs r r.nil (r.minus d)).plus ((pairs r r.nil (r.minus d)).minus ((pairs r r.nil (r.minus d)).plus x y)) x
          ≡ (pairs r r.nil (r.minus d)).minus y
      back x y = ring2 (pairs r r.nil (r.minus d)).laws (λ x y. neg (x ⊕ y) ⊕ x) (λ x y. neg y) refl x y

      back_other : (x y : Pair r.Of)
          → (pairs r r.nil (r.minus d)).plus ((pairs r r.nil (r.minus d)).minus ((pairs r r.nil (r.minus d)).plus x y)) y
          ≡ (pairs r r.nil (r.minus d)).minus x
      back_other x y = ring2 (pairs r r.nil (r.minus d)).laws (λ x y. neg (x ⊕ y) ⊕ y) (λ x y. neg x) refl x y

      go : AboveRoot r Above d ((pairs r r.nil (r.minus d)).plus x y) ⊎ (((pairs r r.nil (r.minus d)).plus x y ≡ (pairs r r.nil (r.minus d)).nil) ⊎ AboveRoot r Above d ((pairs r r.nil (r.minus d)).minus ((pairs r r.nil (r.minus d)).plus x y)))
          → AboveRoot r Above d ((pairs r r.nil (r.minus d)).plus x y)
      go (inl l) = l
      go (inr (inl e)) =
          let v = pairs r r.nil (r.minus d) in
          let q : y ≡ v.minus x = ring2 v.laws
          (λ x y. y)
          (λ x y. (x ⊕ y) ⊕ neg x)
          refl x y ∙ ap (λ w. v.plus w (v.minus x)) e ∙ ring2 v.laws (λ x y. none ⊕ neg x) (λ x y. neg x) refl x y in
          absurd (not_both r Above o (root_norm r d x) h.0 (subst Above (ap (λ w. r.minus (root_norm r d w)) q ∙ ap r.minus (norm_minus x)) k.0))
      go (inr (inr (inl l))) = absurd (not_both r Above o (root_norm r d y) (subst Above (norm_minus y) (subst First (back x y) (first_sum _ x l h)).0) k.0)
      go (inr (inr (inr l))) = absurd (not_both r Above o (root_norm r d x) h.0 (subst Above (ap r.minus (norm_minus x)) (subst Second (back_other x y) (second_sum _ y l k)).0))

  plus_above : (x y : Pair r.Of) → AboveRoot r Above d x → AboveRoot r Above d y → AboveRoot r Above d (values.plus x y)
  plus_above x y (inl h) (inl k) = inl (first_sum x y h k)
  plus_above x y (inr h) (inr k) = inr (second_sum x y h k)
  plus_above x y (inl h) (inr k) = both x y h k
  plus_above x y (inr h) (inl k) = subst (AboveRoot r Above d) (values.laws.plus_comm y x) (both y x k h)

  pub roots_ordered : IsOrdered (pairs r r.nil (r.minus d)) (AboveRoot r Above d)
  roots_ordered = record { plus = plus_above; times = times_above; sign = root_sign; apart = none_above }
    where
      flat : root_norm r d (pairs r r.nil (r.minus d)).nil ≡ r.nil
      flat = ring2 r.laws (λ k x. none ⊗ none ⊕ neg (k ⊗ (none ⊗ none))) (λ k x. none) refl d d

      none_above : ¬ (AboveRoot r Above d (pairs r r.nil (r.minus d)).nil)
      none_above (inl h) = o.apart h.1
      none_above (inr h) = o.apart h.1

  -- ---- two cases are three
  two_three : (z : Pair r.Of) → AboveRoot r Above d z → PositiveRoot r Above d z
  two_three z (inl h) = go (o.sign z.b)
    where
      go : Above z.b ⊎ ((z.b ≡ r.nil) ⊎ Above (r.minus z.b)) → PositiveRoot r Above d z
      go (inl t) = inl (inl h.1, inl t, λ e. o.apart (subst Above (ap (λ (x : Pair r.Of). x.a) e) h.1))
      go (inr (inl t)) = inl (inl h.1, inr t, λ e. o.apart (subst Above (ap (λ (x : Pair r.Of). x.a) e) h.1))
      go (inr (inr t)) = inr (inl (h.1, t, h.0))
  two_three z (inr h) = go (o.sign z.a)
    where
      go : Above z.a ⊎ ((z.a ≡ r.nil) ⊎ Above (r.minus z.a)) → PositiveRoot r Above d z
      go (inl t) = inl (inl t, inl h.1, λ e. o.apart (subst Above (ap (λ (x : Pair r.Of). x.b) e) h.1))
      go (inr (inl t)) = inl (inr t, inl h.1, λ e. o.apart (subst Above (ap (λ (x : Pair r.Of). x.b) e) h.1))
      go (inr (inr t)) =
          inr (inr (
            t,
            h.1,
            subst Above
                (ring3 r.laws (λ k a b. neg (gap k a b)) (λ k a b. k ⊗ (b ⊗ b) ⊕ neg (a ⊗ a)) refl d z.a z.b) h.0,
          ))

  three_two : (z : Pair r.Of) → PositiveRoot r Above d z → AboveRoot r Above d z
  three_two z (inr (inl h)) = inl (h.2, h.0)
  three_two z (inr (inr h)) = inr (
    subst Above
        (ring3 r.laws (λ k a b. k ⊗ (b ⊗ b) ⊕ neg (a ⊗ a)) (λ k a b. neg (gap k a b)) refl d z.a z.b)
        h.2,
    h.1,
  )
  three_two z (inl h) = go (root_sign z)
    where
      not_less : (x : r.Of) → Above x ⊎ (x ≡ r.nil) → Above (r.minus x) → ⊥
      not_less x (inl k) l = not_both r Above o x k l
      not_less x (inr e) l = o.apart (subst Above (ap r.minus e ∙ ring2 r.laws (λ x y. neg none) (λ x y. none) refl x x) l)

      go : AboveRoot r Above d z ⊎ ((z ≡ (pairs r r.nil (r.minus d)).nil) ⊎ AboveRoot r Above d ((pairs r r.nil (r.minus d)).minus z))
          → AboveRoot r Above d z
      go (inl l) = l
      go (inr (inl e)) = absurd (h.2 e)
      go (inr (inr (inl l))) = absurd (not_less z.a h.0 l.1)
      go (inr (inr (inr l))) = absurd (not_less z.b h.1 l.1)

  pub cases_agree : (z : Pair r.Of) → (AboveRoot r Above d z → PositiveRoot r Above d z) × (PositiveRoot r Above d z → AboveRoot r Above d z)
  cases_agree z = (two_three z, three_two z)

-- ---- rational parts
only_root : (root : ℕ) → IsSquarefree root → 1 < root → (z : Pair ℚ) → root_norm rational_numbers (whole (pos root)) z
    ≡ whole (pos 0) → z ≡ (root_values root).nil
only_root root free big z e =
    let q : times z.a z.a ≡ times (whole (pos root)) (times z.b z.b) =
    from_one rationals _ _ (whole (pos 1)) _ _ e
    (ring3 rationals (λ a b r. a ⊗ a ⊕ one ⊗ none) (λ a b r. r ⊗ (b ⊗ b) ⊕ one ⊗ (a ⊗ a ⊕ neg (r ⊗ (b ⊗ b)))) refl z.a z.b (whole (pos root))) in
    let p = only_zeros root free big z.a z.b q in
    pair_path _ _ p.0 p.1

pub two_cases_are_three : TwoCasesAreThree
two_cases_are_three root free big z =
    let agree = cases_agree rational_numbers IsAbove rationals_ordered (whole (pos root)) (root_above root big) (only_root root free big) z in (agree.1, agree.0)

pub values_ordered : (root : ℕ) → IsSquarefree root → 1 < root → IsOrdered (root_values root) (IsPositive root)
values_ordered root free big =
    ordered_by (root_values root) (AboveRoot rational_numbers IsAbove (whole (pos root)))
    (roots_ordered rational_numbers IsAbove rationals_ordered (whole (pos root)) (root_above root big) (only_root root free big))
    (IsPositive root) (two_cases_are_three root free big)

pub ordered : (k : OrderedKind) → IsOrdered (ordered_ring k) (IsAboveNil k)
ordered wholes = integers_ordered
ordered fractions = rationals_ordered
ordered (quadratics root free big) = values_ordered root free big

-- ---- whole numbers among the values
pub sign_of_embedded : SignOfEmbedded
sign_of_embedded root n = (there, back)
  where
    flat : IsAbove (minus (whole (pos 0))) → ⊥
    flat h = rationals_ordered.apart (subst IsAbove (ring2 rationals (λ x y. neg none) (λ x y. none) refl (whole (pos 0)) (whole (pos 0))) h)

    some : IsNotNegative rational_numbers IsAbove (whole n) → (¬ (embedded n ≡ (root_values root).nil)) → IsAbove (whole n)
    some (inl h) ne = h
    some (inr e) ne = absurd (ne (pair_path _ _ e refl))

    there : IsPositive root (embedded n) → pos 0 <ℤ n
    there (inl h) = (sign_of_whole n).0 (some h.0 h.2)
    there (inr (inl h)) = absurd (flat h.1)
    there (inr (inr h)) = absurd (rationals_ordered.apart h.1)

    back : pos 0 <ℤ n → IsPositive root (embedded n)
    back h = (let k = (sign_of_whole n).1 h in inl (inl k, inr refl, λ e. rationals_ordered.apart (subst IsAbove (ap (λ (z : Pair ℚ). z.a) e) k)))
