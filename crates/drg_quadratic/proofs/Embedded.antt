-- The values a + b √root in each exact field over the root: sums stay sums, and positive values are positive.
use Rattle.std.proofs.Common.{◌≡◌, ℕ, zero, suc, ◌<◌, pos, refl, ap, ap₂, sym, ◌∙◌, subst, ◌⊎◌, inl, inr, arith}
use Rattle.drg_algebra.specs.Ring.{none, one, ◌⊕◌, ◌⊗◌, neg, from_one, ring2, ring3, ring5}
use Rattle.drg_algebra.specs.Rational.{ℚ, whole}
use Rattle.drg_algebra.specs.Rational as Rational
use Rattle.drg_algebra.specs.Ratio.{ratio}
use Rattle.drg_algebra.specs.Pairs.{pair_path}
use Rattle.drg_algebra.specs.Order.{IsAbove, IsPositive}
use Rattle.drg_algebra.proofs.WholeParts.{two_halves}
use Rattle.drg_fraction.specs.Operations.{Operations}
use Rattle.drg_fraction.specs.Field.{IsExactField}
use Rattle.drg_quadratic.specs.Values.{Value, IsOver, plus}
use Rattle.drg_quadratic.specs.Laws.{not_above, minus_nil}

module _ {V : Type 0} {o : Operations V} {root : ℕ} (laws : IsExactField o root) where
  abbrev pub embed : Value → V
  embed z = o.plus (o.rational z.a) (o.times (o.rational z.b) o.square_root)

  rational_minus : (q : ℚ) → o.rational (Rational.minus q) ≡ o.minus (o.rational q)
  rational_minus q =
      let nothing : o.plus (o.rational q) (o.rational (Rational.minus q)) ≡ o.nil =
      sym (laws.rational_plus q (Rational.minus q)) ∙ ap o.rational (Rational.rationals.plus_minus q) ∙ laws.rational_nil in
      from_one laws.ring _ _ o.unit _ _ nothing (ring2 laws.ring (λ x y. y ⊕ one ⊗ none) (λ x y. neg x ⊕ one ⊗ (x ⊕ y)) refl (o.rational q) (o.rational (Rational.minus q)))

  pub embed_plus : (x y : Value) → embed (plus x y) ≡ o.plus (embed x) (embed y)
  embed_plus x y =
      ap₂ (λ a b. o.plus a (o.times b o.square_root)) (laws.rational_plus x.a y.a) (laws.rational_plus x.b y.b)
      ∙ ring5 laws.ring (λ a b c d w. (a ⊕ c) ⊕ (b ⊕ d) ⊗ w) (λ a b c d w. (a ⊕ b ⊗ w) ⊕ (c ⊕ d ⊗ w)) refl (o.rational x.a) (o.rational x.b) (o.rational y.a) (o.rational y.b) o.square_root

  -- a member is half of its double
  pub one_half : (x y : V) → o.plus x x ≡ o.plus y y → x ≡ y
  one_half x y e = halved x ∙ ap (o.times half) e ∙ sym (halved y)
    where
      half : V
      half = o.rational (ratio (pos 1) (pos 2))

      whole_half : o.plus half half ≡ o.unit
      whole_half = sym (laws.rational_plus (ratio (pos 1) (pos 2)) (ratio (pos 1) (pos 2))) ∙ ap o.rational (two_halves (pos 1)) ∙ laws.rational_unit

      halved : (z : V) → z ≡ o.times half (o.plus z z)
      halved z = from_one laws.ring _ _ (o.minus z) _ _ whole_half (ring2 laws.ring (λ z h. z ⊕ neg z ⊗ one) (λ z h. h ⊗ (z ⊕ z) ⊕ neg z ⊗ (h ⊕ h)) refl z half)

  -- ---- signs
  -- x > y where x + y > 0 and x² > y²
  larger : (x y : V) → o.IsOver x → o.IsOver y → o.IsPositive (o.plus x y) → o.IsPositive (o.plus (o.times x x) (o.minus (o.times y y))) → o.IsPositive (o.plus x (o.minus y))
  larger x y p q h k = go (laws.positive_or_not d over)
    where
      d : V
      d = o.plus x (o.minus y)

      over : o.IsOver d
      over = laws.over_plus x (o.minus y) p (laws.over_minus y q)

      go : o.IsPositive d ⊎ ((d ≡ o.nil) ⊎ o.IsPositive (o.minus d)) → o.IsPositive d
      go (inl m) = m
      go (inr (inl e)) = absurd (laws.nil_is_not_positive (subst o.IsPositive (from_one laws.ring _ _ (o.plus x y) _ _ e (ring2 laws.ring (λ x y. (x ⊗ x ⊕ neg (y ⊗ y)) ⊕ (x ⊕ y) ⊗ none) (λ x y. none ⊕ (x ⊕ y) ⊗ (x ⊕ neg y)) refl x y)) k))
      go (inr (inr m)) =
          let sum = o.plus x y in
          let product = laws.positive_times (o.minus d) sum (laws.over_minus d over) (laws.over_plus x y p q) m h in
          let squares = o.plus (o.times x x) (o.minus (o.times y y)) in
          let squares_over = laws.over_plus (o.times x x) (o.minus (o.times y y)) (laws.over_times x x p p) (laws.over_minus (o.times y y) (laws.over_times y y q q)) in
          let both = laws.positive_plus squares (o.times (o.minus d) sum) squares_over (laws.over_times (o.minus d) sum (laws.over_minus d over) (laws.over_plus x y p q)) k product in
          absurd (laws.nil_is_not_positive (subst o.IsPositive (ring2 laws.ring (λ x y. (x ⊗ x ⊕ neg (y ⊗ y)) ⊕ neg (x ⊕ neg y) ⊗ (x ⊕ y)) (λ x y. none) refl x y) both))

  no_root_below : (b : ℚ) → (root ≡ 0 → b ≡ whole (pos 0)) → IsAbove b → 0 < root
  no_root_below b flat h = go root refl
    where
      go : (n : ℕ) → root ≡ n → 0 < root
      go zero e = absurd (not_above b (flat e) h)
      go (suc n) e = omega arith

  root_over : (b : ℚ) → o.IsOver (o.times (o.rational b) o.square_root)
  root_over b = laws.over_times (o.rational b) o.square_root (laws.over_rational b) laws.over_root

  -- b w > 0 where b > 0
  root_positive : (b : ℚ) → (root ≡ 0 → b ≡ whole (pos 0)) → IsAbove b → o.IsPositive (o.times (o.rational b) o.square_root)
  root_positive b flat h = laws.positive_times (o.rational b) o.square_root (laws.over_rational b) laws.over_root (laws.rational_positive b h) (laws.root_positive (no_root_below b flat h))

  -- (b w)² = root b²
  root_square : (b : ℚ) → o.times (o.times (o.rational b) o.square_root) (o.times (o.rational b) o.square_root) ≡ o.rational (Rational.times (whole (pos root)) (Rational.times b b))
  root_square b =
      ring2 laws.ring (λ b w. (b ⊗ w) ⊗ (b ⊗ w)) (λ b w. (w ⊗ w) ⊗ (b ⊗ b)) refl (o.rational b) o.square_root
      ∙ ap₂ o.times laws.square (sym (laws.rational_times b b)) ∙ sym (laws.rational_times (whole (pos root)) (Rational.times b b))

  difference_of_squares : (a b : ℚ) → IsAbove (Rational.plus (Rational.times a a) (Rational.minus (Rational.times (whole (pos root)) (Rational.times b b))))
      → o.IsPositive (o.plus (o.times (o.rational a) (o.rational a)) (o.minus (o.times (o.times (o.rational b) o.square_root) (o.times (o.rational b) o.square_root))))
  difference_of_squares a b h =
      subst o.IsPositive
      (laws.rational_plus (Rational.times a a) (Rational.minus (Rational.times (whole (pos root)) (Rational.times b b)))
      ∙ ap₂ o.plus (laws.rational_times a a) (rational_minus (Rational.times (whole (pos root)) (Rational.times b b)) ∙ ap o.minus (sym (root_square b))))
      (laws.rational_positive _ h)

  -- neither part is negative and one isn't 0
  by_parts : (z : Value) → IsOver root z → IsAbove z.a ⊎ (z.a ≡ whole (pos 0)) → IsAbove z.b ⊎ (z.b ≡ whole (pos 0)) → ¬ (z ≡ record { a = whole (pos 0); b = whole (pos 0) }) → o.IsPositive (embed z)
  by_parts z flat (inl h) (inl k) some = laws.positive_plus (o.rational z.a) (o.times (o.rational z.b) o.square_root) (laws.over_rational z.a) (root_over z.b) (laws.rational_positive z.a h) (root_positive z.b flat k)
  by_parts z flat (inl h) (inr e) some =
      subst o.IsPositive
      (ring2 laws.ring (λ a w. a) (λ a w. a ⊕ none ⊗ w) refl (o.rational z.a) o.square_root
      ∙ ap (λ b. o.plus (o.rational z.a) (o.times b o.square_root)) (sym laws.rational_nil ∙ ap o.rational (sym e)))
      (laws.rational_positive z.a h)
  by_parts z flat (inr e) (inl k) some =
      subst o.IsPositive
      (ring2 laws.ring (λ x y. x) (λ x y. none ⊕ x) refl (o.times (o.rational z.b) o.square_root) o.nil
      ∙ ap (λ a. o.plus a (o.times (o.rational z.b) o.square_root)) (sym laws.rational_nil ∙ ap o.rational (sym e)))
      (root_positive z.b flat k)
  by_parts z flat (inr e) (inr f) some = absurd (some (pair_path _ _ e f))

  turned_flat : (b : ℚ) → (root ≡ 0 → b ≡ whole (pos 0)) → root ≡ 0 → Rational.minus b ≡ whole (pos 0)
  turned_flat b flat e = minus_nil b (flat e)

  -- a > 0, b < 0 and a² > root b²
  by_rational_part : (z : Value) → IsOver root z → IsAbove z.a → IsAbove (Rational.minus z.b)
      → IsAbove (Rational.plus (Rational.times z.a z.a) (Rational.minus (Rational.times (whole (pos root)) (Rational.times z.b z.b)))) → o.IsPositive (embed z)
  by_rational_part z flat h k squares =
      let b = Rational.minus z.b in
      let y = o.times (o.rational b) o.square_root in
      let sum = laws.positive_plus (o.rational z.a) y (laws.over_rational z.a) (root_over b) (laws.rational_positive z.a h) (root_positive b (turned_flat z.b flat) k) in
      let above = subst IsAbove (ring3 Rational.rationals (λ a b d. a ⊗ a ⊕ neg (d ⊗ (b ⊗ b))) (λ a b d. a ⊗ a ⊕ neg (d ⊗ (neg b ⊗ neg b))) refl z.a z.b (whole (pos root))) squares in
      subst o.IsPositive
      (ap (λ c. o.plus (o.rational z.a) (o.minus (o.times c o.square_root))) (rational_minus z.b)
      ∙ ring3 laws.ring (λ a b w. a ⊕ neg (neg b ⊗ w)) (λ a b w. a ⊕ b ⊗ w) refl (o.rational z.a) (o.rational z.b) o.square_root)
      (larger (o.rational z.a) y (laws.over_rational z.a) (root_over b) sum (difference_of_squares z.a b above))

  -- a < 0, b > 0 and root b² > a²
  by_root_part : (z : Value) → IsOver root z → IsAbove (Rational.minus z.a) → IsAbove z.b
      → IsAbove (Rational.plus (Rational.times (whole (pos root)) (Rational.times z.b z.b)) (Rational.minus (Rational.times z.a z.a))) → o.IsPositive (embed z)
  by_root_part z flat h k squares =
      let a = Rational.minus z.a in
      let y = o.times (o.rational z.b) o.square_root in
      let sum = laws.positive_plus y (o.rational a) (root_over z.b) (laws.over_rational a) (root_positive z.b flat k) (laws.rational_positive a h) in
      let above = subst IsAbove (ring3 Rational.rationals (λ a b d. d ⊗ (b ⊗ b) ⊕ neg (a ⊗ a)) (λ a b d. d ⊗ (b ⊗ b) ⊕ neg (neg a ⊗ neg a)) refl z.a z.b (whole (pos root))) squares in
      subst o.IsPositive
      (ap (λ c. o.plus y (o.minus c)) (rational_minus z.a)
      ∙ ring2 laws.ring (λ a y. y ⊕ neg (neg a)) (λ a y. a ⊕ y) refl (o.rational z.a) y)
      (larger y (o.rational a) (root_over z.b) (laws.over_rational a) sum (squares_of_root z.b a above))
    where
      squares_of_root : (b a : ℚ) → IsAbove (Rational.plus (Rational.times (whole (pos root)) (Rational.times b b)) (Rational.minus (Rational.times a a)))
          → o.IsPositive (o.plus (o.times (o.times (o.rational b) o.square_root) (o.times (o.rational b) o.square_root)) (o.minus (o.times (o.rational a) (o.rational a))))
      squares_of_root b a h =
          subst o.IsPositive
          (laws.rational_plus (Rational.times (whole (pos root)) (Rational.times b b)) (Rational.minus (Rational.times a a))
          ∙ ap₂ o.plus (sym (root_square b)) (rational_minus (Rational.times a a) ∙ ap o.minus (laws.rational_times a a)))
          (laws.rational_positive _ h)

  pub embed_positive : (z : Value) → IsOver root z → IsPositive root z → o.IsPositive (embed z)
  embed_positive z flat (inl h) = by_parts z flat h.0 h.1 h.2
  embed_positive z flat (inr (inl h)) = by_rational_part z flat h.0 h.1 h.2
  embed_positive z flat (inr (inr h)) = by_root_part z flat h.0 h.1 h.2
