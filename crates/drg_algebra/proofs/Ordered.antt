-- What holds in each ordered ring: squares, products that are nil, sums, and the strict linear order.
use Rattle.std.proofs.Common.{◌≡◌, ℕ, zero, suc, ◌<◌, ap, sym, ◌∙◌, subst, refl, arith, ◌⊎◌, inl, inr}
use Rattle.drg_algebra.specs.Ring.{CommutativeRing, sub, none, one, ◌⊕◌, ◌⊗◌, neg, from_one, ring2, ring3}
use Rattle.drg_algebra.specs.Tables.{total}
use Rattle.drg_algebra.specs.Order.{IsOrdered, IsNotNegative, Less, IsLinearOrder}
use Rattle.drg_algebra.specs.OrderLaws.{OrderedRingLaws}

module _ (r : CommutativeRing) (Above : r.Of → Type 0) (o : IsOrdered r Above) where
  pub not_both : (x : r.Of) → Above x → Above (r.minus x) → ⊥
  not_both x h k = o.apart (subst Above (r.laws.plus_minus x) (o.plus x (r.minus x) h k))

  pub square_least : (x : r.Of) → IsNotNegative r Above (r.times x x)
  square_least x = go (o.sign x)
    where
      go : Above x ⊎ ((x ≡ r.nil) ⊎ Above (r.minus x)) → Above (r.times x x) ⊎ (r.times x x ≡ r.nil)
      go (inl h) = inl (o.times x x h h)
      go (inr (inl e)) = inr (ap (λ z. r.times z z) e ∙ ring2 r.laws (λ x y. none ⊗ none) (λ x y. none) refl x x)
      go (inr (inr h)) = inl (subst Above (ring2 r.laws (λ x y. neg x ⊗ neg x) (λ x y. x ⊗ x) refl x x) (o.times (r.minus x) (r.minus x) h h))

  -- an above one plus a product of an above one and a least one
  pub above_more : (x y z : r.Of) → Above x → Above y → IsNotNegative r Above z → Above (r.plus x (r.times y z))
  above_more x y z h k (inl l) = o.plus x (r.times y z) h (o.times y z k l)
  above_more x y z h k (inr e) = subst Above (ring2 r.laws (λ x y. x) (λ x y. x ⊕ y ⊗ none) refl x y ∙ ap (λ w. r.plus x (r.times y w)) (sym e)) h

  pub above_square : (x : r.Of) → Above x → Above (r.times x x)
  above_square x h = o.times x x h h

  -- 0 < x and y² < x² give 0 < x + y
  pub above_sum : (x y : r.Of) → Above x → Above (sub r (r.times x x) (r.times y y)) → Above (r.plus x y)
  above_sum x y h k = go (o.sign (r.plus x y))
    where
      go : Above (r.plus x y) ⊎ ((r.plus x y ≡ r.nil) ⊎ Above (r.minus (r.plus x y))) → Above (r.plus x y)
      go (inl l) = l
      go (inr (inl e)) =
          absurd (o.apart (subst Above
          (ring2 r.laws (λ x y. x ⊗ x ⊕ neg (y ⊗ y)) (λ x y. (x ⊕ y) ⊗ (x ⊕ neg y)) refl x y
          ∙ ap (λ w. r.times w (sub r x y)) e
          ∙ ring2 r.laws (λ x y. none ⊗ (x ⊕ neg y)) (λ x y. none) refl x y) k))
      go (inr (inr l)) =
          let far : Above (r.plus (r.plus x x) (r.minus (r.plus x y))) = o.plus (r.plus x x) (r.minus (r.plus x y)) (o.plus x x h h) l in
          absurd (not_both (sub r (r.times x x) (r.times y y)) k
          (subst Above (ring2 r.laws (λ x y. ((x ⊕ x) ⊕ neg (x ⊕ y)) ⊗ neg (x ⊕ y)) (λ x y. neg (x ⊗ x ⊕ neg (y ⊗ y))) refl x y) (o.times _ _ far l)))

  pub cancel_above : (d x : r.Of) → Above d → Above (r.times d x) → Above x
  cancel_above d x h k = go (o.sign x)
    where
      go : Above x ⊎ ((x ≡ r.nil) ⊎ Above (r.minus x)) → Above x
      go (inl l) = l
      go (inr (inl e)) = absurd (o.apart (subst Above (ap (r.times d) e ∙ ring2 r.laws (λ x y. x ⊗ none) (λ x y. none) refl d d) k))
      go (inr (inr l)) = absurd (not_both (r.times d x) k (subst Above
          (ring2 r.laws (λ d x. d ⊗ neg x) (λ d x. neg (d ⊗ x)) refl d x)
          (o.times d (r.minus x) h l)))

  not_negative_plus : (x y : r.Of) → IsNotNegative r Above x → IsNotNegative r Above y → IsNotNegative r Above (r.plus x y)
  not_negative_plus x y (inl h) (inl k) = inl (o.plus x y h k)
  not_negative_plus x y h (inr e) = subst (IsNotNegative r Above) (sym (r.laws.plus_nil x) ∙ ap (r.plus x) (sym e)) h
  not_negative_plus x y (inr e) k = subst (IsNotNegative r Above) (sym (r.laws.plus_nil y) ∙ r.laws.plus_comm y r.nil ∙ ap (λ z. r.plus z y) (sym e)) k

  not_negative_times : (x y : r.Of) → IsNotNegative r Above x → IsNotNegative r Above y → IsNotNegative r Above (r.times x y)
  not_negative_times x y (inl h) (inl k) = inl (o.times x y h k)
  not_negative_times x y h (inr e) = inr (ap (r.times x) e ∙ ring2 r.laws (λ x y. x ⊗ none) (λ x y. none) refl x y)
  not_negative_times x y (inr e) k = inr (ap (λ z. r.times z y) e ∙ ring2 r.laws (λ x y. none ⊗ y) (λ x y. none) refl x y)

  above_plus : (x y : r.Of) → Above x → IsNotNegative r Above y → Above (r.plus x y)
  above_plus x y h (inl k) = o.plus x y h k
  above_plus x y h (inr e) = subst Above (sym (r.laws.plus_nil x) ∙ ap (r.plus x) (sym e)) h

  not_negative_sum : (n : ℕ) (f : ℕ → r.Of) → ((j : ℕ) → j < n → IsNotNegative r Above (f j)) → IsNotNegative r Above (total r.nil r.plus n f)
  not_negative_sum zero f h = inr refl
  not_negative_sum (suc n) f h =
      not_negative_plus (f 0) (total r.nil r.plus n (λ i. f (suc i))) (h 0 (omega arith)) (not_negative_sum n (λ i. f (suc i)) (λ j k. h (suc j) (omega arith)))

  square_above : (x : r.Of) → ¬ (x ≡ r.nil) → Above (r.times x x)
  square_above x ne = go (o.sign x)
    where
      go : Above x ⊎ ((x ≡ r.nil) ⊎ Above (r.minus x)) → Above (r.times x x)
      go (inl h) = o.times x x h h
      go (inr (inl e)) = absurd (ne e)
      go (inr (inr h)) = subst Above (ring2 r.laws (λ x y. neg x ⊗ neg x) (λ x y. x ⊗ x) refl x x) (o.times (r.minus x) (r.minus x) h h)

  no_divisors : (x y : r.Of) → r.times x y ≡ r.nil → (x ≡ r.nil) ⊎ (y ≡ r.nil)
  no_divisors x y e = go (o.sign x) (o.sign y)
    where
      above_nil : (z : r.Of) → Above z → z ≡ r.nil → ⊥
      above_nil z h q = o.apart (subst Above q h)

      minus_nil : r.minus (r.times x y) ≡ r.nil
      minus_nil = ap r.minus e ∙ ring2 r.laws (λ x y. neg none) (λ x y. none) refl x x

      go : Above x ⊎ ((x ≡ r.nil) ⊎ Above (r.minus x)) → Above y ⊎ ((y ≡ r.nil) ⊎ Above (r.minus y)) → (x ≡ r.nil) ⊎ (y ≡ r.nil)
      go (inr (inl h)) k = inl h
      go h (inr (inl k)) = inr k
      go (inl h) (inl k) = absurd (above_nil _ (o.times x y h k) e)
      go (inl h) (inr (inr k)) =
          absurd (above_nil _ (o.times x (r.minus y) h k) (ring2 r.laws (λ x y. x ⊗ neg y) (λ x y. neg (x ⊗ y)) refl x y ∙ minus_nil))
      go (inr (inr h)) (inl k) =
          absurd (above_nil _ (o.times (r.minus x) y h k) (ring2 r.laws (λ x y. neg x ⊗ y) (λ x y. neg (x ⊗ y)) refl x y ∙ minus_nil))
      go (inr (inr h)) (inr (inr k)) =
          absurd (above_nil _ (o.times (r.minus x) (r.minus y) h k) (ring2 r.laws (λ x y. neg x ⊗ neg y) (λ x y. x ⊗ y) refl x y ∙ e))

  double_nil : (z : r.Of) → r.plus z z ≡ r.nil → z ≡ r.nil
  double_nil z e = go (o.sign z)
    where
      go : Above z ⊎ ((z ≡ r.nil) ⊎ Above (r.minus z)) → z ≡ r.nil
      go (inl h) = absurd (o.apart (subst Above e (o.plus z z h h)))
      go (inr (inl h)) = h
      go (inr (inr h)) = absurd (o.apart (subst Above
          (ring2 r.laws (λ z y. neg z ⊕ neg z) (λ z y. neg (z ⊕ z)) refl z z ∙ ap r.minus e ∙ ring2 r.laws (λ z y. neg none) (λ z y. none) refl z z)
          (o.plus (r.minus z) (r.minus z) h h)))

  one_half : (x y : r.Of) → r.plus x x ≡ r.plus y y → x ≡ y
  one_half x y e =
      let q : sub r x y ≡ r.nil = double_nil (sub r x y)
      (from_one r.laws _ _ r.unit _ _ e (ring2 r.laws (λ x y. ((x ⊕ neg y) ⊕ (x ⊕ neg y)) ⊕ one ⊗ (y ⊕ y)) (λ x y. none ⊕ one ⊗ (x ⊕ x)) refl x y)) in
      from_one r.laws _ _ r.unit _ _ q (ring2 r.laws (λ x y. x ⊕ one ⊗ none) (λ x y. y ⊕ one ⊗ (x ⊕ neg y)) refl x y)

  pub ordered_ring_laws_hold : OrderedRingLaws r Above
  ordered_ring_laws_hold = record {
    one_sign = not_both;
    square = square_above;
    weighted_square = λ k x h. not_negative_times k (r.times x x) h (square_least x);
    halves = one_half;
    domain = no_divisors;
    sum = λ n f h k. above_plus (f 0) (total r.nil r.plus n (λ i. f (suc i))) h (not_negative_sum n (λ i. f (suc i)) k);
  }

  pub linear_order_holds : IsLinearOrder r (Less r Above)
  linear_order_holds = record {
    irreflexive = λ x h. o.apart (subst Above (r.laws.plus_minus x) h);
    transitive = λ x y z h k. subst Above
        (ring3 r.laws (λ x y z. (y ⊕ neg x) ⊕ (z ⊕ neg y)) (λ x y z. z ⊕ neg x) refl x y z)
        (o.plus (sub r y x) (sub r z y) h k);
    linear = λ x y. go x y (o.sign (sub r y x));
    plus = λ x y z h. subst Above (ring3 r.laws (λ x y z. y ⊕ neg x) (λ x y z. (y ⊕ z) ⊕ neg (x ⊕ z)) refl x y z) h;
    times = λ x y z h k. subst Above
        (ring3 r.laws (λ x y z. (y ⊕ neg x) ⊗ (z ⊕ neg none)) (λ x y z. y ⊗ z ⊕ neg (x ⊗ z)) refl x y z)
        (o.times (sub r y x) (sub r z r.nil) h k);
  }
    where
      go : (x y : r.Of) → Above (sub r y x) ⊎ ((sub r y x ≡ r.nil) ⊎ Above (r.minus (sub r y x))) → Above (sub r y x) ⊎ ((x ≡ y) ⊎ Above (sub r x y))
      go x y (inl h) = inl h
      go x y (inr (inl e)) =
          inr (inl (from_one r.laws _ _ (r.minus r.unit) _ _ e (ring2 r.laws (λ x y. x ⊕ neg one ⊗ none) (λ x y. y ⊕ neg one ⊗ (y ⊕ neg x)) refl x y)))
      go x y (inr (inr h)) = inr (inr (subst Above (ring2 r.laws (λ x y. neg (y ⊕ neg x)) (λ x y. x ⊕ neg y) refl x y) h))

  -- another word for the same members orders the ring too
  pub ordered_by : (Positive : r.Of → Type 0) → ((x : r.Of) → (Positive x → Above x) × (Above x → Positive x)) → IsOrdered r Positive
  ordered_by Positive same = record {
    plus = λ x y h k. (same (r.plus x y)).1 (o.plus x y ((same x).0 h) ((same y).0 k));
    times = λ x y h k. (same (r.times x y)).1 (o.times x y ((same x).0 h) ((same y).0 k));
    sign = λ x. go x (o.sign x);
    apart = λ h. o.apart ((same r.nil).0 h);
  }
    where
      go : (x : r.Of) → Above x ⊎ ((x ≡ r.nil) ⊎ Above (r.minus x)) → Positive x ⊎ ((x ≡ r.nil) ⊎ Positive (r.minus x))
      go x (inl h) = inl ((same x).1 h)
      go x (inr (inl e)) = inr (inl e)
      go x (inr (inr h)) = inr (inr ((same (r.minus x)).1 h))
