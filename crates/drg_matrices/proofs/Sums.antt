-- Sums of values over a root: the dot of two rows, and sums that are positive.
use Rattle.std.proofs.Common.{◌≡◌, ℕ, zero, suc, ◌<◌, ◌+◌, pos, List, [], ◌∷◌, map, refl, ap, ap₂, sym, ◌∙◌, subst, arith, ◌⊎◌, inl, inr}
use Rattle.std.specs.List.{range_with_len}
use Rattle.drg_algebra.specs.Ring.{none, ◌⊕◌, ◌⊗◌, neg, ring2}
use Rattle.drg_algebra.specs.Rational.{whole}
use Rattle.drg_algebra.specs.Tables.{total, list_sum}
use Rattle.drg_algebra.proofs.Totals.{same_sum, list_sum_laws_hold}
use Rattle.drg_fraction.specs.Operations.{Operations}
use Rattle.drg_fraction.specs.Field.{IsExactField, products, sum_of, dot_of}
use Rattle.drg_matrices.proofs.Fields.{ring_of, times_nil}

products_of_places : {V : Type 0} (o : Operations V) (f g : ℕ → V) (a n : ℕ)
    → products o (map f (range_with_len a n)) (map g (range_with_len a n)) ≡ map (λ l. o.times (f l) (g l)) (range_with_len a n)
products_of_places o f g a zero = refl
products_of_places o f g a (suc n) = ap (λ xs. o.times (f a) (g a) ∷ xs) (products_of_places o f g (a + 1) n)

module _ {V : Type 0} {o : Operations V} {root : ℕ} (laws : IsExactField o root) where
  sum_of_list : (xs : List V) → sum_of o xs ≡ list_sum (ring_of laws) xs
  sum_of_list [] = refl
  sum_of_list (x ∷ xs) = (list_sum_laws_hold (ring_of laws)).left x xs

  sum_of_places : (f : ℕ → V) (a n : ℕ) → list_sum (ring_of laws) (map f (range_with_len a n)) ≡ total o.nil o.plus n (λ l. f (a + l))
  sum_of_places f a zero = refl
  sum_of_places f a (suc n) =
      ap₂ o.plus (ap f (omega arith)) (sum_of_places f (a + 1) n ∙ same_sum laws.ring n (λ l. f (a + 1 + l)) (λ l. f (a + suc l)) (λ i h. ap f (omega arith)))

  -- the dot of two lists of values of a place is the sum of the products over the places
  pub dot_is_sum : (f g : ℕ → V) (n : ℕ) → dot_of o (map f (range_with_len 0 n)) (map g (range_with_len 0 n)) ≡ total o.nil o.plus n (λ l. o.times (f l) (g l))
  dot_is_sum f g n =
      ap (sum_of o) (products_of_places o f g 0 n)
      ∙ sum_of_list (map (λ l. o.times (f l) (g l)) (range_with_len 0 n))
      ∙ sum_of_places (λ l. o.times (f l) (g l)) 0 n
      ∙ same_sum laws.ring n (λ l. o.times (f (0 + l)) (g (0 + l))) (λ l. o.times (f l) (g l)) (λ l h. ap (λ (m : ℕ). o.times (f m) (g m)) (omega arith))

  abbrev NotNegative : V → Type 0
  NotNegative x = o.IsPositive x ⊎ (x ≡ o.nil)

  square_not_negative : (x : V) → o.IsOver x → NotNegative (o.times x x)
  square_not_negative x over = go (laws.positive_or_not x over)
    where
      go : o.IsPositive x ⊎ ((x ≡ o.nil) ⊎ o.IsPositive (o.minus x)) → NotNegative (o.times x x)
      go (inl h) = inl (laws.positive_times x x over over h h)
      go (inr (inl e)) = inr (ap (o.times x) e ∙ times_nil laws x)
      go (inr (inr h)) =
          let turned = laws.over_minus x over in
          inl (subst o.IsPositive (ring2 laws.ring (λ x y. neg x ⊗ neg x) (λ x y. x ⊗ x) refl x x) (laws.positive_times (o.minus x) (o.minus x) turned turned h h))

  -- k x², for k above nil
  pub weighted_not_negative : (k x : V) → o.IsOver k → o.IsOver x → o.IsPositive k → o.IsPositive (o.times k (o.times x x)) ⊎ (o.times k (o.times x x) ≡ o.nil)
  weighted_not_negative k x over_k over h = go (square_not_negative x over)
    where
      go : NotNegative (o.times x x) → NotNegative (o.times k (o.times x x))
      go (inl p) = inl (laws.positive_times k (o.times x x) over_k (laws.over_times x x over over) h p)
      go (inr e) = inr (ap (o.times k) e ∙ times_nil laws k)

  pub total_over : (n : ℕ) (f : ℕ → V) → ((l : ℕ) → l < n → o.IsOver (f l)) → o.IsOver (total o.nil o.plus n f)
  total_over zero f over = subst o.IsOver laws.rational_nil (laws.over_rational (whole (pos 0)))
  total_over (suc n) f over = laws.over_plus (f 0) (total o.nil o.plus n (λ l. f (suc l))) (over 0 (omega arith)) (total_over n (λ l. f (suc l)) (λ l h. over (suc l) (omega arith)))

  plus_not_negative : (x y : V) → o.IsOver x → o.IsOver y → NotNegative x → NotNegative y → NotNegative (o.plus x y)
  plus_not_negative x y p q (inl h) (inl k) = inl (laws.positive_plus x y p q h k)
  plus_not_negative x y p q h (inr e) = subst NotNegative (sym (laws.ring.plus_nil x) ∙ ap (o.plus x) (sym e)) h
  plus_not_negative x y p q (inr e) k = subst NotNegative (ring2 laws.ring (λ x y. y) (λ x y. none ⊕ y) refl x y ∙ ap (λ z. o.plus z y) (sym e)) k

  total_not_negative : (n : ℕ) (f : ℕ → V) → ((l : ℕ) → l < n → o.IsOver (f l)) → ((l : ℕ) → l < n → NotNegative (f l)) → NotNegative (total o.nil o.plus n f)
  total_not_negative zero f over h = inr refl
  total_not_negative (suc n) f over h =
      plus_not_negative (f 0) (total o.nil o.plus n (λ l. f (suc l))) (over 0 (omega arith)) (total_over n (λ l. f (suc l)) (λ l k. over (suc l) (omega arith)))
      (h 0 (omega arith)) (total_not_negative n (λ l. f (suc l)) (λ l k. over (suc l) (omega arith)) (λ l k. h (suc l) (omega arith)))

  -- a sum whose first term is positive and whose others aren't negative
  pub total_positive : (n : ℕ) (f : ℕ → V) → ((l : ℕ) → l < suc n → o.IsOver (f l)) → o.IsPositive (f 0)
      → ((l : ℕ) → l < suc n → o.IsPositive (f l) ⊎ (f l ≡ o.nil)) → o.IsPositive (total o.nil o.plus (suc n) f)
  total_positive n f over first h = go (total_not_negative n (λ l. f (suc l)) (λ l k. over (suc l) (omega arith)) (λ l k. h (suc l) (omega arith)))
    where
      rest : V
      rest = total o.nil o.plus n (λ l. f (suc l))

      go : NotNegative rest → o.IsPositive (o.plus (f 0) rest)
      go (inl p) = laws.positive_plus (f 0) rest (over 0 (omega arith)) (total_over n (λ l. f (suc l)) (λ l k. over (suc l) (omega arith))) first p
      go (inr e) = subst o.IsPositive (sym (laws.ring.plus_nil (f 0)) ∙ ap (o.plus (f 0)) (sym e)) first
