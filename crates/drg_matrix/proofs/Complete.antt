-- The frame and the Krein numbers of the complete graph with 4 vertices.
use Rattle.std.proofs.Common.{◌≡◌, ℕ, zero, suc, ◌<◌, ◌≤◌, refl, sym, ap, ap₂, ◌∙◌, arith, subst, pos}
use Rattle.std.specs.Prelude.{ℤ, neg_ℤ, ◌+ℤ◌, ◌*ℤ◌}
use Rattle.std.proofs.lemmas.Int.{ints}
use Rattle.drg_algebra.specs.Rational.{whole}
use Rattle.drg_algebra.specs.Ring.{none, one, ◌⊕◌, ◌⊗◌, neg, from_one, ring2}
use Rattle.drg_algebra.specs.Rational as Rational
use Rattle.drg_algebra.specs.Ratio.{ratio_one}
use Rattle.drg_algebra.proofs.Maps.{whole_map}
use Rattle.drg_array.specs.Numbers.{size, vertex_count}
use Rattle.drg_fraction.specs.Operations.{Operations}
use Rattle.drg_fraction.specs.Field.{IsExactField}
use Rattle.drg_matrix.specs.Product.{ProductIsScalar}
use Rattle.drg_matrix.specs.Frame.{neighbours}
use Rattle.drg_matrix.specs.Examples.{complete, complete_table, complete_value, complete_krein, CompleteFrame, CompleteKrein}

module _ {V : Type 0} {o : Operations V} {root : ℕ} (laws : IsExactField o root) where
  abbrev of : ℤ → V
  of z = o.rational (whole z)

  -- sums and products of whole numbers
  added : (x y : V) (m n : ℤ) → x ≡ of m → y ≡ of n → o.plus x y ≡ of (m +ℤ n)
  added x y m n e f = ap₂ o.plus e f ∙ sym (laws.whole_plus m n)

  multiplied : (m n : ℤ) → o.times (of m) (of n) ≡ of (m *ℤ n)
  multiplied m n = sym (laws.whole_times m n)

  nothing : o.nil ≡ of (pos 0)
  nothing = sym laws.rational_nil

  -- the sum of two products, as a total of two places
  two_products : (k l m n : ℤ) → o.plus (o.times (of k) (of l)) (o.plus (o.times (of m) (of n)) o.nil) ≡ of (k *ℤ l +ℤ (m *ℤ n +ℤ pos 0))
  two_products k l m n = added _ _ _ _ (multiplied k l) (added _ _ _ _ (multiplied m n) nothing)

  negative : (n : ℤ) → o.minus (of n) ≡ of (neg_ℤ n)
  negative n =
      let none_left : n +ℤ neg_ℤ n ≡ pos 0 = omega (arith, ints) in
      from_one laws.ring _ _ (o.minus o.unit) _ _ (sym (laws.whole_plus n (neg_ℤ n)) ∙ ap of none_left ∙ laws.rational_nil)
      (ring2 laws.ring (λ x y. neg x ⊕ neg one ⊗ none) (λ x y. y ⊕ neg one ⊗ (x ⊕ y)) refl (of n) (of (neg_ℤ n)))

  -- the terms of the recurrence at the first and the last place
  first_terms : (a t c u : ℤ) → o.plus (o.plus o.nil (o.times (of a) (of t))) (o.times (of c) (of u)) ≡ of (pos 0 +ℤ a *ℤ t +ℤ c *ℤ u)
  first_terms a t c u = added _ _ _ _ (added _ _ _ _ nothing (multiplied a t)) (multiplied c u)

  last_terms : (b t a u : ℤ) → o.plus (o.plus (o.times (of b) (of t)) (o.times (of a) (of u))) o.nil ≡ of (b *ℤ t +ℤ a *ℤ u +ℤ pos 0)
  last_terms b t a u = added _ _ _ _ (added _ _ _ _ (multiplied b t) (multiplied a u)) nothing

  descent : (i : ℕ) → i < 1 → o.IsPositive (o.plus (of (complete_value i)) (o.minus (of (complete_value (suc i)))))
  descent zero h =
      subst o.IsPositive (sym (added _ _ (pos 3) (pos 1) refl (negative (neg_ℤ (pos 1))))) (laws.whole_positive (pos 4) (omega (arith, ints)))
  descent (suc i) h = absurd (omega arith)

  recurrence : (i j : ℕ) → i ≤ 1 → j ≤ 1 → o.times (of (complete_value i)) (of (complete_table i j)) ≡ neighbours o complete (λ l. of (complete_table i l)) j
  recurrence zero zero h k = multiplied (pos 3) (pos 1) ∙ sym (first_terms (pos 0) (pos 1) (pos 1) (pos 3))
  recurrence zero (suc zero) h k = multiplied (pos 3) (pos 3) ∙ sym (last_terms (pos 3) (pos 1) (pos 2) (pos 3))
  recurrence (suc zero) zero h k = multiplied (neg_ℤ (pos 1)) (pos 1) ∙ sym (first_terms (pos 0) (pos 1) (pos 1) (neg_ℤ (pos 1)))
  recurrence (suc zero) (suc zero) h k = multiplied (neg_ℤ (pos 1)) (neg_ℤ (pos 1)) ∙ sym (last_terms (pos 3) (pos 1) (pos 2) (neg_ℤ (pos 1)))
  recurrence (suc (suc i)) j h k = absurd (omega arith)
  recurrence i (suc (suc j)) h k = absurd (omega arith)

  product : ProductIsScalar o 2 (λ i j. of (complete_table i j)) (λ i j. of (complete_table i j)) (of (pos 4))
  product zero zero h k = two_products (pos 1) (pos 1) (pos 3) (pos 1)
  product zero (suc zero) h k = two_products (pos 1) (pos 3) (pos 3) (neg_ℤ (pos 1)) ∙ laws.rational_nil
  product (suc zero) zero h k = two_products (pos 1) (pos 1) (neg_ℤ (pos 1)) (pos 1) ∙ laws.rational_nil
  product (suc zero) (suc zero) h k = two_products (pos 1) (pos 3) (neg_ℤ (pos 1)) (neg_ℤ (pos 1))
  product (suc (suc i)) j h k = absurd (omega arith)
  product i (suc (suc j)) h k = absurd (omega arith)

  -- 1 + 3 vertices
  vertices : vertex_count complete ≡ whole (pos 4)
  vertices =
      let three : size complete 1 ≡ whole (pos 3) = ap (λ q. Rational.times q (Rational.times (whole (pos 1)) (whole (pos 3)))) (ratio_one (pos 1)) ∙ ap (Rational.times (whole (pos 1))) (sym (whole_map.times (pos 1) (pos 3))) ∙ sym (whole_map.times (pos 1) (pos 3)) in
      ap (λ q. Rational.plus (whole (pos 1)) (Rational.plus q (whole (pos 0)))) three ∙ ap (Rational.plus (whole (pos 1))) (sym (whole_map.plus (pos 3) (pos 0))) ∙ sym (whole_map.plus (pos 1) (pos 3))

  pub complete_frame : CompleteFrame o
  complete_frame = record {
    theta_over = λ i h. laws.over_rational _;
    p_over = λ i j h k. laws.over_rational _;
    q_over = λ i j h k. laws.over_rational _;
    descends = descent;
    ones = λ i h. laws.rational_unit;
    eigenvalues = λ i h. refl;
    recurrence = recurrence;
    product = subst (λ n. ProductIsScalar o 2 (λ i j. of (complete_table i j)) (λ i j. of (complete_table i j)) (o.rational n)) (sym vertices) product;
  }

  -- an equation of whole numbers gives one of values
  by_wholes : (a b k l m n : ℤ) → a *ℤ b ≡ k *ℤ l +ℤ (m *ℤ n +ℤ pos 0) → o.times (of a) (of b) ≡ o.plus (o.times (of k) (of l)) (o.plus (o.times (of m) (of n)) o.nil)
  by_wholes a b k l m n e = multiplied a b ∙ ap of e ∙ sym (two_products k l m n)

  krein : (i j r : ℕ) → i ≤ 1 → j ≤ 1 → r ≤ 1
      → complete_table r i *ℤ complete_table r j ≡ complete_krein 0 i j *ℤ complete_table r 0 +ℤ (complete_krein 1 i j *ℤ complete_table r 1 +ℤ pos 0)
  krein zero zero zero h k g = refl
  krein zero zero (suc zero) h k g = refl
  krein zero (suc zero) zero h k g = refl
  krein zero (suc zero) (suc zero) h k g = refl
  krein (suc zero) zero zero h k g = refl
  krein (suc zero) zero (suc zero) h k g = refl
  krein (suc zero) (suc zero) zero h k g = refl
  krein (suc zero) (suc zero) (suc zero) h k g = refl
  krein (suc (suc i)) j r h k g = absurd (omega arith)
  krein i (suc (suc j)) r h k g = absurd (omega arith)
  krein i j (suc (suc r)) h k g = absurd (omega arith)

  pub complete_krein_numbers : CompleteKrein o
  complete_krein_numbers i j h k r g =
      by_wholes (complete_table r i) (complete_table r j) (complete_krein 0 i j) (complete_table r 0) (complete_krein 1 i j) (complete_table r 1) (krein i j r h k g)
