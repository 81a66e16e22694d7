-- The cosines of an eigenvalue of an array obey its recurrence, and close at d where the eigenvalue is a root of the
-- characteristic polynomial.
use Rattle.std.proofs.Common.{◌≡◌, ℕ, zero, suc, ◌<◌, ◌≤◌, pos, refl, ap, ap₂, sym, ◌∙◌, subst, arith, ◌⊎◌, inl, inr}
use Rattle.std.proofs.lemmas.Bool.{cases_lt}
use Rattle.std.specs.Prelude.{ℤ, ◌-ℤ◌}
use Rattle.std.proofs.lemmas.Int.{ints}
use Rattle.drg_algebra.specs.Ring.{none, one, ◌⊕◌, ◌⊗◌, neg, from_one, ring2, ring3, ring5, ring7}
use Rattle.drg_algebra.specs.Integer.{whole_numbers}
use Rattle.drg_algebra.specs.Maps.{IsMap}
use Rattle.drg_algebra.specs.Rational.{whole}
use Rattle.drg_array.specs.Entries.{Entries, IsArray, diameter, b_at, c_at, a_at}
use Rattle.drg_array.specs.Numbers.{size}
use Rattle.drg_array.proofs.EntryLemmas.{b-positive, b-end}
use Rattle.drg_array.proofs.NumberLaws.{sizes_meet}
use Rattle.drg_fraction.specs.Operations.{Operations}
use Rattle.drg_fraction.specs.Field.{IsExactField}
use Rattle.drg_eigen.specs.Polynomial.{eval}
use Rattle.drg_eigen.specs.Recurrence.{at}
use Rattle.drg_eigen.specs.Characteristic.{weight_at, characteristic}
use Rattle.drg_eigen.proofs.PolynomialValues.{eval_chain}
use Rattle.drg_matrices.specs.Values.{difference, b_value, c_value, a_value, size_value}
use Rattle.drg_matrices.specs.Formulas.{cosine}
use Rattle.drg_matrices.proofs.Fields.{ring_of, times_nil, positive_apart, number_positive, number_apart, quotient_back, cancel}
use Rattle.drg_matrices.proofs.Orthogonal.{Numbers, IsCosines}

module _ {V : Type 0} {o : Operations V} {root : ℕ} (laws : IsExactField o root) where
  -- a whole number as a value
  abbrev pub of_whole : ℤ → V
  of_whole z = o.rational (whole z)

  negative : (z : ℤ) → of_whole (pos 0 -ℤ z) ≡ o.minus (of_whole z)
  negative z =
      let nothing : o.plus (of_whole z) (of_whole (pos 0 -ℤ z)) ≡ o.nil =
      sym (laws.whole_plus z (pos 0 -ℤ z)) ∙ ap of_whole (omega (arith, ints)) ∙ laws.rational_nil in
      from_one laws.ring _ _ o.unit _ _ nothing (ring2 laws.ring (λ x y. y ⊕ one ⊗ none) (λ x y. neg x ⊕ one ⊗ (x ⊕ y)) refl (of_whole z) (of_whole (pos 0 -ℤ z)))

  pub wholes_map : IsMap whole_numbers (ring_of laws) of_whole
  wholes_map = record {
    nil = laws.rational_nil;
    unit = laws.rational_unit;
    plus = laws.whole_plus;
    times = laws.whole_times;
    minus = λ z. ap of_whole (omega (arith, ints)) ∙ negative z;
  }

  module _ (a : Entries) (array : IsArray a) where
    abbrev d : ℕ
    d = diameter a

    pub b_over : (i : ℕ) → o.IsOver (b_value o a i)
    b_over i = laws.over_rational _

    pub b_some : (i : ℕ) → i < d → ¬ (b_value o a i ≡ o.nil)
    b_some i h = number_apart laws (b_at a i) (b-positive a i array h)

    pub last_b : b_value o a d ≡ o.nil
    last_b = ap (λ (n : ℕ). of_whole (pos n)) (b-end a d (omega arith)) ∙ laws.rational_nil

    pub first_a : a_value o a 0 ≡ o.nil
    first_a = ap of_whole (let none_left : a_at a 0 ≡ pos 0 = omega (arith, ints) in none_left) ∙ laws.rational_nil

    pub sizes : (j : ℕ) → j < d → o.times (size_value o a (suc j)) (c_value o a (suc j)) ≡ o.times (size_value o a j) (b_value o a j)
    sizes j h = sym (laws.rational_times (size a (suc j)) (whole (pos (c_at a (suc j))))) ∙ ap o.rational (sizes_meet a j array h) ∙ laws.rational_times (size a j) (whole (pos (b_at a j)))

    -- the numbers of the array as values
    abbrev pub numbers : Numbers (ring_of laws)
    numbers = record {
      d = d;
      a = a_value o a;
      b = b_value o a;
      c = c_value o a;
      k = size_value o a;
      last_b = last_b;
      first_size = laws.rational_unit;
      sizes = sizes;
    }

    module _ (x : V) where
      abbrev u : ℕ → V
      u = cosine o a x

      -- k u_1 = x
      second : 0 < d → o.times (b_value o a 0) (u 1) ≡ x
      second h = quotient_back laws x (b_value o a 0) (b_over 0) (b_some 0 h)

      -- b_(r+1) u_(r+2) = (x - a_(r+1)) u_(r+1) - c_(r+1) u_r
      next : (r : ℕ) → suc r < d → o.times (b_value o a (suc r)) (u (suc (suc r))) ≡ difference o (o.times (difference o x (a_value o a (suc r))) (u (suc r))) (o.times (c_value o a (suc r)) (u r))
      next r h = quotient_back laws (difference o (o.times (difference o x (a_value o a (suc r))) (u (suc r))) (o.times (c_value o a (suc r)) (u r))) (b_value o a (suc r)) (b_over (suc r)) (b_some (suc r) h)

      -- b_0 .. b_(j-1)
      abbrev prefix : ℕ → V
      prefix zero = o.unit
      prefix (suc j) = o.times (prefix j) (b_value o a j)

      prefix_over : (j : ℕ) → o.IsOver (prefix j)
      prefix_over zero = subst o.IsOver laws.rational_unit (laws.over_rational (whole (pos 1)))
      prefix_over (suc j) = laws.over_times (prefix j) (b_value o a j) (prefix_over j) (b_over j)

      prefix_positive : (j : ℕ) → j ≤ d → o.IsPositive (prefix j)
      prefix_positive zero h = subst o.IsPositive laws.rational_unit (number_positive laws 1 (omega arith))
      prefix_positive (suc j) h = laws.positive_times (prefix j) (b_value o a j) (prefix_over j) (b_over j) (prefix_positive j (omega arith)) (number_positive laws (b_at a j) (b-positive a j array (omega arith)))

      -- F_j(x)
      abbrev polynomial : ℕ → V
      polynomial = at (ring_of laws) (λ i. of_whole (a_at a i)) (λ i. of_whole (weight_at a i)) x

      weight : (j : ℕ) → of_whole (weight_at a (suc j)) ≡ o.times (b_value o a j) (c_value o a (suc j))
      weight j = laws.whole_times (pos (b_at a j)) (pos (c_at a (suc j)))

      -- b_0 .. b_(j-1) u_j = F_j(x)
      pub scaled : (j : ℕ) → suc j ≤ d → (o.times (prefix j) (u j) ≡ polynomial j) × (o.times (prefix (suc j)) (u (suc j)) ≡ polynomial (suc j))
      scaled zero h = (
        laws.ring.times_unit o.unit,
        ring2 laws.ring (λ b u. (one ⊗ b) ⊗ u) (λ b u. b ⊗ u) refl (b_value o a 0) (u 1) ∙ second (omega arith),
      )
      scaled (suc j) h =
          let before = scaled j (omega arith) in (
            before.1,
            ring3 laws.ring (λ p b u. (p ⊗ b) ⊗ u) (λ p b u. p ⊗ (b ⊗ u)) refl (prefix (suc j)) (b_value o a (suc j)) (u (suc (suc j)))
                ∙ ap (o.times (prefix (suc j))) (next j (omega arith))
                ∙ ring7 laws.ring
                (λ p b x a v c t. (p ⊗ b) ⊗ ((x ⊕ neg a) ⊗ v ⊕ neg (c ⊗ t)))
                (λ p b x a v c t. (x ⊕ neg a) ⊗ ((p ⊗ b) ⊗ v) ⊕ neg ((b ⊗ c) ⊗ (p ⊗ t)))
                refl (prefix j) (b_value o a j) x (a_value o a (suc j)) (u (suc j)) (c_value o a (suc j)) (u j)
                ∙ ap₂ (λ (v t : V). difference o (o.times (difference o x (a_value o a (suc j))) v) (o.times (o.times (b_value o a j) (c_value o a (suc j))) t)) before.1 before.0
                ∙ ap (λ w. difference o (o.times (difference o x (a_value o a (suc j))) (polynomial (suc j))) (o.times w (polynomial j))) (sym (weight j)),
          )

      -- where x is a root of F_(d+1): (x - a_d) u_d = c_d u_(d-1)
      closes : (j : ℕ) → suc j ≡ d → polynomial (suc (suc j)) ≡ o.nil → difference o (o.times (difference o x (a_value o a (suc j))) (u (suc j))) (o.times (c_value o a (suc j)) (u j)) ≡ o.nil
      closes j e z =
          let before = scaled j (omega arith) in
          let p = prefix (suc j) in
          cancel laws p _ _ (prefix_over (suc j)) (positive_apart laws p (prefix_positive (suc j) (omega arith)))
          (ring7 laws.ring
          (λ p b x a v c t. (p ⊗ b) ⊗ ((x ⊕ neg a) ⊗ v ⊕ neg (c ⊗ t)))
          (λ p b x a v c t. (x ⊕ neg a) ⊗ ((p ⊗ b) ⊗ v) ⊕ neg ((b ⊗ c) ⊗ (p ⊗ t)))
          refl (prefix j) (b_value o a j) x (a_value o a (suc j)) (u (suc j)) (c_value o a (suc j)) (u j)
          ∙ ap₂ (λ (v t : V). difference o (o.times (difference o x (a_value o a (suc j))) v) (o.times (o.times (b_value o a j) (c_value o a (suc j))) t)) before.1 before.0
          ∙ ap (λ w. difference o (o.times (difference o x (a_value o a (suc j))) (polynomial (suc j))) (o.times w (polynomial j))) (sym (weight j))
          ∙ z ∙ sym (times_nil laws p))

      -- x is a root of the characteristic polynomial
      pub cosines : eval whole_numbers (ring_of laws) of_whole x (characteristic a) ≡ o.nil → IsCosines (ring_of laws) numbers x u
      cosines z = record { first = refl; second = second array.some; rest = rest }
        where
          ended : polynomial (suc d) ≡ o.nil
          ended = sym (eval_chain whole_numbers (ring_of laws) of_whole wholes_map x (a_at a) (weight_at a) (suc d)) ∙ z

          inside : (j : ℕ) → j < d → (suc j < d) ⊎ (suc j ≡ d) → o.times (b_value o a (suc j)) (u (suc (suc j))) ≡ difference o (o.times (difference o x (a_value o a (suc j))) (u (suc j))) (o.times (c_value o a (suc j)) (u j))
          inside j h (inl less) = next j less
          inside j h (inr e) =
              ap (λ w. o.times w (u (suc (suc j)))) (ap (b_value o a) e ∙ last_b)
              ∙ ring2 laws.ring (λ u v. none ⊗ u) (λ u v. none) refl (u (suc (suc j))) x
              ∙ sym (closes j e (ap (λ (n : ℕ). polynomial (suc n)) e ∙ ended))

          last_or_less : (j : ℕ) → j < d → (suc j < d) ⊎ (suc j ≡ d)
          last_or_less j h =
              elim (cases_lt (suc j) d) [
                | inl less ↦ inl less
                | inr more ↦ inr (omega arith)
              ]

          rest : (j : ℕ) → j < d → o.plus (o.plus (o.times (c_value o a (suc j)) (u j)) (o.times (a_value o a (suc j)) (u (suc j)))) (o.times (b_value o a (suc j)) (u (suc (suc j)))) ≡ o.times x (u (suc j))
          rest j h =
              ap (o.plus (o.plus (o.times (c_value o a (suc j)) (u j)) (o.times (a_value o a (suc j)) (u (suc j))))) (inside j h (last_or_less j h))
              ∙ ring5 laws.ring (λ x a c v t. (c ⊗ t ⊕ a ⊗ v) ⊕ ((x ⊕ neg a) ⊗ v ⊕ neg (c ⊗ t))) (λ x a c v t. x ⊗ v) refl x (a_value o a (suc j)) (c_value o a (suc j)) (u (suc j)) (u j)
