-- The cosines, the multiplicities, P and Q by their formulas are a frame of the array.
use Rattle.std.proofs.Common.{◌≡◌, ℕ, zero, suc, ◌<◌, ◌≤◌, pos, true, false, refl, ap, ap₂, sym, ◌∙◌, subst, arith, ◌⊎◌, inl, inr}
use Rattle.std.specs.Prelude.{nat_lt, if◌then◌else◌}
use Rattle.std.proofs.lemmas.Bool.{cases_lt}
use Rattle.std.proofs.lemmas.Bool.Decides.{nat_tests}
use Rattle.drg_algebra.specs.Ring.{none, ◌⊕◌, ◌⊗◌, neg, ring2, ring3, ring4}
use Rattle.drg_algebra.specs.Integer.{whole_numbers}
use Rattle.drg_algebra.specs.Rational.{whole}
use Rattle.drg_algebra.specs.Tables.{total, delta}
use Rattle.drg_algebra.proofs.Totals.{same_sum, scale_sum, delta_same, delta_other}
use Rattle.drg_array.specs.Entries.{Entries, IsArray, diameter, c_at}
use Rattle.drg_array.specs.Numbers.{size}
use Rattle.drg_array.proofs.SizeSigns.{size_above}
use Rattle.drg_fraction.specs.Operations.{Operations}
use Rattle.drg_fraction.specs.Field.{IsExactField}
use Rattle.drg_eigen.specs.Polynomial.{eval}
use Rattle.drg_eigen.specs.Characteristic.{characteristic}
use Rattle.drg_matrix.specs.Frame.{IsFrame, neighbours}
use Rattle.drg_matrix.specs.Product.{entry}
use Rattle.drg_matrices.specs.Values.{quotient, difference, b_value, c_value, a_value, size_value, count_value}
use Rattle.drg_matrices.specs.Formulas.{cosine, eigen_entry, sum_of_squares, multiplicity_of, dual_entry}
use Rattle.drg_matrices.proofs.Fields.{ring_of, times_nil, positive_apart, number_positive, quotient_back, cancel}
use Rattle.drg_matrices.proofs.Orthogonal.{IsCosines, inner, inner_by_difference, second_entry, first_row, middle_row, last_row}
use Rattle.drg_matrices.proofs.Recurrences.{of_whole, numbers, first_a, b_over, b_some, cosines}
use Rattle.drg_matrices.proofs.Sums.{dot_is_sum, weighted_not_negative, total_over, total_positive}

module _ {V : Type 0} {o : Operations V} {root : ℕ} (laws : IsExactField o root) (a : Entries) (array : IsArray a) where
  abbrev d : ℕ
  d = diameter a

  unit_over : o.IsOver o.unit
  unit_over = subst o.IsOver laws.rational_unit (laws.over_rational (whole (pos 1)))

  unit_positive : o.IsPositive o.unit
  unit_positive = subst o.IsPositive laws.rational_unit (number_positive laws 1 (omega arith))

  pub size_positive : (r : ℕ) → r ≤ d → o.IsPositive (size_value o a r)
  size_positive r h = laws.rational_positive (size a r) (size_above a array r h)

  module _ (x : V) (over : o.IsOver x) where
    quotient_over : (y z : V) → o.IsOver y → o.IsOver z → ¬ (z ≡ o.nil) → o.IsOver (quotient o y z)
    quotient_over y z p q some = laws.over_times y (o.invert z) p (laws.over_invert z q some)

    -- the cosines belong to the root, two at a time
    two_over : (r : ℕ) → suc r ≤ d → o.IsOver (cosine o a x r) × o.IsOver (cosine o a x (suc r))
    two_over zero h = (unit_over, quotient_over x (b_value o a 0) over (b_over laws a array 0) (b_some laws a array 0 (omega arith)))
    two_over (suc r) h =
        let before = two_over r (omega arith) in
        let less = laws.over_plus x (o.minus (a_value o a (suc r))) over (laws.over_minus (a_value o a (suc r)) (laws.over_rational _)) in
        let left = laws.over_times (difference o x (a_value o a (suc r))) (cosine o a x (suc r)) less before.1 in
        let right = laws.over_times (c_value o a (suc r)) (cosine o a x r) (laws.over_rational _) before.0 in
        let both = laws.over_plus (o.times (difference o x (a_value o a (suc r))) (cosine o a x (suc r))) (o.minus (o.times (c_value o a (suc r)) (cosine o a x r))) left (laws.over_minus (o.times (c_value o a (suc r)) (cosine o a x r)) right) in
        (before.1, quotient_over _ (b_value o a (suc r)) both (b_over laws a array (suc r)) (b_some laws a array (suc r) (omega arith)))

    pub cosine_over : (r : ℕ) → r ≤ d → o.IsOver (cosine o a x r)
    cosine_over zero h = unit_over
    cosine_over (suc r) h = (two_over r h).1

    pub eigen_over : (r : ℕ) → r ≤ d → o.IsOver (eigen_entry o a x r)
    eigen_over r h = laws.over_times (size_value o a r) (cosine o a x r) (laws.over_rational _) (cosine_over r h)

    -- the sum of k_r u_r²
    pub squares_are : sum_of_squares o a x ≡ inner (ring_of laws) (numbers laws a array) (suc d) (cosine o a x) (cosine o a x)
    squares_are =
        dot_is_sum laws (eigen_entry o a x) (cosine o a x) (suc d)
        ∙ same_sum laws.ring (suc d) (λ l. o.times (eigen_entry o a x l) (cosine o a x l)) (λ l. o.times (size_value o a l) (o.times (cosine o a x l) (cosine o a x l)))
        (λ l h. laws.ring.times_assoc (size_value o a l) (cosine o a x l) (cosine o a x l))

    term_over : (l : ℕ) → l < suc d → o.IsOver (o.times (size_value o a l) (o.times (cosine o a x l) (cosine o a x l)))
    term_over l h = laws.over_times (size_value o a l) (o.times (cosine o a x l) (cosine o a x l)) (laws.over_rational _) (laws.over_times (cosine o a x l) (cosine o a x l) (cosine_over l (omega arith)) (cosine_over l (omega arith)))

    pub squares_over : o.IsOver (sum_of_squares o a x)
    squares_over = subst o.IsOver (sym squares_are) (total_over laws (suc d) (λ l. o.times (size_value o a l) (o.times (cosine o a x l) (cosine o a x l))) term_over)

    pub squares_positive : o.IsPositive (sum_of_squares o a x)
    squares_positive =
        subst o.IsPositive (sym squares_are)
        (total_positive laws d (λ l. o.times (size_value o a l) (o.times (cosine o a x l) (cosine o a x l))) term_over
        (laws.positive_times (size_value o a 0) (o.times o.unit o.unit) (laws.over_rational _) (laws.over_times o.unit o.unit unit_over unit_over) (size_positive 0 (omega arith)) (laws.positive_times o.unit o.unit unit_over unit_over unit_positive unit_positive))
        (λ l h. weighted_not_negative laws (size_value o a l) (cosine o a x l) (laws.over_rational _) (cosine_over l (omega arith)) (size_positive l (omega arith))))

    pub squares_apart : ¬ (sum_of_squares o a x ≡ o.nil)
    squares_apart = positive_apart laws (sum_of_squares o a x) squares_positive

    pub multiplicity_over : o.IsOver (multiplicity_of o a x)
    multiplicity_over = quotient_over (count_value o a) (sum_of_squares o a x) (laws.over_rational _) squares_over squares_apart

    pub dual_over : (r : ℕ) → r ≤ d → o.IsOver (dual_entry o a x r)
    dual_over r h = laws.over_times (multiplicity_of o a x) (cosine o a x r) multiplicity_over (cosine_over r h)

    -- the multiplicity times the sum of k_r u_r² is n
    counted : o.times (multiplicity_of o a x) (inner (ring_of laws) (numbers laws a array) (suc d) (cosine o a x) (cosine o a x)) ≡ count_value o a
    counted =
        ap (o.times (multiplicity_of o a x)) (sym squares_are)
        ∙ laws.ring.times_comm (multiplicity_of o a x) (sum_of_squares o a x)
        ∙ quotient_back laws (count_value o a) (sum_of_squares o a x) squares_over squares_apart

  -- cell (i, j) of P Q is m_j times the sum of k_r u_ir u_jr
  cell_is : (x y : V) → total o.nil o.plus (suc d) (λ l. o.times (eigen_entry o a x l) (dual_entry o a y l))
      ≡ o.times (multiplicity_of o a y) (inner (ring_of laws) (numbers laws a array) (suc d) (cosine o a x) (cosine o a y))
  cell_is x y =
      same_sum laws.ring (suc d) (λ l. o.times (eigen_entry o a x l) (dual_entry o a y l)) (λ l. o.times (multiplicity_of o a y) (o.times (size_value o a l) (o.times (cosine o a x l) (cosine o a y l))))
      (λ l h. ring4 laws.ring (λ k u m t. (k ⊗ u) ⊗ (m ⊗ t)) (λ k u m t. m ⊗ (k ⊗ (u ⊗ t))) refl (size_value o a l) (cosine o a x l) (multiplicity_of o a y) (cosine o a y l))
      ∙ sym (scale_sum laws.ring (suc d) (multiplicity_of o a y) (λ l. o.times (size_value o a l) (o.times (cosine o a x l) (cosine o a y l))))

  module _ (one_c : c_at a 1 ≡ 1) (theta : ℕ → V) (over : (i : ℕ) → i ≤ d → o.IsOver (theta i))
      (roots : (i : ℕ) → i ≤ d → eval whole_numbers (ring_of laws) (of_whole laws) (theta i) (characteristic a) ≡ o.nil)
      (descends : (i : ℕ) → i < d → o.IsPositive (difference o (theta i) (theta (suc i)))) where
    abbrev p : ℕ → ℕ → V
    p i r = eigen_entry o a (theta i) r

    abbrev q : ℕ → ℕ → V
    q r i = dual_entry o a (theta i) r

    cosines_of : (i : ℕ) → i ≤ d → IsCosines (ring_of laws) (numbers laws a array) (theta i) (cosine o a (theta i))
    cosines_of i h = cosines laws a array (theta i) (roots i h)

    -- a larger eigenvalue is one with a smaller index
    far : (i j : ℕ) → i < j → j ≤ d → o.IsPositive (difference o (theta i) (theta j))
    far i zero h k = absurd (omega arith)
    far i (suc j) h k =
        elim (cases_lt i j) [
          | inl less ↦ (let first = far i j less (omega arith) in let second = descends j (omega arith) in
              subst o.IsPositive (ring3 laws.ring (λ x y z. (x ⊕ neg y) ⊕ (y ⊕ neg z)) (λ x y z. x ⊕ neg z) refl (theta i) (theta j) (theta (suc j)))
              (laws.positive_plus _ _ (between i j (omega arith) (omega arith)) (between j (suc j) (omega arith) k) first second))
          | inr more ↦ (let same : i ≡ j = omega arith in subst (λ (l : ℕ). o.IsPositive (difference o (theta l) (theta (suc j)))) (sym same) (descends j (omega arith)))
        ]
      where
        between : (i j : ℕ) → i ≤ d → j ≤ d → o.IsOver (difference o (theta i) (theta j))
        between i j h k = laws.over_plus (theta i) (o.minus (theta j)) (over i h) (laws.over_minus (theta j) (over j k))

    apart : (i j : ℕ) → i ≤ d → j ≤ d → ¬ (i ≡ j) → ¬ (difference o (theta i) (theta j) ≡ o.nil)
    apart i j h k ne e =
        elim (cases_lt i j) [
          | inl less ↦ positive_apart laws _ (far i j less k) e
          | inr more ↦ positive_apart laws _ (far j i (omega arith) h) (ring2 laws.ring (λ x y. y ⊕ neg x) (λ x y. neg (x ⊕ neg y)) refl (theta i) (theta j) ∙ ap o.minus e ∙ ring2 laws.ring (λ x y. neg none) (λ x y. none) refl (theta i) (theta j))
        ]

    -- cosines of different eigenvalues are orthogonal
    orthogonal : (i j : ℕ) → i ≤ d → j ≤ d → ¬ (i ≡ j) → inner (ring_of laws) (numbers laws a array) (suc d) (cosine o a (theta i)) (cosine o a (theta j)) ≡ o.nil
    orthogonal i j h k ne =
        cancel laws (difference o (theta i) (theta j)) _ _ (laws.over_plus (theta i) (o.minus (theta j)) (over i h) (laws.over_minus (theta j) (over j k))) (apart i j h k ne)
        (inner_by_difference (ring_of laws) (numbers laws a array) (theta i) (theta j) (cosine o a (theta i)) (cosine o a (theta j)) (cosines_of i h) (cosines_of j k)
        ∙ sym (times_nil laws (difference o (theta i) (theta j))))

    product : (i j : ℕ) → i < suc d → j < suc d → entry o (suc d) p q i j ≡ delta o.nil (count_value o a) i j
    product i j h k =
        elim (same_or_not i j) [
          | inl e ↦ (subst (λ (l : ℕ). entry o (suc d) p q i l ≡ delta o.nil (count_value o a) i l) e
              (cell_is (theta i) (theta i) ∙ counted (theta i) (over i (omega arith)) ∙ sym (delta_same o.nil (count_value o a) i)))
          | inr ne ↦ (cell_is (theta i) (theta j) ∙ ap (o.times (multiplicity_of o a (theta j))) (orthogonal i j (omega arith) (omega arith) ne)
              ∙ times_nil laws (multiplicity_of o a (theta j)) ∙ sym (delta_other o.nil (count_value o a) i j ne))
        ]
      where
        same_or_not : (i j : ℕ) → (i ≡ j) ⊎ (¬ (i ≡ j))
        same_or_not i j =
            elim (cases_lt i j) [
              | inl less ↦ inr (λ e. omega arith)
              | inr more ↦ elim (cases_lt j i) [
                | inl less ↦ inr (λ e. omega arith)
                | inr also ↦ inl (omega arith)
              ]
            ]

    unit_c : c_value o a 1 ≡ o.unit
    unit_c = ap (λ (n : ℕ). o.rational (whole (pos n))) one_c ∙ laws.rational_unit

    inside_term : (i j : ℕ) → j < d → (if nat_lt j d then o.times (c_value o a (suc j)) (p i (suc j)) else o.nil) ≡ o.times (c_value o a (suc j)) (p i (suc j))
    inside_term i j h = let less : nat_lt j d ≡ true = grind (arith, nat_tests) in rw less refl

    end_term : (i j : ℕ) → j ≡ d → (if nat_lt j d then o.times (c_value o a (suc j)) (p i (suc j)) else o.nil) ≡ o.nil
    end_term i j e = let more : nat_lt j d ≡ false = grind (arith, nat_tests) in rw more refl

    recurrence : (i j : ℕ) → i ≤ d → j ≤ d → o.times (theta i) (p i j) ≡ neighbours o a (p i) j
    recurrence i zero h k =
        first_row (ring_of laws) (numbers laws a array) (first_a laws a array) array.some (theta i) (cosine o a (theta i)) (cosines_of i h)
        ∙ ap₂ o.plus (ring2 laws.ring (λ x y. x) (λ x y. none ⊕ x) refl (o.times (a_value o a 0) (p i 0)) (theta i)) (sym (inside_term i 0 array.some))
    recurrence i (suc j) h k =
        elim (cases_lt (suc j) d) [
          | inl less ↦ (middle_row (ring_of laws) (numbers laws a array) (theta i) (cosine o a (theta i)) (cosines_of i h) j less
              ∙ ap (o.plus (o.plus (o.times (b_value o a j) (p i j)) (o.times (a_value o a (suc j)) (p i (suc j))))) (sym (inside_term i (suc j) less)))
          | inr more ↦ (last_row (ring_of laws) (numbers laws a array) (theta i) (cosine o a (theta i)) (cosines_of i h) j (omega arith)
              ∙ ap (o.plus (o.plus (o.times (b_value o a j) (p i j)) (o.times (a_value o a (suc j)) (p i (suc j))))) (sym (end_term i (suc j) (omega arith))))
        ]

    pub is_frame : IsFrame o a theta p q
    is_frame = record {
      theta_over = over;
      p_over = λ i j h k. eigen_over (theta i) (over i (omega arith)) j (omega arith);
      q_over = λ r i h k. dual_over (theta i) (over i (omega arith)) r (omega arith);
      descends = descends;
      ones = λ i h. ap (λ z. o.times z o.unit) laws.rational_unit ∙ laws.ring.times_unit o.unit;
      eigenvalues = λ i h. second_entry (ring_of laws) (numbers laws a array) unit_c array.some (theta i) (cosine o a (theta i)) (cosines_of i h);
      recurrence = recurrence;
      product = product;
    }
