-- The cosines, the multiplicities and the entries of P and Q of a frame are those of their formulas.
use Rattle.std.proofs.Common.{◌≡◌, ℕ, zero, suc, ◌<◌, ◌≤◌, true, refl, sym, ap, ap₂, ◌∙◌, subst, arith, ℤ, pos}
use Rattle.std.specs.Prelude.{◌<ℤ◌, nat_lt, if◌then◌else◌}
use Rattle.std.proofs.lemmas.Bool.Decides.{nat_tests}
use Rattle.std.proofs.lemmas.Int.{ints}
use Rattle.drg_algebra.specs.Ring.{none, ◌⊕◌, ◌⊗◌, neg, ring2, ring3, ring4}
use Rattle.drg_algebra.specs.Rational.{whole}
use Rattle.drg_algebra.specs.Tables.{total}
use Rattle.drg_algebra.proofs.Totals.{same_sum, scale_sum}
use Rattle.drg_array.specs.Entries.{Entries, IsArray, a_at, b_at, c_at, diameter}
use Rattle.drg_array.specs.Numbers.{size, vertex_count}
use Rattle.drg_array.proofs.EntryLemmas.{b-positive}
use Rattle.drg_array.proofs.NumberLaws.{sizes_meet}
use Rattle.drg_array.proofs.SizeSigns.{count_above, size_above}
use Rattle.drg_fraction.specs.Field.{IsExactField}
use Rattle.drg_fraction.specs.Operations.{Operations}
use Rattle.drg_matrix.specs.Frame.{multiplicity, neighbours}
use Rattle.drg_matrices.specs.Formulas.{cosine, dual_entry, eigen_entry, multiplicity_of, next_cosine, sum_of_squares}
use Rattle.drg_matrices.specs.Values.{a_value, b_value, c_value, count_value, difference, quotient, size_value}
use Rattle.drg_evidence.proofs.SameRows.{dot_is_sum}

-- What is used of a frame.
pub record HasEquations {V : Type 0} (o : Operations V) (a : Entries) (theta : ℕ → V) (u p q : ℕ → ℕ → V) : Type 0 where
  pub p_over : (i r : ℕ) → i ≤ diameter a → r ≤ diameter a → o.IsOver (p i r)
  pub first : (i : ℕ) → i ≤ diameter a → u i 0 ≡ o.unit
  pub rows : (i r : ℕ) → i ≤ diameter a → r ≤ diameter a → p i r ≡ o.times (size_value o a r) (u i r)
  pub columns : (i r : ℕ) → i ≤ diameter a → r ≤ diameter a → q r i ≡ o.times (multiplicity q i) (u i r)
  pub recurrence : (i j : ℕ) → i ≤ diameter a → j ≤ diameter a → o.times (theta i) (p i j) ≡ neighbours o a (p i) j
  pub product : (i : ℕ) → i ≤ diameter a → total o.nil o.plus (suc (diameter a)) (λ l. o.times (p i l) (q l i)) ≡ count_value o a

module _ {V : Type 0} {o : Operations V} {root : ℕ} (laws : IsExactField o root) where
  positive_apart : (x : V) → o.IsPositive x → ¬ (x ≡ o.nil)
  positive_apart x h e = laws.nil_is_not_positive (subst o.IsPositive e h)

  -- a factor that isn't nil is cancelled
  cancel : (y p q : V) → o.IsOver y → ¬ (y ≡ o.nil) → o.times y p ≡ o.times y q → p ≡ q
  cancel y p q over some e = back p ∙ ap (o.times (o.invert y)) e ∙ sym (back q)
    where
      back : (z : V) → z ≡ o.times (o.invert y) (o.times y z)
      back z =
          sym (laws.ring.times_unit z) ∙ ap (o.times z) (sym (laws.inverse y over some))
          ∙ ring3 laws.ring (λ z y i. z ⊗ (y ⊗ i)) (λ z y i. i ⊗ (y ⊗ z)) refl z y (o.invert y)

  -- where y z = x, z is x / y
  quotient_is : (x y z : V) → o.IsOver y → ¬ (y ≡ o.nil) → o.times y z ≡ x → z ≡ quotient o x y
  quotient_is x y z over some e =
      cancel y z (quotient o x y) over some
      (e ∙ sym (ring3 laws.ring (λ x y z. y ⊗ (x ⊗ z)) (λ x y z. x ⊗ (y ⊗ z)) refl x y (o.invert y) ∙ ap (o.times x) (laws.inverse y over some) ∙ laws.ring.times_unit x))

  total_over : (n : ℕ) (f : ℕ → V) → ((l : ℕ) → l < n → o.IsOver (f l)) → o.IsOver (total o.nil o.plus n f)
  total_over zero f over = subst o.IsOver laws.rational_nil (laws.over_rational (whole (pos 0)))
  total_over (suc n) f over = laws.over_plus _ _ (over 0 (omega arith)) (total_over n (λ l. f (suc l)) (λ l less. over (suc l) (omega arith)))

  module _ (a : Entries) (array : IsArray a) where
    abbrev d : ℕ
    d = diameter a

    size_over : (r : ℕ) → o.IsOver (size_value o a r)
    size_over r = laws.over_rational _

    size_some : (r : ℕ) → r ≤ d → ¬ (size_value o a r ≡ o.nil)
    size_some r h = positive_apart _ (laws.rational_positive (size a r) (size_above a array r h))

    b_some : (i : ℕ) → i < d → ¬ (b_value o a i ≡ o.nil)
    b_some i h = let some = b-positive a i array h in let above : pos 0 <ℤ pos (b_at a i) = omega (arith, ints, some) in positive_apart _ (laws.whole_positive (pos (b_at a i)) above)

    first_a : a_value o a 0 ≡ o.nil
    first_a = ap (λ (z : ℤ). o.rational (whole z)) (let none_left : a_at a 0 ≡ pos 0 = omega (arith, ints) in none_left) ∙ laws.rational_nil

    sizes : (j : ℕ) → j < d → o.times (size_value o a (suc j)) (c_value o a (suc j)) ≡ o.times (size_value o a j) (b_value o a j)
    sizes j h = sym (laws.rational_times (size a (suc j)) (whole (pos (c_at a (suc j))))) ∙ ap o.rational (sizes_meet a j array h) ∙ laws.rational_times (size a j) (whole (pos (b_at a j)))

    module _ (theta : ℕ → V) (u p q : ℕ → ℕ → V) (has : HasEquations o a theta u p q) (i : ℕ) (hi : i ≤ d) where
      abbrev k : ℕ → V
      k = size_value o a

      abbrev b : ℕ → V
      b = b_value o a

      abbrev c : ℕ → V
      c = c_value o a

      abbrev x : V
      x = theta i

      -- a factor times an entry of the row
      scaled : (y : V) (r : ℕ) → r ≤ d → o.times y (p i r) ≡ o.times (k r) (o.times y (u i r))
      scaled y r h = ap (o.times y) (has.rows i r hi h) ∙ ring3 laws.ring (λ y k u. y ⊗ (k ⊗ u)) (λ y k u. k ⊗ (y ⊗ u)) refl y (k r) (u i r)

      before_is : (r : ℕ) → r < d → o.times (b r) (p i r) ≡ o.times (k (suc r)) (o.times (c (suc r)) (u i r))
      before_is r h =
          ap (o.times (b r)) (has.rows i r hi (omega arith))
          ∙ ring3 laws.ring (λ b k u. b ⊗ (k ⊗ u)) (λ b k u. (k ⊗ b) ⊗ u) refl (b r) (k r) (u i r)
          ∙ ap (λ z. o.times z (u i r)) (sym (sizes r h)) ∙ laws.ring.times_assoc (k (suc r)) (c (suc r)) (u i r)

      after_is : (j : ℕ) → j < d → o.times (c (suc j)) (p i (suc j)) ≡ o.times (k j) (o.times (b j) (u i (suc j)))
      after_is j h =
          ap (o.times (c (suc j))) (has.rows i (suc j) hi h)
          ∙ ring3 laws.ring (λ c k u. c ⊗ (k ⊗ u)) (λ c k u. (k ⊗ c) ⊗ u) refl (c (suc j)) (k (suc j)) (u i (suc j))
          ∙ ap (λ z. o.times z (u i (suc j))) (sizes j h) ∙ laws.ring.times_assoc (k j) (b j) (u i (suc j))

      inside : (j : ℕ) → j < d → (if nat_lt j d then o.times (c (suc j)) (p i (suc j)) else o.nil) ≡ o.times (k j) (o.times (b j) (u i (suc j)))
      inside j h = let less : nat_lt j d ≡ true = grind (arith, nat_tests) in rw less (after_is j h)

      -- b_0 u_1 = θ
      first_step : o.times (b 0) (u i 1) ≡ x
      first_step =
          let some = array.some in
          let whole_row = sym (scaled x 0 (omega arith)) ∙ has.recurrence i 0 hi (omega arith) ∙ ap₂ o.plus (ap (o.plus o.nil) (scaled (a_value o a 0) 0 (omega arith))) (inside 0 some)
          ∙ ring4 laws.ring (λ k s t n. (none ⊕ k ⊗ s) ⊕ k ⊗ t) (λ k s t n. k ⊗ (s ⊕ t)) refl (k 0) (o.times (a_value o a 0) (u i 0)) (o.times (b 0) (u i 1)) o.nil in
          let row = cancel (k 0) (o.times x (u i 0)) (o.plus (o.times (a_value o a 0) (u i 0)) (o.times (b 0) (u i 1))) (size_over 0) (size_some 0 (omega arith)) whole_row in
          sym (sym (laws.ring.times_unit x) ∙ ap (o.times x) (sym (has.first i hi)) ∙ row
          ∙ ap (λ z. o.plus (o.times z (u i 0)) (o.times (b 0) (u i 1))) first_a ∙ ring2 laws.ring (λ s t. none ⊗ s ⊕ t) (λ s t. t) refl (u i 0) (o.times (b 0) (u i 1)))

      -- b_(r+1) u_(r+2) = (θ - a_(r+1)) u_(r+1) - c_(r+1) u_r
      next_step : (r : ℕ) → suc r < d → o.times (b (suc r)) (u i (suc (suc r))) ≡ difference o (o.times (difference o x (a_value o a (suc r))) (u i (suc r))) (o.times (c (suc r)) (u i r))
      next_step r h =
          let j = suc r in
          let own = o.times (a_value o a j) (u i j) in
          let low = o.times (c j) (u i r) in
          let high = o.times (b j) (u i (suc j)) in
          let whole_row = sym (scaled x j (omega arith)) ∙ has.recurrence i j hi (omega arith) ∙ ap₂ o.plus (ap₂ o.plus (before_is r (omega arith)) (scaled (a_value o a j) j (omega arith))) (inside j h)
          ∙ ring4 laws.ring (λ k s t v. (k ⊗ s ⊕ k ⊗ t) ⊕ k ⊗ v) (λ k s t v. k ⊗ ((s ⊕ t) ⊕ v)) refl (k j) low own high in
          let row : o.times x (u i j) ≡ o.plus (o.plus low own) high = cancel (k j) (o.times x (u i j)) (o.plus (o.plus low own) high) (size_over j) (size_some j (omega arith)) whole_row in
          sym (ring4 laws.ring (λ x a v s. (x ⊕ neg a) ⊗ v ⊕ neg s) (λ x a v s. (x ⊗ v ⊕ neg (a ⊗ v)) ⊕ neg s) refl x (a_value o a j) (u i j) low
          ∙ ap (λ z. o.plus (o.plus z (o.minus own)) (o.minus low)) row
          ∙ ring3 laws.ring (λ s t v. (((s ⊕ t) ⊕ v) ⊕ neg t) ⊕ neg s) (λ s t v. v) refl low own high)

      two : (r : ℕ) → suc r ≤ d → (u i r ≡ cosine o a x r) × (u i (suc r) ≡ cosine o a x (suc r))
      two zero h = (has.first i hi, quotient_is x (b 0) (u i 1) (laws.over_rational _) (b_some 0 h) first_step)
      two (suc r) h =
          let earlier = two r (omega arith) in
          (earlier.1, quotient_is _ (b (suc r)) (u i (suc (suc r))) (laws.over_rational _) (b_some (suc r) h) (next_step r h) ∙ ap₂ (next_cosine o a r x) earlier.0 earlier.1)

      pub cosine_is : (r : ℕ) → r ≤ d → u i r ≡ cosine o a x r
      cosine_is zero h = has.first i hi
      cosine_is (suc r) h = (two r h).1

      pub eigen_is : (r : ℕ) → r ≤ d → p i r ≡ eigen_entry o a x r
      eigen_is r h = has.rows i r hi h ∙ ap (o.times (k r)) (cosine_is r h)

      -- ---- the multiplicity
      cosine_over : (r : ℕ) → r ≤ d → o.IsOver (u i r)
      cosine_over r h =
          subst o.IsOver (sym (quotient_is (p i r) (k r) (u i r) (size_over r) (size_some r h) (sym (has.rows i r hi h))))
          (laws.over_times (p i r) (o.invert (k r)) (has.p_over i r hi h) (laws.over_invert (k r) (size_over r) (size_some r h)))

      abbrev squares : V
      squares = total o.nil o.plus (suc d) (λ l. o.times (p i l) (u i l))

      squares_are : sum_of_squares o a x ≡ squares
      squares_are =
          dot_is_sum o laws.ring (eigen_entry o a x) (cosine o a x) (suc d)
          ∙ same_sum laws.ring (suc d) (λ l. o.times (eigen_entry o a x l) (cosine o a x l)) (λ l. o.times (p i l) (u i l)) (λ l h. ap₂ o.times (sym (eigen_is l (omega arith))) (sym (cosine_is l (omega arith))))

      counted : o.times squares (q 0 i) ≡ count_value o a
      counted =
          laws.ring.times_comm squares (q 0 i)
          ∙ scale_sum laws.ring (suc d) (q 0 i) (λ l. o.times (p i l) (u i l))
          ∙ same_sum laws.ring (suc d) (λ l. o.times (q 0 i) (o.times (p i l) (u i l))) (λ l. o.times (p i l) (q l i)) (λ l h.
          ring3 laws.ring (λ m p u. m ⊗ (p ⊗ u)) (λ m p u. p ⊗ (m ⊗ u)) refl (q 0 i) (p i l) (u i l) ∙ ap (o.times (p i l)) (sym (has.columns i l hi (omega arith))))
          ∙ has.product i hi

      squares_over : o.IsOver squares
      squares_over = total_over (suc d) (λ l. o.times (p i l) (u i l)) (λ l h. laws.over_times (p i l) (u i l) (has.p_over i l hi (omega arith)) (cosine_over l (omega arith)))

      squares_some : ¬ (squares ≡ o.nil)
      squares_some e =
          positive_apart (count_value o a) (laws.rational_positive (vertex_count a) (count_above a array))
          (sym counted ∙ ap (λ z. o.times z (q 0 i)) e ∙ ring2 laws.ring (λ x y. none ⊗ x) (λ x y. none) refl (q 0 i) (q 0 i))

      multiplicity_is : q 0 i ≡ multiplicity_of o a x
      multiplicity_is = quotient_is (count_value o a) squares (q 0 i) squares_over squares_some counted ∙ ap (quotient o (count_value o a)) (sym squares_are)

      pub dual_is : (r : ℕ) → r ≤ d → q r i ≡ dual_entry o a x r
      dual_is r h = has.columns i r hi h ∙ ap₂ o.times multiplicity_is (cosine_is r h)
