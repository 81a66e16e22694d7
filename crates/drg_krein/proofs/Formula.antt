-- The weighted sums over the products of three cosines meet the equations of Krein parameters, by P Q = n I and so Q P = n I.
use Rattle.std.proofs.Common.{◌≡◌, ℕ, suc, ◌<◌, ◌≤◌, refl, sym, ap, ap₂, ◌∙◌, arith, subst}
use Rattle.drg_algebra.specs.Ring.{◌⊗◌, ring3, ring5, ring6}
use Rattle.drg_algebra.specs.Tables.{total, delta}
use Rattle.drg_algebra.proofs.Totals.{same_sum, scale_sum, swap_sums, delta_sum, scaled_unit}
use Rattle.drg_array.specs.Entries.{Entries, IsArray, diameter}
use Rattle.drg_array.specs.Numbers.{vertex_count}
use Rattle.drg_array.proofs.SizeSigns.{count_above}
use Rattle.drg_fraction.specs.Operations.{Operations}
use Rattle.drg_fraction.specs.Field.{IsExactField}
use Rattle.drg_matrix.specs.Laws.{RightInverseIsLeft}
use Rattle.drg_matrix.specs.Product.{ProductIsScalar}
use Rattle.drg_matrices.specs.Frame.{IsFrameOf}
use Rattle.drg_matrices.specs.Values.{quotient, size_value, count_value}
use Rattle.drg_krein.specs.Values.{FrameValues}
use Rattle.drg_krein.specs.Formulas.{scale, term, weighted_sum, krein_number}
use Rattle.drg_krein.specs.Laws.{FormulaGivesKrein, FormulaIsSymmetric}
use Rattle.drg_krein.proofs.Sums.{dot_is_sum}

module _ {V : Type 0} {o : Operations V} {root : ℕ} (laws : IsExactField o root) where
  module _ (a : Entries) (theta : ℕ → V) (u p q : ℕ → ℕ → V) (frame : IsFrameOf o root a theta u p q) where
    abbrev n : ℕ
    n = suc (diameter a)

    abbrev count : V
    count = count_value o a

    abbrev f : FrameValues V
    f = record { d = diameter a; n = count; u = u; p = p; q = q }

    abbrev sum : (ℕ → V) → V
    sum g = total o.nil o.plus n g

    -- the weighted sum as a sum over the places
    weighted_is : (i j h : ℕ) → weighted_sum o f i j h ≡ sum (λ s. o.times (term o f i j s) (u h s))
    weighted_is i j h = dot_is_sum o laws.ring (term o f i j) (u h) n

    pub symmetric : (i j h : ℕ) → i ≤ diameter a → j ≤ diameter a → krein_number o f i j h ≡ krein_number o f j i h
    symmetric i j h hi hj =
        ap₂ o.times (ap (λ m. quotient o m count) (laws.ring.times_comm (q 0 i) (q 0 j)))
        (weighted_is i j h ∙ same_sum laws.ring n (λ s. o.times (term o f i j s) (u h s)) (λ s. o.times (term o f j i s) (u h s)) (λ s k. ap (λ x. o.times x (u h s)) (same_term s (omega arith))) ∙ sym (weighted_is j i h))
      where
        same_term : (s : ℕ) → s ≤ diameter a → term o f i j s ≡ term o f j i s
        same_term s k =
            ap (λ x. o.times x (u j s)) (frame.rows i s hi k)
            ∙ ring3 laws.ring (λ k x y. (k ⊗ x) ⊗ y) (λ k x y. (k ⊗ y) ⊗ x) refl (size_value o a s) (u i s) (u j s)
            ∙ ap (λ x. o.times x (u i s)) (sym (frame.rows j s hj k))

    module _ (array : IsArray a) (two_sided : RightInverseIsLeft o) where
      some : ¬ (count ≡ o.nil)
      some e = laws.nil_is_not_positive (subst o.IsPositive e (laws.rational_positive (vertex_count a) (count_above a array)))

      turned : ProductIsScalar o n q p count
      turned = two_sided n p q count frame.frame.p_over frame.frame.q_over (laws.over_rational (vertex_count a)) some frame.frame.product

      module _ (i j r : ℕ) (hi : i ≤ diameter a) (hj : j ≤ diameter a) (hr : r ≤ diameter a) where
        abbrev pair : ℕ → V
        pair s = o.times (u i s) (u j s)

        -- Q_rh times a term of the weighted sum
        turned_term : (h s : ℕ) → h ≤ diameter a → s ≤ diameter a
            → o.times (q r h) (o.times (term o f i j s) (u h s)) ≡ o.times (pair s) (o.times (q r h) (p h s))
        turned_term h s hh hs =
            ap (λ x. o.times (q r h) (o.times (o.times x (u j s)) (u h s))) (frame.rows i s hi hs)
            ∙ ring5 laws.ring (λ q k x y z. q ⊗ (((k ⊗ x) ⊗ y) ⊗ z)) (λ q k x y z. (x ⊗ y) ⊗ (q ⊗ (k ⊗ z))) refl (q r h) (size_value o a s) (u i s) (u j s) (u h s)
            ∙ ap (λ x. o.times (pair s) (o.times (q r h) x)) (sym (frame.rows h s hh hs))

        -- a parameter times Q_rh
        one_column : (h : ℕ) → h < n → o.times (krein_number o f i j h) (q r h) ≡ o.times (scale o f i j) (sum (λ s. o.times (pair s) (o.times (q r h) (p h s))))
        one_column h hh =
            ap (λ x. o.times (o.times (scale o f i j) x) (q r h)) (weighted_is i j h)
            ∙ ring3 laws.ring (λ m x q. (m ⊗ x) ⊗ q) (λ m x q. m ⊗ (q ⊗ x)) refl (scale o f i j) (sum (λ s. o.times (term o f i j s) (u h s))) (q r h)
            ∙ ap (o.times (scale o f i j))
            (scale_sum laws.ring n (q r h) (λ s. o.times (term o f i j s) (u h s))
            ∙ same_sum laws.ring n (λ s. o.times (q r h) (o.times (term o f i j s) (u h s))) (λ s. o.times (pair s) (o.times (q r h) (p h s))) (λ s k. turned_term h s (omega arith) (omega arith)))

        -- the sum over h of Q_rh P_hs is n where r = s, and else nil
        one_place : (s : ℕ) → s < n → sum (λ h. o.times (pair s) (o.times (q r h) (p h s))) ≡ o.times (o.times (pair s) count) (delta o.nil o.unit r s)
        one_place s k =
            sym (scale_sum laws.ring n (pair s) (λ h. o.times (q r h) (p h s)))
            ∙ ap (o.times (pair s)) (turned r s (omega arith) k ∙ sym (scaled_unit laws.ring count r s))
            ∙ sym (laws.ring.times_assoc (pair s) count (delta o.nil o.unit r s))

        pub meets : o.times (q r i) (q r j) ≡ sum (λ h. o.times (krein_number o f i j h) (q r h))
        meets =
            sym
            (same_sum laws.ring n (λ h. o.times (krein_number o f i j h) (q r h)) (λ h. o.times (scale o f i j) (sum (λ s. o.times (pair s) (o.times (q r h) (p h s))))) one_column
            ∙ sym (scale_sum laws.ring n (scale o f i j) (λ h. sum (λ s. o.times (pair s) (o.times (q r h) (p h s)))))
            ∙ ap (o.times (scale o f i j))
            (swap_sums laws.ring n n (λ h s. o.times (pair s) (o.times (q r h) (p h s)))
            ∙ same_sum laws.ring n (λ s. sum (λ h. o.times (pair s) (o.times (q r h) (p h s)))) (λ s. o.times (o.times (pair s) count) (delta o.nil o.unit r s)) one_place
            ∙ delta_sum laws.ring n r (λ s. o.times (pair s) count) (omega arith))
            ∙ ring6 laws.ring (λ a b g x y n. ((a ⊗ b) ⊗ g) ⊗ ((x ⊗ y) ⊗ n)) (λ a b g x y n. ((a ⊗ x) ⊗ (b ⊗ y)) ⊗ (n ⊗ g)) refl (q 0 i) (q 0 j) (o.invert count) (u i r) (u j r) count
            ∙ ap (o.times (o.times (o.times (q 0 i) (u i r)) (o.times (q 0 j) (u j r)))) (laws.inverse count (laws.over_rational (vertex_count a)) some)
            ∙ laws.ring.times_unit (o.times (o.times (q 0 i) (u i r)) (o.times (q 0 j) (u j r)))
            ∙ ap₂ o.times (sym (frame.columns i r hi hr)) (sym (frame.columns j r hj hr)))

  pub formula_gives_krein : RightInverseIsLeft o → FormulaGivesKrein o root
  formula_gives_krein two_sided a theta u p q array frame i j hi hj r hr = meets a theta u p q frame array two_sided i j r hi hj hr

  pub formula_is_symmetric : FormulaIsSymmetric o root
  formula_is_symmetric a theta u p q frame i j h hi hj = symmetric a theta u p q frame i j h hi hj
