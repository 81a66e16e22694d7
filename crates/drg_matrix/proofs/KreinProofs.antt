-- A frame has at most one family of Krein numbers.
use Rattle.std.proofs.Common.{◌≡◌, ℕ, suc, ◌<◌, refl, sym, ap, ◌∙◌, arith, subst}
use Rattle.drg_algebra.specs.Ring.{IsRing, ◌⊗◌, ring3}
use Rattle.drg_algebra.specs.Tables.{total, delta}
use Rattle.drg_algebra.proofs.Totals.{same_sum, scale_sum, swap_sums, delta_sum, scaled_unit}
use Rattle.drg_fraction.specs.Operations.{Operations}
use Rattle.drg_fraction.specs.Field.{IsExactField}
use Rattle.drg_array.specs.Entries.{Entries, IsArray, diameter}
use Rattle.drg_array.specs.Numbers.{vertex_count}
use Rattle.drg_matrix.specs.Product.{ProductIsScalar}
use Rattle.drg_matrix.specs.Laws.{OneKreinFamily}
use Rattle.drg_array.proofs.SizeSigns.{count_above}

module _ {V : Type 0} (o : Operations V) (r : IsRing o.nil o.unit o.plus o.times o.minus) where
  -- p q = v I: the sum over r of p_jr (the sum over h of x_h q_rh) is x_j v
  weighted : (n : ℕ) (p q : ℕ → ℕ → V) (v : V) → ProductIsScalar o n p q v → (x : ℕ → V) (j : ℕ) → j < n
      → total o.nil o.plus n (λ l. o.times (p j l) (total o.nil o.plus n (λ h. o.times (x h) (q l h)))) ≡ o.times (x j) v
  weighted n p q v scalar x j g =
      same_sum r n (λ l. o.times (p j l) (total o.nil o.plus n (λ h. o.times (x h) (q l h)))) (λ l. total o.nil o.plus n (λ h. o.times (p j l) (o.times (x h) (q l h)))) (λ l k. scale_sum r n (p j l) (λ h. o.times (x h) (q l h)))
      ∙ swap_sums r n n (λ l h. o.times (p j l) (o.times (x h) (q l h)))
      ∙ same_sum r n (λ h. total o.nil o.plus n (λ l. o.times (p j l) (o.times (x h) (q l h)))) (λ h. o.times (o.times (x h) v) (delta o.nil o.unit j h)) column
      ∙ delta_sum r n j (λ h. o.times (x h) v) g
    where
      column : (h : ℕ) → h < n → total o.nil o.plus n (λ l. o.times (p j l) (o.times (x h) (q l h))) ≡ o.times (o.times (x h) v) (delta o.nil o.unit j h)
      column h k =
          same_sum r n (λ l. o.times (p j l) (o.times (x h) (q l h))) (λ l. o.times (x h) (o.times (p j l) (q l h))) (λ l m. ring3 r (λ p x q. p ⊗ (x ⊗ q)) (λ p x q. x ⊗ (p ⊗ q)) refl (p j l) (x h) (q l h))
          ∙ sym (scale_sum r n (x h) (λ l. o.times (p j l) (q l h)))
          ∙ ap (o.times (x h)) (scalar j h g k ∙ sym (scaled_unit r v j h))
          ∙ sym (r.times_assoc (x h) v (delta o.nil o.unit j h))

module _ {V : Type 0} {o : Operations V} {root : ℕ} (laws : IsExactField o root) where
  -- the number of vertices isn't nil
  some : (a : Entries) → IsArray a → ¬ (o.rational (vertex_count a) ≡ o.nil)
  some a h e = laws.nil_is_not_positive (subst o.IsPositive e (laws.rational_positive (vertex_count a) (count_above a h)))

  divided : (x v : V) → o.times v (o.invert v) ≡ o.unit → x ≡ o.times (o.times x v) (o.invert v)
  divided x v e = sym (laws.ring.times_unit x) ∙ ap (o.times x) (sym e) ∙ sym (laws.ring.times_assoc x v (o.invert v))

  pub one_krein_family : OneKreinFamily o
  one_krein_family a theta p q h frame i j x y kx ky m g =
      let v = o.rational (vertex_count a) in
      let side = suc (diameter a) in
      let e = laws.inverse v (laws.over_rational (vertex_count a)) (some a h) in
      let same : o.times (x m) v ≡ o.times (y m) v =
      sym (weighted o laws.ring side p q v frame.product x m (omega arith))
      ∙ same_sum laws.ring side (λ l. o.times (p m l) (total o.nil o.plus side (λ h. o.times (x h) (q l h)))) (λ l. o.times (p m l) (total o.nil o.plus side (λ h. o.times (y h) (q l h))))
      (λ l k. ap (o.times (p m l)) (sym (kx l (omega arith)) ∙ ky l (omega arith)))
      ∙ weighted o laws.ring side p q v frame.product y m (omega arith) in
      divided (x m) v e ∙ ap (λ z. o.times z (o.invert v)) same ∙ sym (divided (y m) v e)
