-- A right inverse of a square table is a left one, over the values of a root.
use Rattle.std.proofs.Common.{◌≡◌, ℕ, zero, suc, ◌<◌, ◌≤◌, refl, sym, ap, ap₂, ◌∙◌, arith, ◌⊎◌, inl, inr}
use Rattle.std.proofs.lemmas.Bool.{cases_lt}
use Rattle.drg_algebra.specs.Ring.{Field}
use Rattle.drg_algebra.specs.Tables.{total, delta}
use Rattle.drg_algebra.proofs.Totals.{same_sum, scaled_unit}
use Rattle.drg_algebra.proofs.Tables.{right_inverse_is_left_holds}
use Rattle.drg_fraction.specs.Operations.{Operations}
use Rattle.drg_fraction.specs.Field.{IsExactField}
use Rattle.drg_fraction.specs.Members.{Member, members}
use Rattle.drg_fraction.proofs.Fields.{members_are_ordered_field, member_path}
use Rattle.drg_matrix.specs.Table.{IsTableOver}
use Rattle.drg_matrix.specs.Product.{entry}
use Rattle.drg_matrix.specs.Laws.{RightInverseIsLeft}

module _ {V : Type 0} {o : Operations V} {root : ℕ} (laws : IsExactField o root) where
  abbrev field : Field
  field =
      let m = members_are_ordered_field laws in
      record { ring = members m.closed m.field; laws = m.field }

  -- a table of values over the root as one of members
  module _ (n : ℕ) (p : ℕ → ℕ → V) (over : IsTableOver o n p) where
    picked : (i j : ℕ) → (i < n) ⊎ (n ≤ i) → (j < n) ⊎ (n ≤ j) → Member o
    picked i j (inl h) (inl k) = record { value = p i j; over = over i j h k }
    picked i j (inl h) (inr k) = field.ring.nil
    picked i j (inr h) k = field.ring.nil

    picked_is : (i j : ℕ) → i < n → j < n → (x : (i < n) ⊎ (n ≤ i)) (y : (j < n) ⊎ (n ≤ j)) → (picked i j x y).value ≡ p i j
    unfolding picked
    picked_is i j h k (inl x) (inl y) = refl
    picked_is i j h k (inl x) (inr y) = absurd (omega arith)
    picked_is i j h k (inr x) y = absurd (omega arith)

    lifted : ℕ → ℕ → Member o
    lifted i j = picked i j (cases_lt i n) (cases_lt j n)

    lifted_is : (i j : ℕ) → i < n → j < n → (lifted i j).value ≡ p i j
    unfolding lifted
    lifted_is i j h k = picked_is i j h k (cases_lt i n) (cases_lt j n)

  value_of_total : (n : ℕ) (f : ℕ → Member o) → (total field.ring.nil field.ring.plus n f).value ≡ total o.nil o.plus n (λ i. (f i).value)
  value_of_total zero f = refl
  value_of_total (suc n) f = ap (o.plus (f 0).value) (value_of_total n (λ i. f (suc i)))

  value_of_delta : (i j : ℕ) (x : Member o) → (delta field.ring.nil x i j).value ≡ delta o.nil x.value i j
  value_of_delta zero zero x = refl
  value_of_delta zero (suc j) x = refl
  value_of_delta (suc i) zero x = refl
  value_of_delta (suc i) (suc j) x = value_of_delta i j x

  -- a cell of the product of the tables of members
  value_of_entry : (n : ℕ) (p q : ℕ → ℕ → V) (hp : IsTableOver o n p) (hq : IsTableOver o n q) (i j : ℕ) → i < n → j < n
      → (total field.ring.nil field.ring.plus n (λ l. field.ring.times (lifted n p hp i l) (lifted n q hq l j))).value ≡ entry o n p q i j
  value_of_entry n p q hp hq i j h k =
      value_of_total n (λ l. field.ring.times (lifted n p hp i l) (lifted n q hq l j))
      ∙ same_sum laws.ring n (λ l. o.times (lifted n p hp i l).value (lifted n q hq l j).value) (λ l. o.times (p i l) (q l j)) (λ l g. ap₂ o.times (lifted_is n p hp i l h g) (lifted_is n q hq l j g k))

  pub right_inverse_is_left_holds_over : RightInverseIsLeft o
  right_inverse_is_left_holds_over n p q x hp hq over some scalar i j h k =
      let y : Member o = record { value = x; over = over } in
      let unit_is = λ (i j : ℕ). ap (o.times x) (value_of_delta i j field.ring.unit) ∙ scaled_unit laws.ring x i j in
      let turned = right_inverse_is_left_holds field n (lifted n p hp) (lifted n q hq) y (λ e. some (ap (λ (z : Member o). z.value) e)) (λ i j h k.
      member_path laws _ _ (value_of_entry n p q hp hq i j h k ∙ scalar i j h k ∙ sym (unit_is i j))) in
      sym (value_of_entry n q p hq hp i j h k) ∙ ap (λ (z : Member o). z.value) (turned i j h k) ∙ unit_is i j
