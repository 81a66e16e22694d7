-- What steps that hold say of the absolute bound.
use Rattle.std.proofs.Common.{◌≡◌, ℕ, zero, suc, ◌+◌, true, false, List, refl, sym, subst, inl, inr}
use Rattle.std.specs.Prelude.{ℤ, pos, ◌⊎◌, nat_eq}
use Rattle.drg_algebra.specs.Rational.{whole}
use Rattle.drg_algebra.specs.Tables.{total}
use Rattle.drg_algebra.proofs.Tests.{decided}
use Rattle.drg_fraction.specs.Field.{sum_of}
use Rattle.drg_quadratic.specs.Values.{IsRoot, IsOver, Value, nil, unit, plus, minus, times, invert, rational}
use Rattle.drg_quadratic.specs.Operations.{value_operations}
use Rattle.drg_quadratic.specs.Laws.{value_laws}
use Rattle.drg_replay.specs.Steps.{EachHolds}
use Rattle.drg_replay.specs.FieldNumbers.{value_at}
use Rattle.drg_replay.specs.KreinClaims.{vanishes, counted_from, half, allowed, exceeding_steps}
use Rattle.drg_replay.proofs.ValueLaws.{greater_is_positive}
use Rattle.drg_replay.proofs.FrameLaws.{value_over}
use Rattle.drg_replay.proofs.KreinHalves.{two_apart}
use Rattle.drg_replay.proofs.KreinSums.{counted, counted_total}

module _ (root : ℕ) (is_root : IsRoot root) where
  abbrev Over : Value → Type 0
  Over = IsOver root

  nil_over : Over nil
  nil_over e = refl

  unit_over : Over unit
  unit_over e = refl

  total_over : (n : ℕ) (f : ℕ → Value) → ((i : ℕ) → Over (f i)) → Over (total nil plus n f)
  total_over zero f all = nil_over
  total_over (suc n) f all =
      (value_laws root is_root).over_plus (f 0) (total nil plus n (λ i. f (suc i))) (all 0) (total_over n (λ i. f (suc i)) (λ i. all (suc i)))

  half_over : (x : Value) → Over x → Over (half root x)
  half_over x over =
      let laws = value_laws root is_root in
      let two : Value = rational (whole (pos 2)) in
      laws.over_times x (invert root two) over (laws.over_invert two (laws.over_rational (whole (pos 2))) (two_apart root is_root))

  allowed_over : (m : ℕ → Value) (i j : ℕ) → ((i : ℕ) → Over (m i)) → Over (allowed root m i j)
  allowed_over m i j all = by (decided (nat_eq i j))
    where
      by : (nat_eq i j ≡ true) ⊎ (nat_eq i j ≡ false) → Over (allowed root m i j)
      by (inl e) =
          let laws = value_laws root is_root in
          let next = laws.over_plus (m i) unit (all i) unit_over in
          rw e (half_over (times root (m i) (plus (m i) unit)) (laws.over_times (m i) (plus (m i) unit) (all i) next))
      by (inr e) = let laws = value_laws root is_root in rw e (laws.over_times (m i) (m j) (all i) (all j))

  counted_over : (m numbers : List ℤ) (h : ℕ) → Over (counted root m numbers h)
  counted_over m numbers h = by (decided (vanishes root numbers h))
    where
      by : (vanishes root numbers h ≡ true) ⊎ (vanishes root numbers h ≡ false) → Over (counted root m numbers h)
      by (inl e) = rw e nil_over
      by (inr e) = rw e (value_over root m h)

  pub exceeds : (m numbers : List ℤ) (i j d : ℕ) → EachHolds (exceeding_steps root (counted_from root m numbers 0 (d + 1)) (value_at root m) i j)
      → (value_operations root).IsPositive (plus (total nil plus (suc d) (counted root m numbers)) (minus (allowed root (value_at root m) i j)))
  unfolding exceeding_steps
  exceeds m numbers i j d h =
      let laws = value_laws root is_root in
      let most : Value = allowed root (value_at root m) i j in
      let sum = counted_total root m numbers is_root d in
      let below : Value → Value = λ x. plus x (minus most) in
      let over : Over (below (total nil plus (suc d) (counted root m numbers))) =
      laws.over_plus (total nil plus (suc d) (counted root m numbers)) (minus most) (total_over (suc d) (counted root m numbers) (counted_over m numbers))
      (laws.over_minus most (allowed_over (value_at root m) i j (value_over root m))) in
      subst (λ x. (value_operations root).IsPositive (below x)) sum
      (greater_is_positive root is_root (below (sum_of (value_operations root) (counted_from root m numbers 0 (d + 1)))) (subst (λ x. Over (below x)) (sym sum) over) h.1.1.1.1.0)
