-- The values over a root are an ordered field by the laws of an exact field.
use Rattle.std.proofs.Common.{◌≡◌, ap, subst, ◌⊎◌, inl, inr, ℕ, pos}
use mathlib.Core.HLevel.{is_prop→PathP}
use Rattle.drg_algebra.specs.Ring.{IsField}
use Rattle.drg_algebra.specs.Rational.{whole}
use Rattle.drg_algebra.specs.Order.{IsOrdered}
use Rattle.drg_algebra.proofs.Ordered.{ordered_ring_laws_hold}
use Rattle.drg_fraction.specs.Operations.{Operations}
use Rattle.drg_fraction.specs.Field.{IsExactField}
use Rattle.drg_fraction.specs.Members.{Member, IsClosed, nil_member, unit_member, plus_members, times_members, minus_member, members, AreOrderedField}

module _ {V : Type 0} {o : Operations V} {root : ℕ} (laws : IsExactField o root) where
  -- a value is at most one member
  pub member_path : (x y : Member o) → x.value ≡ y.value → x ≡ y
  member_path x y e i = record { value = e i; over = is_prop→PathP (λ j. o.IsOver (e j)) (λ j. laws.over_prop (e j)) x.over y.over i }

  closed : IsClosed o
  closed = record {
    over_nil = subst o.IsOver laws.rational_nil (laws.over_rational (whole (pos 0)));
    over_unit = subst o.IsOver laws.rational_unit (laws.over_rational (whole (pos 1)));
    over_plus = laws.over_plus;
    over_times = laws.over_times;
    over_minus = laws.over_minus;
  }

  told : (x : Member o) → (x.value ≡ o.nil) ⊎ (¬ (x.value ≡ o.nil)) → (x ≡ nil_member closed) ⊎ (¬ (x ≡ nil_member closed))
  told x (inl e) = inl (member_path _ _ e)
  told x (inr f) = inr (λ e. f (ap (λ y. y.value) e))

  member_field : IsField (nil_member closed) (unit_member closed) (plus_members closed) (times_members closed) (minus_member closed)
  member_field = record {
    ring = record {
      plus_assoc = λ x y z. member_path _ _ (laws.ring.plus_assoc x.value y.value z.value);
      plus_comm = λ x y. member_path _ _ (laws.ring.plus_comm x.value y.value);
      plus_nil = λ x. member_path _ _ (laws.ring.plus_nil x.value);
      plus_minus = λ x. member_path _ _ (laws.ring.plus_minus x.value);
      times_assoc = λ x y z. member_path _ _ (laws.ring.times_assoc x.value y.value z.value);
      times_comm = λ x y. member_path _ _ (laws.ring.times_comm x.value y.value);
      times_unit = λ x. member_path _ _ (laws.ring.times_unit x.value);
      times_plus = λ x y z. member_path _ _ (laws.ring.times_plus x.value y.value z.value);
    };
    apart = λ e. laws.apart (ap (λ y. y.value) e);
    test = λ x. told x (laws.told x.value);
    inverse = λ x f.
        let some : ¬ (x.value ≡ o.nil) = λ e. f (member_path _ _ e) in
        (record { value = o.invert x.value; over = laws.over_invert x.value x.over some }, member_path _ _ (laws.inverse x.value x.over some));
  }

  sign : (x : Member o) → o.IsPositive x.value ⊎ ((x.value ≡ o.nil) ⊎ o.IsPositive (o.minus x.value))
      → o.IsPositive x.value ⊎ ((x ≡ nil_member closed) ⊎ o.IsPositive (o.minus x.value))
  sign x (inl h) = inl h
  sign x (inr (inl e)) = inr (inl (member_path _ _ e))
  sign x (inr (inr h)) = inr (inr h)

  member_order : IsOrdered (members closed member_field) (λ x. o.IsPositive x.value)
  member_order = record {
    plus = λ x y. laws.positive_plus x.value y.value x.over y.over;
    times = λ x y. laws.positive_times x.value y.value x.over y.over;
    sign = λ x. sign x (laws.positive_or_not x.value x.over);
    apart = laws.nil_is_not_positive;
  }

  pub members_are_ordered_field : AreOrderedField o
  members_are_ordered_field = record {
    closed = closed;
    field = member_field;
    order = member_order;
    laws = ordered_ring_laws_hold (members closed member_field) (λ x. o.IsPositive x.value) member_order;
  }
