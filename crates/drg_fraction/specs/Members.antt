-- The values that belong to one root, as an ordered field of their own, so that every law of ordered fields holds of them.
use Rattle.drg_algebra.specs.Ring.{CommutativeRing, IsField}
use Rattle.drg_algebra.specs.Order.{IsOrdered}
use Rattle.drg_algebra.specs.OrderLaws.{OrderedRingLaws}
use Rattle.drg_fraction.specs.Operations.{Operations}

module _ {V : Type 0} (o : Operations V) where
  -- a value that belongs to the root
  pub record Member : Type 0 where
    pub value : V
    pub over : o.IsOver value

  -- the operations keep to the root
  pub record IsClosed : Type 0 where
    pub over_nil : o.IsOver o.nil
    pub over_unit : o.IsOver o.unit
    pub over_plus : (x y : V) → o.IsOver x → o.IsOver y → o.IsOver (o.plus x y)
    pub over_times : (x y : V) → o.IsOver x → o.IsOver y → o.IsOver (o.times x y)
    pub over_minus : (x : V) → o.IsOver x → o.IsOver (o.minus x)

module _ {V : Type 0} {o : Operations V} (c : IsClosed o) where
  abbrev pub nil_member : Member o
  nil_member = record { value = o.nil; over = c.over_nil }

  abbrev pub unit_member : Member o
  unit_member = record { value = o.unit; over = c.over_unit }

  abbrev pub plus_members : Member o → Member o → Member o
  plus_members x y = record { value = o.plus x.value y.value; over = c.over_plus x.value y.value x.over y.over }

  abbrev pub times_members : Member o → Member o → Member o
  times_members x y = record { value = o.times x.value y.value; over = c.over_times x.value y.value x.over y.over }

  abbrev pub minus_member : Member o → Member o
  minus_member x = record { value = o.minus x.value; over = c.over_minus x.value x.over }

  -- the ring of the members
  abbrev pub members : IsField nil_member unit_member plus_members times_members minus_member → CommutativeRing
  members f = record {
    Of = Member o;
    nil = nil_member;
    unit = unit_member;
    plus = plus_members;
    times = times_members;
    minus = minus_member;
    laws = f.ring;
  }

-- The operations keep to the root, its members are a field by them, and the positive ones order it, so that squares,
-- weighted squares and sums are positive where the laws of ordered rings say so.
pub record AreOrderedField {V : Type 0} (o : Operations V) : Type 0 where
  pub closed : IsClosed o
  pub field : IsField (nil_member closed) (unit_member closed) (plus_members closed) (times_members closed) (minus_member closed)
  pub order : IsOrdered (members closed field) (λ x. o.IsPositive x.value)
  pub laws : OrderedRingLaws (members closed field) (λ x. o.IsPositive x.value)
