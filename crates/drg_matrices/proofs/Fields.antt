-- Values over a root: the ring of them, quotients, and numbers that aren't nil.
use Rattle.std.proofs.Common.{◌≡◌, ℕ, ◌≤◌, pos, refl, ap, sym, ◌∙◌, subst, arith}
use Rattle.std.specs.Prelude.{◌<ℤ◌}
use Rattle.std.proofs.lemmas.Int.{ints}
use Rattle.drg_algebra.specs.Ring.{CommutativeRing, none, ◌⊗◌, ring2, ring3}
use Rattle.drg_algebra.specs.Rational.{whole}
use Rattle.drg_fraction.specs.Operations.{Operations}
use Rattle.drg_fraction.specs.Field.{IsExactField}
use Rattle.drg_matrices.specs.Values.{quotient}

module _ {V : Type 0} {o : Operations V} {root : ℕ} (laws : IsExactField o root) where
  abbrev pub ring_of : CommutativeRing
  ring_of = record { Of = V; nil = o.nil; unit = o.unit; plus = o.plus; times = o.times; minus = o.minus; laws = laws.ring }

  pub times_nil : (x : V) → o.times x o.nil ≡ o.nil
  times_nil x = ring2 laws.ring (λ x y. x ⊗ none) (λ x y. none) refl x x

  -- a positive value isn't nil
  pub positive_apart : (x : V) → o.IsPositive x → ¬ (x ≡ o.nil)
  positive_apart x h e = laws.nil_is_not_positive (subst o.IsPositive e h)

  pub number_positive : (n : ℕ) → 1 ≤ n → o.IsPositive (o.rational (whole (pos n)))
  number_positive n h = let above : pos 0 <ℤ pos n = omega (arith, ints, h) in laws.whole_positive (pos n) above

  pub number_apart : (n : ℕ) → 1 ≤ n → ¬ (o.rational (whole (pos n)) ≡ o.nil)
  number_apart n h = positive_apart _ (number_positive n h)

  -- y (x / y) = x
  pub quotient_back : (x y : V) → o.IsOver y → ¬ (y ≡ o.nil) → o.times y (quotient o x y) ≡ x
  quotient_back x y over some =
      ring3 laws.ring (λ x y z. y ⊗ (x ⊗ z)) (λ x y z. x ⊗ (y ⊗ z)) refl x y (o.invert y)
      ∙ ap (o.times x) (laws.inverse y over some) ∙ laws.ring.times_unit x

  -- a factor that isn't nil is cancelled
  pub cancel : (y p q : V) → o.IsOver y → ¬ (y ≡ o.nil) → o.times y p ≡ o.times y q → p ≡ q
  cancel y p q over some e = back p ∙ ap (o.times (o.invert y)) e ∙ sym (back q)
    where
      back : (z : V) → z ≡ o.times (o.invert y) (o.times y z)
      back z =
          sym (laws.ring.times_unit z) ∙ ap (o.times z) (sym (laws.inverse y over some))
          ∙ ring3 laws.ring (λ z y i. z ⊗ (y ⊗ i)) (λ z y i. i ⊗ (y ⊗ z)) refl z y (o.invert y)
