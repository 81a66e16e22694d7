-- Quotients in a field.
use Rattle.std.proofs.Common.{◌≡◌, refl, ap, sym, ◌∙◌, ◌⊎◌, inl, inr}
use Rattle.drg_algebra.specs.Ring.{IsField, Field, none, one, ◌⊕◌, ◌⊗◌, neg, from_one, ring2, ring3}
use Rattle.drg_algebra.specs.RingLaws.{FieldLaws}

module _ {R : Type 0} {nil unit : R} {plus times : R → R → R} {minus : R → R} (f : IsField nil unit plus times minus) where
  pub cancel_left : (c x y : R) → ¬ (c ≡ nil) → times c x ≡ times c y → x ≡ y
  cancel_left c x y n e =
      let r = f.inverse c n in
      back x r.0 r.1 ∙ ap (times r.0) e ∙ sym (back y r.0 r.1)
    where
      back : (x r : R) → times c r ≡ unit → x ≡ times r (times c x)
      back x r q = from_one f.ring _ _ (minus x) _ _ q (ring3 f.ring (λ x c r. x ⊕ neg x ⊗ one) (λ x c r. r ⊗ (c ⊗ x) ⊕ neg x ⊗ (c ⊗ r)) refl x c r)

  no_divisors : (x y : R) → times x y ≡ nil → (x ≡ nil) ⊎ (y ≡ nil)
  no_divisors x y e = go (f.test x)
    where
      go : (x ≡ nil) ⊎ (¬ (x ≡ nil)) → (x ≡ nil) ⊎ (y ≡ nil)
      go (inl h) = inl h
      go (inr ne) = inr (cancel_left x y nil ne (e ∙ ring2 f.ring (λ x y. none) (λ x y. x ⊗ none) refl x y))

  divided : (x y : R) → ¬ (y ≡ nil) → (q : R) × (times y q ≡ x)
  divided x y ne =
      let r = f.inverse y ne in
      (times r.0 x, sym (f.ring.times_assoc y r.0 x) ∙ ap (λ z. times z x) r.1 ∙ ring2 f.ring (λ x y. one ⊗ x) (λ x y. x) refl x y)

pub field_laws_hold : (f : Field) → FieldLaws f
field_laws_hold f = record { quotient = divided f.laws; cancel = cancel_left f.laws; domain = no_divisors f.laws }
