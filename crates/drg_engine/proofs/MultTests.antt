-- The test mult: the array fails a claim of it or holds it, where it has a frame.
use Rattle.std.proofs.Common.{◌≡◌, ℕ, ◌≤◌, refl, sym, ap, ◌∙◌, subst, arith, inl, inr}
use Rattle.std.specs.Prelude.{ℤ, pos, negsuc, zero, suc, ◌<ℤ◌, ◌⊎◌}
use Rattle.std.proofs.lemmas.Int.{ints}
use Rattle.drg_algebra.specs.Fields.{rational_field}
use Rattle.drg_algebra.specs.Pairs.{pair_path}
use Rattle.drg_algebra.specs.Rational.{ℚ, whole, plus, minus, rationals}
use Rattle.drg_algebra.specs.Reduced.{numerator}
use Rattle.drg_algebra.specs.Ring.{◌⊕◌, neg, from_one, one, none, ring2}
use Rattle.drg_algebra.proofs.WholeParts.{numerator_whole}
use Rattle.drg_array.specs.Entries.{Entries, IsArray, diameter}
use Rattle.drg_array.specs.declared.claim.Claim.{Claim}
use Rattle.drg_array.specs.declared.claim.Claim.TheVariants.{Mult}
use Rattle.drg_array.specs.declared.test.Test.TheVariants as test
use Rattle.drg_evidence.specs.FrameValues.{FrameValues, HasFrame}
use Rattle.drg_evidence.specs.Laws.{OneFrameOfValues}
use Rattle.drg_quadratic.specs.Values.{Value, rational}
use Rattle.drg_engine.specs.Conditions.{Fails, Holds}

-- ---- whether a value is a whole number above 0
abbrev pub IsCounted : Value → Type 0
IsCounted x = (n : ℤ) × (pos 0 <ℤ n) × (x ≡ rational (whole n))

above_or_not : (n : ℤ) → (pos 0 <ℤ n) ⊎ (¬ (pos 0 <ℤ n))
above_or_not (pos zero) = inr (λ h. omega (arith, ints, h))
above_or_not (pos (suc n)) = inl (omega (arith, ints))
above_or_not (negsuc n) = inr (λ h. omega (arith, ints, h))

same_or_not : (p q : ℚ) → (p ≡ q) ⊎ (¬ (p ≡ q))
same_or_not p q =
    elim (rational_field.test (plus p (minus q))) [
      | inl nil ↦ inl (back nil)
      | inr other ↦ inr (λ e. other (ap (λ x. plus x (minus q)) e ∙ rationals.plus_minus q))
    ]
  where
    back : plus p (minus q) ≡ whole (pos 0) → p ≡ q
    back e = ring2 rationals (λ p q. p) (λ p q. (p ⊕ neg q) ⊕ q) refl p q ∙ (ap (λ x. plus x q) e ∙ (rationals.plus_comm (whole (pos 0)) q ∙ rationals.plus_nil q))

counted_or_not : (x : Value) → IsCounted x ⊎ (¬ IsCounted x)
counted_or_not x = go (same_or_not x.a (whole (numerator x.a))) (same_or_not x.b (whole (pos 0))) (above_or_not (numerator x.a))
  where
    go : (x.a ≡ whole (numerator x.a)) ⊎ (¬ (x.a ≡ whole (numerator x.a))) → (x.b ≡ whole (pos 0)) ⊎ (¬ (x.b ≡ whole (pos 0)))
        → (pos 0 <ℤ numerator x.a) ⊎ (¬ (pos 0 <ℤ numerator x.a)) → IsCounted x ⊎ (¬ IsCounted x)
    go (inl p) (inl q) (inl above) = inl (numerator x.a, above, pair_path _ _ p q)
    go (inr p) q above = inr (λ (n, h, e). p (ap (λ (z : Value). z.a) e ∙ ap whole (sym (ap (λ (z : Value). numerator z.a) e ∙ numerator_whole n))))
    go (inl p) (inr q) above = inr (λ (n, h, e). q (ap (λ (z : Value). z.b) e))
    go (inl p) (inl q) (inr below) = inr (λ (n, h, e). below (subst (λ (m : ℤ). pos 0 <ℤ m) (sym (ap (λ (z : Value). numerator z.a) e ∙ numerator_whole n)) h))

module _ (one : OneFrameOfValues) (a : Entries) (array : IsArray a) where
  -- the multiplicities of an array are those of any frame of it
  pub one_multiplicity : (f g : FrameValues) (i : ℕ) → HasFrame a f → HasFrame a g → i ≤ diameter a → IsCounted (f.dual 0 i) → IsCounted (g.dual 0 i)
  one_multiplicity f g i has also inside counted = subst IsCounted ((one a f g array has also).dual 0 i (omega arith) inside) counted

  pub mult_fails : (i : ℕ) → Fails a (Mult i) → ¬ Holds a test.Mult
  mult_fails i fails holds =
      fails.broken (one_multiplicity holds.frame fails.frame i holds.is fails.is fails.place.1 (holds.whole i fails.place))

pub mult_holds : (a : Entries) (f : FrameValues) → HasFrame a f → ((i : ℕ) → Fails a (Mult i) → ⊥) → Holds a test.Mult
mult_holds a f has never = record {
  frame = f;
  is = has;
  whole = λ i place. elim (counted_or_not (f.dual 0 i)) [
    | inl counted ↦ counted
    | inr broken ↦ absurd (never i (record { place = place; frame = f; is = has; broken = broken }))
  ];
}
