-- The half of a value over root 0 is that of a fraction.
use Rattle.std.proofs.Common.{◌≡◌, ℕ, pos, refl, sym, ap, ap₂, ◌∙◌, subst, arith}
use Rattle.std.specs.Prelude.{◌<ℤ◌}
use Rattle.std.proofs.lemmas.Int.{ints}
use Rattle.drg_algebra.specs.Rational.{ℚ, whole}
use Rattle.drg_algebra.specs.Rational as Rational
use Rattle.drg_algebra.specs.Fields.{invert_is}
use Rattle.drg_algebra.specs.Fields as Fields
use Rattle.drg_algebra.specs.Pairs.{pair_path}
use Rattle.drg_fraction.specs.Operations.{Operations}
use Rattle.drg_fraction.specs.Field.{IsExactField}
use Rattle.drg_fraction.specs.Rationals.{rational_operations, rational_laws}
use Rattle.drg_quadratic.specs.Values.{IsRoot, IsOver, Value, nil, unit, times, invert, rational}
use Rattle.drg_quadratic.specs.declared.quadratic.Quadratic.{Quadratic}
use Rattle.drg_quadratic.specs.Quadratic.{value_of, root_of}
use Rattle.drg_quadratic.specs.Operations.{value_operations}
use Rattle.drg_quadratic.specs.Laws.{value_laws}
use Rattle.drg_replay.specs.KreinClaims.{half}

-- 2 isn't 0
two_is_some : {V : Type 0} (o : Operations V) (root : ℕ) → IsExactField o root → ¬ (o.rational (whole (pos 2)) ≡ o.nil)
two_is_some o root laws e =
    let above : pos 0 <ℤ pos 2 = omega (arith, ints) in
    laws.nil_is_not_positive (subst o.IsPositive e (laws.whole_positive (pos 2) above))

pub two_apart : (root : ℕ) → IsRoot root → ¬ (rational (whole (pos 2)) ≡ nil)
two_apart root h = two_is_some (value_operations root) root (value_laws root h)

pub two_fractions_apart : ¬ (whole (pos 2) ≡ whole (pos 0))
two_fractions_apart = two_is_some rational_operations 0 (rational_laws 0 refl)

-- a value has one inverse
inverse_is : (root : ℕ) → IsRoot root → (z w : Value) → IsOver root z → ¬ (z ≡ nil) → times root z w ≡ unit → w ≡ invert root z
inverse_is root h z w over some e =
    let laws = value_laws root h in
    let r = laws.ring in
    sym (r.times_unit w)
    ∙ ap (times root w) (sym (laws.inverse z over some))
    ∙ sym (r.times_assoc w z (invert root z))
    ∙ ap (λ (x : Value). times root x (invert root z)) (r.times_comm w z ∙ e)
    ∙ r.times_comm unit (invert root z)
    ∙ r.times_unit (invert root z)

no_root : IsRoot 0
no_root positive = absurd (omega (arith, positive))

pub half_is : (x y : Value) → IsOver 0 x → y.a ≡ Rational.times x.a (Fields.invert (whole (pos 2))) → y.b ≡ whole (pos 0) → y ≡ half 0 x
half_is x y over a b =
    let laws = value_laws 0 no_root in
    let two : ℚ = whole (pos 2) in
    let flat : x ≡ rational x.a = pair_path x (rational x.a) refl (over refl) in
    let inverse : rational (Fields.invert two) ≡ invert 0 (rational two) =
    inverse_is 0 no_root (rational two) (rational (Fields.invert two)) (laws.over_rational two) (two_apart 0 no_root)
    (sym (laws.rational_times two (Fields.invert two)) ∙ ap rational (invert_is two two_fractions_apart) ∙ laws.rational_unit) in
    pair_path y (rational (Rational.times x.a (Fields.invert two))) a b
    ∙ laws.rational_times x.a (Fields.invert two)
    ∙ ap₂ (times 0) (sym flat) inverse

pub half_of : (x : Quadratic) (y : Value) → root_of x ≡ 0 → y.a ≡ Rational.times (value_of x).a (Fields.invert (whole (pos 2))) → y.b ≡ whole (pos 0) → y ≡ half 0 (value_of x)
half_of x y e a b = half_is (value_of x) y (λ z. x.flat e) a b
