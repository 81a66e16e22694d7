-- The tests of field numbers decide what they ask.
use Rattle.std.proofs.Common.{◌≡◌, ℕ, Bool, true, false, refl, sym, ap, ◌∙◌, subst}
use Rattle.std.specs.Prelude.{◌↔◌, IsTrue}
use Rattle.std.specs.Ordering.{int_eq}
use Rattle.std.specs.declared.cmp.Ordering.{Ordering}
use Rattle.std.specs.declared.cmp.Ordering.TheVariants.{Less, Equal, Greater}
use Rattle.std.proofs.lemmas.Bool.Decides.{Decides-int_eq}
use Rattle.drg_algebra.specs.Rational.{ℚ}
use Rattle.drg_algebra.specs.Reduced.{numerator, denominator, one_value}
use Rattle.drg_algebra.specs.Pairs.{pair_path}
use Rattle.drg_algebra.proofs.Tests.{both, and-in, not-false}
use Rattle.drg_fraction.specs.Operations.{Operations}
use Rattle.drg_quadratic.specs.Values.{IsRoot, IsOver, Value, norm}
use Rattle.drg_quadratic.specs.Work.{sign_of}
use Rattle.drg_quadratic.specs.declared.quadratic.Quadratic.{Quadratic}
use Rattle.drg_quadratic.specs.Quadratic.{value_of, root_of}
use Rattle.drg_quadratic.specs.Operations.{value_operations}
use Rattle.drg_quadratic.specs.Laws.{value_laws}
use Rattle.drg_quadratic.specs.Signs.{ValueSign, rational_sign, sign_by_parts, sign_by_norm, sign_by_reverse}
use Rattle.drg_replay.specs.FieldNumbers.{is_same_fraction, is_same_value, sign_by, sign_at, is_greater}

-- ---- equality
pub same_fraction : (x y : ℚ) → (is_same_fraction x y ≡ true) ↔ (x ≡ y)
same_fraction x y = (
  λ h. (let parts = both (int_eq (numerator x) (numerator y)) (int_eq (denominator x) (denominator y)) h in
      one_value x y ((Decides-int_eq _ _).0 parts.0) ((Decides-int_eq _ _).0 parts.1)),
  λ e. and-in _ _ ((Decides-int_eq _ _).1 (ap numerator e)) ((Decides-int_eq _ _).1 (ap denominator e)),
)

pub same_value : (x y : Value) → (is_same_value x y ≡ true) ↔ (x ≡ y)
same_value x y = (
  λ h. (let parts = both (is_same_fraction x.a y.a) (is_same_fraction x.b y.b) h in
      pair_path x y ((same_fraction x.a y.a).0 parts.0) ((same_fraction x.b y.b).0 parts.1)),
  λ e. and-in _ _ ((same_fraction x.a y.a).1 (ap (λ (z : Value). z.a) e)) ((same_fraction x.b y.b).1 (ap (λ (z : Value). z.b) e)),
)

pub same_test : (b : Bool) (x y : Value) → IsTrue b ↔ (x ≡ y) → b ≡ is_same_value x y
same_test true x y h = sym ((same_value x y).1 (h.0 refl))
same_test false x y h =
    sym (not-false (is_same_value x y) (λ e. (let never : false ≡ true = h.1 ((same_value x y).0 e) in absurd cc)))

-- ---- signs
module _ (root : ℕ) (h : IsRoot root) (z : Value) (o : IsOver root z) where
  sign_found : (s t n : Ordering) → s ≡ sign_of z.a → t ≡ sign_of z.b → n ≡ sign_of (norm root z) → ValueSign root z (sign_by s t n)
  sign_found Greater Less n e f g = sign_by_norm root h z o (rational_sign z.a Greater e) (rational_sign z.b Less f) n (rational_sign (norm root z) n g)
  sign_found Less Greater n e f g = sign_by_reverse root h z o (rational_sign z.a Less e) (rational_sign z.b Greater f) n (rational_sign (norm root z) n g)
  sign_found Less Less n e f g = sign_by_parts root z Less Less refl (rational_sign z.a Less e) (rational_sign z.b Less f)
  sign_found Less Equal n e f g = sign_by_parts root z Less Equal refl (rational_sign z.a Less e) (rational_sign z.b Equal f)
  sign_found Equal Less n e f g = sign_by_parts root z Equal Less refl (rational_sign z.a Equal e) (rational_sign z.b Less f)
  sign_found Equal Equal n e f g = sign_by_parts root z Equal Equal refl (rational_sign z.a Equal e) (rational_sign z.b Equal f)
  sign_found Equal Greater n e f g = sign_by_parts root z Equal Greater refl (rational_sign z.a Equal e) (rational_sign z.b Greater f)
  sign_found Greater Equal n e f g = sign_by_parts root z Greater Equal refl (rational_sign z.a Greater e) (rational_sign z.b Equal f)
  sign_found Greater Greater n e f g = sign_by_parts root z Greater Greater refl (rational_sign z.a Greater e) (rational_sign z.b Greater f)

  pub has_sign : ValueSign root z (sign_at root z)
  has_sign = sign_found (sign_of z.a) (sign_of z.b) (sign_of (norm root z)) refl refl refl

  abbrev ops : Operations Value
  ops = value_operations root

  not_both : ops.IsPositive z → ops.IsPositive (ops.minus z) → ⊥
  not_both p n =
      let laws = value_laws root h in
      laws.nil_is_not_positive (subst ops.IsPositive (laws.ring.plus_minus z) (laws.positive_plus z (ops.minus z) o (laws.over_minus z o) p n))

  not_nil : ops.IsPositive z → z ≡ ops.nil → ⊥
  not_nil p e = (value_laws root h).nil_is_not_positive (subst ops.IsPositive e p)

  not_minus_nil : ops.IsPositive (ops.minus z) → z ≡ ops.nil → ⊥
  not_minus_nil n e =
      let laws = value_laws root h in
      let none : ops.minus z ≡ ops.nil = ap ops.minus e ∙ (sym (laws.ring.plus_nil (ops.minus ops.nil)) ∙ (laws.ring.plus_comm (ops.minus ops.nil) ops.nil ∙ laws.ring.plus_minus ops.nil)) in
      laws.nil_is_not_positive (subst ops.IsPositive none n)

  -- a value has one sign
  pub one_sign : (s t : Ordering) → ValueSign root z s → ValueSign root z t → s ≡ t
  one_sign Less Less p q = refl
  one_sign Less Equal p q = absurd (not_minus_nil p q)
  one_sign Less Greater p q = absurd (not_both q p)
  one_sign Equal Less p q = absurd (not_minus_nil q p)
  one_sign Equal Equal p q = refl
  one_sign Equal Greater p q = absurd (not_nil q p)
  one_sign Greater Less p q = absurd (not_both p q)
  one_sign Greater Equal p q = absurd (not_nil p q)
  one_sign Greater Greater p q = refl

  pub greater_is_positive : is_greater (sign_at root z) ≡ true → ops.IsPositive z
  greater_is_positive e = by (sign_at root z) e has_sign
    where
      by : (s : Ordering) → is_greater s ≡ true → ValueSign root z s → ops.IsPositive z
      by Less e p = cc
      by Equal e p = cc
      by Greater e p = p

-- the sign of a number
pub sign_test : (x : Quadratic) (s : Ordering) → ValueSign (root_of x) (value_of x) s → is_greater s ≡ is_greater (sign_at (root_of x) (value_of x))
sign_test x s h = ap is_greater (one_sign x.root x.has_root (value_of x) x.flat s (sign_at x.root (value_of x)) h (has_sign x.root x.has_root (value_of x) x.flat))
