-- The values over a root meet the laws of an exact field.
use Rattle.std.specs.Prelude.{◌≡◌, ℕ, zero, suc, ◌<◌, pos, refl}
use Rattle.std.proofs.Common.{ap, ap₂, ◌∙◌, subst, ◌⊎◌, inl, inr, arith}
use Rattle.drg_algebra.specs.Ring.{none, one, ◌⊕◌, ◌⊗◌, neg, from_one, ring2, ring3, ring4}
use Rattle.drg_algebra.specs.Rational.{ℚ, whole, rationals, rational_numbers}
use Rattle.drg_algebra.specs.Rational as Rational
use Rattle.drg_algebra.specs.Fields.{rational_field, rationals_field, invert_is}
use Rattle.drg_algebra.specs.Fields as Fields
use Rattle.drg_algebra.specs.Ratio.{one_above}
use Rattle.drg_algebra.specs.Pairs.{pair_path, product_a, product_b, root_values}
use Rattle.drg_algebra.specs.Root.{only_zeros}
use Rattle.drg_algebra.specs.Order.{IsAbove, IsPositive}
use Rattle.drg_algebra.proofs.Maps.{constant_map, embedded_map}
use Rattle.drg_algebra.proofs.Pairs.{pair_laws_hold}
use Rattle.drg_algebra.proofs.RootValues.{square_of_root}
use Rattle.drg_algebra.proofs.Quotients.{field_laws_hold}
use Rattle.drg_algebra.proofs.NumberOrder.{sign_of_whole}
use Rattle.drg_algebra.proofs.WholeParts.{zero_times}
use Rattle.drg_algebra.proofs.Order.{rationals_ordered, values_ordered, sign_of_embedded}
use Rattle.drg_fraction.specs.Field.{IsExactField}
use Rattle.drg_quadratic.specs.Values.{IsRoot, IsOver, flat_prop, Value, nil, unit, plus, minus, times, invert, norm, rational, square_root}
use Rattle.drg_quadratic.specs.Operations.{value_operations}

-- ---- inverses
square_is_nil : (q : ℚ) → Rational.times q q ≡ whole (pos 0) → q ≡ whole (pos 0)
square_is_nil q e = go ((field_laws_hold rationals_field).domain q q e)
  where
    go : (q ≡ whole (pos 0)) ⊎ (q ≡ whole (pos 0)) → q ≡ whole (pos 0)
    go (inl h) = h
    go (inr h) = h

-- a² - root b² is 0 only at 0
pub norm_is_nil : (root : ℕ) → IsRoot root → (z : Value) → IsOver root z → norm root z ≡ whole (pos 0) → z ≡ nil
norm_is_nil zero h z o e =
    pair_path _ _ (square_is_nil z.a
    (ring2 rationals (λ a b. a ⊗ a) (λ a b. a ⊗ a ⊕ neg (none ⊗ (b ⊗ b))) refl z.a z.b ∙ e)) (o refl)
norm_is_nil (suc n) h z o e =
    let root = h (omega arith) in
    let q : Rational.times z.a z.a ≡ Rational.times (whole (pos (suc n))) (Rational.times z.b z.b) =
    from_one rationals _ _ (whole (pos 1)) _ _ e
    (ring3 rationals (λ a b k. a ⊗ a ⊕ one ⊗ none) (λ a b k. k ⊗ (b ⊗ b) ⊕ one ⊗ (a ⊗ a ⊕ neg (k ⊗ (b ⊗ b)))) refl z.a z.b (whole (pos (suc n)))) in
    let p = only_zeros (suc n) root.0 root.1 z.a z.b q in
    pair_path _ _ p.0 p.1

times_invert : (root : ℕ) → IsRoot root → (z : Value) → IsOver root z → ¬ (z ≡ nil) → times root z (invert root z) ≡ unit
times_invert root h z o f =
    let some : ¬ (norm root z ≡ whole (pos 0)) = λ e. f (norm_is_nil root h z o e) in
    pair_path _ _
    (ring4 rationals
    (λ k a b r. product_a none (neg k) a b (a ⊗ r) (neg (b ⊗ r)))
    (λ k a b r. (a ⊗ a ⊕ neg (k ⊗ (b ⊗ b))) ⊗ r)
    refl (whole (pos root)) z.a z.b (Fields.invert (norm root z)) ∙ invert_is (norm root z) some)
    (ring4 rationals
    (λ k a b r. product_b none (neg k) a b (a ⊗ r) (neg (b ⊗ r)))
    (λ k a b r. none)
    refl (whole (pos root)) z.a z.b (Fields.invert (norm root z)))

-- ---- values that are rational
pub nil_times : (p q : ℚ) → p ≡ whole (pos 0) → Rational.times p q ≡ whole (pos 0)
nil_times p q e = ap (λ x. Rational.times x q) e ∙ zero_times q

pub minus_nil : (q : ℚ) → q ≡ whole (pos 0) → Rational.minus q ≡ whole (pos 0)
minus_nil q e = ap Rational.minus e ∙ ring2 rationals (λ x y. neg none) (λ x y. none) refl q q

pub not_above : (q : ℚ) → q ≡ whole (pos 0) → ¬ (IsAbove q)
not_above q e h = rationals_ordered.apart (subst IsAbove e h)

-- a + 0 √root is positive exactly where a is
positive_part : (root : ℕ) (z : Value) → z.b ≡ whole (pos 0) → IsPositive root z → IsAbove z.a
positive_part root z e (inl (inl h, k, f)) = h
positive_part root z e (inl (inr h, k, f)) = absurd (f (pair_path _ _ h e))
positive_part root z e (inr (inl h)) = absurd (not_above (Rational.minus z.b) (minus_nil z.b e) h.1)
positive_part root z e (inr (inr h)) = absurd (not_above z.b e h.1)

part_positive : (root : ℕ) (z : Value) → z.b ≡ whole (pos 0) → IsAbove z.a → IsPositive root z
part_positive root z e h = inl (inl h, inr e, λ q. not_above z.a (ap (λ (x : Value). x.a) q) h)

-- over root 0 a sum and a product have no part of the root
pub flat_plus : (x y : Value) → x.b ≡ whole (pos 0) → y.b ≡ whole (pos 0) → (plus x y).b ≡ whole (pos 0)
flat_plus x y e f = ap₂ Rational.plus e f ∙ rationals.plus_nil (whole (pos 0))

pub flat_times : (root : ℕ) (x y : Value) → x.b ≡ whole (pos 0) → y.b ≡ whole (pos 0) → (times root x y).b ≡ whole (pos 0)
flat_times root x y e f =
    ap₂ (λ b d. Rational.plus (Rational.plus (Rational.times x.a d) (Rational.times b y.a)) (Rational.times (whole (pos 0)) (Rational.times b d))) e f
    ∙ ring2 rationals (λ a c. product_b none none a none c none) (λ a c. none) refl x.a y.a

-- ---- order
positive_plus : (root : ℕ) → IsRoot root → (x y : Value) → IsOver root x → IsOver root y → IsPositive root x → IsPositive root y
    → IsPositive root (plus x y)
positive_plus zero h x y o p k l =
    part_positive zero (plus x y) (flat_plus x y (o refl) (p refl))
    (rationals_ordered.plus x.a y.a (positive_part zero x (o refl) k) (positive_part zero y (p refl) l))
positive_plus (suc n) h x y o p k l = let root = h (omega arith) in (values_ordered (suc n) root.0 root.1).plus x y k l

positive_times : (root : ℕ) → IsRoot root → (x y : Value) → IsOver root x → IsOver root y → IsPositive root x → IsPositive root y
    → IsPositive root (times root x y)
positive_times zero h x y o p k l =
    part_positive zero (times zero x y) (flat_times zero x y (o refl) (p refl))
    (subst IsAbove
    (ring4 rationals (λ a b c d. a ⊗ c) (λ a b c d. product_a none (neg none) a b c d) refl x.a x.b y.a y.b)
    (rationals_ordered.times x.a y.a (positive_part zero x (o refl) k) (positive_part zero y (p refl) l)))
positive_times (suc n) h x y o p k l = let root = h (omega arith) in (values_ordered (suc n) root.0 root.1).times x y k l

positive_or_not : (root : ℕ) → IsRoot root → (z : Value) → IsOver root z → IsPositive root z ⊎ ((z ≡ nil) ⊎ IsPositive root (minus z))
positive_or_not zero h z o = go (rationals_ordered.sign z.a)
  where
    go : IsAbove z.a ⊎ ((z.a ≡ whole (pos 0)) ⊎ IsAbove (Rational.minus z.a)) → IsPositive zero z ⊎ ((z ≡ nil) ⊎ IsPositive zero (minus z))
    go (inl k) = inl (part_positive zero z (o refl) k)
    go (inr (inl e)) = inr (inl (pair_path _ _ e (o refl)))
    go (inr (inr k)) = inr (inr (part_positive zero (minus z) (minus_nil z.b (o refl)) k))
positive_or_not (suc n) h z o = let root = h (omega arith) in (values_ordered (suc n) root.0 root.1).sign z

-- ---- parts
root_square : (root : ℕ) → times root (square_root root) (square_root root) ≡ rational (whole (pos root))
root_square zero = pair_path _ _
    (ring2 rationals (λ a b. product_a none (neg none) none none none none) (λ a b. none) refl (whole (pos 0)) (whole (pos 0)))
    (ring2 rationals (λ a b. product_b none (neg none) none none none none) (λ a b. none) refl (whole (pos 0)) (whole (pos 0)))
root_square (suc n) = square_of_root (suc n)

root_over : (root : ℕ) → IsOver root (square_root root)
root_over zero e = refl
root_over (suc n) e = absurd (omega arith)

pub is_its_parts : (root : ℕ) (z : Value) → IsOver root z → z ≡ plus (rational z.a) (times root (rational z.b) (square_root root))
is_its_parts zero z o = pair_path _ _
    (ring2 rationals (λ a b. a) (λ a b. a ⊕ product_a none (neg none) b none none none) refl z.a z.b)
    (o refl ∙ ring2 rationals (λ a b. none) (λ a b. none ⊕ product_b none (neg none) b none none none) refl z.a z.b)
is_its_parts (suc n) z o = (pair_laws_hold rational_numbers (whole (pos 0)) (Rational.minus (whole (pos (suc n))))).split z

-- √root is above nil, and its parts are 0 and 1
root_positive : (root : ℕ) → 0 < root → IsPositive root (square_root root)
root_positive zero h = absurd (omega arith)
root_positive (suc n) h = inl (inr refl, inl ((sign_of_whole (pos 1)).1 one_above), λ q. rational_field.apart (ap (λ (z : Value). z.b) q))

first_of_root : (root : ℕ) → 0 < root → (square_root root).a ≡ whole (pos 0)
first_of_root zero h = refl
first_of_root (suc n) h = refl

second_of_root : (root : ℕ) → 0 < root → (square_root root).b ≡ whole (pos 1)
second_of_root zero h = absurd (omega arith)
second_of_root (suc n) h = refl

told : (z : Value) → (z ≡ nil) ⊎ (¬ (z ≡ nil))
told z = go (rational_field.test z.a) (rational_field.test z.b)
  where
    go : (z.a ≡ whole (pos 0)) ⊎ (¬ (z.a ≡ whole (pos 0))) → (z.b ≡ whole (pos 0)) ⊎ (¬ (z.b ≡ whole (pos 0))) → (z ≡ nil) ⊎ (¬ (z ≡ nil))
    go (inl e) (inl f) = inl (pair_path _ _ e f)
    go (inl e) (inr f) = inr (λ q. f (ap (λ (x : Value). x.b) q))
    go (inr e) f = inr (λ q. e (ap (λ (x : Value). x.a) q))

pub value_laws : (root : ℕ) → IsRoot root → IsExactField (value_operations root) root
value_laws root h = record {
  ring = (root_values root).laws;
  apart = λ e. rational_field.apart (ap (λ (z : Value). z.a) e);
  told = told;
  inverse = times_invert root h;
  over_prop = λ z. flat_prop root z.b;
  over_rational = λ q e. refl;
  over_root = root_over root;
  over_plus = λ x y o p e. flat_plus x y (o e) (p e);
  over_times = λ x y o p e. flat_times root x y (o e) (p e);
  over_minus = λ z o e. minus_nil z.b (o e);
  over_invert = λ z o f e. minus_nil _ (nil_times z.b _ (o e));
  positive_plus = positive_plus root h;
  positive_times = positive_times root h;
  positive_or_not = positive_or_not root h;
  nil_is_not_positive = λ k. rationals_ordered.apart (positive_part root nil refl k);
  rational_nil = refl;
  rational_unit = refl;
  rational_plus = (constant_map rational_numbers (whole (pos 0)) (Rational.minus (whole (pos root)))).plus;
  rational_times = (constant_map rational_numbers (whole (pos 0)) (Rational.minus (whole (pos root)))).times;
  rational_positive = λ q k. part_positive root (rational q) refl k;
  whole_plus = (embedded_map root).plus;
  whole_times = (embedded_map root).times;
  whole_positive = λ n k. (sign_of_embedded root n).1 k;
  squarefree = λ k. (h k).0;
  above_one = λ k. (h k).1;
  square = root_square root;
  root_positive = root_positive root;
  by_parts = is_its_parts root;
  flat = λ e z o. o e;
  nil_by_parts = λ z o e f. pair_path _ _ e f;
  rational_part_of_rational = λ q. refl;
  root_part_of_rational = λ q. refl;
  rational_part_of_root = first_of_root root;
  root_part_of_root = second_of_root root;
  rational_part_of_sum = λ x y. refl;
  root_part_of_sum = λ x y. refl;
  rational_part_scaled = λ q z. ring4 rationals (λ k q a b. product_a none (neg k) q none a b) (λ k q a b. q ⊗ a) refl (whole (pos root)) q z.a z.b;
  root_part_scaled = λ q z. ring4 rationals (λ k q a b. product_b none (neg k) q none a b) (λ k q a b. q ⊗ b) refl (whole (pos root)) q z.a z.b;
}
