-- The rationals are a field, and so are the values a + b √D for a squarefree D above 1.
pub use Rattle.drg_algebra.specs.Ring.{Field}
use Rattle.std.proofs.Common.{◌≡◌, ℕ, zero, suc, ◌<◌, refl, ap, sym, ◌∙◌, subst, arith, ℤ, pos, negsuc, ◌⊎◌, inl, inr}
use Rattle.std.specs.Prelude.{◌*ℤ◌, neg_ℤ, ◌<ℤ◌}
use Rattle.std.proofs.lemmas.Int.{ints}
use mathlib.Core.Quot.Quotient.{exact}
use Rattle.drg_algebra.specs.Ring.{IsField, none, one, ◌⊕◌, ◌⊗◌, neg, from_one, ring2, ring3, ring5}
use Rattle.drg_algebra.specs.Integer.{integers, suc_above, above_times}
use Rattle.drg_algebra.specs.Rational.{ℚ, pairs as cross_pairs, cross_prop, whole, plus, times, minus, rationals}
use Rattle.drg_algebra.specs.Ratio.{ratio, one_above, ratio_one, ratio_same, same_ratio, times_ratio}
use Rattle.drg_algebra.specs.Reduced.{numerator, denominator, denominator_above, ratio_of_parts}
use Rattle.drg_algebra.specs.Pairs.{Pair, pair_path, product_a, product_b, pairs, norm, rational_numbers, root_values}
use Rattle.drg_algebra.specs.Root.{IsSquarefree, only_zeros}

-- ---- the rationals
-- the inverse of n / d is d / n
unfoldable pub invert : ℚ → ℚ
invert x = ratio (denominator x) (numerator x)

pub turned : (n d : ℤ) → pos 0 <ℤ d → ¬ (ratio n d ≡ whole (pos 0)) → times (ratio n d) (ratio d n) ≡ whole (pos 1)
unfolding ratio
turned (pos zero) d h f = absurd (f (ratio_same (pos 0) d (pos 0) (pos 1) h one_above (omega (arith, ints)) ∙ ratio_one (pos 0)))
turned (pos (suc k)) d h f =
    times_ratio (pos (suc k)) d d (pos (suc k)) h (suc_above k)
    ∙ ratio_same _ _ (pos 1) (pos 1) (above k d h) one_above (ring2 integers (λ n d. (n ⊗ d) ⊗ one) (λ n d. one ⊗ (d ⊗ n)) refl (pos (suc k)) d)
    ∙ ratio_one (pos 1)
  where
    above : (k : ℕ) (d : ℤ) → pos 0 <ℤ d → pos 0 <ℤ (d *ℤ pos (suc k))
    above k d h = above_times d (pos (suc k)) h (suc_above k)
turned (negsuc k) d h f =
    ap (times (ratio (negsuc k) d)) (flip d k)
    ∙ times_ratio (negsuc k) d (neg_ℤ d) (pos (suc k)) h (suc_above k)
    ∙ ratio_same _ _ (pos 1) (pos 1) (above_times d (pos (suc k)) h (suc_above k)) one_above (ring2 integers
    (λ n d. (neg n ⊗ neg d) ⊗ one)
    (λ n d. one ⊗ (d ⊗ n))
    refl (pos (suc k)) d)
    ∙ ratio_one (pos 1)
  where
    flip : (d : ℤ) (k : ℕ) → ratio d (negsuc k) ≡ ratio (neg_ℤ d) (pos (suc k))
    flip d k = refl

pub invert_is : (x : ℚ) → ¬ (x ≡ whole (pos 0)) → times x (invert x) ≡ whole (pos 1)
unfolding invert
invert_is x f =
    ap (λ z. times z (ratio (denominator x) (numerator x))) (sym (ratio_of_parts x))
    ∙ turned (numerator x) (denominator x) (denominator_above x) (λ e. f (sym (ratio_of_parts x) ∙ e))

test_ratio : (n d : ℤ) → pos 0 <ℤ d → (ratio n d ≡ whole (pos 0)) ⊎ (¬ (ratio n d ≡ whole (pos 0)))
test_ratio (pos zero) d h = inl (ratio_same (pos 0) d (pos 0) (pos 1) h one_above (omega (arith, ints)) ∙ ratio_one (pos 0))
test_ratio (pos (suc k)) d h =
    inr (λ e. let q : pos (suc k) *ℤ pos 1 ≡ pos 0 *ℤ d = same_ratio (pos (suc k)) d (pos 0) (pos 1) h one_above (e ∙ sym (ratio_one (pos 0))) in omega (arith, ints))
test_ratio (negsuc k) d h =
    inr (λ e. let q : negsuc k *ℤ pos 1 ≡ pos 0 *ℤ d = same_ratio (negsuc k) d (pos 0) (pos 1) h one_above (e ∙ sym (ratio_one (pos 0))) in omega (arith, ints))

-- whether a rational is 0
pub test : (x : ℚ) → (x ≡ whole (pos 0)) ⊎ (¬ (x ≡ whole (pos 0)))
test x = subst (λ z. (z ≡ whole (pos 0)) ⊎ (¬ (z ≡ whole (pos 0)))) (ratio_of_parts x) (test_ratio (numerator x) (denominator x) (denominator_above x))

apart : ¬ (whole (pos 1) ≡ whole (pos 0))
apart e = let q : pos 1 *ℤ pos 1 ≡ pos 0 *ℤ pos 1 = exact cross_pairs cross_prop e in omega (arith, ints)

pub rational_field : IsField (whole (pos 0)) (whole (pos 1)) plus times minus
rational_field = record { ring = rationals; apart = apart; test = test; inverse = λ x f. (invert x, invert_is x f) }

-- ---- pairs over a field whose norm is nil only at nil
module _ (f : Field) (s t : f.ring.Of) (only : (x : Pair f.ring.Of) → norm f.ring s t x ≡ f.ring.nil → x ≡ (pairs f.ring s t).nil) where
  pub pair_test : (x : Pair f.ring.Of) → (x ≡ (pairs f.ring s t).nil) ⊎ (¬ (x ≡ (pairs f.ring s t).nil))
  pair_test x = go (f.laws.test x.a) (f.laws.test x.b)
    where
      go : (x.a ≡ f.ring.nil) ⊎ (¬ (x.a ≡ f.ring.nil)) → (x.b ≡ f.ring.nil) ⊎ (¬ (x.b ≡ f.ring.nil))
          → (x ≡ (pairs f.ring s t).nil) ⊎ (¬ (x ≡ (pairs f.ring s t).nil))
      go (inl p) (inl q) = inl (pair_path _ _ p q)
      go (inl p) (inr q) = inr (λ e. q (ap (λ (v : Pair f.ring.Of). v.b) e))
      go (inr p) q = inr (λ e. p (ap (λ (v : Pair f.ring.Of). v.a) e))

  pub pair_inverse : (x : Pair f.ring.Of) → ¬ (x ≡ (pairs f.ring s t).nil)
      → (y : Pair f.ring.Of) × ((pairs f.ring s t).times x y ≡ (pairs f.ring s t).unit)
  pair_inverse x ne =
      let r = f.laws.inverse (norm f.ring s t x) (λ e. ne (only x e)) in (
        record { a = f.ring.times (f.ring.plus x.a (f.ring.times s x.b)) r.0; b = f.ring.minus (f.ring.times x.b r.0) },
        pair_path _ _
            (ring5 f.ring.laws
            (λ s t a b r. product_a s t a b ((a ⊕ s ⊗ b) ⊗ r) (neg (b ⊗ r)))
            (λ s t a b r. ((a ⊗ a ⊕ s ⊗ (a ⊗ b)) ⊕ t ⊗ (b ⊗ b)) ⊗ r)
            refl s t x.a x.b r.0 ∙ r.1)
            (ring5 f.ring.laws
            (λ s t a b r. product_b s t a b ((a ⊕ s ⊗ b) ⊗ r) (neg (b ⊗ r)))
            (λ s t a b r. none)
            refl s t x.a x.b r.0),
      )

  abbrev pub pair_field : Field
  pair_field = record {
    ring = pairs f.ring s t;
    laws = record { ring = (pairs f.ring s t).laws; apart = λ e. f.laws.apart (ap (λ (v : Pair f.ring.Of). v.a) e); test = pair_test; inverse = pair_inverse };
  }

-- ---- the rationals, and the values a + b √D
abbrev pub rationals_field : Field
rationals_field = record { ring = rational_numbers; laws = rational_field }

pub only_nil : (root : ℕ) → IsSquarefree root → 1 < root → (x : Pair ℚ)
    → norm rational_numbers (whole (pos 0)) (minus (whole (pos root))) x ≡ whole (pos 0) → x ≡ (root_values root).nil
only_nil root free big x e =
    let q : times x.a x.a ≡ times (whole (pos root)) (times x.b x.b) =
    from_one rationals _ _ (whole (pos 1)) _ _ e
    (ring3 rationals
    (λ a b r. a ⊗ a ⊕ one ⊗ none)
    (λ a b r. r ⊗ (b ⊗ b) ⊕ one ⊗ (a ⊗ a ⊕ none ⊗ (a ⊗ b) ⊕ neg r ⊗ (b ⊗ b)))
    refl x.a x.b (whole (pos root))) in
    let z = only_zeros root free big x.a x.b q in
    pair_path _ _ z.0 z.1

abbrev pub roots_field : (root : ℕ) → IsSquarefree root → 1 < root → Field
roots_field root free big = pair_field rationals_field (whole (pos 0)) (minus (whole (pos root))) (only_nil root free big)

-- Names of fields: the rationals, and the values over a squarefree root above 1. A clause ranges over these names.
pub data FieldKind : Type 0 where
  fractions : FieldKind
  quadratics : (root : ℕ) → IsSquarefree root → 1 < root → FieldKind

abbrev pub field_of : FieldKind → Field
field_of fractions = rationals_field
field_of (quadratics root free big) = roots_field root free big
