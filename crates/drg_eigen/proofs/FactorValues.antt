-- The values of a factor x² - s x + t at 0, 1 and -1 divide those of the polynomials that it divides.
use Rattle.std.proofs.Common.{◌≡◌, refl, ap, sym, ◌∙◌, subst, ℤ, pos, negsuc, List, [], ◌∷◌, get_or, ◌⊎◌, inl, inr}
use Rattle.std.specs.Prelude.{◌+ℤ◌, ◌-ℤ◌, ◌*ℤ◌, neg_ℤ, int_div, int_rem, Option, Some, None}
use Rattle.std.proofs.lemmas.Int.{ints}
use Rattle.std.proofs.Common.{arith}
use Rattle.drg_algebra.specs.Ring.{none, ◌⊕◌, ◌⊗◌, neg, ring2}
use Rattle.drg_algebra.specs.Integer.{integers, whole_numbers}
use Rattle.drg_algebra.proofs.Maps.{same_map}
use Rattle.drg_whole.specs.Division.{Divides}
use Rattle.drg_whole.specs.declared.whole.Whole.{Whole}
use Rattle.drg_whole.proofs.Quotients as Quotients
use Rattle.drg_eigen.specs.Factor.{linear, quadratic, IsIrreducible, discriminant}
use Rattle.drg_eigen.specs.Factor as Factor
use Rattle.drg_eigen.specs.Candidates.{value_at, ValueFits, MayDivide}
use Rattle.drg_eigen.specs.Monic.{IsMonic}
use Rattle.drg_eigen.specs.Simple.{IsSimple}
use Rattle.drg_eigen.specs.Values.{IsValueAt, AreValuesOf, DividesValue, MayPass}
use Rattle.drg_eigen.specs.declared.values.Values.{Values}
use Rattle.drg_eigen.proofs.PolynomialValues.{eval_linear, eval_quadratic}
use Rattle.drg_eigen.proofs.Irreducible.{whole_test}

-- the value at e is a multiple of e² - s e + t
value_divides : (e s t : ℤ) (f : List ℤ) → Factor.Divides (quadratic s t) f → Divides ((e *ℤ e +ℤ neg_ℤ (s *ℤ e)) +ℤ t) (value_at e f)
value_divides e s t f d = (value_at e d.0, sym (eval_quadratic whole_numbers whole_numbers (λ z. z) (same_map whole_numbers) e s t d.0) ∙ ap (value_at e) d.1)

module _ (s t : ℤ) (f : List ℤ) (d : Factor.Divides (quadratic s t) f) where
  pub zero_divides : Divides t (value_at (pos 0) f)
  zero_divides = subst (λ (z : ℤ). Divides z (value_at (pos 0) f)) (ring2 integers (λ s t. (none ⊗ none ⊕ neg (s ⊗ none)) ⊕ t) (λ s t. t) refl s t) (value_divides (pos 0) s t f d)

  one_value : ((pos 1 *ℤ pos 1) +ℤ neg_ℤ (s *ℤ pos 1)) +ℤ t ≡ (pos 1 -ℤ s) +ℤ t
  one_value = omega (arith, ints)

  pub one_divides : Divides ((pos 1 -ℤ s) +ℤ t) (value_at (pos 1) f)
  one_divides = subst (λ (z : ℤ). Divides z (value_at (pos 1) f)) one_value (value_divides (pos 1) s t f d)

  minus_one_value : ((negsuc 0 *ℤ negsuc 0) +ℤ neg_ℤ (s *ℤ negsuc 0)) +ℤ t ≡ (pos 1 +ℤ s) +ℤ t
  minus_one_value = omega (arith, ints)

  pub minus_one_divides : Divides ((pos 1 +ℤ s) +ℤ t) (value_at (negsuc 0) f)
  minus_one_divides = subst (λ (z : ℤ). Divides z (value_at (negsuc 0) f)) minus_one_value (value_divides (negsuc 0) s t f d)

  -- so such a factor may divide
  pub divisor_may_divide : IsSimple f → IsIrreducible (quadratic s t) → MayDivide f s t
  divisor_may_divide simple free = record {
    real = simple.real s t free d;
    at_zero = zero_divides;
    at_one = λ fits. one_divides;
    at_minus_one = λ fits. minus_one_divides;
  }

-- ---- in the code
told_divides : (e d : ℤ) (f : List ℤ) (o : Option Whole) → IsValueAt e f o → (ValueFits e f → Divides d (value_at e f)) → DividesValue d o
told_divides e d f (Some v) h k = subst (Divides d) (sym h.0) (k h.1)
told_divides e d f None h k = tt

divides_told : (e d : ℤ) (f : List ℤ) (o : Option Whole) → IsValueAt e f o → DividesValue d o → ValueFits e f → Divides d (value_at e f)
divides_told e d f (Some v) h k fits = subst (Divides d) h.0 k
divides_told e d f None h k fits = absurd (h fits)

module _ (f : List ℤ) (v : Values) (told : AreValuesOf f v) (s t : ℤ) where
  pub may_pass : MayDivide f s t → MayPass v (quadratic s t)
  may_pass h = (
    h.real,
    (
      told_divides (pos 1) ((pos 1 -ℤ s) +ℤ t) f v.at_one told.0 h.at_one,
      told_divides (negsuc 0) ((pos 1 +ℤ s) +ℤ t) f v.at_minus_one told.1 h.at_minus_one,
    ),
  )

  pub passes_may_divide : Divides t (value_at (pos 0) f) → MayPass v (quadratic s t) → MayDivide f s t
  passes_may_divide d h = record {
    real = h.0;
    at_zero = d;
    at_one = divides_told (pos 1) ((pos 1 -ℤ s) +ℤ t) f v.at_one told.0 h.1.0;
    at_minus_one = divides_told (negsuc 0) ((pos 1 +ℤ s) +ℤ t) f v.at_minus_one told.1 h.1.1;
  }

-- ---- whether a number divides another can be told
pub told_or_not : (d n : ℤ) → Divides d n ⊎ (¬ Divides d n)
told_or_not d n = by_divisor (whole_test d)
  where
    by_nothing : (d ≡ pos 0) → (n ≡ pos 0) ⊎ (¬ (n ≡ pos 0)) → Divides d n ⊎ (¬ Divides d n)
    by_nothing e (inl k) = inl (pos 0, ring2 integers (λ d x. d ⊗ none) (λ d x. none) refl d d ∙ sym k)
    by_nothing e (inr k) = inr (λ q. k (sym q.1 ∙ ap (λ (z : ℤ). z *ℤ q.0) e ∙ ring2 integers (λ q x. none ⊗ q) (λ q x. none) refl q.0 q.0))

    by_rest : (¬ (d ≡ pos 0)) → (int_rem n d ≡ pos 0) ⊎ (¬ (int_rem n d ≡ pos 0)) → Divides d n ⊎ (¬ Divides d n)
    by_rest some (inl e) = inl (int_div n d, Quotients.divided d n e)
    by_rest some (inr k) = inr (λ q. k (Quotients.no_remainder d q.0 n some q.1))

    by_divisor : (d ≡ pos 0) ⊎ (¬ (d ≡ pos 0)) → Divides d n ⊎ (¬ Divides d n)
    by_divisor (inl e) = by_nothing e (whole_test n)
    by_divisor (inr some) = by_rest some (whole_test (int_rem n d))

-- the value at 0 is the constant
pub constant_value : (x : ℤ) (f : List ℤ) → value_at (pos 0) (x ∷ f) ≡ x
constant_value x f = ring2 integers (λ x y. x ⊕ none ⊗ y) (λ x y. x) refl x (value_at (pos 0) f)

-- x divides a polynomial whose constant is 0
pub without_root_nothing : (f : List ℤ) → Factor.Divides (linear (pos 0)) f → value_at (pos 0) f ≡ pos 0
without_root_nothing f d =
    ap (value_at (pos 0)) (sym d.1) ∙ eval_linear whole_numbers whole_numbers (λ z. z) (same_map whole_numbers) (pos 0) (pos 0) d.0
    ∙ ring2 integers (λ x y. (none ⊕ neg none) ⊗ x) (λ x y. none) refl (value_at (pos 0) d.0) (pos 0)

-- the first coefficient of a monic polynomial is its value at 0
pub first_value : (f : List ℤ) → IsMonic f → get_or f 0 (pos 0) ≡ value_at (pos 0) f
first_value [] m = absurd (none_some m)
  where
    none_some : None ≡ Some (pos 1) → ⊥
    none_some e = (let h = e in cc)
first_value (x ∷ f) m = sym (constant_value x f)
