-- Over root 0 the rational parts of a frame of values meet the equations of a frame of rationals.
use Rattle.std.proofs.Common.{◌≡◌, ℕ, zero, suc, Bool, true, false, refl, sym, ap, ap₂, ◌∙◌, pos}
use Rattle.std.specs.Prelude.{nat_lt, if◌then◌else◌}
use Rattle.drg_algebra.specs.Ring.{none, ◌⊕◌, ◌⊗◌, neg, ring2}
use Rattle.drg_algebra.specs.Pairs.{pair_path}
use Rattle.drg_algebra.specs.Rational.{ℚ, whole, rationals}
use Rattle.drg_algebra.specs.Rational as Rational
use Rattle.drg_algebra.specs.Tables.{total}
use Rattle.drg_array.specs.Entries.{Entries, a_at, b_at, c_at, diameter}
use Rattle.drg_fraction.specs.Rationals.{rational_operations}
use Rattle.drg_matrix.specs.Frame.{before, neighbours}
use Rattle.drg_matrices.specs.Values.{size_value}
use Rattle.drg_quadratic.specs.Operations.{value_operations}
use Rattle.drg_quadratic.specs.Values.{IsOver, Value, nil, plus, rational, times}
use Rattle.drg_evidence.proofs.FrameFormulas.{HasEquations}

-- a product over root 0 has the product of the rational parts
product_part : (x y : Value) → (times 0 x y).a ≡ Rational.times x.a y.a
product_part x y = ring2 rationals (λ s t. s ⊕ neg (neg none ⊗ t)) (λ s t. s) refl (Rational.times x.a y.a) (Rational.times x.b y.b)

total_part : (n : ℕ) (f : ℕ → Value) (g : ℕ → ℚ) → ((l : ℕ) → (f l).a ≡ g l) → (total nil plus n f).a ≡ total (whole (pos 0)) Rational.plus n g
total_part zero f g same = refl
total_part (suc n) f g same = ap₂ Rational.plus (same 0) (total_part n (λ l. f (suc l)) (λ l. g (suc l)) (λ l. same (suc l)))

-- a value over root 0 is its rational part
pub flat_value : (x : Value) → IsOver 0 x → x ≡ rational x.a
flat_value x over = pair_path _ _ refl (over refl)

module _ (a : Entries) where
  before_part : (p : ℕ → Value) (j : ℕ) → (before (value_operations 0) (λ l. times 0 (rational (whole (pos (b_at a l)))) (p l)) j).a
      ≡ before rational_operations (λ l. Rational.times (whole (pos (b_at a l))) (p l).a) j
  before_part p zero = refl
  before_part p (suc j) = product_part (rational (whole (pos (b_at a j)))) (p j)

  chosen_part : (t : Bool) (x : Value) (y : ℚ) → x.a ≡ y → (if t then x else nil).a ≡ (if t then y else whole (pos 0))
  chosen_part true x y e = e
  chosen_part false x y e = refl

  neighbours_part : (p : ℕ → Value) (j : ℕ) → (neighbours (value_operations 0) a p j).a ≡ neighbours rational_operations a (λ l. (p l).a) j
  neighbours_part p j =
      ap₂ Rational.plus
      (ap₂ Rational.plus (before_part p j) (product_part (rational (whole (a_at a j))) (p j)))
      (chosen_part (nat_lt j (diameter a)) _ _ (product_part (rational (whole (pos (c_at a (suc j))))) (p (suc j))))

  pub rational_parts : (theta : ℕ → Value) (u p q : ℕ → ℕ → Value) → HasEquations (value_operations 0) a theta u p q
      → HasEquations rational_operations a (λ i. (theta i).a) (λ i r. (u i r).a) (λ i r. (p i r).a) (λ r i. (q r i).a)
  rational_parts theta u p q has = record {
    p_over = λ i r h k. tt;
    first = λ i h. ap (λ (z : Value). z.a) (has.first i h);
    rows = λ i r h k. ap (λ (z : Value). z.a) (has.rows i r h k) ∙ product_part (size_value (value_operations 0) a r) (u i r);
    columns = λ i r h k. ap (λ (z : Value). z.a) (has.columns i r h k) ∙ product_part (q 0 i) (u i r);
    recurrence = λ i j h k. sym (product_part (theta i) (p i j)) ∙ ap (λ (z : Value). z.a) (has.recurrence i j h k) ∙ neighbours_part (p i) j;
    product = λ i h. sym (total_part (suc (diameter a)) (λ l. times 0 (p i l) (q l i)) (λ l. Rational.times (p i l).a (q l i).a) (λ l. product_part (p i l) (q l i))) ∙ ap (λ (z : Value). z.a) (has.product i h);
  }
