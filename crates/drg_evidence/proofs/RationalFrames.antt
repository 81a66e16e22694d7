-- A frame of rationals is a frame of values over root 0.
use Rattle.std.proofs.Common.{◌≡◌, ℕ, zero, suc, List, [], ◌∷◌, refl, ap, ap₂, sym, ◌∙◌, subst, arith}
use Rattle.std.specs.Prelude.{pos, nat_lt, if◌then◌else◌, Bool, true, false}
use Rattle.drg_algebra.specs.Order.{IsPositive}
use Rattle.drg_algebra.specs.Rational.{ℚ, whole, plus, minus}
use Rattle.drg_algebra.specs.Pairs.{pair_path}
use Rattle.drg_algebra.proofs.Maps.{whole_map}
use Rattle.drg_algebra.specs.Tables.{delta, total}
use Rattle.drg_array.specs.Entries.{Entries, diameter, a_at, b_at, c_at}
use Rattle.drg_fraction.specs.Field.{IsExactField}
use Rattle.drg_fraction.specs.Rationals.{rational_operations}
use Rattle.drg_matrices.specs.Frame.{IsFrameOf}
use Rattle.drg_matrices.specs.Values.{eigenvalue_in, item_at}
use Rattle.drg_matrix.specs.Frame.{IsFrame, before, neighbours}
use Rattle.drg_quadratic.specs.Laws.{value_laws}
use Rattle.drg_quadratic.specs.Operations.{value_operations}
use Rattle.drg_quadratic.specs.Values.{Value, IsRoot, rational}
use Rattle.drg_quadratic.specs.declared.eigenvalue.Eigenvalue.{Eigenvalue}

zero_is_root : IsRoot 0
zero_is_root h = absurd (omega (arith, h))

laws : IsExactField (value_operations 0) 0
laws = value_laws 0 zero_is_root

abbrev sum : Value → Value → Value
sum = (value_operations 0).plus

abbrev product : Value → Value → Value
product = (value_operations 0).times

negative : (q : ℚ) → rational (minus q) ≡ (value_operations 0).minus (rational q)
negative q = pair_path _ _ refl (whole_map.minus (pos 0))

difference : (p q : ℚ) → rational (plus p (minus q)) ≡ sum (rational p) ((value_operations 0).minus (rational q))
difference p q = laws.rational_plus p (minus q) ∙ ap (sum (rational p)) (negative q)

-- ---- sums, and numbers that may be absent
total_is : (n : ℕ) (f : ℕ → ℚ) (g : ℕ → Value) → ((l : ℕ) → rational (f l) ≡ g l) → rational (total (whole (pos 0)) plus n f) ≡ total (value_operations 0).nil sum n g
total_is zero f g same = refl
total_is (suc n) f g same = laws.rational_plus _ _ ∙ ap₂ sum (same 0) (total_is n (λ l. f (suc l)) (λ l. g (suc l)) (λ l. same (suc l)))

delta_is : (x : ℚ) (i j : ℕ) → rational (delta (whole (pos 0)) x i j) ≡ delta (value_operations 0).nil (rational x) i j
delta_is x zero zero = refl
delta_is x zero (suc j) = refl
delta_is x (suc i) zero = refl
delta_is x (suc i) (suc j) = delta_is x i j

before_is : (f : ℕ → ℚ) (g : ℕ → Value) → ((l : ℕ) → rational (f l) ≡ g l) → (j : ℕ) → rational (before rational_operations f j) ≡ before (value_operations 0) g j
before_is f g same zero = refl
before_is f g same (suc j) = same j

chosen : (b : Bool) (x : ℚ) (y : Value) → rational x ≡ y → rational (if b then x else whole (pos 0)) ≡ (if b then y else (value_operations 0).nil)
chosen true x y e = e
chosen false x y e = refl

pub item_is : {A : Type 0} (f : A → ℚ) (g : A → Value) → ((x : A) → rational (f x) ≡ g x) → (xs : List A) (i : ℕ)
    → rational (item_at rational_operations f xs i) ≡ item_at (value_operations 0) g xs i
item_is f g same [] i = refl
item_is f g same (x ∷ xs) zero = same x
item_is f g same (x ∷ xs) (suc i) = item_is f g same xs i

pub eigenvalue_is : (x : Eigenvalue) → rational (eigenvalue_in rational_operations x) ≡ eigenvalue_in (value_operations 0) x
eigenvalue_is x = laws.rational_plus _ _ ∙ ap (sum _) (laws.rational_times _ _)

-- ---- frames
module _ (a : Entries) where
  neighbours_are : (p : ℕ → ℚ) (j : ℕ) → rational (neighbours rational_operations a p j) ≡ neighbours (value_operations 0) a (λ l. rational (p l)) j
  neighbours_are p j =
      laws.rational_plus _ _
      ∙ ap₂ sum
      (laws.rational_plus _ _ ∙ ap₂ sum (before_is _ _ (λ l. laws.rational_times (whole (pos (b_at a l))) (p l)) j) (laws.rational_times (whole (a_at a j)) (p j)))
      (chosen (nat_lt j (diameter a)) _ _ (laws.rational_times (whole (pos (c_at a (suc j)))) (p (suc j))))

  values_frame : (theta : ℕ → ℚ) (p q : ℕ → ℕ → ℚ) → IsFrame rational_operations a theta p q
      → IsFrame (value_operations 0) a (λ i. rational (theta i)) (λ i j. rational (p i j)) (λ i j. rational (q i j))
  values_frame theta p q is = record {
    theta_over = λ i h. laws.over_rational (theta i);
    p_over = λ i j h k. laws.over_rational (p i j);
    q_over = λ i j h k. laws.over_rational (q i j);
    descends = λ i h. subst (IsPositive 0) (difference (theta i) (theta (suc i))) (laws.rational_positive _ (is.descends i h));
    ones = λ i h. ap rational (is.ones i h);
    eigenvalues = λ i h. ap rational (is.eigenvalues i h);
    recurrence = λ i j h k. sym (laws.rational_times (theta i) (p i j)) ∙ (ap rational (is.recurrence i j h k) ∙ neighbours_are (p i) j);
    product = λ i j h k. sym (total_is (suc (diameter a)) _ _ (λ l. laws.rational_times (p i l) (q l j))) ∙ (ap rational (is.product i j h k) ∙ delta_is _ i j);
  }

  pub rational_frame : (theta : ℕ → ℚ) (u p q : ℕ → ℕ → ℚ) → IsFrameOf rational_operations 0 a theta u p q
      → IsFrameOf (value_operations 0) 0 a (λ i. rational (theta i)) (λ i j. rational (u i j)) (λ i j. rational (p i j)) (λ i j. rational (q i j))
  rational_frame theta u p q is = record {
    thetas = is.thetas;
    spectrum = is.spectrum;
    values = λ i h. ap rational (is.values i h) ∙ item_is (eigenvalue_in rational_operations) (eigenvalue_in (value_operations 0)) eigenvalue_is is.thetas i;
    frame = values_frame theta p q is.frame;
    first = λ i h. ap rational (is.first i h);
    rows = λ i r h k. ap rational (is.rows i r h k) ∙ laws.rational_times _ _;
    columns = λ i r h k. ap rational (is.columns i r h k) ∙ laws.rational_times _ _;
  }
