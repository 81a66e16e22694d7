-- Laws of sums over places, of dependence, and of tables.
use Rattle.std.specs.Prelude.{◌≡◌, ℕ, suc, ◌<◌, List, ◌∷◌, ◌++◌, length, get_or, fold}
use Rattle.drg_algebra.specs.Ring.{CommutativeRing, Field}
use Rattle.drg_algebra.specs.Tables.{sum_below, unit_entry, list_sum, list_dot, IsScalar, AreDependent}

-- Sums over the places 0 .. n - 1.
pub record SumLaws (r : CommutativeRing) : Type 0 where
  pub same : (n : ℕ) (f g : ℕ → r.Of) → ((i : ℕ) → i < n → f i ≡ g i) → sum_below r n f ≡ sum_below r n g
  pub nil : (n : ℕ) (f : ℕ → r.Of) → ((i : ℕ) → i < n → f i ≡ r.nil) → sum_below r n f ≡ r.nil
  pub plus : (n : ℕ) (f g : ℕ → r.Of) → sum_below r n (λ i. r.plus (f i) (g i)) ≡ r.plus (sum_below r n f) (sum_below r n g)
  pub times : (n : ℕ) (x : r.Of) (f : ℕ → r.Of) → r.times x (sum_below r n f) ≡ sum_below r n (λ i. r.times x (f i))
  pub exchange : (n m : ℕ) (f : ℕ → ℕ → r.Of) → sum_below r n (λ i. sum_below r m (λ j. f i j)) ≡ sum_below r m (λ j. sum_below r n (λ i. f i j))
  pub last : (n : ℕ) (f : ℕ → r.Of) → sum_below r (suc n) f ≡ r.plus (sum_below r n f) (f n)
  pub one_place : (n i : ℕ) (f : ℕ → r.Of) → i < n → sum_below r n (λ j. r.times (f j) (unit_entry r i j)) ≡ f i

-- Sums over lists: of parts, from the left, and over the places.
pub record ListSumLaws (r : CommutativeRing) : Type 0 where
  pub append : (xs ys : List r.Of) → list_sum r (xs ++ ys) ≡ r.plus (list_sum r xs) (list_sum r ys)
  pub left : (x : r.Of) (xs : List r.Of) → fold r.plus x xs ≡ list_sum r (x ∷ xs)
  pub places : (xs : List r.Of) → list_sum r xs ≡ sum_below r (length xs) (λ i. get_or xs i r.nil)
  pub dot : (xs ys : List r.Of) → length xs ≡ length ys
      → list_dot r xs ys ≡ sum_below r (length xs) (λ i. r.times (get_or xs i r.nil) (get_or ys i r.nil))

-- n + 1 vectors of n places are dependent
abbrev pub Dependence : Field → Type 0
Dependence f = (n : ℕ) (vector : ℕ → ℕ → f.ring.Of) → AreDependent f n vector

-- P Q = x I with x not nil gives Q P = x I
abbrev pub RightInverseIsLeft : Field → Type 0
RightInverseIsLeft f = (n : ℕ) (p q : ℕ → ℕ → f.ring.Of) (x : f.ring.Of) → ¬ (x ≡ f.ring.nil)
    → IsScalar f.ring n p q x → IsScalar f.ring n q p x
