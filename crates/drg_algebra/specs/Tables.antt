-- Sums over the places 0 .. n - 1 and over lists, products of tables, and the dependence of vectors.
-- A sequence is a function of its place, and a table one of row and column; a bound says how many places count.
pub use Rattle.drg_algebra.specs.Ring.{IsField}
use Rattle.std.specs.Prelude.{◌≡◌, ℕ, zero, suc, ◌<◌, List, [], ◌∷◌}
use Rattle.drg_algebra.specs.Ring.{CommutativeRing, Field}

module _ {R : Type 0} (nil unit : R) where
  -- the unit table: unit where i = j, else nil
  abbrev pub delta : ℕ → ℕ → R
  delta zero zero = unit
  delta zero (suc j) = nil
  delta (suc i) zero = nil
  delta (suc i) (suc j) = delta i j

module _ {R : Type 0} (nil : R) (plus : R → R → R) where
  -- f 0 + .. + f (n - 1)
  abbrev pub total : ℕ → (ℕ → R) → R
  total zero f = nil
  total (suc n) f = plus (f 0) (total n (λ i. f (suc i)))

-- the sum of f i over the places i below n, and the entry (i, j) of the unit table, in a ring
abbrev pub sum_below : (r : CommutativeRing) → ℕ → (ℕ → r.Of) → r.Of
sum_below r n f = total r.nil r.plus n f

abbrev pub unit_entry : (r : CommutativeRing) → ℕ → ℕ → r.Of
unit_entry r i j = delta r.nil r.unit i j

-- the sum of a list, and the sum of the products of two lists
abbrev pub list_sum : (r : CommutativeRing) → List r.Of → r.Of
list_sum r [] = r.nil
list_sum r (x ∷ xs) = r.plus x (list_sum r xs)

abbrev pub list_dot : (r : CommutativeRing) → List r.Of → List r.Of → r.Of
list_dot r [] ys = r.nil
list_dot r (x ∷ xs) [] = r.nil
list_dot r (x ∷ xs) (y ∷ ys) = r.plus (r.times x y) (list_dot r xs ys)

-- the entry (i, j) of the product of a table s of n columns and a table t of n rows
abbrev pub cell : (r : CommutativeRing) → ℕ → (ℕ → ℕ → r.Of) → (ℕ → ℕ → r.Of) → ℕ → ℕ → r.Of
cell r n s t i j = sum_below r n (λ l. r.times (s i l) (t l j))

-- s t = x I, for square tables of n rows
abbrev pub IsScalar : (r : CommutativeRing) → ℕ → (ℕ → ℕ → r.Of) → (ℕ → ℕ → r.Of) → r.Of → Type 0
IsScalar r n s t x = (i j : ℕ) → i < n → j < n → cell r n s t i j ≡ r.times x (unit_entry r i j)

-- Weights of n + 1 vectors of n places, of which one is not nil, and under which the vectors sum to nil at each place.
pub record AreDependent (f : Field) (n : ℕ) (vector : ℕ → ℕ → f.ring.Of) : Type 0 where
  pub weight : ℕ → f.ring.Of
  pub leader : ℕ
  pub within : leader < suc n
  pub apart : ¬ (weight leader ≡ f.ring.nil)
  pub vanishes : (k : ℕ) → k < n → sum_below f.ring (suc n) (λ i. f.ring.times (weight i) (vector i k)) ≡ f.ring.nil
