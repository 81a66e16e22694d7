-- The products of the balance equation as they are read from the table, and what a full table is.
use Rattle.std.specs.Prelude.{◌≡◌, ℕ, ℤ, zero, suc, ◌+◌, ◌≤◌, ◌<◌, pos, neg_ℤ, ◌≤ℤ◌, List, [], ◌∷◌, length, slice_index_or}
use Rattle.drg_array.specs.Entries.{Entries, b_at, c_at, a_at, diameter}
use Rattle.drg_array.specs.declared.limits.TheConstants.{MAX_DIAMETER}
use Rattle.drg_whole.specs.Range.{InRange}
use Rattle.drg_whole.specs.declared.product.Product.{Product}
use Rattle.drg_intersection.specs.FirstNumbers.{cell}
use Rattle.drg_intersection.specs.Numbers.{Numbers, place}

-- Each number of the list is in range.
abbrev pub AreInRange : List ℤ → Type 0
AreInRange numbers = (i : ℕ) → i < length numbers → InRange (slice_index_or numbers i (pos 0))

abbrev pub of_factors : ℤ → ℤ → Product
of_factors x y = record { left = x; right = y }

-- The product b_(j-1) p^h_(i,j-1), absent for j = 0.
abbrev pub term_before : Entries → List ℤ → ℕ → ℕ → ℕ → Product
term_before a p h i zero = of_factors (pos 0) (pos 0)
term_before a p h i (suc j) = of_factors (pos (b_at a j)) (cell (diameter a) p h i j)

-- The product -b_(i-1) p^h_(i-1,j), absent for i = 0.
abbrev pub term_above : Entries → List ℤ → ℕ → ℕ → ℕ → Product
term_above a p h zero j = of_factors (pos 0) (pos 0)
term_above a p h (suc i) j = of_factors (neg_ℤ (pos (b_at a i))) (cell (diameter a) p h i j)

-- The products of the balance equation for row i + 1, at j.
unfoldable pub balance : Entries → List ℤ → ℕ → ℕ → ℕ → List Product
balance a p h i j =
    term_before a p h i j
    ∷ of_factors (a_at a j) (cell (diameter a) p h i j)
    ∷ of_factors (pos (c_at a (suc j))) (cell (diameter a) p h i (suc j))
    ∷ term_above a p h i j
    ∷ of_factors (neg_ℤ (a_at a i)) (cell (diameter a) p h i j)
    ∷ []

-- The lists have their lengths, and no number is negative.
pub record IsTable (numbers : Numbers) : Type 0 where
  pub short : numbers.d ≤ MAX_DIAMETER
  pub sizes : length numbers.sizes ≡ numbers.d + 1
  pub entries : length numbers.table ≡ place numbers.d (suc numbers.d) 0 0
  pub natural_sizes : (i : ℕ) → i ≤ numbers.d → pos 0 ≤ℤ slice_index_or numbers.sizes i (pos 0)
  pub natural_vertices : pos 0 ≤ℤ numbers.vertices
  pub natural_entries : (h i j : ℕ) → h ≤ numbers.d → i ≤ numbers.d → j ≤ numbers.d → pos 0 ≤ℤ cell numbers.d numbers.table h i j
