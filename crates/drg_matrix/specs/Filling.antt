-- A table while it is filled with a product, row by row.
use Rattle.std.specs.Prelude.{◌≡◌, ℕ, ◌<◌, true, List, All, map, length, slice_index_or}
use Rattle.drg_fraction.specs.Operations.{Operations}
use Rattle.drg_matrix.specs.Table.{Square, place}
use Rattle.drg_matrix.specs.Product.{product_at, product_fits_at, IsBefore}

-- The cells of the product of s and t before (k, l) are there: each has the root, fits, and has its value.
pub record IsFilled {A V : Type 0} (value : A → V) (operations : ℕ → Operations V) (root_of : A → ℕ) (s t : Square A) (k l : ℕ) (cells : List A) : Type 0 where
  pub long : length cells ≡ place s.side k l
  pub roots : All (λ x. root_of x ≡ s.root) cells
  pub fit : (i j : ℕ) → j < s.side → IsBefore i j k l → product_fits_at value operations s t i j ≡ true
  pub values : (i j : ℕ) → j < s.side → IsBefore i j k l
      → slice_index_or (map value cells) (place s.side i j) (operations s.root).nil ≡ product_at value operations s t i j
