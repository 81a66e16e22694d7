-- The first numbers of an array in their order, as whole numbers: what is made before the one that fails, and all sizes and
-- intersection numbers where none does (Brouwer, Cohen and Neumaier 1989, section 4.1).
use Rattle.std.specs.Prelude.{◌≡◌, ℕ, ℤ, suc, ◌≤◌, ◌<◌, pos, ◌≤ℤ◌, List, [], length, slice_index_or}
use Rattle.drg_algebra.specs.Rational.{whole}
use Rattle.drg_array.specs.Entries.{Entries, diameter}
use Rattle.drg_array.specs.Numbers.{size, IsIntersectionNumber}
use Rattle.drg_array.specs.declared.node.Node.{Node}
use Rattle.drg_array.specs.declared.node.Node.TheVariants.{K, N, P}
use Rattle.drg_intersection.specs.Numbers.{Numbers, place}

-- The diameter d, sizes from k_0 on, and intersection numbers from p^0_00 on, by h, i and j in one list. Both lists may end
-- early.
pub record FirstNumbers : Type 0 where
  pub d : ℕ
  pub sizes : List ℤ
  pub table : List ℤ

-- The number z is the size k_i, and isn't negative.
pub record IsSizeAt (a : Entries) (i : ℕ) (z : ℤ) : Type 0 where
  pub is : size a i ≡ whole z
  pub natural : pos 0 ≤ℤ z

-- The number z is the intersection number p^h_ij, and isn't negative.
pub record IsCellAt (a : Entries) (h i j : ℕ) (z : ℤ) : Type 0 where
  pub is : IsIntersectionNumber a h i j (whole z)
  pub natural : pos 0 ≤ℤ z

-- The list holds the sizes k_0, k_1, .., as far as it goes.
abbrev pub AreSizes : Entries → List ℤ → Type 0
AreSizes a sizes = (i : ℕ) → i < length sizes → IsSizeAt a i (slice_index_or sizes i (pos 0))

-- What a table has for p^h_ij, and 0 past its end.
abbrev pub cell : ℕ → List ℤ → ℕ → ℕ → ℕ → ℤ
cell d table h i j = slice_index_or table (place d h i j) (pos 0)

-- The list holds the intersection numbers p^0_00, p^0_01, .., as far as it goes.
abbrev pub AreCells : Entries → List ℤ → Type 0
AreCells a table = (h i j : ℕ) → h ≤ diameter a → i ≤ diameter a → j ≤ diameter a → place (diameter a) h i j < length table
    → IsCellAt a h i j (cell (diameter a) table h i j)

-- The numbers are the first ones of the array.
pub record AreFirstNumbers (a : Entries) (first : FirstNumbers) : Type 0 where
  pub same_d : first.d ≡ diameter a
  pub sizes : AreSizes a first.sizes
  pub entries : AreCells a first.table

-- The list of intersection numbers ends right before this one.
abbrev pub TableEndsBefore : ℕ → List ℤ → Node → Type 0
TableEndsBefore d table (P h i j) = length table ≡ place d h i j
TableEndsBefore d table node = ⊥

-- The numbers end right before this one.
abbrev pub EndBefore : FirstNumbers → Node → Type 0
EndBefore first (K i) = (length first.sizes ≡ i) × (first.table ≡ [])
EndBefore first N = (length first.sizes ≡ suc first.d) × (first.table ≡ [])
EndBefore first (P h i j) = (length first.sizes ≡ suc first.d) × (length first.table ≡ place first.d h i j)
EndBefore first node = ⊥

-- The numbers p^h_i0, .., p^h_id stand in the table.
abbrev pub HasRow : FirstNumbers → ℕ → ℕ → Type 0
HasRow first h i = place first.d h (suc i) 0 ≤ length first.table

-- The list holds p^h_i0, .., p^h_id of the table.
pub record IsRowOf (first : FirstNumbers) (h i : ℕ) (row : List ℤ) : Type 0 where
  pub count : length row ≡ suc first.d
  pub entries : (j : ℕ) → j ≤ first.d → slice_index_or row j (pos 0) ≡ cell first.d first.table h i j

-- No number is missing.
pub record IsFull (first : FirstNumbers) : Type 0 where
  pub sizes : length first.sizes ≡ suc first.d
  pub table : length first.table ≡ place first.d (suc first.d) 0 0

-- The sizes and the intersection numbers of a full table.
abbrev pub first_of : Numbers → FirstNumbers
first_of numbers = record { d = numbers.d; sizes = numbers.sizes; table = numbers.table }
