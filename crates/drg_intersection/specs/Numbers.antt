-- The numbers of an array as whole numbers: sizes, number of vertices and intersection numbers
-- (Brouwer, Cohen and Neumaier 1989, section 4.1).
use Rattle.std.specs.Prelude.{◌≡◌, ℕ, ℤ, ◌+◌, ◌*◌, ◌≤◌, pos, unsigned_abs, List, slice_index_or}
use Rattle.drg_algebra.specs.Rational.{whole}
use Rattle.drg_array.specs.Entries.{Entries, diameter}
use Rattle.drg_array.specs.Numbers.{size, vertex_count, IsIntersectionNumber}

-- The diameter d, the sizes k_0 to k_d, the number of vertices, and the intersection numbers p^h_ij by h, i and j in one
-- list. None of them is negative.
pub record Numbers : Type 0 where
  pub d : ℕ
  pub sizes : List ℤ
  pub vertices : ℤ
  pub table : List ℤ

-- The place of p^h_ij in a list by h, i and j.
abbrev pub place : ℕ → ℕ → ℕ → ℕ → ℕ
place d h i j = (h * (d + 1) + i) * (d + 1) + j

-- The size k_i.
abbrev pub k_at : Numbers → ℕ → ℕ
k_at numbers i = unsigned_abs (slice_index_or numbers.sizes i (pos 0))

-- The number of vertices.
abbrev pub n_of : Numbers → ℕ
n_of numbers = unsigned_abs numbers.vertices

-- The intersection number p^h_ij.
abbrev pub p_at : Numbers → ℕ → ℕ → ℕ → ℕ
p_at numbers h i j = unsigned_abs (slice_index_or numbers.table (place numbers.d h i j) (pos 0))

-- These are the diameter, the sizes, the number of vertices and the intersection numbers of the array.
pub record AreNumbersOf (a : Entries) (numbers : Numbers) : Type 0 where
  pub same_d : numbers.d ≡ diameter a
  pub sizes : (i : ℕ) → i ≤ diameter a → size a i ≡ whole (pos (k_at numbers i))
  pub vertices : vertex_count a ≡ whole (pos (n_of numbers))
  pub intersections : (h i j : ℕ) → h ≤ diameter a → i ≤ diameter a → j ≤ diameter a
      → IsIntersectionNumber a h i j (whole (pos (p_at numbers h i j)))
