-- Orderings of the indices 0 to d by the zeros of a table with three indices (Brouwer, Cohen and Neumaier 1989, section 2.7).
use Rattle.std.specs.Prelude.{◌≡◌, ℕ, zero, suc, ◌≤◌, ◌<◌, ◌⊎◌, ◌↔◌, List, length, map, slice_index, Contains}
use Rattle.std.specs.List.Sorted.{IsStrictlyIncreasing}

-- The index r_h of a list r_1, r_2, .., with r_0 = 0.
abbrev pub index_at : List ℕ → ℕ → ℕ
index_at order zero = 0
index_at order (suc h) = slice_index order h

-- Two places are one apart.
abbrev pub AreNext : ℕ → ℕ → Type 0
AreNext h j = (h ≡ suc j) ⊎ (j ≡ suc h)

-- Two places are more than one apart.
abbrev pub AreApart : ℕ → ℕ → Type 0
AreApart h j = (suc j < h) ⊎ (suc h < j)

-- The entry (r_h, r_1, r_j) is zero where h and j are more than one apart, and not zero where they are one apart.
pub record EntryFits (IsZero : ℕ → ℕ → ℕ → Type 0) (order : List ℕ) (h j : ℕ) : Type 0 where
  pub apart : AreApart h j → IsZero (index_at order h) (index_at order 1) (index_at order j)
  pub next : AreNext h j → ¬ IsZero (index_at order h) (index_at order 1) (index_at order j)

-- The list is r_1, .., r_d of an ordering, for d from 1: with r_0 = 0 each index from 0 to d stands once, and each entry fits.
pub record IsOrdering (d : ℕ) (IsZero : ℕ → ℕ → ℕ → Type 0) (order : List ℕ) : Type 0 where
  pub some : 1 ≤ d
  pub count : length order ≡ d
  pub within : (h : ℕ) → h ≤ d → index_at order h ≤ d
  pub once : (h j : ℕ) → h ≤ d → j ≤ d → index_at order h ≡ index_at order j → h ≡ j
  pub every : (index : ℕ) → index ≤ d → (h : ℕ) × (h ≤ d) × (index_at order h ≡ index)
  pub entries : (h j : ℕ) → h ≤ d → j ≤ d → EntryFits IsZero order h j

-- The lists are exactly all orderings, each once, ascending by r_1.
pub record AreOrderings (IsOne : List ℕ → Type 0) (orders : List (List ℕ)) : Type 0 where
  pub members : (order : List ℕ) → Contains orders order ↔ IsOne order
  pub ascending : IsStrictlyIncreasing (map (λ order. index_at order 1) orders)
