-- The beginnings r_1, .., r_n of orderings, as a search makes them.
use Rattle.std.specs.Prelude.{◌≡◌, ℕ, ◌≤◌, List, length}
use Rattle.drg_orderings.specs.Orderings.{index_at, EntryFits, IsOrdering}

-- The index is one of r_0 = 0, r_1, .., r_n.
abbrev pub IsTaken : List ℕ → ℕ → Type 0
IsTaken order index = (h : ℕ) × (h ≤ length order) × (index_at order h ≡ index)

-- The indices r_0 = 0, r_1, .., r_n are from 0 to d, and no two of them are the same.
pub record AreDifferent (d : ℕ) (order : List ℕ) : Type 0 where
  pub some : 1 ≤ length order
  pub within : (h : ℕ) → h ≤ length order → index_at order h ≤ d
  pub once : (h j : ℕ) → h ≤ length order → j ≤ length order → index_at order h ≡ index_at order j → h ≡ j

-- The index can be r_(n+1): it isn't taken, and its entry at r_n isn't zero.
pub record CanFollow (d : ℕ) (IsZero : ℕ → ℕ → ℕ → Type 0) (order : List ℕ) (index : ℕ) : Type 0 where
  pub within : index ≤ d
  pub new : ¬ IsTaken order index
  pub nonzero : ¬ IsZero index (index_at order 1) (index_at order (length order))

-- Each ordering with this first index begins so.
abbrev pub IsForced : ℕ → (ℕ → ℕ → ℕ → Type 0) → ℕ → List ℕ → Type 0
IsForced d IsZero first order = (other : List ℕ) → IsOrdering d IsZero other → index_at other 1 ≡ first
    → (h : ℕ) → h ≤ length order → index_at other h ≡ index_at order h

-- The list begins with this first index, and is the beginning of each ordering that does.
pub record IsBeginning (d : ℕ) (IsZero : ℕ → ℕ → ℕ → Type 0) (first : ℕ) (order : List ℕ) : Type 0 where
  pub begins : index_at order 1 ≡ first
  pub different : AreDifferent d order
  pub forced : IsForced d IsZero first order

-- A beginning with all indices.
pub record IsWhole (d : ℕ) (IsZero : ℕ → ℕ → ℕ → Type 0) (first : ℕ) (order : List ℕ) : Type 0 where
  pub count : length order ≡ d
  pub beginning : IsBeginning d IsZero first order

-- No ordering has this first index.
abbrev pub NoneBegins : ℕ → (ℕ → ℕ → ℕ → Type 0) → ℕ → Type 0
NoneBegins d IsZero first = (order : List ℕ) → IsOrdering d IsZero order → ¬ (index_at order 1 ≡ first)

-- The list is the one ordering with this first index.
pub record IsTheOrdering (d : ℕ) (IsZero : ℕ → ℕ → ℕ → Type 0) (first : ℕ) (order : List ℕ) : Type 0 where
  pub is : IsOrdering d IsZero order
  pub begins : index_at order 1 ≡ first
  pub alone : (other : List ℕ) → IsOrdering d IsZero other → index_at other 1 ≡ first → other ≡ order

-- All entries fit.
abbrev pub AllFit : ℕ → (ℕ → ℕ → ℕ → Type 0) → List ℕ → Type 0
AllFit d IsZero order = (h j : ℕ) → h ≤ d → j ≤ d → EntryFits IsZero order h j
