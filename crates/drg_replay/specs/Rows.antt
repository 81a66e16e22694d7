-- What a `p` line asks: row i of the intersection numbers with upper index h, after row i-1,
-- by the balance equation c_i p^h_ij = N(h,i,j) for each j.
use Rattle.std.specs.Prelude.{ℕ, zero, suc, ◌+◌, nat_eq, nat_le, ℤ, pos, neg_ℤ, ◌*ℤ◌, Bool, not, if◌then◌else◌, List, [], ◌∷◌, ◌++◌, length, slice_index_or}
use Rattle.std.specs.Ordering.{int_eq}
use Rattle.drg_array.specs.Entries.{Entries, b_at, c_at, a_at, diameter}
use Rattle.drg_whole.specs.declared.product.Product.{Product}
use Rattle.drg_whole.specs.Range.{in_range}
use Rattle.drg_whole.specs.Sums.{products_of, sum_from, sum_fits_from}
use Rattle.drg_replay.specs.Steps.{Step, Holds, Fits}

-- the rows of h, from row 1 on
abbrev pub rows_at : List (List (List ℤ)) → ℕ → List (List ℤ)
rows_at rows h = slice_index_or rows h []

-- row i stands; row 0 is given
abbrev pub row_stands : List (List ℤ) → ℕ → Bool
row_stands rows i = nat_le i (length rows)

-- p^h_ij as the rows of h state it, and 0 where none does
abbrev pub entry : ℕ → List (List ℤ) → ℕ → ℕ → ℤ
entry h rows zero j = if nat_eq j h then pos 1 else pos 0
entry h rows (suc i) j = slice_index_or (slice_index_or rows i []) j (pos 0)

-- b_(j-1), and 0 for j = 0
abbrev pub b_before : Entries → ℕ → ℕ
b_before a zero = 0
b_before a (suc j) = b_at a j

-- the entry one place before, and 0 where there is none
abbrev pub entry_before : ℕ → List (List ℤ) → ℕ → ℕ → ℤ
entry_before h rows i zero = pos 0
entry_before h rows i (suc j) = entry h rows i j

-- the entry one row above, and 0 where there is none
abbrev pub entry_above : ℕ → List (List ℤ) → ℕ → ℕ → ℤ
entry_above h rows zero j = pos 0
entry_above h rows (suc i) j = entry h rows i j

abbrev pub of_factors : ℤ → ℤ → Product
of_factors x y = record { left = x; right = y }

-- the terms of N(h,i+1,j); an absent one is 0
unfoldable pub balance : Entries → ℕ → List (List ℤ) → ℕ → ℕ → List Product
balance a h rows i j =
    of_factors (pos (b_before a j)) (entry_before h rows i j)
    ∷ of_factors (a_at a j) (entry h rows i j)
    ∷ of_factors (pos (c_at a (suc j))) (entry h rows i (suc j))
    ∷ of_factors (neg_ℤ (pos (b_before a i))) (entry_above h rows i j)
    ∷ of_factors (neg_ℤ (a_at a i)) (entry h rows i j)
    ∷ []

-- N(h,i+1,j)
abbrev pub balance_sum : Entries → ℕ → List (List ℤ) → ℕ → ℕ → ℤ
balance_sum a h rows i j = sum_from (pos 0) (products_of (balance a h rows i j))

abbrev pub balance_fits : Entries → ℕ → List (List ℤ) → ℕ → ℕ → Bool
balance_fits a h rows i j = sum_fits_from (pos 0) (products_of (balance a h rows i j))

-- c_(i+1) v = N(h,i+1,j)
abbrev pub balance_steps : Entries → ℕ → List (List ℤ) → ℕ → ℕ → ℤ → List Step
balance_steps a h rows i j value =
    Fits (in_range (pos (c_at a (suc i)) *ℤ value))
    ∷ Fits (balance_fits a h rows i j)
    ∷ Holds (int_eq (pos (c_at a (suc i)) *ℤ value) (balance_sum a h rows i j))
    ∷ []

-- the numbers of row i+1 from place j on
abbrev pub balances_from : Entries → ℕ → List (List ℤ) → ℕ → ℕ → List ℤ → List Step
balances_from a h rows i j [] = []
balances_from a h rows i j (v ∷ vs) =
    balance_steps a h rows i j v ++ balances_from a h rows i (suc j) vs

-- row i+1 of h, after the rows of h
abbrev pub row_steps : Entries → ℕ → List (List ℤ) → ℕ → List ℤ → List Step
row_steps a h rows i values =
    Holds (not (row_stands rows (suc i)))
    ∷ Holds (row_stands rows i)
    ∷ Holds (nat_eq (length values) (diameter a + 1))
    ∷ balances_from a h rows i 0 values
