-- The product of two tables, and why there is none.
use Rattle.std.specs.Prelude.{◌≡◌, ℕ, ◌<◌, Bool, true, false, ⊤}
use Rattle.std.proofs.Common.{◌⊎◌}
use Rattle.drg_algebra.specs.Tables.{total}
use Rattle.drg_fraction.specs.Operations.{Operations}
use Rattle.drg_fraction.specs.Field.{dot_of, dot_fits}
use Rattle.drg_matrix.specs.Table.{Square, row_of, column_of, IsScalarTable}
use Rattle.drg_matrix.specs.declared.fault.TableFault.{TableFault}
use Rattle.drg_matrix.specs.declared.fault.TableFault.TheVariants.{Wide, Memory}

-- row i of s times column j of t
abbrev pub product_at : {A V : Type 0} (value : A → V) (operations : ℕ → Operations V) → Square A → Square A → ℕ → ℕ → V
product_at value operations s t i j = dot_of (operations s.root) (row_of value operations s i) (column_of value operations t j)

-- whether its work numbers fit
abbrev pub product_fits_at : {A V : Type 0} (value : A → V) (operations : ℕ → Operations V) → Square A → Square A → ℕ → ℕ → Bool
product_fits_at value operations s t i j = dot_fits (operations s.root) (row_of value operations s i) (column_of value operations t j)

-- the sum over l of p_il q_lj, for tables of n rows and columns
abbrev pub entry : {V : Type 0} → Operations V → ℕ → (ℕ → ℕ → V) → (ℕ → ℕ → V) → ℕ → ℕ → V
entry o n p q i j = total o.nil o.plus n (λ l. o.times (p i l) (q l j))

-- p q = x I
abbrev pub ProductIsScalar : {V : Type 0} → Operations V → ℕ → (ℕ → ℕ → V) → (ℕ → ℕ → V) → V → Type 0
ProductIsScalar o n p q x = IsScalarTable o n (entry o n p q) x

-- the place (i, j) comes before (k, l), row by row
abbrev pub IsBefore : ℕ → ℕ → ℕ → ℕ → Type 0
IsBefore i j k l = (i < k) ⊎ ((i ≡ k) × (j < l))

-- each cell of n rows and columns fits
abbrev pub AllFit : ℕ → (ℕ → ℕ → Bool) → Type 0
AllFit n fits = (i j : ℕ) → i < n → j < n → fits i j ≡ true

-- the cell at (k, l) doesn't fit, and each one before it does
pub record IsFirstWide (n : ℕ) (fits : ℕ → ℕ → Bool) (k l : ℕ) : Type 0 where
  pub row : k < n
  pub col : l < n
  pub wide : fits k l ≡ false
  pub before : (i j : ℕ) → j < n → IsBefore i j k l → fits i j ≡ true

-- the first cell that doesn't fit is named; want of memory says nothing of the cells
abbrev pub IsFault : ℕ → (ℕ → ℕ → Bool) → TableFault → Type 0
IsFault n fits (Wide k l) = IsFirstWide n fits k l
IsFault n fits Memory = ⊤
