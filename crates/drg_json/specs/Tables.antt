-- The eigenvalues of an array, its matrices P and Q, and its Krein parameters. Each value of a field is a
-- text.
use Rattle.std.specs.Prelude.{ℕ, zero, suc, ◌+◌, ◌-◌, ◌≤◌, List, [], ◌++◌, Option, Some, None, ⊤, codes, decimal}
use Rattle.serde_json.specs.Data.{Data, member, no_members, object, string}
use Rattle.drg_fraction.specs.Fraction.{rational_of}
use Rattle.drg_fraction.specs.Operations.{Operations}
use Rattle.drg_fraction.specs.Rationals.{rational_operations}
use Rattle.drg_krein.specs.Tables.{KreinTables, krein_in}
use Rattle.drg_matrices.specs.Tables.{FrameTables, diameter_of, root_of_tables, theta_in, eigen_in, dual_in}
use Rattle.drg_quadratic.specs.Operations.{value_operations}
use Rattle.drg_quadratic.specs.Quadratic.{value_of}
use Rattle.drg_report.specs.Words.{field_text}
use Rattle.drg_report.specs.declared.verdict.Spectra.{Spectra}
use Rattle.drg_report.specs.declared.verdict.Spectra.TheVariants.{Rational, Quadratic}
use Rattle.drg_json.specs.Pieces.{first_items, index, list}
use Rattle.drg_json.specs.declared.tables.Row.{Row}
use Rattle.drg_json.specs.declared.tables.Row.TheVariants.{Thetas, Eigen, Dual}

-- the row is one of a frame of diameter d
abbrev pub IsRowOf : ℕ → Row → Type 0
IsRowOf d Thetas = ⊤
IsRowOf d (Eigen i) = i ≤ d
IsRowOf d (Dual r) = r ≤ d

module _ {A V : Type 0} (value : A → V) (operations : ℕ → Operations V) where
  -- the text of a value over a root
  abbrev pub value_data : ℕ → V → Data
  value_data root x = string (field_text (operations root) root x)

  -- the value of a row in a column: θ_j, P_ij or Q_rj
  abbrev pub row_value : FrameTables A → Row → ℕ → V
  row_value t Thetas j = theta_in value operations t j
  row_value t (Eigen i) j = eigen_in value operations t i j
  row_value t (Dual r) j = dual_in value operations t r j

  -- the first m values of a row
  abbrev pub row_items : FrameTables A → Row → ℕ → List Data
  row_items t row m = first_items (λ j. value_data (root_of_tables t) (row_value t row j)) m

  -- the values of a row in the columns 0 to d
  abbrev pub row_data : FrameTables A → Row → Data
  row_data t row = list (row_items t row (suc (diameter_of t)))

  -- the rows of P
  abbrev pub eigen_data : FrameTables A → Data
  eigen_data t = list (first_items (λ i. row_data t (Eigen i)) (suc (diameter_of t)))

  -- the rows of Q
  abbrev pub dual_data : FrameTables A → Data
  dual_data t = list (first_items (λ r. row_data t (Dual r)) (suc (diameter_of t)))

  -- the first m of the parameters q^0_ij, q^1_ij, ..
  abbrev pub parameter_items : KreinTables A → ℕ → ℕ → ℕ → List Data
  parameter_items t i j m = first_items (λ h. value_data t.root (krein_in value operations t h i j)) m

  -- the indices i and j, and the parameters q^0_ij to q^d_ij
  abbrev pub pair_data : KreinTables A → ℕ → ℕ → Data
  pair_data t i j = object
      (member (codes "i") (index i)
      (member (codes "j") (index j)
      (member (codes "q") (list (parameter_items t i j (suc t.d))) no_members)))

  -- those of i with the first m of j = i, i + 1, ..
  abbrev pub pairs_of_index : KreinTables A → ℕ → ℕ → List Data
  pairs_of_index t i m = first_items (λ l. pair_data t i (i + l)) m

  -- those of the first m of i = 1, 2, .., each with all j from i to d
  abbrev pub pairs_of_indices : KreinTables A → ℕ → List Data
  pairs_of_indices t zero = []
  pairs_of_indices t (suc l) = pairs_of_indices t l ++ pairs_of_index t (suc l) (t.d - l)

  -- those of all i and j with 1 ≤ i ≤ j ≤ d
  abbrev pub krein_data : KreinTables A → Data
  krein_data t = list (pairs_of_indices t t.d)

  -- the Krein parameters, where there are any
  abbrev pub krein_if : Option (KreinTables A) → Option Data
  krein_if None = None
  krein_if (Some t) = Some (krein_data t)

-- the root of all values, as a text
abbrev pub root_data : ℕ → Data
root_data root = string (decimal root)

-- What a report has of the tables of an array.
pub record TableData : Type 0 where
  pub root : Data
  pub theta : Data
  pub eigen : Data
  pub dual : Data
  pub krein : Option Data

abbrev pub table_data : {A V : Type 0} → (A → V) → (ℕ → Operations V) → FrameTables A → Option (KreinTables A) → TableData
table_data value operations t krein = record {
  root = root_data (root_of_tables t);
  theta = row_data value operations t Thetas;
  eigen = eigen_data value operations t;
  dual = dual_data value operations t;
  krein = krein_if value operations krein;
}

-- the same of the tables of a survivor, where it has any
abbrev pub spectra_data : Option Spectra → Option TableData
spectra_data None = None
spectra_data (Some (Rational tables)) =
    Some (table_data rational_of (λ root. rational_operations) tables.frame tables.krein)
spectra_data (Some (Quadratic tables)) =
    Some (table_data value_of value_operations tables.frame tables.krein)
