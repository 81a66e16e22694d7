-- The lines of the eigenvalues of an array, of its matrices P and Q, and of its Krein parameters.
use Rattle.std.specs.Prelude.{ℕ, suc, ◌≤◌, List, [], ◌++◌, Option, Some, None, ⊤, codes, decimal}
use Rattle.drg_fraction.specs.Fraction.{rational_of}
use Rattle.drg_fraction.specs.Operations.{Operations}
use Rattle.drg_fraction.specs.Rationals.{rational_operations}
use Rattle.drg_krein.specs.Tables.{KreinTables}
use Rattle.drg_matrices.specs.Tables.{FrameTables, diameter_of, root_of_tables, theta_in, eigen_in, dual_in}
use Rattle.drg_quadratic.specs.Operations.{value_operations}
use Rattle.drg_quadratic.specs.Quadratic.{value_of}
use Rattle.drg_report.specs.KreinTexts.{krein_lines}
use Rattle.drg_report.specs.Pieces.{pieces, spaced}
use Rattle.drg_report.specs.Words.{field_text}
use Rattle.drg_report.specs.declared.tables.Row.{Row}
use Rattle.drg_report.specs.declared.tables.Row.TheVariants.{Thetas, Eigen, Dual}
use Rattle.drg_report.specs.declared.verdict.Spectra.{Spectra}
use Rattle.drg_report.specs.declared.verdict.Spectra.TheVariants.{Rational, Quadratic}

-- the root of all values
abbrev pub root_line : ℕ → List ℕ
root_line root = codes "root " ++ decimal root ++ codes "\n"

-- the word before the values of a row
abbrev pub row_word : Row → List ℕ
row_word Thetas = codes "theta"
row_word (Eigen i) = codes "P"
row_word (Dual r) = codes "Q"

-- the row is one of a frame of diameter d
abbrev pub IsRowOf : ℕ → Row → Type 0
IsRowOf d Thetas = ⊤
IsRowOf d (Eigen i) = i ≤ d
IsRowOf d (Dual r) = r ≤ d

module _ {A V : Type 0} (value : A → V) (operations : ℕ → Operations V) (t : FrameTables A) where
  -- the value of a row in a column: θ_j, P_ij or Q_rj
  abbrev pub row_value : Row → ℕ → V
  row_value Thetas j = theta_in value operations t j
  row_value (Eigen i) j = eigen_in value operations t i j
  row_value (Dual r) j = dual_in value operations t r j

  -- the first m values of a row, with one space before each
  abbrev pub values_text : Row → ℕ → List ℕ
  values_text row m =
      let root = root_of_tables t in
      pieces (λ j. spaced (field_text (operations root) root (row_value row j))) m

  -- the line of a row, with its values in the columns 0 to d
  abbrev pub row_line : Row → List ℕ
  row_line row = row_word row ++ values_text row (suc (diameter_of t)) ++ codes "\n"

  -- the lines of the first m rows of P
  abbrev pub eigen_lines : ℕ → List ℕ
  eigen_lines m = pieces (λ i. row_line (Eigen i)) m

  -- the lines of the first m rows of Q
  abbrev pub dual_lines : ℕ → List ℕ
  dual_lines m = pieces (λ r. row_line (Dual r)) m

  -- the root, the eigenvalues, and the rows of P and of Q
  abbrev pub frame_lines : List ℕ
  frame_lines =
      root_line (root_of_tables t) ++ row_line Thetas ++ eigen_lines (suc (diameter_of t))
      ++ dual_lines (suc (diameter_of t))

  -- these lines, and those of the Krein parameters, where there are any
  abbrev pub table_lines : Option (KreinTables A) → List ℕ
  table_lines krein = frame_lines ++ krein_lines value operations krein

-- the lines of the tables, where there are any
abbrev pub spectra_lines : Option Spectra → List ℕ
spectra_lines None = []
spectra_lines (Some (Rational tables)) =
    table_lines rational_of (λ root. rational_operations) tables.frame tables.krein
spectra_lines (Some (Quadratic tables)) =
    table_lines value_of value_operations tables.frame tables.krein
