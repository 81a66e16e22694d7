-- The lines of the Krein parameters of an array.
use Rattle.std.specs.Prelude.{ℕ, suc, ◌+◌, ◌-◌, List, [], ◌++◌, Option, Some, None, codes, decimal}
use Rattle.drg_fraction.specs.Operations.{Operations}
use Rattle.drg_krein.specs.Tables.{KreinTables, krein_in}
use Rattle.drg_report.specs.Pieces.{pieces, spaced}
use Rattle.drg_report.specs.Words.{field_text}

-- the word before the parameters, and the indices i and j
abbrev pub krein_head : ℕ → ℕ → List ℕ
krein_head i j = codes "krein " ++ decimal i ++ codes " " ++ decimal j

module _ {A V : Type 0} (value : A → V) (operations : ℕ → Operations V) (t : KreinTables A) where
  -- the first m of the parameters q^0_ij, q^1_ij, .., with one space before each
  abbrev pub parameters_text : ℕ → ℕ → ℕ → List ℕ
  parameters_text i j m =
      let text = field_text (operations t.root) t.root in
      pieces (λ h. spaced (text (krein_in value operations t h i j))) m

  -- the line of i and j, with q^0_ij to q^d_ij
  abbrev pub krein_line : ℕ → ℕ → List ℕ
  krein_line i j = krein_head i j ++ parameters_text i j (suc t.d) ++ codes "\n"

  -- the lines of i with the first m of j = i, i + 1, ..
  abbrev pub lines_of_index : ℕ → ℕ → List ℕ
  lines_of_index i m = pieces (λ l. krein_line i (i + l)) m

  -- the lines of the first m of i = 1, 2, .., each with all j from i to d
  abbrev pub lines_of_indices : ℕ → List ℕ
  lines_of_indices m = pieces (λ l. lines_of_index (suc l) (t.d - l)) m

  -- a line for all i and j with 1 ≤ i ≤ j ≤ d
  abbrev pub parameter_lines : List ℕ
  parameter_lines = lines_of_indices t.d

-- the lines of the Krein parameters, where there are any
abbrev pub krein_lines : {A V : Type 0} → (A → V) → (ℕ → Operations V) → Option (KreinTables A) → List ℕ
krein_lines value operations None = []
krein_lines value operations (Some t) = parameter_lines value operations t
