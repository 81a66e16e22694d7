-- The lines of Krein parameters, one after the other, and those of two families with the same parameters.
use Rattle.std.proofs.Common.{◌≡◌, ℕ, suc, ◌+◌, ◌-◌, ◌<◌, ◌≤◌, List, ◌++◌, ap, ap₂, ◌∙◌, arith}
use Rattle.std.specs.Prelude.{codes}
use Rattle.drg_fraction.specs.Operations.{Operations}
use Rattle.drg_krein.specs.Tables.{KreinTables, krein_in}
use Rattle.drg_report.specs.KreinTexts.{krein_head, krein_line, lines_of_index, lines_of_indices, parameter_lines}
use Rattle.drg_report.specs.Pieces.{pieces, spaced}
use Rattle.drg_report.specs.Words.{field_text}
use Rattle.drg_report.proofs.FrameTexts.{same_pieces}

module _ {A V : Type 0} (value : A → V) (operations : ℕ → Operations V) (t : KreinTables A) where
  -- the lines of i ≥ 1 are the piece at the place i - 1
  pub piece_of_index : (i : ℕ) → 1 ≤ i → lines_of_index value operations t i (suc t.d - i) ≡ lines_of_index value operations t (suc (i - 1)) (t.d - (i - 1))
  piece_of_index i some =
      let here : i ≡ suc (i - 1) = omega (arith, some) in
      let count : suc t.d - i ≡ t.d - (i - 1) = omega (arith, some) in
      ap₂ (λ (k m : ℕ). lines_of_index value operations t k m) here count

  -- the line of j ≥ i is the piece at the place j - i
  pub piece_of_pair : (i j : ℕ) → i ≤ j → krein_line value operations t i j ≡ krein_line value operations t i (i + (j - i))
  piece_of_pair i j ordered =
      let here : j ≡ i + (j - i) = omega (arith, ordered) in
      ap (λ (l : ℕ). krein_line value operations t i l) here

module _ {A V : Type 0} (value : A → V) (operations : ℕ → Operations V) (t other : KreinTables A) (diameters : t.d ≡ other.d) (roots : t.root ≡ other.root)
    (same : (h i j : ℕ) → h ≤ t.d → i ≤ t.d → j ≤ t.d → krein_in value operations t h i j ≡ krein_in value operations other h i j) where
  abbrev line : ℕ → ℕ → ℕ → ℕ → (ℕ → V) → List ℕ
  line i j root d q = krein_head i j ++ pieces (λ h. spaced (field_text (operations root) root (q h))) (suc d) ++ codes "\n"

  same_line : (i j : ℕ) → i ≤ t.d → j ≤ t.d → krein_line value operations t i j ≡ krein_line value operations other i j
  same_line i j first second =
      let root = other.root in
      let text : V → List ℕ = λ x. spaced (field_text (operations root) root x) in
      let of_t : ℕ → V = λ h. krein_in value operations t h i j in
      let of_other : ℕ → V = λ h. krein_in value operations other h i j in
      let over = ap (λ (r : ℕ). line i j r t.d of_t) roots in
      let values = ap (λ (l : List ℕ). krein_head i j ++ l ++ codes "\n")
      (same_pieces (λ h. text (of_t h)) (λ h. text (of_other h)) (suc t.d) (λ h below. ap text (same h i j (omega (arith, below)) first second))) in
      let to = ap (λ (m : ℕ). line i j root m of_other) diameters in
      over ∙ (values ∙ to)

  same_index : (i : ℕ) → i < t.d → lines_of_index value operations t (suc i) (t.d - i) ≡ lines_of_index value operations other (suc i) (t.d - i)
  same_index i inside =
      same_pieces (λ l. krein_line value operations t (suc i) (suc i + l)) (λ l. krein_line value operations other (suc i) (suc i + l)) (t.d - i)
      (λ l below. same_line (suc i) (suc i + l) (omega (arith, inside)) (omega (arith, inside, below)))

  pub same_parameter_lines : parameter_lines value operations t ≡ parameter_lines value operations other
  same_parameter_lines =
      same_pieces (λ i. lines_of_index value operations t (suc i) (t.d - i)) (λ i. lines_of_index value operations other (suc i) (t.d - i)) t.d same_index
      ∙ ap (λ (d : ℕ). pieces (λ i. lines_of_index value operations other (suc i) (d - i)) d) diameters
