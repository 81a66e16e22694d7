-- Frames of one diameter and root with the same eigenvalues and matrices have the same lines.
use Rattle.std.proofs.Common.{◌≡◌, ℕ, zero, suc, ◌<◌, ◌≤◌, List, ◌++◌, refl, ap, ap₂, ◌∙◌, arith}
use Rattle.std.specs.Prelude.{codes}
use Rattle.drg_fraction.specs.Operations.{Operations}
use Rattle.drg_matrices.specs.Frame.{AreSame}
use Rattle.drg_matrices.specs.Tables.{FrameTables, diameter_of, root_of_tables, theta_in, cosine_in, eigen_in, dual_in}
use Rattle.drg_report.specs.Pieces.{pieces, spaced}
use Rattle.drg_report.specs.Words.{field_text}
use Rattle.drg_report.specs.SpectralTexts.{dual_lines, eigen_lines, frame_lines, root_line, row_line, row_value, row_word}
use Rattle.drg_report.specs.declared.tables.Row.{Row}
use Rattle.drg_report.specs.declared.tables.Row.TheVariants.{Thetas, Eigen, Dual}

pub same_pieces : (f g : ℕ → List ℕ) (m : ℕ) → ((i : ℕ) → i < m → f i ≡ g i) → pieces f m ≡ pieces g m
same_pieces f g zero same = refl
same_pieces f g (suc i) same =
    ap₂ (λ (a b : List ℕ). a ++ b) (same_pieces f g i (λ j h. same j (omega (arith, h)))) (same i (omega arith))

module _ {A V : Type 0} (value : A → V) (operations : ℕ → Operations V) (t other : FrameTables A) (diameters : diameter_of t ≡ diameter_of other) (roots : root_of_tables t ≡ root_of_tables other) where
  abbrev line : Row → ℕ → ℕ → (ℕ → V) → List ℕ
  line row root d f = row_word row ++ pieces (λ j. spaced (field_text (operations root) root (f j))) (suc d) ++ codes "\n"

  same_row : (row : Row) → ((j : ℕ) → j ≤ diameter_of t → row_value value operations t row j ≡ row_value value operations other row j)
      → row_line value operations t row ≡ row_line value operations other row
  same_row row same =
      let root = root_of_tables other in
      let d = diameter_of t in
      let text : V → List ℕ = λ x. spaced (field_text (operations root) root x) in
      let first = ap (λ (r : ℕ). line row r d (row_value value operations t row)) roots in
      let second = ap (λ (values : List ℕ). row_word row ++ values ++ codes "\n")
      (same_pieces (λ j. text (row_value value operations t row j)) (λ j. text (row_value value operations other row j)) (suc d) (λ j h. ap text (same j (omega (arith, h))))) in
      let third = ap (λ (m : ℕ). line row root m (row_value value operations other row)) diameters in
      first ∙ (second ∙ third)

  pub same_lines : AreSame (diameter_of t) (theta_in value operations t) (theta_in value operations other)
      (cosine_in value operations t) (eigen_in value operations t) (dual_in value operations t) (cosine_in value operations other) (eigen_in value operations other) (dual_in value operations other)
      → frame_lines value operations t ≡ frame_lines value operations other
  same_lines same =
      let d = diameter_of t in
      let heads = ap₂ (λ (a b : List ℕ). a ++ b) (ap root_line roots) (same_row Thetas same.thetas) in
      let eigens = same_pieces (λ i. row_line value operations t (Eigen i)) (λ i. row_line value operations other (Eigen i)) (suc d)
      (λ i h. same_row (Eigen i) (λ j below. same.eigen i j (omega (arith, h)) below))
      ∙ ap (λ (m : ℕ). eigen_lines value operations other (suc m)) diameters in
      let duals = same_pieces (λ r. row_line value operations t (Dual r)) (λ r. row_line value operations other (Dual r)) (suc d)
      (λ r h. same_row (Dual r) (λ i below. same.dual r i (omega (arith, h)) below))
      ∙ ap (λ (m : ℕ). dual_lines value operations other (suc m)) diameters in
      ap₂ (λ (a b : List ℕ). a ++ b) (ap₂ (λ (a b : List ℕ). a ++ b) heads eigens) duals
