-- An array has one frame by values, whatever the root, and so one list of its lines.
use Rattle.std.proofs.Common.{◌≡◌, ℕ, zero, suc, ◌+◌, ◌<◌, ◌∷◌, ◌++◌, refl, sym, ap, ap₂, ◌∙◌, subst, arith, pos}
use Rattle.drg_array.specs.Entries.{diameter}
use Rattle.drg_derivation.specs.declared.line.Line.{Line}
use Rattle.drg_derivation.specs.declared.line.Line.TheVariants.{Frame, Theta, Prow, Qrow}
use Rattle.drg_eigen.specs.SplitLaws.{OneSplit}
use Rattle.drg_matrices.specs.Frame.{IsFrameOf, OneFrame}
use Rattle.drg_quadratic.specs.Operations.{value_operations}
use Rattle.drg_quadratic.specs.Values.{IsRoot, Value}
use Rattle.drg_evidence.specs.FrameLines.{dual_line, eigen_line, field_numbers, lines_from, row_numbers, theta_line}
use Rattle.drg_evidence.proofs.OneSpectrum.{one_spectrum}
use Rattle.drg_evidence.specs.Laws.{OneFrameOfValues, OneListOfFrameLines}

-- an array has one frame over each root
abbrev pub OneOverEach : Type 0
OneOverEach = (root : ℕ) → IsRoot root → OneFrame (value_operations root) root

pub one_values : OneSplit → OneOverEach → OneFrameOfValues
one_values split law a f g array here there =
    let roots = (one_spectrum split a f.root g.root here.thetas there.thetas here.spectrum there.spectrum).0 in
    let same = law f.root here.spectrum.common_root.is_root a f.theta g.theta f.cosine f.eigen f.dual g.cosine g.eigen g.dual array here
    (subst (λ (r : ℕ). IsFrameOf (value_operations r) r a g.theta g.cosine g.eigen g.dual) (sym roots) there) in
    record { roots = roots; thetas = same.thetas; cosines = same.cosines; eigen = same.eigen; dual = same.dual }

-- ---- lines
same_rows : (root : ℕ) (x y : ℕ → Value) (l n : ℕ) → ((j : ℕ) → j < l + n → x j ≡ y j) → row_numbers root x l n ≡ row_numbers root y l n
same_rows root x y l zero same = refl
same_rows root x y l (suc n) same = ap₂ (λ ns ms. ns ++ ms) (ap (field_numbers root) (same l (omega arith))) (same_rows root x y (suc l) n (λ j less. same j (omega arith)))

same_lines : (f g : ℕ → Line) (l n : ℕ) → ((i : ℕ) → i < l + n → f i ≡ g i) → lines_from f l n ≡ lines_from g l n
same_lines f g l zero same = refl
same_lines f g l (suc n) same = ap₂ (λ x xs. x ∷ xs) (same l (omega arith)) (same_lines f g (l + 1) n (λ i less. same i (omega arith)))

pub one_list : OneSplit → OneOverEach → OneListOfFrameLines
one_list split law a f g array here there =
    let same = one_values split law a f g array here there in
    let d = diameter a in
    ap₂ (λ x xs. x ∷ xs) (ap (λ (r : ℕ). Frame (pos r)) same.roots)
    (ap₂ (λ xs ys. xs ++ ys)
    (same_lines (theta_line d f) (theta_line d g) 0 (suc d) (λ i less. ap₂ (λ (r : ℕ) x. Theta (pos i) (field_numbers r x)) same.roots (same.thetas i (omega arith))))
    (ap₂ (λ xs ys. xs ++ ys)
    (same_lines (eigen_line d f) (eigen_line d g) 0 (suc d) (λ i less.
    ap (λ (r : ℕ). Prow (pos i) (row_numbers r (f.eigen i) 0 (suc d))) same.roots ∙ ap (Prow (pos i)) (same_rows g.root (f.eigen i) (g.eigen i) 0 (suc d) (λ j inside. same.eigen i j (omega arith) (omega arith)))))
    (same_lines (dual_line d f) (dual_line d g) 0 (suc d) (λ r less.
    ap (λ (root : ℕ). Qrow (pos r) (row_numbers root (f.dual r) 0 (suc d))) same.roots ∙ ap (Qrow (pos r)) (same_rows g.root (f.dual r) (g.dual r) 0 (suc d) (λ j inside. same.dual r j (omega arith) (omega arith)))))))
