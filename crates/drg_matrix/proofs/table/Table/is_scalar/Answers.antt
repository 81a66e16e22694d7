use Rattle.std.proofs.Common.{◌≡◌, ℕ, ◌<◌, ap, refl, below_more, arith}
use Rattle.std.proofs.lemmas.Bool.{false≢true}
use Rattle.drg_algebra.specs.Tables.{delta}
use Rattle.drg_matrix.specs.Table.{cell}
use Rattle.drg_matrix.proofs.Cells.{row_to_cells, cells_to_row}
use Rattle.drg_matrix.proofs.table.Table.is_scalar.Goals as goal

pub returns-then-not-is_scalar_row : goal.returns-then-not-is_scalar_row
returns-then-not-is_scalar_row g c =
    let f = g.F.Field in
    let t = c.args.self.now in
    let side = ap (λ t. t.side) c.self.view_is in
    let wanted = delta (f.operations t.root).nil (f.value c.args.v) c.rows.row in
    let told = rw c.requires at c.if-not-is_scalar_row.ensures in
    let row = cells_to_row f.value f.operations t c.rows.row c.row.result.now c.row.ensures.values c.row.ensures.length wanted in
    (λ never. absurd (false≢true never), λ all. told.1 (row (λ j h. all c.rows.row j (omega (arith, side)) h)))

pub rows-preserved : goal.rows-preserved
rows-preserved g c = λ i j h inside.
    let f = g.F.Field in
    let t = c.args.self.now in
    let wanted = delta (f.operations t.root).nil (f.value c.args.v) in
    let told = rw c.requires at c.if-not-is_scalar_row.ensures in
    let row = row_to_cells f.value f.operations t c.rows.row c.row.result.now c.row.ensures.values c.row.ensures.length (wanted c.rows.row) in
    below_more (λ (i : ℕ). (j : ℕ) → j < t.side → cell f.value f.operations t i j ≡ wanted i j) c.rows.row (λ i h j. c.rows.invariant i j h)
    (row (told.0 refl)) i h j inside
