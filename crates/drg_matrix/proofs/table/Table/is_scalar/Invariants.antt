use Rattle.std.proofs.Common.{◌≡◌, ℕ, ◌<◌}
use Rattle.drg_algebra.specs.Tables.{delta}
use Rattle.drg_matrix.specs.Table.{cell}
use Rattle.drg_matrix.proofs.table.Table.is_scalar.Given as goal

abbrev pub invariant-rows : goal.invariant-rows
invariant-rows g l =
    let f = g.F.Field in
    (i j : ℕ) → i < l.row → j < l.self.side → cell f.value f.operations l.self i j ≡ delta (f.operations l.self.root).nil (f.value l.v) i j
