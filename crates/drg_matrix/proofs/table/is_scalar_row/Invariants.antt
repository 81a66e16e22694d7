use Rattle.std.proofs.Common.{◌≡◌, ℕ, ◌<◌, map, slice_index_or}
use Rattle.drg_algebra.specs.Tables.{delta}
use Rattle.drg_matrix.proofs.table.is_scalar_row.Given as goal

abbrev pub invariant-items : goal.invariant-items
invariant-items g l =
    let f = g.F.Field in
    let nil = (f.operations (f.root_of l.v)).nil in
    (j : ℕ) → j < l.at → slice_index_or (map f.value l.row) j nil ≡ delta nil (f.value l.v) l.place j
