use Rattle.std.specs.Prelude.{pos, ◌-ℤ◌}
use Rattle.drg_array.specs.Entries.{b_at}
use Rattle.drg_census.specs.Rows.{AreRowsBelow}
use Rattle.drg_census.proofs.bases.classical.Given as goal

abbrev pub invariant-bases : goal.invariant-bases
invariant-bases l = AreRowsBelow l.array (pos l.steps -ℤ pos (b_at l.array 0)) l.rows.items
