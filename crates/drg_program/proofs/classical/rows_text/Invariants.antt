use Rattle.std.proofs.Common.{◌≡◌, take}
use Rattle.drg_program.specs.Classical.{rows_text}
use Rattle.drg_program.proofs.classical.rows_text.Given as goal

abbrev pub invariant-rows : goal.invariant-rows
invariant-rows l = l.text.items ≡ rows_text (take l.row-index l.rows)
