use Rattle.std.proofs.Common.{List, ℕ, map, take}
use Rattle.drg_tables.specs.Output.{records_text}
use Rattle.drg_tables.specs.Writing.{HasWritten}
use Rattle.drg_tables.proofs.Spread.{FoundBelow}
use Rattle.drg_tables.proofs.writing.render_rows.Given as goal

abbrev pub invariant-rows : goal.invariant-rows
invariant-rows l = (each : List (List ℕ)) × FoundBelow l.fn.found.places (map (λ w. w.items) l.fn.words) l.i each
    × HasWritten (records_text (take l.i l.fn.rows) each) l.writer
