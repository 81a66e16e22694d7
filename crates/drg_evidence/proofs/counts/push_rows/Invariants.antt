use Rattle.std.proofs.Common.{◌≡◌, ◌++◌, ◌-◌, List}
use Rattle.drg_array.specs.Entries.{Entries}
use Rattle.drg_derivation.specs.declared.line.Line.{Line}
use Rattle.drg_intersection.specs.FirstNumbers.{AreFirstNumbers}
use Rattle.drg_evidence.specs.Lines.{AreRowLines}
use Rattle.drg_evidence.proofs.counts.push_rows.Given as goal

abbrev pub invariant-rows : goal.invariant-rows
invariant-rows l = (a : Entries) → AreFirstNumbers a l.first → (rows : List Line) × (l.lines.items ≡ l.fn.lines.items ++ rows) × AreRowLines a l.h 1 (l.l - 1) rows
