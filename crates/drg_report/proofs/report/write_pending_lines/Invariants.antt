use Rattle.std.proofs.Common.{◌≡◌, ◌++◌, take}
use Rattle.drg_report.specs.Texts.{pending_lines}
use Rattle.drg_report.proofs.report.write_pending_lines.Given as goal

abbrev pub invariant-entries : goal.invariant-entries
invariant-entries l = l.out.items ≡ l.initial.out.items ++ pending_lines (take l.entry-index l.pending)
