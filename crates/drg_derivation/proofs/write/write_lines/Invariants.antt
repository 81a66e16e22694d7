use Rattle.std.proofs.Common.{◌≡◌, ◌++◌, take}
use Rattle.drg_derivation.specs.Text.{evidence_views, written_texts}
use Rattle.drg_derivation.proofs.write.write_lines.Given as goal

abbrev pub invariant-lines : goal.invariant-lines
invariant-lines l = l.out.items ≡ l.initial.out.items ++ written_texts (evidence_views (take l.line-index l.lines))
