use Rattle.std.proofs.Common.{drop}
use Rattle.drg_derivation.specs.Lines.{AreFit}
use Rattle.drg_derivation.proofs.derivation.lines_fit.Given as goal

abbrev pub invariant-lines : goal.invariant-lines
invariant-lines l = record {
  there : AreFit l.context (drop l.line-index l.lines) → AreFit l.fn.context l.lines;
  back : AreFit l.fn.context l.lines → AreFit l.context (drop l.line-index l.lines);
}
