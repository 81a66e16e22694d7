use Rattle.std.proofs.Common.{◌≡◌, length}
use Rattle.drg_edges.specs.References.{AreReferences, AreAlike}
use Rattle.drg_edges.proofs.references.compare.Given as goal

abbrev pub invariant-vertices : goal.invariant-vertices
invariant-vertices l = record {
  long : length l.references ≡ length l.rows;
  references : AreReferences l.graph l.x l.y l.references;
  alike : AreAlike l.graph l.x l.y;
}
