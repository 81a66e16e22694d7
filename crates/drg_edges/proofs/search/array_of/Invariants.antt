use Rattle.std.proofs.Common.{◌≡◌, length}
use Rattle.drg_edges.specs.References.{AreReferences, AreAlike}
use Rattle.drg_edges.proofs.search.array_of.Given as goal

abbrev pub invariant-vertices : goal.invariant-vertices
invariant-vertices l = record {
  long : length l.references.items ≡ length l.rows.items;
  references : AreReferences l.graph l.x 0 l.references.items;
  alike : AreAlike l.graph l.x 0;
}
