use Rattle.std.proofs.Common.{◌≡◌, ◌+◌, ◌∷◌, ◌++◌, length, map}
use Rattle.std.specs.List.{AllByRecursion}
use Rattle.std.specs.Str.Lines.{lines}
use Rattle.drg_edges.specs.Text.{IsPair, head_line, pair_line}
use Rattle.drg_edges.proofs.reading.read_graph.Given as goal

abbrev pub invariant-lines : goal.invariant-lines
invariant-lines l = record {
  are_pairs : AllByRecursion (IsPair l.count) l.pairs.items;
  whole : lines l.bytes ≡ head_line l.count ∷ (map pair_line l.pairs.items ++ lines l.rest);
  place : l.line ≡ length l.pairs.items + 2;
}

abbrev pub decreases-lines : goal.decreases-lines
decreases-lines l = length l.rest
