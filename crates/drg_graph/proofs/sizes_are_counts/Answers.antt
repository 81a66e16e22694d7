use Rattle.drg_graph.proofs.NumberLaws.{sizes_are_counts}
use Rattle.drg_graph.proofs.sizes_are_counts.Goals as goal

pub returns : goal.returns
returns c = sizes_are_counts
