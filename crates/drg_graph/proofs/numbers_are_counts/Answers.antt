use Rattle.drg_graph.proofs.NumberLaws.{numbers_are_counts}
use Rattle.drg_graph.proofs.numbers_are_counts.Goals as goal

pub returns : goal.returns
returns c = numbers_are_counts
