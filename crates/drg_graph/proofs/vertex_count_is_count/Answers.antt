use Rattle.drg_graph.proofs.NumberLaws.{vertex_count_is_count}
use Rattle.drg_graph.proofs.vertex_count_is_count.Goals as goal

pub returns : goal.returns
returns c = vertex_count_is_count
