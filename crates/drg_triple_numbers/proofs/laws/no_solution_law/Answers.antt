use Rattle.drg_triple_numbers.proofs.Triples.{no_solution_no_graph}
use Rattle.drg_triple_numbers.proofs.laws.no_solution_law.Goals as goal

pub returns : goal.returns
returns c = no_solution_no_graph
