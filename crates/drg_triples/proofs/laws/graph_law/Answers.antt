use Rattle.drg_triples.proofs.Graphs.{live_types_occur, triples_solve_systems, no_solution_no_graph}
use Rattle.drg_triples.proofs.laws.graph_law.Goals as goal

pub returns : goal.returns
returns c = record { exist = live_types_occur; solve = triples_solve_systems; none = no_solution_no_graph }
