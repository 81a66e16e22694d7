use Rattle.drg_triples.proofs.Solutions.{solutions_are, equations_are_all}
use Rattle.drg_triples.proofs.laws.solution_law.Goals as goal

pub returns : goal.returns
returns c = record { solutions = solutions_are; equations = equations_are_all }
