use Rattle.drg_triple_numbers.proofs.Triples.{stand_at_places, numbers_are_solution}
use Rattle.drg_triple_numbers.proofs.laws.system_law.Goals as goal

pub returns : goal.returns
returns c = record { places = stand_at_places; solution = numbers_are_solution }
