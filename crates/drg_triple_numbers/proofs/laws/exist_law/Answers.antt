use Rattle.drg_triple_numbers.proofs.Triples.{triples_exist}
use Rattle.drg_triple_numbers.proofs.laws.exist_law.Goals as goal

pub returns : goal.returns
returns c = triples_exist
