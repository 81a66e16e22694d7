use Rattle.drg_orderings.proofs.NaturalOrder.{natural_order}
use Rattle.drg_orderings.proofs.FirstIndex.{first_forces_rest}
use Rattle.drg_orderings.proofs.laws.ordering_law.Goals as goal

pub returns : goal.returns
returns c = record { natural = natural_order; one = first_forces_rest }
