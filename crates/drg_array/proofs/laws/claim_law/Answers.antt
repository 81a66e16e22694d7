use Rattle.drg_array.proofs.ClaimLaws.{names_in_order, one_claim_name, claim_by_name, claim_of_parts, claims_in_order}
use Rattle.drg_array.proofs.laws.claim_law.Goals as goal

pub returns-clause-names : goal.returns-clause-names
returns-clause-names c = names_in_order

pub returns-clause-one_name : goal.returns-clause-one_name
returns-clause-one_name c = one_claim_name

pub returns-clause-by_name : goal.returns-clause-by_name
returns-clause-by_name c = claim_by_name

pub returns-clause-of_parts : goal.returns-clause-of_parts
returns-clause-of_parts c = claim_of_parts

pub returns-clause-order : goal.returns-clause-order
returns-clause-order c = claims_in_order
