use Rattle.drg_derivation.proofs.Decisions.{begins-or-is-refused}
use Rattle.drg_derivation.proofs.TextFacts.{begins-or-refused, one-refusal}
use Rattle.drg_derivation.proofs.laws.refusal_law.Goals as goal

pub returns : goal.returns
returns c = record { either = begins-or-is-refused; not_both = begins-or-refused; one = one-refusal }
