use Rattle.std.proofs.Common.{ℕ, ◌<◌}
use Rattle.drg_array.specs.Conditions.{CountsFail}
use Rattle.drg_array.specs.declared.claim.Claim.TheVariants.{Order}
use Rattle.drg_counting.proofs.entries.first_order.Given as goal

abbrev pub invariant-indices : goal.invariant-indices
invariant-indices l = (j : ℕ) → j < l.i → CountsFail l.array (Order j) → ⊥
