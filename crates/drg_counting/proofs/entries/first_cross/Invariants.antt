use Rattle.std.proofs.Common.{ℕ, ◌<◌}
use Rattle.drg_array.specs.Conditions.{CountsFail}
use Rattle.drg_array.specs.declared.claim.Claim.TheVariants.{Cross}
use Rattle.drg_counting.proofs.entries.first_cross.Given as goal

abbrev pub invariant-indices : goal.invariant-indices
invariant-indices l = (i j : ℕ) → i < l.i → CountsFail l.array (Cross i j) → ⊥
