use Rattle.std.proofs.Common.{ℕ, ◌<◌}
use Rattle.drg_array.specs.Conditions.{CountsFail}
use Rattle.drg_array.specs.declared.claim.Claim.TheVariants.{Cross}
use Rattle.drg_counting.proofs.entries.first_cross_at.Given as goal

abbrev pub invariant-indices : goal.invariant-indices
invariant-indices l = (k : ℕ) → k < l.j → CountsFail l.array (Cross l.i k) → ⊥
