use Rattle.std.proofs.Common.{ℕ, ◌<◌}
use Rattle.drg_array.specs.declared.claim.Claim.TheVariants.{Induced}
use Rattle.drg_counting.specs.Parity.{NumbersFail}
use Rattle.drg_counting.proofs.divisibility.first_induced.Given as goal

abbrev pub invariant-indices : goal.invariant-indices
invariant-indices l = (i j : ℕ) → i < l.i → NumbersFail l.numbers (Induced i j) → ⊥
