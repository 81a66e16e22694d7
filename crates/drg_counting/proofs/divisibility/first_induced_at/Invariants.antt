use Rattle.std.proofs.Common.{ℕ, ◌<◌}
use Rattle.drg_array.specs.declared.claim.Claim.TheVariants.{Induced}
use Rattle.drg_counting.specs.Parity.{NumbersFail}
use Rattle.drg_counting.proofs.divisibility.first_induced_at.Given as goal

abbrev pub invariant-indices : goal.invariant-indices
invariant-indices l = (k : ℕ) → k < l.j → NumbersFail l.numbers (Induced l.i k) → ⊥
