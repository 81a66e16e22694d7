use Rattle.std.proofs.Common.{ℕ, ◌<◌}
use Rattle.drg_array.specs.declared.claim.Claim.TheVariants.{Triangles}
use Rattle.drg_counting.specs.Parity.{NumbersFail}
use Rattle.drg_counting.proofs.divisibility.first_triangles.Given as goal

abbrev pub invariant-indices : goal.invariant-indices
invariant-indices l = (j : ℕ) → j < l.i → NumbersFail l.numbers (Triangles j) → ⊥
