use Rattle.std.proofs.Common.{◌≡◌}
use Rattle.drg_replay.specs.Roots.{has_no_square}
use Rattle.drg_replay.proofs.root.has_no_square.Given as goal

abbrev pub invariant-numbers : goal.invariant-numbers
invariant-numbers l = l.none ≡ has_no_square l.n l.k
