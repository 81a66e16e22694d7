use Rattle.std.proofs.Common.{◌≡◌, pos, map}
use Rattle.std.specs.List.{range_with_len}
use Rattle.drg_linear.specs.Triples.{unknown_over}
use Rattle.drg_replay.proofs.equations.terms_over.Given as goal

abbrev pub invariant-distances : goal.invariant-distances
invariant-distances l =
    l.terms.items ≡ map (λ q. (unknown_over l.fn.vertex l.fn.x l.fn.y q, pos 1)) (range_with_len 1 l.q)
