use Rattle.std.proofs.Common.{◌≡◌, pos, map}
use Rattle.std.specs.List.{range_with_len}
use Rattle.drg_linear.specs.Triples.{unknown_over}
use Rattle.drg_triples.proofs.counting.terms_over.Given as goal

abbrev pub invariant-distances : goal.invariant-distances
invariant-distances l =
    let c = l.counted in
    l.terms.items ≡ map (λ q. (unknown_over c.vertex c.x c.y q, pos 1)) (range_with_len 1 l.q)
