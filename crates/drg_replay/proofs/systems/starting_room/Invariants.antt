use Rattle.std.proofs.Common.{◌≡◌, pos, map}
use Rattle.std.specs.List.{range_with_len}
use Rattle.drg_linear.specs.Triples.{high_bound}
use Rattle.drg_triple_numbers.specs.Places.{unknown_at}
use Rattle.drg_replay.specs.Systems.{number}
use Rattle.drg_replay.proofs.systems.starting_room.Given as goal

abbrev pub invariant-places : goal.invariant-places
invariant-places l =
    l.room.items ≡ map (λ k. (pos 0, high_bound (number l.counts.rows) l.fn.ty (unknown_at l.fn.d k))) (range_with_len 0 l.place)
