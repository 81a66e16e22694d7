use Rattle.std.proofs.Common.{◌≡◌, pos, map}
use Rattle.std.specs.List.{range_with_len}
use Rattle.drg_linear.specs.Triples.{high_bound}
use Rattle.drg_triple_numbers.specs.Places.{unknown_at}
use Rattle.drg_triples.specs.LiveTypes.{number_in}
use Rattle.drg_triples.proofs.room.starting_bounds.Given as goal

abbrev pub invariant-places : goal.invariant-places
invariant-places l =
    l.bounds.items ≡ map (λ k. (pos 0, high_bound (number_in l.numbers) l.ty (unknown_at l.d k))) (range_with_len 0 l.place)
