use Rattle.drg_triples.specs.LiveTypes.{AreLiveBefore}
use Rattle.drg_triples.proofs.live_types.add_first.Given as goal

abbrev pub invariant-seconds : goal.invariant-seconds
invariant-seconds l = AreLiveBefore l.numbers l.u l.v 0 l.found.items
