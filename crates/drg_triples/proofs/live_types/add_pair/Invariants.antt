use Rattle.drg_triples.specs.LiveTypes.{AreLiveBefore}
use Rattle.drg_triples.proofs.live_types.add_pair.Given as goal

abbrev pub invariant-thirds : goal.invariant-thirds
invariant-thirds l = AreLiveBefore l.numbers l.u l.v l.w l.found.items
