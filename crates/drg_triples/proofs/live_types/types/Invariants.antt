use Rattle.drg_triples.specs.LiveTypes.{AreLiveBefore}
use Rattle.drg_triples.proofs.live_types.types.Given as goal

abbrev pub invariant-firsts : goal.invariant-firsts
invariant-firsts l = AreLiveBefore l.numbers l.u 0 0 l.found.items
