use Rattle.drg_tables.proofs.Spread.{FoundBelow}
use Rattle.drg_tables.proofs.listing.DistinctArrays.spread.Given as goal

abbrev pub invariant-places : goal.invariant-places
invariant-places g l = FoundBelow l.fn.self.places l.fn.values l.place-index l.each.items
