use Rattle.drg_rooms.proofs.MergeLaws.{Before}
use Rattle.drg_rooms.proofs.combinations.count_before.Given as goal

abbrev pub invariant-terms : goal.invariant-terms
invariant-terms l = Before l.unknown l.terms l.i
