use Rattle.drg_rooms.proofs.TermSteps.{RestRemains}
use Rattle.drg_rooms.proofs.values.rest_sum.Given as goal

abbrev pub invariant-terms : goal.invariant-terms
invariant-terms l = RestRemains l.d l.side l.room l.unknown l.terms l.sum.value l.i
