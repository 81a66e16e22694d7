use Rattle.drg_linear.proofs.Holding.{MeetsFrom}
use Rattle.drg_linear.proofs.system.meets_all.Given as goal

abbrev pub invariant-equations : goal.invariant-equations
invariant-equations l = MeetsFrom l.room.d l.values l.equations l.equation-index
