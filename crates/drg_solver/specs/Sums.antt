-- The sums of an equation in a room.
use Rattle.std.specs.Prelude.{◌≡◌}
use Rattle.drg_whole.specs.declared.whole.Whole.{Whole}
use Rattle.drg_linear.specs.declared.bounds.End.{End}
use Rattle.drg_linear.specs.declared.bounds.End.TheVariants.{Least, Greatest}
use Rattle.drg_linear.specs.Equations.{EquationContent}
use Rattle.drg_linear.specs.Rooms.{RoomContent, end_sum}
use Rattle.drg_solver.specs.declared.sums.Sums.{Sums}

pub record AreSums (room : RoomContent) (e : EquationContent) (sums : Sums) : Type 0 where
  pub least : sums.least.value ≡ end_sum room.d Least room.bounds e.terms
  pub greatest : sums.greatest.value ≡ end_sum room.d Greatest room.bounds e.terms

abbrev pub sum_at : Sums → End → Whole
sum_at sums Least = sums.least
sum_at sums Greatest = sums.greatest
