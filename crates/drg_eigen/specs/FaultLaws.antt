-- An array has one cause of a fault, and none where all formulas fit. So `characteristic` answers other than by want of
-- memory exactly where its clauses say.
use Rattle.std.specs.Prelude.{◌≡◌, ◌≢◌}
use Rattle.drg_array.specs.Entries.{Entries}
use Rattle.drg_eigen.specs.Fits.{AllFit, IsFault}
use Rattle.drg_eigen.specs.declared.fault.EigenFault.{EigenFault}
use Rattle.drg_eigen.specs.declared.fault.EigenFault.TheVariants.{Memory}

abbrev pub OneFault : Type 0
OneFault = (a : Entries) (f g : EigenFault) → f ≢ Memory → g ≢ Memory → IsFault a f → IsFault a g → f ≡ g

abbrev pub NoFaultWhereAllFit : Type 0
NoFaultWhereAllFit = (a : Entries) (f : EigenFault) → f ≢ Memory → AllFit a → IsFault a f → ⊥
