-- Laws of the faults of frames: an array and its eigenvalues have one cause of a fault, none where all formulas fit, and the
-- formula of a quantity that a fault names doesn't fit. So `frame_of` answers other than by want of memory exactly where its
-- clauses say.
use Rattle.std.specs.Prelude.{◌≡◌, ◌≢◌, ℕ}
use Rattle.drg_array.specs.Entries.{Entries}
use Rattle.drg_array.specs.declared.node.Node.{Node}
use Rattle.drg_fraction.specs.Operations.{Operations}
use Rattle.drg_matrices.specs.Fits.{Fits}
use Rattle.drg_matrices.specs.Faults.{AllFit, IsFault}
use Rattle.drg_matrices.specs.declared.fault.FrameFault.{FrameFault}
use Rattle.drg_matrices.specs.declared.fault.FrameFault.TheVariants.{Wide, Memory}

module _ {V : Type 0} (o : Operations V) where
  abbrev pub OneFault : Type 0
  OneFault = (a : Entries) (theta : ℕ → V) (f g : FrameFault) → f ≢ Memory → g ≢ Memory → IsFault o a theta f → IsFault o a theta g → f ≡ g

  abbrev pub NoFaultWhereAllFit : Type 0
  NoFaultWhereAllFit = (a : Entries) (theta : ℕ → V) (f : FrameFault) → f ≢ Memory → AllFit o a theta → IsFault o a theta f → ⊥

  abbrev pub FaultsDontFit : Type 0
  FaultsDontFit = (a : Entries) (theta : ℕ → V) (node : Node) → IsFault o a theta (Wide node) → ¬ (Fits o a theta node)
