-- Laws of the formula of Krein parameters and of the faults.
use Rattle.std.specs.Prelude.{◌≡◌, ◌≢◌, ℕ, ◌≤◌}
use Rattle.drg_array.specs.Entries.{Entries, IsArray, diameter}
use Rattle.drg_array.specs.declared.node.Node.{Node}
use Rattle.drg_fraction.specs.Operations.{Operations}
use Rattle.drg_matrix.specs.Krein.{AreKreinNumbers}
use Rattle.drg_matrices.specs.Frame.{IsFrameOf}
use Rattle.drg_matrices.specs.Values.{count_value}
use Rattle.drg_krein.specs.Values.{FrameValues}
use Rattle.drg_krein.specs.Formulas.{krein_number}
use Rattle.drg_krein.specs.Fits.{Fits}
use Rattle.drg_krein.specs.Faults.{AllFit, IsFault}
use Rattle.drg_krein.specs.declared.fault.KreinFault.{KreinFault}
use Rattle.drg_krein.specs.declared.fault.KreinFault.TheVariants.{Wide, Memory}

module _ {V : Type 0} (o : Operations V) where
  -- in a frame of an array the formula gives the Krein numbers, and doesn't change where i and j are exchanged
  abbrev pub FormulaGivesKrein : ℕ → Type 0
  FormulaGivesKrein root = (a : Entries) (theta : ℕ → V) (u p q : ℕ → ℕ → V) → IsArray a → IsFrameOf o root a theta u p q
      → AreKreinNumbers o (diameter a) q (λ h i j. krein_number o (record { d = diameter a; n = count_value o a; u = u; p = p; q = q }) i j h)

  abbrev pub FormulaIsSymmetric : ℕ → Type 0
  FormulaIsSymmetric root = (a : Entries) (theta : ℕ → V) (u p q : ℕ → ℕ → V) → IsFrameOf o root a theta u p q
      → (i j h : ℕ) → i ≤ diameter a → j ≤ diameter a
      → let f : FrameValues V = record { d = diameter a; n = count_value o a; u = u; p = p; q = q } in
      krein_number o f i j h ≡ krein_number o f j i h

  -- apart from want of memory one fault at most, none where all formulas fit, and only of a quantity that doesn't fit
  abbrev pub OneFault : Type 0
  OneFault = (f : FrameValues V) (x y : KreinFault) → x ≢ Memory → y ≢ Memory → IsFault o f x → IsFault o f y → x ≡ y

  abbrev pub NoFaultWhereAllFit : Type 0
  NoFaultWhereAllFit = (f : FrameValues V) (x : KreinFault) → x ≢ Memory → AllFit o f → IsFault o f x → ⊥

  abbrev pub FaultsDontFit : Type 0
  FaultsDontFit = (f : FrameValues V) (node : Node) → IsFault o f (Wide node) → ¬ (Fits o f node)
