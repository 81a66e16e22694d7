-- Which quantity of a frame is the first whose formula doesn't fit, in the order of the cosines u i r, the multiplicities
-- m i, the entries prow i r of P and qrow r i of Q, the recurrences rec i j and the cells pq i j of P Q.
use Rattle.std.specs.Prelude.{ℕ, suc, ◌<◌}
use Rattle.drg_array.specs.Entries.{Entries, diameter}
use Rattle.drg_array.specs.declared.node.Node.TheVariants.{U, M, Prow, Qrow, Rec, Pq}
use Rattle.drg_fraction.specs.Operations.{Operations}
use Rattle.drg_matrix.specs.Product.{IsBefore}
use Rattle.drg_matrix.specs.declared.fault.TableFault.{TableFault}
use Rattle.drg_matrix.specs.declared.fault.TableFault.TheVariants as table
use Rattle.drg_matrices.specs.Fits.{Fits}
use Rattle.drg_matrices.specs.declared.fault.FrameFault.{FrameFault}
use Rattle.drg_matrices.specs.declared.fault.FrameFault.TheVariants.{Wide, Memory}

-- P holds at each place before (k, l), of rows of n places
abbrev pub HoldsBefore : ℕ → (ℕ → ℕ → Type 0) → ℕ → ℕ → Type 0
HoldsBefore n P k l = (i j : ℕ) → j < n → IsBefore i j k l → P i j

-- P holds at the first n places of n rows
abbrev pub HoldsAll : ℕ → (ℕ → ℕ → Type 0) → Type 0
HoldsAll n P = (i j : ℕ) → i < n → j < n → P i j

-- (k, l) is the first place at which P doesn't hold
pub record IsFirst (n : ℕ) (P : ℕ → ℕ → Type 0) (k l : ℕ) : Type 0 where
  pub row : k < n
  pub col : l < n
  pub fails : ¬ (P k l)
  pub before : HoldsBefore n P k l

module _ {V : Type 0} (o : Operations V) (a : Entries) (theta : ℕ → V) where
  -- each quantity of a kind fits
  abbrev pub CosinesFit : Type 0
  CosinesFit = HoldsAll (suc (diameter a)) (λ i r. Fits o a theta (U i r))

  abbrev pub MultiplicitiesFit : Type 0
  MultiplicitiesFit = (i : ℕ) → i < suc (diameter a) → Fits o a theta (M i)

  abbrev pub EigenFits : Type 0
  EigenFits = HoldsAll (suc (diameter a)) (λ i r. Fits o a theta (Prow i r))

  abbrev pub DualFits : Type 0
  DualFits = HoldsAll (suc (diameter a)) (λ r i. Fits o a theta (Qrow r i))

  abbrev pub RecurrencesFit : Type 0
  RecurrencesFit = HoldsAll (suc (diameter a)) (λ i j. Fits o a theta (Rec i j))

  abbrev pub ProductFits : Type 0
  ProductFits = HoldsAll (suc (diameter a)) (λ i j. Fits o a theta (Pq i j))

  -- no quantity fails before the entries of Q
  pub record ReachesDual : Type 0 where
    pub cosines : CosinesFit
    pub multiplicities : MultiplicitiesFit
    pub eigen : EigenFits

  -- nor before the recurrences
  pub record ReachesRecurrences : Type 0 where
    pub reached : ReachesDual
    pub dual : DualFits

  -- nor before the cells of P Q
  pub record ReachesProduct : Type 0 where
    pub reached : ReachesRecurrences
    pub recurrences : RecurrencesFit

  -- each quantity of the frame fits
  pub record AllFit : Type 0 where
    pub reached : ReachesProduct
    pub product : ProductFits

  -- m i is the first quantity that doesn't fit
  pub record IsFirstMultiplicity (i : ℕ) : Type 0 where
    pub cosines : CosinesFit
    pub inside : i < suc (diameter a)
    pub fails : ¬ (Fits o a theta (M i))
    pub before : (j : ℕ) → j < i → Fits o a theta (M j)

  -- qrow r i is
  pub record IsFirstDual (r i : ℕ) : Type 0 where
    pub reached : ReachesDual
    pub first : IsFirst (suc (diameter a)) (λ r i. Fits o a theta (Qrow r i)) r i

  -- rec i j is
  pub record IsFirstRecurrence (i j : ℕ) : Type 0 where
    pub reached : ReachesRecurrences
    pub first : IsFirst (suc (diameter a)) (λ i j. Fits o a theta (Rec i j)) i j

  -- pq i j is
  pub record IsFirstProduct (i j : ℕ) : Type 0 where
    pub reached : ReachesProduct
    pub first : IsFirst (suc (diameter a)) (λ i j. Fits o a theta (Pq i j)) i j

  -- The cause of a fault. No prow i r is the first, as k_r u_r is made for m i.
  abbrev pub IsFault : FrameFault → Type 0
  IsFault (Wide (U i r)) = IsFirst (suc (diameter a)) (λ i r. Fits o a theta (U i r)) i r
  IsFault (Wide (M i)) = IsFirstMultiplicity i
  IsFault (Wide (Qrow r i)) = IsFirstDual r i
  IsFault (Wide (Rec i j)) = IsFirstRecurrence i j
  IsFault (Wide (Pq i j)) = IsFirstProduct i j
  IsFault (Wide node) = ⊥
  IsFault Memory = Unit {0}

-- The fault of the cell of P Q that a fault of the product names.
abbrev pub cell_fault : TableFault → FrameFault
cell_fault (table.Wide i j) = Wide (Pq i j)
cell_fault table.Memory = Memory
