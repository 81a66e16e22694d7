-- Which quantity of the Krein parameters is the first whose formula doesn't fit, in the order of the parameters krein i j h,
-- their equations kprod i j r, and their signs sign i j h, each for i ≤ j and ascending by its indices.
use Rattle.std.specs.Prelude.{◌≡◌, ℕ, ◌≤◌, ◌<◌}
use Rattle.std.proofs.Common.{◌⊎◌}
use Rattle.drg_array.specs.declared.node.Node.TheVariants.{Krein, Kprod, Sign}
use Rattle.drg_fraction.specs.Operations.{Operations}
use Rattle.drg_krein.specs.Values.{FrameValues}
use Rattle.drg_krein.specs.Fits.{Fits}
use Rattle.drg_krein.specs.declared.fault.KreinFault.{KreinFault}
use Rattle.drg_krein.specs.declared.fault.KreinFault.TheVariants.{Wide, Memory}

-- (i, j, h) comes before (k, l, m)
abbrev pub ComesBefore : ℕ → ℕ → ℕ → ℕ → ℕ → ℕ → Type 0
ComesBefore i j h k l m = (i < k) ⊎ ((i ≡ k) × ((j < l) ⊎ ((j ≡ l) × (h < m))))

-- P holds of each i ≤ j and h, all up to d, before (k, l, m)
abbrev pub HoldsBefore : ℕ → (ℕ → ℕ → ℕ → Type 0) → ℕ → ℕ → ℕ → Type 0
HoldsBefore d P k l m = (i j h : ℕ) → i ≤ j → j ≤ d → h ≤ d → ComesBefore i j h k l m → P i j h

-- P holds of all of these
abbrev pub HoldsAll : ℕ → (ℕ → ℕ → ℕ → Type 0) → Type 0
HoldsAll d P = (i j h : ℕ) → i ≤ j → j ≤ d → h ≤ d → P i j h

-- (k, l, m) is the first of which P doesn't hold
pub record IsFirst (d : ℕ) (P : ℕ → ℕ → ℕ → Type 0) (k l m : ℕ) : Type 0 where
  pub ordered : k ≤ l
  pub inside : l ≤ d
  pub third : m ≤ d
  pub fails : ¬ (P k l m)
  pub before : HoldsBefore d P k l m

module _ {V : Type 0} (o : Operations V) (f : FrameValues V) where
  -- each quantity of a kind fits
  abbrev pub NumbersFit : Type 0
  NumbersFit = HoldsAll f.d (λ i j h. Fits o f (Krein i j h))

  abbrev pub ProductsFit : Type 0
  ProductsFit = HoldsAll f.d (λ i j r. Fits o f (Kprod i j r))

  abbrev pub SignsFit : Type 0
  SignsFit = HoldsAll f.d (λ i j h. Fits o f (Sign i j h))

  -- each quantity fits
  pub record AllFit : Type 0 where
    pub numbers : NumbersFit
    pub products : ProductsFit
    pub signs : SignsFit

  -- kprod i j r is the first quantity that doesn't fit
  pub record IsFirstProduct (i j r : ℕ) : Type 0 where
    pub numbers : NumbersFit
    pub first : IsFirst f.d (λ i j r. Fits o f (Kprod i j r)) i j r

  -- sign i j h is
  pub record IsFirstSign (i j h : ℕ) : Type 0 where
    pub numbers : NumbersFit
    pub products : ProductsFit
    pub first : IsFirst f.d (λ i j h. Fits o f (Sign i j h)) i j h

  -- the cause of a fault
  abbrev pub IsFault : KreinFault → Type 0
  IsFault (Wide (Krein i j h)) = IsFirst f.d (λ i j h. Fits o f (Krein i j h)) i j h
  IsFault (Wide (Kprod i j r)) = IsFirstProduct i j r
  IsFault (Wide (Sign i j h)) = IsFirstSign i j h
  IsFault (Wide node) = ⊥
  IsFault Memory = Unit {0}
