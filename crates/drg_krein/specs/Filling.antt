-- The tables of Krein parameters while they are filled.
use Rattle.std.specs.Prelude.{◌≡◌, ℕ, suc, ◌≤◌, ◌<◌, List, length}
use Rattle.drg_array.specs.declared.node.Node.TheVariants.{Krein, Kprod, Sign}
use Rattle.drg_fraction.specs.Operations.{Operations}
use Rattle.drg_matrix.specs.Table.{Square, cell}
use Rattle.drg_matrix.specs.Product.{IsBefore}
use Rattle.drg_krein.specs.Values.{FrameValues}
use Rattle.drg_krein.specs.Formulas.{krein_number}
use Rattle.drg_krein.specs.Fits.{Fits}
use Rattle.drg_krein.specs.Faults.{HoldsBefore}
use Rattle.drg_krein.specs.Tables.{table_at}

module _ {V : Type 0} (o : Operations V) (f : FrameValues V) where
  -- each parameter, equation and sign before (i, k, l) fits
  abbrev pub NumbersFitBefore : ℕ → ℕ → ℕ → Type 0
  NumbersFitBefore i k l = HoldsBefore f.d (λ i j h. Fits o f (Krein i j h)) i k l

  abbrev pub ProductsFitBefore : ℕ → ℕ → ℕ → Type 0
  ProductsFitBefore i k l = HoldsBefore f.d (λ i j r. Fits o f (Kprod i j r)) i k l

  abbrev pub SignsFitBefore : ℕ → ℕ → ℕ → Type 0
  SignsFitBefore i k l = HoldsBefore f.d (λ i j h. Fits o f (Sign i j h)) i k l

module _ {A V : Type 0} (value : A → V) (operations : ℕ → Operations V) (root : ℕ) (f : FrameValues V) where
  -- table i has q^h_ij in row j and column h, for i ≤ j and each place before (k, l)
  pub record HasNumbers (i : ℕ) (t : Square A) (k l : ℕ) : Type 0 where
    pub side : t.side ≡ suc f.d
    pub same_root : t.root ≡ root
    pub values : (j h : ℕ) → j ≤ f.d → h ≤ f.d → IsBefore j h k l → i ≤ j → cell value operations t j h ≡ krein_number (operations root) f i j h

  -- the tables 0 to k - 1 are full
  pub record AreFull (tables : List (Square A)) (k : ℕ) : Type 0 where
    pub count : length tables ≡ k
    pub full : (i : ℕ) → i < k → HasNumbers i (table_at tables i) (suc f.d) 0
