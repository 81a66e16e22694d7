-- The tables of a frame while they are filled, row by row.
use Rattle.std.specs.Prelude.{◌≡◌, ℕ, suc, List, true, ◌<◌, length, All}
use Rattle.drg_array.specs.Entries.{Entries, diameter}
use Rattle.drg_fraction.specs.Operations.{Operations}
use Rattle.drg_matrix.specs.Table.{Square, cell}
use Rattle.drg_matrices.specs.Values.{item_at}
use Rattle.drg_matrices.specs.Formulas.{cosine, eigen_entry, multiplicity_of, dual_entry}
use Rattle.drg_matrices.specs.Fits.{cosine_fits, entry_fits, dual_fits, MultiplicityFits}
use Rattle.drg_matrices.specs.Faults.{HoldsBefore}
use Rattle.drg_matrices.specs.Tables.{FrameTables}

-- A table of n rows and columns over the root has the values of f at each place before (k, l), and these fit.
pub record IsFilled {A V : Type 0} (value : A → V) (operations : ℕ → Operations V) (n root : ℕ) (fits : ℕ → ℕ → Type 0) (f : ℕ → ℕ → V) (t : Square A) (k l : ℕ) : Type 0 where
  pub side : t.side ≡ n
  pub same_root : t.root ≡ root
  pub values : HoldsBefore n (λ i j. cell value operations t i j ≡ f i j) k l
  pub fit : HoldsBefore n fits k l

module _ {A V : Type 0} (value : A → V) (operations : ℕ → Operations V) (root_of : A → ℕ) (root : ℕ) (a : Entries) (theta : ℕ → V) where
  -- the cosines u_r of θ_i, at row i and column r
  abbrev pub HasCosines : Square A → ℕ → ℕ → Type 0
  HasCosines = IsFilled value operations (suc (diameter a)) root (λ i r. cosine_fits (operations root) a (theta i) r ≡ true) (λ i r. cosine (operations root) a (theta i) r)

  -- the entries P_ir, at row i and column r
  abbrev pub HasEigen : Square A → ℕ → ℕ → Type 0
  HasEigen = IsFilled value operations (suc (diameter a)) root (λ i r. entry_fits (operations root) a (theta i) r ≡ true) (λ i r. eigen_entry (operations root) a (theta i) r)

  -- the entries Q_ri, at row r and column i
  abbrev pub HasDual : Square A → ℕ → ℕ → Type 0
  HasDual = IsFilled value operations (suc (diameter a)) root (λ r i. dual_fits (operations root) a (theta i) r ≡ true) (λ r i. dual_entry (operations root) a (theta i) r)

  -- the multiplicities m_0 to m_(k-1)
  pub record HasMultiplicities (ms : List A) (k : ℕ) : Type 0 where
    pub count : length ms ≡ k
    pub roots : All (λ m. root_of m ≡ root) ms
    pub values : (i : ℕ) → i < k → item_at (operations root) value ms i ≡ multiplicity_of (operations root) a (theta i)
    pub fit : (i : ℕ) → i < k → MultiplicityFits (operations root) a (theta i)

  -- The row of cosines of θ_i is filled up to u_(r+1), and its last two members are at hand.
  pub record HasLastCosines (t : Square A) (i r : ℕ) (before last : A) : Type 0 where
    pub table : HasCosines t i (suc (suc r))
    pub before_value : value before ≡ cosine (operations root) a (theta i) r
    pub before_root : root_of before ≡ root
    pub last_value : value last ≡ cosine (operations root) a (theta i) (suc r)
    pub last_root : root_of last ≡ root

  -- The tables of a frame are filled by their formulas.
  pub record HasFormulas (t : FrameTables A) : Type 0 where
    pub cosines : HasCosines t.cosines (suc (diameter a)) 0
    pub eigen : HasEigen t.eigen (suc (diameter a)) 0
    pub dual : HasDual t.dual (suc (diameter a)) 0
