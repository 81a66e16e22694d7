-- The Krein parameters of a frame of diameter d, in d+1 tables of d+1 rows and columns each.
use Rattle.std.specs.Prelude.{◌≡◌, ℕ, suc, ◌≤◌, true, nat_lt, if◌then◌else◌, List, [], length, slice_index_or}
use Rattle.drg_array.specs.declared.limits.TheConstants.{MAX_DIAMETER}
use Rattle.drg_fraction.specs.Operations.{Operations}
use Rattle.drg_matrix.specs.Table.{Square, cell}

-- q^h_ij stands in table i, row j and column h for i ≤ j, and is q^h_ji for i above j.
pub record KreinTables (A : Type 0) : Type 0 where
  pub d : ℕ
  pub root : ℕ
  pub tables : List (Square A)

-- the lesser and the greater of two indices
abbrev pub lesser : ℕ → ℕ → ℕ
lesser i j = if nat_lt j i then j else i

abbrev pub greater : ℕ → ℕ → ℕ
greater i j = if nat_lt j i then i else j

-- table i
abbrev pub table_at : {A : Type 0} → List (Square A) → ℕ → Square A
table_at tables i = slice_index_or tables i (record { side = 0; root = 0; cells = [] })

module _ {A V : Type 0} (value : A → V) (operations : ℕ → Operations V) (t : KreinTables A) where
  -- q^h_ij
  abbrev pub krein_in : ℕ → ℕ → ℕ → V
  krein_in h i j = cell value operations (table_at t.tables (lesser i j)) (greater i j) h

  -- The tables have one side and one root, and the sign of each parameter fits.
  pub record AreTables : Type 0 where
    pub short : t.d ≤ MAX_DIAMETER
    pub count : length t.tables ≡ suc t.d
    pub sides : (i : ℕ) → i ≤ t.d → (table_at t.tables i).side ≡ suc t.d
    pub roots : (i : ℕ) → i ≤ t.d → (table_at t.tables i).root ≡ t.root
    pub signs : (i j h : ℕ) → i ≤ j → j ≤ t.d → h ≤ t.d → (operations t.root).sign_fits (cell value operations (table_at t.tables i) j h) ≡ true
