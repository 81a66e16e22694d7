-- The tables of a frame of diameter d, of d+1 rows and columns each: the cosines, and the matrices P and Q.
use Rattle.std.specs.Prelude.{◌≡◌, ℕ, suc, ◌≤◌, ◌-◌}
use Rattle.drg_array.specs.declared.limits.TheConstants.{MAX_DIAMETER}
use Rattle.drg_fraction.specs.Operations.{Operations}
use Rattle.drg_matrix.specs.Table.{Square, cell}

-- u_r of θ_i stands in row i and column r, P_ir in row i and column r, and Q_ri in row r and column i.
pub record FrameTables (A : Type 0) : Type 0 where
  pub cosines : Square A
  pub eigen : Square A
  pub dual : Square A

abbrev pub diameter_of : {A : Type 0} → FrameTables A → ℕ
diameter_of t = t.eigen.side - 1

abbrev pub root_of_tables : {A : Type 0} → FrameTables A → ℕ
root_of_tables t = t.eigen.root

-- the tables have one side, of a diameter from 1 to the greatest one of arrays, and one root
pub record AreTables {A : Type 0} (t : FrameTables A) : Type 0 where
  pub some : 2 ≤ t.eigen.side
  pub short : t.eigen.side ≤ suc MAX_DIAMETER
  pub cosines_side : t.cosines.side ≡ t.eigen.side
  pub dual_side : t.dual.side ≡ t.eigen.side
  pub cosines_root : t.cosines.root ≡ t.eigen.root
  pub dual_root : t.dual.root ≡ t.eigen.root

module _ {A V : Type 0} (value : A → V) (operations : ℕ → Operations V) (t : FrameTables A) where
  -- θ_i, which is P_i1
  abbrev pub theta_in : ℕ → V
  theta_in i = cell value operations t.eigen i 1

  abbrev pub cosine_in : ℕ → ℕ → V
  cosine_in i r = cell value operations t.cosines i r

  abbrev pub eigen_in : ℕ → ℕ → V
  eigen_in i r = cell value operations t.eigen i r

  abbrev pub dual_in : ℕ → ℕ → V
  dual_in r i = cell value operations t.dual r i
