-- The values of a frame that its Krein parameters are made of.
use Rattle.std.specs.Prelude.{◌≡◌, ℕ, pos}
use Rattle.drg_algebra.specs.Rational.{whole}
use Rattle.drg_array.specs.Entries.{Entries, IsArray, diameter}
use Rattle.drg_fraction.specs.Operations.{Operations}
use Rattle.drg_intersection.specs.Numbers.{Numbers, AreNumbersOf, n_of}
use Rattle.drg_matrices.specs.Frame.{IsFrameOf}
use Rattle.drg_matrices.specs.Tables.{FrameTables, diameter_of, root_of_tables, theta_in, cosine_in, eigen_in, dual_in}

-- The diameter d, the number of vertices n, the cosines u_ir of θ_i, and the matrices P and Q, each at row and column from
-- 0 to d.
pub record FrameValues (V : Type 0) : Type 0 where
  pub d : ℕ
  pub n : V
  pub u : ℕ → ℕ → V
  pub p : ℕ → ℕ → V
  pub q : ℕ → ℕ → V

module _ {A V : Type 0} (value : A → V) (operations : ℕ → Operations V) (numbers : Numbers) (t : FrameTables A) where
  -- the values of the tables of a frame, with the number of vertices
  abbrev pub values_in : FrameValues V
  values_in = record {
    d = diameter_of t;
    n = (operations (root_of_tables t)).rational (whole (pos (n_of numbers)));
    u = cosine_in value operations t;
    p = eigen_in value operations t;
    q = dual_in value operations t;
  }

  -- the tables are the frame of an array that has the numbers
  pub record IsFrameOfNumbers : Type 0 where
    pub array : Entries
    pub is_array : IsArray array
    pub numbers_are : AreNumbersOf array numbers
    pub same_d : diameter_of t ≡ diameter array
    pub frame : IsFrameOf (operations (root_of_tables t)) (root_of_tables t) array
        (theta_in value operations t) (cosine_in value operations t) (eigen_in value operations t) (dual_in value operations t)
