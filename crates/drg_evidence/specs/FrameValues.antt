-- The frame of an array by values a + b √root over one root (Brouwer, Cohen and Neumaier 1989, section 4.1.B).
use Rattle.std.specs.Prelude.{ℕ}
use Rattle.drg_array.specs.Entries.{Entries}
use Rattle.drg_fraction.specs.Operations.{Operations}
use Rattle.drg_matrices.specs.Frame.{IsFrameOf}
use Rattle.drg_matrices.specs.Tables.{FrameTables, root_of_tables, theta_in, cosine_in, eigen_in, dual_in}
use Rattle.drg_quadratic.specs.Operations.{value_operations}
use Rattle.drg_quadratic.specs.Values.{Value}

-- The eigenvalues θ_i, the cosines u_r of θ_i, and the matrices P and Q, whose values are over the root.
pub record FrameValues : Type 0 where
  pub root : ℕ
  pub theta : ℕ → Value
  pub cosine : ℕ → ℕ → Value
  pub eigen : ℕ → ℕ → Value
  pub dual : ℕ → ℕ → Value

-- they are the frame of the array
abbrev pub HasFrame : Entries → FrameValues → Type 0
HasFrame a f = IsFrameOf (value_operations f.root) f.root a f.theta f.cosine f.eigen f.dual

-- the value a + b √root by its parts
abbrev pub by_parts : {V : Type 0} → Operations V → V → Value
by_parts o x = record { a = o.rational_part x; b = o.root_part x }

-- the values of the tables of a frame
abbrev pub values_of : {A V : Type 0} → (A → V) → (ℕ → Operations V) → FrameTables A → FrameValues
values_of value operations t =
    let o = operations (root_of_tables t) in
    record {
      root = root_of_tables t;
      theta = λ i. by_parts o (theta_in value operations t i);
      cosine = λ i r. by_parts o (cosine_in value operations t i r);
      eigen = λ i r. by_parts o (eigen_in value operations t i r);
      dual = λ r i. by_parts o (dual_in value operations t r i);
    }
