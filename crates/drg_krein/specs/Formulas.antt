-- The Krein parameter q^h_ij by its formula, a weighted sum over the products of three cosines
-- (Brouwer, Cohen and Neumaier 1989, section 2.3).
use Rattle.std.specs.Prelude.{ℕ, suc, List, map}
use Rattle.std.specs.List.{range_with_len}
use Rattle.drg_fraction.specs.Operations.{Operations}
use Rattle.drg_fraction.specs.Field.{dot_of}
use Rattle.drg_matrix.specs.Frame.{multiplicity}
use Rattle.drg_matrices.specs.Values.{quotient}
use Rattle.drg_krein.specs.Values.{FrameValues}

module _ {V : Type 0} (o : Operations V) (f : FrameValues V) where
  -- the values at the places 0 to d
  abbrev pub row_of : (ℕ → V) → List V
  row_of g = map g (range_with_len 0 (suc f.d))

  -- m_i m_j / n
  abbrev pub scale : ℕ → ℕ → V
  scale i j = quotient o (o.times (multiplicity f.q i) (multiplicity f.q j)) f.n

  -- (k_r u_ir) u_jr, and the sum of these times u_hr over r
  abbrev pub term : ℕ → ℕ → ℕ → V
  term i j r = o.times (f.p i r) (f.u j r)

  abbrev pub weighted_sum : ℕ → ℕ → ℕ → V
  weighted_sum i j h = dot_of o (row_of (term i j)) (row_of (f.u h))

  -- (m_i m_j / n) (sum over r of k_r u_ir u_jr u_hr)
  abbrev pub krein_number : ℕ → ℕ → ℕ → V
  krein_number i j h = o.times (scale i j) (weighted_sum i j h)
