-- The numbers of an array and its eigenvalues as values of an exact field.
use Rattle.std.specs.Prelude.{ℕ, pos, List, map, slice_index_or}
use Rattle.drg_algebra.specs.Rational.{whole}
use Rattle.drg_algebra.specs.Ratio.{ratio}
use Rattle.drg_array.specs.Entries.{Entries, b_at, c_at, a_at}
use Rattle.drg_array.specs.Numbers.{size, vertex_count}
use Rattle.drg_fraction.specs.Operations.{Operations}
use Rattle.drg_quadratic.specs.declared.eigenvalue.Eigenvalue.{Eigenvalue}

module _ {V : Type 0} (o : Operations V) where
  abbrev pub difference : V → V → V
  difference x y = o.plus x (o.minus y)

  abbrev pub quotient : V → V → V
  quotient x y = o.times x (o.invert y)

  -- the value s/2 + f/2 √root
  abbrev pub eigenvalue_in : Eigenvalue → V
  eigenvalue_in x = o.plus (o.rational (ratio x.s (pos 2))) (o.times (o.rational (ratio x.f (pos 2))) o.square_root)

  -- the value of the i-th item, counted from 0
  abbrev pub item_at : {A : Type 0} → (A → V) → List A → ℕ → V
  item_at value xs i = slice_index_or (map value xs) i o.nil

  -- the value of the i-th eigenvalue
  abbrev pub theta_at : List Eigenvalue → ℕ → V
  theta_at thetas = item_at eigenvalue_in thetas

  module _ (a : Entries) where
    -- b_i, c_i and a_i
    abbrev pub b_value : ℕ → V
    b_value i = o.rational (whole (pos (b_at a i)))

    abbrev pub c_value : ℕ → V
    c_value i = o.rational (whole (pos (c_at a i)))

    abbrev pub a_value : ℕ → V
    a_value i = o.rational (whole (a_at a i))

    -- the size k_i, and the number of vertices n
    abbrev pub size_value : ℕ → V
    size_value i = o.rational (size a i)

    abbrev pub count_value : V
    count_value = o.rational (vertex_count a)
