-- The cosines, the multiplicity, and the entries of P and Q of an eigenvalue x of an array, by their formulas
-- (Brouwer, Cohen and Neumaier 1989, section 4.1.B).
use Rattle.std.specs.Prelude.{ℕ, zero, suc, List, map}
use Rattle.std.specs.List.{range_with_len}
use Rattle.drg_array.specs.Entries.{Entries, diameter}
use Rattle.drg_fraction.specs.Operations.{Operations}
use Rattle.drg_fraction.specs.Field.{dot_of}
use Rattle.drg_matrices.specs.Values.{difference, quotient, b_value, c_value, a_value, size_value, count_value}

module _ {V : Type 0} (o : Operations V) (a : Entries) where
  -- ((x - a_(r+1)) u - c_(r+1) t) / b_(r+1), from the cosines t and u before it
  abbrev pub next_cosine : ℕ → V → V → V → V
  next_cosine r x t u =
      quotient o (difference o (o.times (difference o x (a_value o a (suc r))) u) (o.times (c_value o a (suc r)) t)) (b_value o a (suc r))

  -- u_0 = 1, u_1 = x / k, and u_(r+1) = ((x - a_r) u_r - c_r u_(r-1)) / b_r
  abbrev pub cosine : V → ℕ → V
  cosine x zero = o.unit
  cosine x (suc zero) = quotient o x (b_value o a 0)
  cosine x (suc (suc r)) = next_cosine r x (cosine x r) (cosine x (suc r))

  -- the values at the places 0 to d
  abbrev pub row_of : (ℕ → V) → List V
  row_of f = map f (range_with_len 0 (suc (diameter a)))

  -- k_r u_r, the entry r of the row of x in P
  abbrev pub eigen_entry : V → ℕ → V
  eigen_entry x r = o.times (size_value o a r) (cosine x r)

  -- the sum of k_r u_r², and the multiplicity n / (sum of k_r u_r²)
  abbrev pub sum_of_squares : V → V
  sum_of_squares x = dot_of o (row_of (eigen_entry x)) (row_of (cosine x))

  abbrev pub multiplicity_of : V → V
  multiplicity_of x = quotient o (count_value o a) (sum_of_squares x)

  -- m u_r, the entry r of the column of x in Q
  abbrev pub dual_entry : V → ℕ → V
  dual_entry x r = o.times (multiplicity_of x) (cosine x r)

  -- b_(j-1) p_(j-1) + a_j p_j, where the first term is absent for j = 0
  abbrev pub first_terms : (ℕ → V) → ℕ → V
  first_terms p zero = o.times (a_value o a 0) (p 0)
  first_terms p (suc j) = o.plus (o.times (b_value o a j) (p j)) (o.times (a_value o a (suc j)) (p (suc j)))
