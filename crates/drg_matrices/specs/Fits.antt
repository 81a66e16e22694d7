-- When the formula of each quantity of a frame fits: none of the work numbers of its operations is above 2^127 - 1 in
-- magnitude. θ_0 to θ_d are the eigenvalues.
use Rattle.std.specs.Prelude.{◌≡◌, ℕ, zero, suc, ◌≤◌, ◌&&◌, Bool, true, nat_lt, if◌then◌else◌}
use Rattle.drg_array.specs.Entries.{Entries, diameter}
use Rattle.drg_array.specs.declared.node.Node.{Node}
use Rattle.drg_array.specs.declared.node.Node.TheVariants.{U, M, Prow, Qrow, Rec, Pq}
use Rattle.drg_fraction.specs.Operations.{Operations}
use Rattle.drg_fraction.specs.Field.{dot_fits}
use Rattle.drg_matrices.specs.Values.{difference, b_value, c_value, a_value, size_value, count_value}
use Rattle.drg_matrices.specs.Formulas.{cosine, row_of, eigen_entry, sum_of_squares, multiplicity_of, dual_entry, first_terms}

module _ {V : Type 0} (o : Operations V) (a : Entries) where
  -- x - a_(r+1), its product with u, c_(r+1) t, the difference of both, and the quotient by b_(r+1)
  abbrev pub next_fits : ℕ → V → V → V → Bool
  next_fits r x t u =
      o.difference_fits x (a_value o a (suc r))
      && o.product_fits (difference o x (a_value o a (suc r))) u
      && o.product_fits (c_value o a (suc r)) t
      && o.difference_fits (o.times (difference o x (a_value o a (suc r))) u) (o.times (c_value o a (suc r)) t)
      && o.quotient_fits (difference o (o.times (difference o x (a_value o a (suc r))) u) (o.times (c_value o a (suc r)) t)) (b_value o a (suc r))

  -- the cosine u_r of x
  abbrev pub cosine_fits : V → ℕ → Bool
  cosine_fits x zero = true
  cosine_fits x (suc zero) = o.quotient_fits x (b_value o a 0)
  cosine_fits x (suc (suc r)) = next_fits r x (cosine o a x r) (cosine o a x (suc r))

  -- the product k_r u_r
  abbrev pub entry_fits : V → ℕ → Bool
  entry_fits x r = o.product_fits (size_value o a r) (cosine o a x r)

  -- the products k_r u_r, their products with the u_r and the sums of these, and the quotient
  pub record MultiplicityFits (x : V) : Type 0 where
    pub entries : (r : ℕ) → r ≤ diameter a → entry_fits x r ≡ true
    pub squares : dot_fits o (row_of o a (eigen_entry o a x)) (row_of o a (cosine o a x)) ≡ true
    pub quotient : o.quotient_fits (count_value o a) (sum_of_squares o a x) ≡ true

  -- the product m u_r
  abbrev pub dual_fits : V → ℕ → Bool
  dual_fits x r = o.product_fits (multiplicity_of o a x) (cosine o a x r)

  -- b_(j-1) p_(j-1) + a_j p_j, where the first term is absent for j = 0
  abbrev pub first_terms_fit : (ℕ → V) → ℕ → Bool
  first_terms_fit p zero = o.product_fits (a_value o a 0) (p 0)
  first_terms_fit p (suc j) =
      o.product_fits (b_value o a j) (p j)
      && o.product_fits (a_value o a (suc j)) (p (suc j))
      && o.sum_fits (o.times (b_value o a j) (p j)) (o.times (a_value o a (suc j)) (p (suc j)))

  -- with c_(j+1) p_(j+1) added, which is absent for j = d
  abbrev pub last_term_fits : (ℕ → V) → ℕ → Bool
  last_term_fits p j =
      if nat_lt j (diameter a) then o.product_fits (c_value o a (suc j)) (p (suc j)) && o.sum_fits (first_terms o a p j) (o.times (c_value o a (suc j)) (p (suc j))) else true

  -- the product x p_j, and then b_(j-1) p_(j-1) + a_j p_j + c_(j+1) p_(j+1)
  abbrev pub recurrence_fits : V → (ℕ → V) → ℕ → Bool
  recurrence_fits x p j = o.product_fits x (p j) && first_terms_fit p j && last_term_fits p j

  -- cell (i, j) of P Q, where p is row i of P and q is column j of Q
  abbrev pub product_fits : (ℕ → V) → (ℕ → V) → Bool
  product_fits p q = dot_fits o (row_of o a p) (row_of o a q)

  module _ (theta : ℕ → V) where
    -- the formula of the quantity fits
    abbrev pub Fits : Node → Type 0
    Fits (U i r) = cosine_fits (theta i) r ≡ true
    Fits (M i) = MultiplicityFits (theta i)
    Fits (Prow i r) = entry_fits (theta i) r ≡ true
    Fits (Qrow r i) = dual_fits (theta i) r ≡ true
    Fits (Rec i j) = recurrence_fits (theta i) (eigen_entry o a (theta i)) j ≡ true
    Fits (Pq i j) = product_fits (eigen_entry o a (theta i)) (dual_entry o a (theta j)) ≡ true
    Fits node = ⊥
