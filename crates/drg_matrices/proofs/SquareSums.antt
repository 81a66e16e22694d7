-- The sum of k_r u_r² as the code makes it, from the rows of two tables.
use Rattle.std.proofs.Common.{◌≡◌, ℕ, suc, ◌<◌, ◌≤◌, true, List, ◌∙◌, arith, inl}
use Rattle.drg_array.specs.Entries.{Entries, diameter}
use Rattle.drg_fraction.specs.Operations.{Operations}
use Rattle.drg_matrix.specs.Table.{Square, cell}
use Rattle.drg_matrix.specs.Table as Table
use Rattle.drg_matrices.specs.Formulas.{cosine, row_of, eigen_entry}
use Rattle.drg_matrices.specs.Fits.{entry_fits}
use Rattle.drg_matrices.specs.Filling.{HasCosines, HasEigen}
use Rattle.drg_matrices.proofs.TableRows.{same_row, eigen_at}

module _ {A V : Type 0} (value : A → V) (operations : ℕ → Operations V) (root_of : A → ℕ) (root : ℕ) (a : Entries) (theta : ℕ → V) where
  abbrev o : Operations V
  o = operations root

  -- the row of P of θ_i
  pub eigen_row_is : (t : Square A) (i : ℕ) (xs : List V) → HasEigen value operations root_of root a theta t (suc i) 0
      → xs ≡ Table.row_of value operations t i → xs ≡ row_of o a (eigen_entry o a (theta i))
  eigen_row_is t i xs h e =
      e ∙ same_row (cell value operations t i) (eigen_entry o a (theta i)) t.side (suc (diameter a)) h.side (λ l g. eigen_at value operations root_of root a theta t i l h g)

  -- the cosines of θ_i
  pub cosine_row_is : (t : Square A) (i : ℕ) (xs : List V) → i < suc (diameter a) → HasCosines value operations root_of root a theta t (suc (diameter a)) 0
      → xs ≡ Table.row_of value operations t i → xs ≡ row_of o a (cosine o a (theta i))
  cosine_row_is t i xs inside h e =
      e ∙ same_row (cell value operations t i) (cosine o a (theta i)) t.side (suc (diameter a)) h.side (λ l g. h.values i l g (inl inside))

  pub entries_fit : (t : Square A) (i : ℕ) → HasEigen value operations root_of root a theta t (suc i) 0 → (r : ℕ) → r ≤ diameter a → entry_fits o a (theta i) r ≡ true
  entries_fit t i h r g = h.fit i r (omega arith) (inl (omega arith))
