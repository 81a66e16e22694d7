-- The cells of P Q as the product of the tables makes them.
use Rattle.std.proofs.Common.{◌≡◌, ℕ, suc, ◌<◌, Bool, refl, ap, ap₂, sym, ◌∙◌, subst, arith, inl, inr}
use Rattle.drg_array.specs.Entries.{Entries, diameter}
use Rattle.drg_array.specs.declared.node.Node.TheVariants.{Pq}
use Rattle.drg_fraction.specs.Operations.{Operations}
use Rattle.drg_fraction.specs.Field.{dot_fits}
use Rattle.drg_matrix.specs.Table.{Square, cell}
use Rattle.drg_matrix.specs.Table as Table
use Rattle.drg_matrix.specs.Product.{product_fits_at}
use Rattle.drg_matrix.specs.Product as Product
use Rattle.drg_matrix.specs.declared.fault.TableFault.{TableFault}
use Rattle.drg_matrix.specs.declared.fault.TableFault.TheVariants as table
use Rattle.drg_matrices.specs.Formulas.{eigen_entry, dual_entry}
use Rattle.drg_matrices.specs.Fits.{Fits, product_fits}
use Rattle.drg_matrices.specs.Faults.{ReachesProduct, IsFault, ProductFits, cell_fault}
use Rattle.drg_matrices.specs.Filling.{HasEigen, HasDual}
use Rattle.drg_matrices.proofs.FirstFaults.{not_fitting, product_fault}
use Rattle.drg_matrices.proofs.TableRows.{same_row}

module _ {A V : Type 0} (value : A → V) (operations : ℕ → Operations V) (root_of : A → ℕ) (root : ℕ) (a : Entries) (theta : ℕ → V)
    (s t : Square A) (eigen : HasEigen value operations root_of root a theta s (suc (diameter a)) 0) (dual : HasDual value operations root_of root a theta t (suc (diameter a)) 0) where
  abbrev o : Operations V
  o = operations root

  abbrev n : ℕ
  n = suc (diameter a)

  abbrev made_fits : ℕ → ℕ → Bool
  made_fits = product_fits_at value operations s t

  cell_fits : (i j : ℕ) → i < n → j < n → made_fits i j ≡ product_fits o a (eigen_entry o a (theta i)) (dual_entry o a (theta j))
  cell_fits i j h k =
      ap (λ (r : ℕ). dot_fits (operations r) (Table.row_of value operations s i) (Table.column_of value operations t j)) eigen.same_root
      ∙ ap₂ (dot_fits o)
      (same_row (cell value operations s i) (eigen_entry o a (theta i)) s.side n eigen.side (λ l g. eigen.values i l g (inl h)))
      (same_row (λ l. cell value operations t l j) (dual_entry o a (theta j)) t.side n dual.side (λ l g. dual.values l j k (inl g)))

  pub product_fits_all : Product.AllFit s.side made_fits → ProductFits o a theta
  product_fits_all all i j h k = sym (cell_fits i j h k) ∙ all i j (subst (λ (m : ℕ). i < m) (sym eigen.side) h) (subst (λ (m : ℕ). j < m) (sym eigen.side) k)

  pub fault_of_product : ReachesProduct o a theta → (fault : TableFault) → Product.IsFault s.side made_fits fault → IsFault o a theta (cell_fault fault)
  fault_of_product reached (table.Wide i j) first =
      let row = subst (λ (m : ℕ). i < m) eigen.side first.row in
      let col = subst (λ (m : ℕ). j < m) eigen.side first.col in
      product_fault o a theta i j (cell_fault (table.Wide i j)) refl row col reached
      (not_fitting (product_fits o a (eigen_entry o a (theta i)) (dual_entry o a (theta j))) (sym (cell_fits i j row col) ∙ first.wide)) before
    where
      inside : (k l : ℕ) → Product.IsBefore k l i j → k < n
      inside k l (inl g) = let row = subst (λ (m : ℕ). i < m) eigen.side first.row in omega arith
      inside k l (inr (e, g)) = let row = subst (λ (m : ℕ). i < m) eigen.side first.row in omega arith

      before : (k l : ℕ) → l < n → Product.IsBefore k l i j → Fits o a theta (Pq k l)
      before k l h b = sym (cell_fits k l (inside k l b) h) ∙ first.before k l (subst (λ (m : ℕ). l < m) (sym eigen.side) h) b
  fault_of_product reached table.Memory first = tt
