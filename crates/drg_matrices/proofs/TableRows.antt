-- The rows of P and Q while they are filled.
use Rattle.std.proofs.Common.{◌≡◌, ℕ, zero, suc, ◌<◌, ◌≤◌, true, ◌+◌, ◌∷◌, map, refl, ap, ap₂, sym, ◌∙◌, subst, arith, inl}
use Rattle.std.specs.List.{range_with_len}
use Rattle.drg_array.specs.Entries.{Entries, diameter}
use Rattle.drg_fraction.specs.Operations.{Operations}
use Rattle.drg_matrix.specs.Table.{Square, cell}
use Rattle.drg_matrices.specs.Formulas.{cosine, eigen_entry, dual_entry}
use Rattle.drg_matrices.specs.Fits.{entry_fits, dual_fits}
use Rattle.drg_matrices.specs.Filling.{HasCosines, HasEigen, HasDual}
use Rattle.drg_matrices.proofs.Filled.{filled_next, filled_row}

module _ {A V : Type 0} (value : A → V) (operations : ℕ → Operations V) (root_of : A → ℕ) (root : ℕ) (a : Entries) (theta : ℕ → V) where
  abbrev o : Operations V
  o = operations root

  abbrev n : ℕ
  n = suc (diameter a)

  abbrev Eigen : Square A → ℕ → ℕ → Type 0
  Eigen = HasEigen value operations root_of root a theta

  abbrev Dual : Square A → ℕ → ℕ → Type 0
  Dual = HasDual value operations root_of root a theta

  -- a cosine that was read
  pub cosine_read : (t : Square A) (i r : ℕ) (x : A) → HasCosines value operations root_of root a theta t n 0 → i < n → r < n
      → value x ≡ cell value operations t i r → value x ≡ cosine o a (theta i) r
  cosine_read t i r x h k l e = e ∙ h.values i r l (inl k)

  -- the places of a filled row
  pub eigen_at : (t : Square A) (i r : ℕ) → Eigen t (suc i) 0 → r < n → cell value operations t i r ≡ eigen_entry o a (theta i) r
  eigen_at t i r h k = h.values i r k (inl (omega arith))

  pub eigen_set : (s t : Square A) (i r m : ℕ) → m ≡ suc r → i < n → r < n → Eigen s i r → entry_fits o a (theta i) r ≡ true
      → t.side ≡ s.side → t.root ≡ s.root → cell value operations t i r ≡ eigen_entry o a (theta i) r
      → ((k l : ℕ) → k < s.side → l < s.side → ¬ ((k ≡ i) × (l ≡ r)) → cell value operations t k l ≡ cell value operations s k l)
      → Eigen t i m
  eigen_set s t i r m e h k table fits side root_is here others =
      subst (λ (q : ℕ). Eigen t i q) (sym e)
      (filled_next value operations n root (λ i r. entry_fits o a (theta i) r ≡ true) (λ i r. eigen_entry o a (theta i) r) s t i r h k table fits side root_is here others)

  pub dual_set : (s t : Square A) (r i m : ℕ) → m ≡ suc i → r < n → i < n → Dual s r i → dual_fits o a (theta i) r ≡ true
      → t.side ≡ s.side → t.root ≡ s.root → cell value operations t r i ≡ dual_entry o a (theta i) r
      → ((k l : ℕ) → k < s.side → l < s.side → ¬ ((k ≡ r) × (l ≡ i)) → cell value operations t k l ≡ cell value operations s k l)
      → Dual t r m
  dual_set s t r i m e h k table fits side root_is here others =
      subst (λ (q : ℕ). Dual t r q) (sym e)
      (filled_next value operations n root (λ r i. dual_fits o a (theta i) r ≡ true) (λ r i. dual_entry o a (theta i) r) s t r i h k table fits side root_is here others)

  pub eigen_row : (t : Square A) (i l : ℕ) → l ≡ n → Eigen t i l → Eigen t (suc i) 0
  eigen_row t i l e h =
      filled_row value operations n root (λ i r. entry_fits o a (theta i) r ≡ true) (λ i r. eigen_entry o a (theta i) r) t i (subst (λ (m : ℕ). Eigen t i m) e h)

  pub dual_row : (t : Square A) (r l : ℕ) → l ≡ n → Dual t r l → Dual t (suc r) 0
  dual_row t r l e h =
      filled_row value operations n root (λ r i. dual_fits o a (theta i) r ≡ true) (λ r i. dual_entry o a (theta i) r) t r (subst (λ (m : ℕ). Dual t r m) e h)

-- ---- rows as lists
same_places : {V : Type 0} (f g : ℕ → V) (b n : ℕ) → ((l : ℕ) → b ≤ l → l < b + n → f l ≡ g l) → map f (range_with_len b n) ≡ map g (range_with_len b n)
same_places f g b zero h = refl
same_places f g b (suc n) h = ap₂ (λ x xs. x ∷ xs) (h b (omega arith) (omega arith)) (same_places f g (b + 1) n (λ l low high. h l (omega arith) (omega arith)))

-- two rows with the same values at the places 0 to n-1
pub same_row : {V : Type 0} (f g : ℕ → V) (m n : ℕ) → m ≡ n → ((l : ℕ) → l < n → f l ≡ g l) → map f (range_with_len 0 m) ≡ map g (range_with_len 0 n)
same_row f g m n e h = ap (λ (k : ℕ). map f (range_with_len 0 k)) e ∙ same_places f g 0 n (λ l low high. h l (omega arith))
