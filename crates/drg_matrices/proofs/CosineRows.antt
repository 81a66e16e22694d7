-- A row of cosines while it is filled.
use Rattle.std.proofs.Common.{◌≡◌, ℕ, suc, ◌<◌, true, ap, sym, ◌∙◌, subst}
use Rattle.drg_array.specs.Entries.{Entries, diameter}
use Rattle.drg_fraction.specs.Operations.{Operations}
use Rattle.drg_matrix.specs.Table.{Square, cell}
use Rattle.drg_matrices.specs.Formulas.{cosine, next_cosine}
use Rattle.drg_matrices.specs.Fits.{next_fits, cosine_fits}
use Rattle.drg_matrices.specs.Filling.{HasCosines, HasLastCosines}
use Rattle.drg_matrices.proofs.Filled.{filled_next, filled_row}

module _ {A V : Type 0} (value : A → V) (operations : ℕ → Operations V) (root_of : A → ℕ) (root : ℕ) (a : Entries) (theta : ℕ → V) where
  abbrev o : Operations V
  o = operations root

  abbrev Cosines : Square A → ℕ → ℕ → Type 0
  Cosines = HasCosines value operations root_of root a theta

  -- a cell of the row is set to its cosine
  pub cosine_set : (s t : Square A) (i r : ℕ) → i < suc (diameter a) → r < suc (diameter a) → Cosines s i r → cosine_fits o a (theta i) r ≡ true
      → t.side ≡ s.side → t.root ≡ s.root → cell value operations t i r ≡ cosine o a (theta i) r
      → ((k l : ℕ) → k < s.side → l < s.side → ¬ ((k ≡ i) × (l ≡ r)) → cell value operations t k l ≡ cell value operations s k l)
      → Cosines t i (suc r)
  cosine_set s t i r h k table fits side root_is here others =
      filled_next value operations (suc (diameter a)) root (λ i r. cosine_fits o a (theta i) r ≡ true) (λ i r. cosine o a (theta i) r)
      s t i r h k table fits side root_is here others

  -- one cosine more, at the column l
  pub next_row : (s t : Square A) (i r m l : ℕ) (before last next : A) → m ≡ suc r → l ≡ suc (suc r) → i < suc (diameter a) → suc (suc r) < suc (diameter a)
      → HasLastCosines value operations root_of root a theta s i r before last
      → next_fits o a r (theta i) (cosine o a (theta i) r) (cosine o a (theta i) (suc r)) ≡ true
      → value next ≡ next_cosine o a r (theta i) (cosine o a (theta i) r) (cosine o a (theta i) (suc r)) → root_of next ≡ root
      → t.side ≡ s.side → t.root ≡ s.root → cell value operations t i l ≡ value next
      → ((x y : ℕ) → x < s.side → y < s.side → ¬ ((x ≡ i) × (y ≡ l)) → cell value operations t x y ≡ cell value operations s x y)
      → HasLastCosines value operations root_of root a theta t i m last next
  next_row s t i r m l before last next e at h k state fits is_next is_root side root_is here others =
      subst (λ (q : ℕ). HasLastCosines value operations root_of root a theta t i q last next) (sym e) (record {
        table = cosine_set s t i (suc (suc r)) h k state.table fits side root_is (ap (cell value operations t i) (sym at) ∙ here ∙ is_next)
            (λ x y p q ne. others x y p q (λ both. ne (both.0, both.1 ∙ at)));
        before_value = state.last_value;
        before_root = state.last_root;
        last_value = is_next;
        last_root = is_root;
      })

  pub full_row : (t : Square A) (i l : ℕ) → l ≡ suc (diameter a) → Cosines t i l → Cosines t (suc i) 0
  full_row t i l e h =
      filled_row value operations (suc (diameter a)) root (λ i r. cosine_fits o a (theta i) r ≡ true) (λ i r. cosine o a (theta i) r) t i
      (subst (λ (m : ℕ). Cosines t i m) e h)
