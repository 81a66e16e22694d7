-- The tables of all Krein parameters.
use Rattle.std.proofs.Common.{◌≡◌, ℕ, zero, suc, ◌<◌, ◌≤◌, List, [], ◌∷◌, ◌++◌, length, true, refl, ap, sym, ◌∙◌, subst, arith, inl, inr}
use Rattle.drg_array.specs.declared.limits.TheConstants.{MAX_DIAMETER}
use Rattle.drg_fraction.specs.Operations.{Operations}
use Rattle.drg_matrix.specs.Table.{Square}
use Rattle.drg_krein.specs.Values.{FrameValues}
use Rattle.drg_krein.specs.Faults.{SignsFit}
use Rattle.drg_krein.specs.Tables.{AreTables, table_at}
use Rattle.drg_krein.specs.Filling.{AreFull, HasNumbers}
use Rattle.drg_krein.proofs.Orders.{same_or_before}

module _ {A : Type 0} (t : Square A) where
  kept_at : (xs : List (Square A)) (i : ℕ) → i < length xs → table_at (xs ++ t ∷ []) i ≡ table_at xs i
  kept_at [] i h = absurd (omega arith)
  kept_at (x ∷ xs) zero h = refl
  kept_at (x ∷ xs) (suc i) h = kept_at xs i (omega arith)

  last_at : (xs : List (Square A)) → table_at (xs ++ t ∷ []) (length xs) ≡ t
  last_at [] = refl
  last_at (x ∷ xs) = last_at xs

  one_longer : (xs : List (Square A)) → length (xs ++ t ∷ []) ≡ suc (length xs)
  one_longer [] = refl
  one_longer (x ∷ xs) = ap suc (one_longer xs)

module _ {A V : Type 0} (value : A → V) (operations : ℕ → Operations V) (root : ℕ) (f : FrameValues V) where
  -- one table more
  pub full_next : (xs ys : List (Square A)) (t : Square A) (k n : ℕ) → n ≡ suc k → ys ≡ xs ++ t ∷ [] → AreFull value operations root f xs k
      → HasNumbers value operations root f k t (suc f.d) 0 → AreFull value operations root f ys n
  full_next xs ys t k n s e full here = record {
    count = ap length e ∙ one_longer t xs ∙ ap suc full.count ∙ sym s;
    full = λ i h. subst (λ (zs : List (Square A)). HasNumbers value operations root f i (table_at zs i) (suc f.d) 0) (sym e) (each i (omega arith));
  }
    where
      each : (i : ℕ) → i < suc k → HasNumbers value operations root f i (table_at (xs ++ t ∷ []) i) (suc f.d) 0
      each i h =
          elim (same_or_before i k h) [
            | inl less ↦ subst (λ (w : Square A). HasNumbers value operations root f i w (suc f.d) 0) (sym (kept_at t xs i (subst (λ (m : ℕ). i < m) (sym full.count) less))) (full.full i less)
            | inr same ↦ subst (λ (m : ℕ). HasNumbers value operations root f m (table_at (xs ++ t ∷ []) m) (suc f.d) 0) (sym same)
                (subst (λ (w : Square A). HasNumbers value operations root f k w (suc f.d) 0) (sym (ap (table_at (xs ++ t ∷ [])) (sym full.count) ∙ last_at t xs)) here)
          ]

  pub tables_are : (d r : ℕ) (xs : List (Square A)) → d ≡ f.d → r ≡ root → d ≤ MAX_DIAMETER → AreFull value operations root f xs (suc f.d) → SignsFit (operations root) f
      → AreTables value operations (record { d = d; root = r; tables = xs })
  tables_are d r xs e s short full signs =
      subst (λ (m : ℕ). AreTables value operations (record { d = m; root = r; tables = xs })) (sym e)
      (subst (λ (m : ℕ). AreTables value operations (record { d = f.d; root = m; tables = xs })) (sym s)
      (record {
        short = subst (λ (m : ℕ). m ≤ MAX_DIAMETER) e short;
        count = full.count;
        sides = λ i h. (full.full i (omega arith)).side;
        roots = λ i h. (full.full i (omega arith)).same_root;
        signs = λ i j h a b c. subst (λ x. (operations root).sign_fits x ≡ true) (sym ((full.full i (omega arith)).values j h b c (inl (omega arith)) a)) (signs i j h a b c);
      }))
