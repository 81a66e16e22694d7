-- How a table is filled, row by row: one place more, one row more, all rows.
use Rattle.std.proofs.Common.{◌≡◌, ℕ, suc, ◌<◌, sym, ◌∙◌, subst, arith, ◌⊎◌, inl, inr}
use Rattle.std.proofs.lemmas.Bool.{cases_lt}
use Rattle.drg_fraction.specs.Operations.{Operations}
use Rattle.drg_matrix.specs.Table.{Square, cell}
use Rattle.drg_matrices.specs.Faults.{HoldsBefore, HoldsAll}
use Rattle.drg_matrices.specs.Filling.{IsFilled}

-- ---- places
same_or_before : (m n : ℕ) → m < suc n → (m < n) ⊎ (m ≡ n)
same_or_before m n h =
    elim (cases_lt m n) [
      | inl less ↦ inl less
      | inr more ↦ inr (omega arith)
    ]

-- nothing comes before the first place
pub holds_none : (n : ℕ) (P : ℕ → ℕ → Type 0) → HoldsBefore n P 0 0
holds_none n P i j h (inl g) = absurd (omega arith)
holds_none n P i j h (inr (e, g)) = absurd (omega arith)

pub holds_next : (n : ℕ) (P : ℕ → ℕ → Type 0) (k l : ℕ) → HoldsBefore n P k l → P k l → HoldsBefore n P k (suc l)
holds_next n P k l before here i j h (inl g) = before i j h (inl g)
holds_next n P k l before here i j h (inr (e, g)) =
    elim (same_or_before j l g) [
      | inl less ↦ before i j h (inr (e, less))
      | inr same ↦ subst (λ (m : ℕ). P m j) (sym e) (subst (λ (m : ℕ). P k m) (sym same) here)
    ]

pub holds_row : (n : ℕ) (P : ℕ → ℕ → Type 0) (k : ℕ) → HoldsBefore n P k n → HoldsBefore n P (suc k) 0
holds_row n P k before i j h (inl g) =
    elim (same_or_before i k g) [
      | inl less ↦ before i j h (inl less)
      | inr same ↦ before i j h (inr (same, h))
    ]
holds_row n P k before i j h (inr (e, g)) = absurd (omega arith)

pub holds_all : (n : ℕ) (P : ℕ → ℕ → Type 0) → HoldsBefore n P n 0 → HoldsAll n P
holds_all n P before i j h k = before i j k (inl h)

-- ---- tables
module _ {A V : Type 0} (value : A → V) (operations : ℕ → Operations V) (n root : ℕ) (fits : ℕ → ℕ → Type 0) (f : ℕ → ℕ → V) where
  abbrev Filled : Square A → ℕ → ℕ → Type 0
  Filled = IsFilled value operations n root fits f

  abbrev at : Square A → ℕ → ℕ → V
  at = cell value operations

  pub filled_none : (t : Square A) → t.side ≡ n → t.root ≡ root → Filled t 0 0
  filled_none t h e = record { side = h; same_root = e; values = holds_none n (λ i j. at t i j ≡ f i j); fit = holds_none n fits }

  -- a cell is set
  pub filled_next : (s t : Square A) (k l : ℕ) → k < n → l < n → Filled s k l → fits k l → t.side ≡ s.side → t.root ≡ s.root
      → at t k l ≡ f k l
      → ((i j : ℕ) → i < s.side → j < s.side → ¬ ((i ≡ k) × (j ≡ l)) → at t i j ≡ at s i j) → Filled t k (suc l)
  filled_next s t k l inside_k inside_l h fitting side root_is here others = record {
    side = side ∙ h.side;
    same_root = root_is ∙ h.same_root;
    values = holds_next n (λ i j. at t i j ≡ f i j) k l kept here;
    fit = holds_next n fits k l h.fit fitting;
  }
    where
      kept : HoldsBefore n (λ i j. at t i j ≡ f i j) k l
      kept i j g (inl b) = let side_is = h.side in others i j (omega arith) (omega arith) (λ e. let same : i ≡ k = e.0 in omega arith) ∙ h.values i j g (inl b)
      kept i j g (inr (e, b)) = let side_is = h.side in others i j (omega arith) (omega arith) (λ p. let same : j ≡ l = p.1 in omega arith) ∙ h.values i j g (inr (e, b))

  pub filled_row : (t : Square A) (k : ℕ) → Filled t k n → Filled t (suc k) 0
  filled_row t k h = record { side = h.side; same_root = h.same_root; values = holds_row n (λ i j. at t i j ≡ f i j) k h.values; fit = holds_row n fits k h.fit }

  pub filled_at : (t : Square A) → Filled t n 0 → (i j : ℕ) → i < n → j < n → at t i j ≡ f i j
  filled_at t h i j k l = h.values i j l (inl k)
