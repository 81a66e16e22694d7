-- Tables while they are filled, and their rows as lists.
use Rattle.std.proofs.Common.{◌≡◌, ℕ, zero, suc, ◌<◌, ◌≤◌, ◌+◌, List, [], ◌∷◌, ◌++◌, map, refl, ap, ap₂, sym, ◌∙◌, subst, arith, inl, inr}
use Rattle.std.specs.List.{range_with_len}
use Rattle.drg_fraction.specs.Operations.{Operations}
use Rattle.drg_matrix.specs.Table.{Square, cell}
use Rattle.drg_matrix.specs.Table as Table
use Rattle.drg_matrix.specs.Product.{IsBefore}
use Rattle.drg_matrices.specs.Tables.{FrameTables, diameter_of, root_of_tables}
use Rattle.drg_krein.specs.declared.copies.Matrix.{Matrix}
use Rattle.drg_krein.specs.Copies.{IsCopy, entry_in}
use Rattle.drg_krein.specs.Values.{FrameValues}
use Rattle.drg_krein.specs.Formulas.{row_of, krein_number}
use Rattle.drg_krein.specs.Filling.{HasNumbers}
use Rattle.drg_krein.proofs.Orders.{same_or_before}

-- ---- places of a square
abbrev Before : ℕ → (ℕ → ℕ → Type 0) → ℕ → ℕ → Type 0
Before d P k l = (i j : ℕ) → i ≤ d → j ≤ d → IsBefore i j k l → P i j

next : (d : ℕ) (P : ℕ → ℕ → Type 0) (k l n : ℕ) → n ≡ suc l → Before d P k l → P k l → Before d P k n
next d P k l n s before here i j a b (inl g) = before i j a b (inl g)
next d P k l n s before here i j a b (inr (e, g)) =
    elim (same_or_before j l (omega arith)) [
      | inl less ↦ before i j a b (inr (e, less))
      | inr same ↦ subst (λ (x : ℕ). P x j) (sym e) (subst (λ (x : ℕ). P k x) (sym same) here)
    ]

row : (d : ℕ) (P : ℕ → ℕ → Type 0) (k l n : ℕ) → l ≡ suc d → n ≡ suc k → Before d P k l → Before d P n 0
row d P k l n s t before i j a b (inl g) =
    elim (same_or_before i k (omega arith)) [
      | inl less ↦ before i j a b (inl less)
      | inr same ↦ before i j a b (inr (same, omega arith))
    ]
row d P k l n s t before i j a b (inr (e, g)) = absurd (omega arith)

none : (d : ℕ) (P : ℕ → ℕ → Type 0) → Before d P 0 0
none d P i j a b (inl g) = absurd (omega arith)
none d P i j a b (inr (e, g)) = absurd (omega arith)

-- ---- rows as lists
same_places : {V : Type 0} (f g : ℕ → V) (b n : ℕ) → ((l : ℕ) → b ≤ l → l < b + n → f l ≡ g l) → map f (range_with_len b n) ≡ map g (range_with_len b n)
same_places f g b zero h = refl
same_places f g b (suc n) h = ap₂ (λ x xs. x ∷ xs) (h b (omega arith) (omega arith)) (same_places f g (b + 1) n (λ l low high. h l (omega arith) (omega arith)))

pub same_row : {V : Type 0} (f g : ℕ → V) (m n : ℕ) → m ≡ n → ((l : ℕ) → l < n → f l ≡ g l) → map f (range_with_len 0 m) ≡ map g (range_with_len 0 n)
same_row f g m n e h = ap (λ (k : ℕ). map f (range_with_len 0 k)) e ∙ same_places f g 0 n (λ l low high. h l (omega arith))

longer : {V : Type 0} (g : ℕ → V) (b n : ℕ) → map g (range_with_len b (suc n)) ≡ map g (range_with_len b n) ++ g (b + n) ∷ []
longer g b zero = ap (λ (k : ℕ). g k ∷ []) (omega arith)
longer g b (suc n) = ap (λ xs. g b ∷ xs) (longer g (b + 1) n ∙ ap (λ (k : ℕ). map g (range_with_len (b + 1) n) ++ g k ∷ []) (omega arith))

-- one place more of a row
pub row_next : {V : Type 0} (g : ℕ → V) (r n : ℕ) (xs : List V) (x : V) → n ≡ suc r → xs ≡ map g (range_with_len 0 r) → x ≡ g r
    → xs ++ x ∷ [] ≡ map g (range_with_len 0 n)
row_next g r n xs x s e f =
    ap₂ (λ us u. us ++ u ∷ []) e f ∙ ap (λ (k : ℕ). map g (range_with_len 0 r) ++ g k ∷ []) (omega arith) ∙ sym (longer g 0 r) ∙ ap (λ (k : ℕ). map g (range_with_len 0 k)) (sym s)

-- ---- tables
module _ {A V : Type 0} (value : A → V) (operations : ℕ → Operations V) where
  abbrev at : Square A → ℕ → ℕ → V
  at = cell value operations

  -- a cell is set
  set_next : (d : ℕ) (C : ℕ → Type 0) (g : ℕ → ℕ → V) (s t : Square A) (k l n : ℕ) → n ≡ suc l → k ≤ d → l ≤ d → s.side ≡ suc d
      → Before d (λ i j. C i → at s i j ≡ g i j) k l → at t k l ≡ g k l
      → ((i j : ℕ) → i < s.side → j < s.side → ¬ ((i ≡ k) × (j ≡ l)) → at t i j ≡ at s i j)
      → Before d (λ i j. C i → at t i j ≡ g i j) k n
  set_next d C g s t k l n e inside_k inside_l side before here others =
      next d (λ i j. C i → at t i j ≡ g i j) k l n e kept (λ c. here)
    where
      kept : Before d (λ i j. C i → at t i j ≡ g i j) k l
      kept i j a b (inl less) c = others i j (omega arith) (omega arith) (λ p. let same : i ≡ k = p.0 in omega arith) ∙ before i j a b (inl less) c
      kept i j a b (inr (same, less)) c = others i j (omega arith) (omega arith) (λ p. let also : j ≡ l = p.1 in omega arith) ∙ before i j a b (inr (same, less)) c

  module _ (frame : FrameTables A) (m : Matrix) where
    pub copy_none : (t : Square A) → t.side ≡ suc (diameter_of frame) → t.root ≡ root_of_tables frame → IsCopy value operations frame m t 0 0
    copy_none t h e = record { side = h; same_root = e; values = none (diameter_of frame) (λ i j. at t i j ≡ entry_in value operations frame m i j) }

    pub copy_next : (s t : Square A) (k l n : ℕ) → n ≡ suc l → k ≤ diameter_of frame → l ≤ diameter_of frame → IsCopy value operations frame m s k l
        → t.side ≡ s.side → t.root ≡ s.root → at t k l ≡ entry_in value operations frame m k l
        → ((i j : ℕ) → i < s.side → j < s.side → ¬ ((i ≡ k) × (j ≡ l)) → at t i j ≡ at s i j) → IsCopy value operations frame m t k n
    copy_next s t k l n e inside_k inside_l h side root_is here others = record {
      side = side ∙ h.side;
      same_root = root_is ∙ h.same_root;
      values = λ i j a b c. set_next (diameter_of frame) (λ i. Unit {0}) (entry_in value operations frame m) s t k l n e inside_k inside_l h.side (λ i j a b c u. h.values i j a b c) here others i j a b c tt;
    }

    pub copy_row : (t : Square A) (k l n : ℕ) → l ≡ suc (diameter_of frame) → n ≡ suc k → IsCopy value operations frame m t k l → IsCopy value operations frame m t n 0
    copy_row t k l n s e h = record {
      side = h.side;
      same_root = h.same_root;
      values = row (diameter_of frame) (λ i j. at t i j ≡ entry_in value operations frame m i j) k l n s e h.values;
    }

    -- a row of a copy
    pub row_of_copy : (t : Square A) (k : ℕ) → k ≤ diameter_of frame → IsCopy value operations frame m t (suc (diameter_of frame)) 0
        → Table.row_of value operations t k ≡ map (entry_in value operations frame m k) (range_with_len 0 (suc (diameter_of frame)))
    row_of_copy t k inside h = same_row (at t k) (entry_in value operations frame m k) t.side (suc (diameter_of frame)) h.side (λ l g. h.values k l inside (omega arith) (inl (omega arith)))

  module _ (root : ℕ) (f : FrameValues V) (i : ℕ) where
    abbrev number : ℕ → ℕ → V
    number j h = krein_number (operations root) f i j h

    pub numbers_start : (t : Square A) → t.side ≡ suc f.d → t.root ≡ root → HasNumbers value operations root f i t i 0
    numbers_start t h e = record { side = h; same_root = e; values = nothing }
      where
        nothing : Before f.d (λ j h. i ≤ j → at t j h ≡ number j h) i 0
        nothing j h a b (inl g) c = absurd (omega arith)
        nothing j h a b (inr (e, g)) c = absurd (omega arith)

    pub numbers_next : (s t : Square A) (j h n : ℕ) → n ≡ suc h → j ≤ f.d → h ≤ f.d → HasNumbers value operations root f i s j h
        → t.side ≡ s.side → t.root ≡ s.root → at t j h ≡ number j h
        → ((k l : ℕ) → k < s.side → l < s.side → ¬ ((k ≡ j) × (l ≡ h)) → at t k l ≡ at s k l) → HasNumbers value operations root f i t j n
    numbers_next s t j h n e inside_j inside_h p side root_is here others = record {
      side = side ∙ p.side;
      same_root = root_is ∙ p.same_root;
      values = set_next f.d (λ j. i ≤ j) number s t j h n e inside_j inside_h p.side p.values here others;
    }

    pub numbers_row : (t : Square A) (j h n : ℕ) → h ≡ suc f.d → n ≡ suc j → HasNumbers value operations root f i t j h → HasNumbers value operations root f i t n 0
    numbers_row t j h n s e p = record { side = p.side; same_root = p.same_root; values = row f.d (λ j h. i ≤ j → at t j h ≡ number j h) j h n s e p.values }

    -- a row of a full table
    pub row_of_numbers : (t : Square A) (j : ℕ) → i ≤ j → j ≤ f.d → HasNumbers value operations root f i t (suc f.d) 0
        → Table.row_of value operations t j ≡ row_of (operations root) f (number j)
    row_of_numbers t j h inside p = same_row (at t j) (number j) t.side (suc f.d) p.side (λ l g. p.values j l inside (omega arith) (inl (omega arith)) h)
