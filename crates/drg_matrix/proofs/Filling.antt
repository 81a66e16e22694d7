-- How a table is filled: one cell more, one row more, all rows.
use Rattle.std.proofs.Common.{◌≡◌, ℕ, ◌<◌, ◌+◌, ◌*◌, Bool, true, List, [], ◌∷◌, ◌++◌, length, sym, ap, ap₂, ◌∙◌, arith, map, get_or, ◌⊎◌, inl, inr}
use Rattle.std.proofs.lemmas.List.{length-map, length_push, map_push, get_or_append_left, get_or_push}
use Rattle.std.proofs.lemmas.Bool.{cases_lt}
use Rattle.std.proofs.lemmas.List.Elements.{All-push, All-nil, All-same}
use Rattle.std.proofs.Math.Nat.{mul-le-mul_right, suc-mul}
use Rattle.drg_fraction.specs.Operations.{Operations}
use Rattle.drg_matrix.specs.Table.{Square, place}
use Rattle.drg_matrix.specs.Product.{product_at, product_fits_at, IsBefore}
use Rattle.drg_matrix.specs.Filling.{IsFilled}

-- what comes before the next place is the place or comes before it
before_next : (i j k l : ℕ) → IsBefore i j k (l + 1) → IsBefore i j k l ⊎ ((i ≡ k) × (j ≡ l))
before_next i j k l (inl h) = inl (inl h)
before_next i j k l (inr (e, h)) = elim (cases_lt j l) [
  | inl less ↦ inl (inr (e, less))
  | inr more ↦ inr (e, omega (arith, h, more))
]

-- what comes before the next row stands in the row or before it
before_row : (i j k n : ℕ) → j < n → IsBefore i j (k + 1) 0 → IsBefore i j k n
before_row i j k n h (inl g) = elim (cases_lt i k) [
  | inl less ↦ inl less
  | inr more ↦ inr (omega (arith, g, more), h)
]
before_row i j k n h (inr (e, g)) = absurd (omega (arith, g))

place_before : (n i j k l : ℕ) → j < n → IsBefore i j k l → place n i j < place n k l
place_before n i j k l h (inl g) =
    let rows = mul-le-mul_right n g in
    let next = suc-mul i n in
    omega (arith, rows, next, h)
place_before n i j k l h (inr (e, g)) = let rows = ap (λ (m : ℕ). m * n) e in omega (arith, rows, g)

module _ {A V : Type 0} (value : A → V) (operations : ℕ → Operations V) (root_of : A → ℕ) (s t : Square A) where
  abbrev Filled : ℕ → ℕ → List A → Type 0
  Filled k l cells = IsFilled value operations root_of s t k l cells

  abbrev nil : V
  nil = (operations s.root).nil

  abbrev root : ℕ
  root = s.root

  abbrev n : ℕ
  n = s.side

  abbrev fits : ℕ → ℕ → Bool
  fits = product_fits_at value operations s t

  abbrev f : ℕ → ℕ → V
  f = product_at value operations s t

  pub filled_none : (cells : List A) → cells ≡ [] → Filled 0 0 cells
  filled_none cells e = record {
    long = ap length e ∙ omega arith;
    roots = All-same (λ x. root_of x ≡ root) cells [] e (All-nil (λ x. root_of x ≡ root));
    fit = λ i j h b. absurd (none i j b);
    values = λ i j h b. absurd (none i j b);
  }
    where
      none : (i j : ℕ) → IsBefore i j 0 0 → ⊥
      none i j (inl h) = omega (arith, h)
      none i j (inr (e, h)) = omega (arith, h)

  pub filled_more : (k l : ℕ) (cells more : List A) (x : A) → more ≡ cells ++ x ∷ [] → Filled k l cells → root_of x ≡ root → fits k l ≡ true → value x ≡ f k l → Filled k (l + 1) more
  filled_more k l cells more x e h r fitting v = record {
    long = ap length e ∙ length_push cells x ∙ omega (arith, h.long);
    roots = All-same (λ y. root_of y ≡ root) more _ e (All-push (λ y. root_of y ≡ root) cells x h.roots r);
    fit = λ i j g b. fit i j g (before_next i j k l b);
    values = λ i j g b. ap (λ us. get_or us (place n i j) nil) (ap (map value) e ∙ map_push value cells x) ∙ at i j g (before_next i j k l b);
  }
    where
      fit : (i j : ℕ) → j < n → IsBefore i j k l ⊎ ((i ≡ k) × (j ≡ l)) → fits i j ≡ true
      fit i j g (inl b) = h.fit i j g b
      fit i j g (inr (p, q)) = ap₂ fits p q ∙ fitting

      at : (i j : ℕ) → j < n → IsBefore i j k l ⊎ ((i ≡ k) × (j ≡ l)) → get_or (map value cells ++ value x ∷ []) (place n i j) nil ≡ f i j
      at i j g (inl b) =
          let early = place_before n i j k l g b in
          get_or_append_left (map value cells) (value x ∷ []) nil (place n i j) (omega (arith, early, h.long, length-map cells value)) ∙ h.values i j g b
      at i j g (inr (p, q)) =
          get_or_push (map value cells) (value x) nil (place n i j) (length-map cells value ∙ h.long ∙ ap₂ (place n) (sym p) (sym q)) ∙ v ∙ ap₂ f (sym p) (sym q)

  pub filled_row : (k : ℕ) (cells : List A) → Filled k n cells → Filled (k + 1) 0 cells
  filled_row k cells h = record {
    long = let next = suc-mul k n in omega (arith, h.long, next);
    roots = h.roots;
    fit = λ i j g b. h.fit i j g (before_row i j k n g b);
    values = λ i j g b. h.values i j g (before_row i j k n g b);
  }
