-- What reads and writes of the flat list of cells mean for rows and columns.
use Rattle.std.proofs.Common.{◌≡◌, ℕ, zero, suc, ◌<◌, ◌≤◌, ◌+◌, ◌*◌, ◌-◌, List, length, refl, sym, ap, ◌∙◌, arith, map, get_or, set, take, drop, replicate, ap₂, subst, [], ◌∷◌, ◌++◌}
use Rattle.std.specs.Prelude.{All}
use Rattle.std.proofs.lemmas.List.{length-map, get_or-map, get_or-replicate, length-replicate, get_or-set_same, get_or-set_other, map-set, get_or-take, get_or-drop, length-take-le, length-drop, take-map, drop-map, drop_more, take_all}
use Rattle.std.proofs.Math.Nat.{add-mul}
use Rattle.std.proofs.lemmas.List.FromFn.{fill_by_all, length-map-range_with_len, get_or-map-range_with_len}
use Rattle.std.proofs.lemmas.Slice.{first_rest}
use Rattle.std.proofs.lemmas.Nat.{mul-add-lt, row_fits, same_from_place}
use Rattle.drg_fraction.specs.Operations.{Operations}
use Rattle.drg_matrix.specs.Laws.{CellsAreOver}
use Rattle.drg_matrix.specs.Table.{Square, cell, row_of, column_of, place}

-- ---- cells
module _ {A V : Type 0} (value : A → V) (nil : V) where
  -- a table of one value
  pub cell_of_filled : (n i j : ℕ) (x : A) → i < n → j < n → get_or (map value (replicate (n * n) x)) (place n i j) nil ≡ value x
  cell_of_filled n i j x h k =
      let within : place n i j < n * n = mul-add-lt i n j n h k in
      let long = length-replicate (n * n) x in
      get_or-map value (replicate (n * n) x) (place n i j) x nil (omega arith) ∙ ap value (get_or-replicate (n * n) (place n i j) x x within)

  -- a write at one place
  pub cell_changed : (n i j : ℕ) (xs : List A) (x : A) → length xs ≡ n * n → i < n → j < n → get_or (map value (set xs (place n i j) x)) (place n i j) nil ≡ value x
  cell_changed n i j xs x long h k =
      let within : place n i j < n * n = mul-add-lt i n j n h k in
      let same = length-map xs value in
      ap (λ ys. get_or ys (place n i j) nil) (map-set value xs (place n i j) x) ∙ get_or-set_same (map value xs) (place n i j) (value x) nil (omega arith)

  pub cell_kept : (n i j k l : ℕ) (xs : List A) (x : A) → j < n → l < n → ¬ ((i ≡ k) × (j ≡ l))
      → get_or (map value (set xs (place n k l) x)) (place n i j) nil ≡ get_or (map value xs) (place n i j) nil
  cell_kept n i j k l xs x h g apart =
      ap (λ ys. get_or ys (place n i j) nil) (map-set value xs (place n k l) x)
      ∙ get_or-set_other (map value xs) (place n k l) (place n i j) (value x) nil (λ e. apart (same_from_place i j k l n h g e))

module _ {A V : Type 0} (value : A → V) (operations : ℕ → Operations V) where
  -- a row is a part of the list
  pub row_values : (t : Square A) (k from to : ℕ) → length t.cells ≡ t.side * t.side → k < t.side → from ≡ k * t.side → to ≡ (k + 1) * t.side
      → map value (take (to - from) (drop from t.cells)) ≡ row_of value operations t k
  row_values t k from to long h e f = fill_by_all (cell value operations t k) (map value (take (to - from) (drop from t.cells))) t.side (operations t.root).nil (length-map _ value ∙ taken) at
    where
      wide : to - from ≡ t.side
      wide = let next = add-mul k 1 t.side in omega (arith, e, f, next)

      fits : to ≤ length t.cells
      fits = let within = row_fits k t.side t.side t.side h (omega arith) in let next = add-mul k 1 t.side in omega (arith, f, long, within, next)

      taken : length (take (to - from) (drop from t.cells)) ≡ t.side
      taken = length-take-le (to - from) (drop from t.cells) (omega (arith, length-drop from t.cells, fits)) ∙ wide

      at : (j : ℕ) → j < t.side → get_or (map value (take (to - from) (drop from t.cells))) j (operations t.root).nil ≡ cell value operations t k j
      at j g =
          let inside : j < to - from = omega (arith, wide) in
          ap (λ ys. get_or ys j (operations t.root).nil) (sym (take-map value (to - from) (drop from t.cells)) ∙ ap (take (to - from)) (sym (drop-map value from t.cells)))
          ∙ get_or-take (to - from) (drop from (map value t.cells)) j (operations t.root).nil inside
          ∙ get_or-drop from (map value t.cells) j (operations t.root).nil
          ∙ ap (λ (m : ℕ). get_or (map value t.cells) (m + j) (operations t.root).nil) e

  -- what holds of a row as a list holds of its cells
  module _ (t : Square A) (i : ℕ) (xs : List A) (values : map value xs ≡ row_of value operations t i) (long : length xs ≡ t.side) where
    item : (j : ℕ) → j < t.side → get_or (map value xs) j (operations t.root).nil ≡ cell value operations t i j
    item j h = ap (λ us. get_or us j (operations t.root).nil) values ∙ get_or-map-range_with_len (cell value operations t i) 0 t.side j j (operations t.root).nil h (omega arith)

    pub row_to_cells : (f : ℕ → V) → ((j : ℕ) → j < length xs → get_or (map value xs) j (operations t.root).nil ≡ f j) → (j : ℕ) → j < t.side → cell value operations t i j ≡ f j
    row_to_cells f all j h = sym (item j h) ∙ all j (omega (arith, h, long))

    pub cells_to_row : (f : ℕ → V) → ((j : ℕ) → j < t.side → cell value operations t i j ≡ f j) → (j : ℕ) → j < length xs → get_or (map value xs) j (operations t.root).nil ≡ f j
    cells_to_row f all j h = let inside : j < t.side = omega (arith, h, long) in item j inside ∙ all j inside

  -- a value of a table is that of a member with the root of the table
  pub cells_are_over : (root_of : A → ℕ) → ((x : A) → (operations (root_of x)).IsOver (value x)) → CellsAreOver value operations root_of
  cells_are_over root_of over t is i j h k = at t.cells is.roots (omega (arith, is.full, mul-add-lt i t.side j t.side h k))
    where
      at : (xs : List A) → All (λ x. root_of x ≡ t.root) xs → place t.side i j < length xs → (operations t.root).IsOver (get_or (map value xs) (place t.side i j) (operations t.root).nil)
      at [] roots less = absurd (omega arith)
      at (x ∷ xs) roots less =
          subst (λ v. (operations t.root).IsOver v) (sym (get_or-map value (x ∷ xs) (place t.side i j) x (operations t.root).nil less))
          (subst (λ r. (operations r).IsOver (value (get_or (x ∷ xs) (place t.side i j) x))) (roots (place t.side i j) x less) (over (get_or (x ∷ xs) (place t.side i j) x)))

  -- a column from a place on is the cell of the place and what follows
  pub column_from : (t : Square A) (j at : ℕ) → at < t.side → drop at (column_of value operations t j) ≡ cell value operations t at j ∷ drop (at + 1) (column_of value operations t j)
  column_from t j at h =
      let f = λ (i : ℕ). cell value operations t i j in
      let long = length-map-range_with_len f 0 t.side in
      drop_more (column_of value operations t j) at (operations t.root).nil (omega (arith, long, h))
      ∙ ap (λ x. x ∷ drop (at + 1) (column_of value operations t j)) (get_or-map-range_with_len f 0 t.side at at (operations t.root).nil h (omega arith))

-- the first item and the rest
pub split_first : {A : Type 0} (xs : List A) (x : A) → 1 ≤ length xs → x ≡ get_or xs 0 x → xs ≡ x ∷ take (length xs - 1) (drop 1 xs)
split_first xs x h e = first_rest xs x (omega (arith, h)) ∙ ap (λ y. y ∷ take (length xs - 1) (drop 1 xs)) (sym e)

-- what fills an empty list
pub filled : {A : Type 0} (n m : ℕ) (xs : List A) (x : A) → xs ≡ [] → m ≡ 0 → take n xs ++ replicate (n - m) x ≡ replicate n x
filled n m xs x e f = ap₂ (λ us k. take n us ++ replicate (n - k) x) e f ∙ ap₂ (λ us k. us ++ replicate k x) (take_all n [] (omega arith)) (omega arith)
