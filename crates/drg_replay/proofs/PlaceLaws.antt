-- Steps for places one after the other, as a function takes them.
use Rattle.std.proofs.Common.{◌≡◌, ℕ, zero, suc, ◌-◌, ◌+◌, List, [], ◌∷◌, length, Ok, Err, refl, sym, arith, map}
use Rattle.std.specs.Prelude.{ℤ, ◌≢◌}
use Rattle.std.specs.List.{range_with_len}
use Rattle.drg_array.specs.Entries.{Entries}
use Rattle.drg_quadratic.specs.Values.{Value, plus, minus}
use Rattle.drg_quadratic.specs.Work.{difference_fits, sign_fits}
use Rattle.drg_replay.specs.Known.{FrameContent}
use Rattle.drg_replay.specs.FieldNumbers.{sign_at, is_greater}
use Rattle.drg_replay.specs.declared.refusal.Refusal.{Refusal}
use Rattle.drg_replay.specs.Steps.{Holds, Fits, first_failure}
use Rattle.drg_replay.specs.Frames.{theta_at, descent_steps, recurrence_steps, recurrences_from, cell_steps, cells_from, product_rows}
use Rattle.drg_replay.proofs.StepLaws.{fails_first, passes_first}

module _ (a : Entries) (root : ℕ) (theta : Value) (numbers : List ℤ) (j : ℕ) where
  pub recurrences_end : (left : ℕ) → left ≡ 0 → first_failure (recurrences_from a root theta numbers j left) ≡ Ok tt
  unfolding recurrences_from
  recurrences_end zero e = refl
  recurrences_end (suc n) e = absurd (omega arith)

  pub recurrences_fail : (left : ℕ) (r : Refusal) → left ≢ 0 → first_failure (recurrence_steps a root theta numbers j) ≡ Err r → first_failure (recurrences_from a root theta numbers j left) ≡ Err r
  unfolding recurrences_from
  recurrences_fail zero r e h = absurd (e refl)
  recurrences_fail (suc n) r e h = fails_first (recurrence_steps a root theta numbers j) (recurrences_from a root theta numbers (suc j) n) r h

  pub recurrences_next : (left : ℕ) → left ≢ 0 → first_failure (recurrence_steps a root theta numbers j) ≡ Ok tt
      → first_failure (recurrences_from a root theta numbers j left) ≡ first_failure (recurrences_from a root theta numbers (j + 1) (left - 1))
  unfolding recurrences_from
  recurrences_next zero e h = absurd (e refl)
  recurrences_next (suc n) e h =
      let place : suc j ≡ j + 1 = omega arith in
      let count : suc n - 1 ≡ n = omega arith in
      rw (count, sym place) (passes_first (recurrence_steps a root theta numbers j) (recurrences_from a root theta numbers (suc j) n) h)

module _ (root : ℕ) (rows : List (List ℤ)) (side : ℕ) (n : ℤ) (row : List ℤ) (i : ℕ) where
  pub cells_end : (j left : ℕ) → left ≡ 0 → first_failure (cells_from root rows side n row i j left) ≡ Ok tt
  unfolding cells_from
  cells_end j zero e = refl
  cells_end j (suc m) e = absurd (omega arith)

  pub cells_fail : (j left : ℕ) (r : Refusal) → left ≢ 0 → first_failure (cell_steps root rows side n row i j) ≡ Err r → first_failure (cells_from root rows side n row i j left) ≡ Err r
  unfolding cells_from
  cells_fail j zero r e h = absurd (e refl)
  cells_fail j (suc m) r e h = fails_first (cell_steps root rows side n row i j) (cells_from root rows side n row i (suc j) m) r h

  pub cells_next : (j left : ℕ) → left ≢ 0 → first_failure (cell_steps root rows side n row i j) ≡ Ok tt
      → first_failure (cells_from root rows side n row i j left) ≡ first_failure (cells_from root rows side n row i (j + 1) (left - 1))
  unfolding cells_from
  cells_next j zero e h = absurd (e refl)
  cells_next j (suc m) e h =
      let place : suc j ≡ j + 1 = omega arith in
      let count : suc m - 1 ≡ m = omega arith in
      rw (count, sym place) (passes_first (cell_steps root rows side n row i j) (cells_from root rows side n row i (suc j) m) h)

  pub rows_fail : (rest : List (List ℤ)) (r : Refusal) → first_failure (cells_from root rows side n row i 0 side) ≡ Err r → first_failure (product_rows root rows side n i (row ∷ rest)) ≡ Err r
  unfolding product_rows
  rows_fail rest r h = fails_first (cells_from root rows side n row i 0 side) (product_rows root rows side n (suc i) rest) r h

  pub rows_next : (rest : List (List ℤ)) → first_failure (cells_from root rows side n row i 0 side) ≡ Ok tt
      → first_failure (product_rows root rows side n i (row ∷ rest)) ≡ first_failure (product_rows root rows side n (i + 1) rest)
  unfolding product_rows
  rows_next rest h =
      let place : suc i ≡ i + 1 = omega arith in
      rw (sym place) (passes_first (cells_from root rows side n row i 0 side) (product_rows root rows side n (suc i) rest) h)

pub rows_end : (root : ℕ) (rows : List (List ℤ)) (side : ℕ) (n : ℤ) (i : ℕ) (rest : List (List ℤ)) → length rest ≡ 0 → first_failure (product_rows root rows side n i rest) ≡ Ok tt
unfolding product_rows
rows_end root rows side n i [] e = refl
rows_end root rows side n i (row ∷ rest) e = absurd (omega arith)

-- values of places one after the other
pub places_end : (f : ℕ → Value) (l left : ℕ) → left ≡ 0 → map f (range_with_len l left) ≡ []
places_end f l zero e = refl
places_end f l (suc n) e = absurd (omega arith)

pub places_next : (f : ℕ → Value) (l left : ℕ) → left ≢ 0 → map f (range_with_len l left) ≡ f l ∷ map f (range_with_len (l + 1) (left - 1))
places_next f l zero e = absurd (e refl)
places_next f l (suc n) e = let count : suc n - 1 ≡ n = omega arith in rw count refl

-- the eigenvalue before the one in hand
pub descent_at : (f : FrameContent) (n : ℕ) (x : Value) → n ≢ 0
    → descent_steps f n x
    ≡ Fits (difference_fits (theta_at f (n - 1)) x) ∷ Fits (sign_fits f.root (plus (theta_at f (n - 1)) (minus x))) ∷ Holds (is_greater (sign_at f.root (plus (theta_at f (n - 1)) (minus x)))) ∷ []
descent_at f zero x e = absurd (e refl)
descent_at f (suc m) x e = let before : suc m - 1 ≡ m = omega arith in rw before refl

pub descent_first : (f : FrameContent) (n : ℕ) (x : Value) → n ≡ 0 → first_failure (descent_steps f n x) ≡ Ok tt
descent_first f zero x e = refl
descent_first f (suc m) x e = absurd (omega arith)
