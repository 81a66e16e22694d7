-- Steps for the rows of Q one after the other, as the check of a `krein` line takes them.
use Rattle.std.proofs.Common.{◌≡◌, ℕ, ◌+◌, ◌-◌, List, [], ◌∷◌, length, Ok, Err, refl, ap, ap₂, ◌∙◌, arith}
use Rattle.std.specs.Prelude.{ℤ, ◌≢◌, ◌&&◌, fold}
use Rattle.drg_fraction.specs.Operations.{Operations}
use Rattle.drg_fraction.specs.Field.{products, dot_of, dot_fits, dot_fits_from}
use Rattle.drg_quadratic.specs.Values.{Value, plus, times}
use Rattle.drg_quadratic.specs.Work.{product_fits}
use Rattle.drg_quadratic.specs.Operations.{value_operations}
use Rattle.drg_replay.specs.declared.refusal.Refusal.{Refusal}
use Rattle.drg_replay.specs.Steps.{first_failure}
use Rattle.drg_replay.specs.FieldNumbers.{value_at}
use Rattle.drg_replay.specs.Frames.{row_values}
use Rattle.drg_replay.specs.KreinLines.{parameter_steps, parameter_rows}
use Rattle.drg_replay.proofs.StepLaws.{fails_first, passes_first}
use Rattle.drg_replay.proofs.PlaceLaws.{places_next}

-- the values of d + 1 places are the first one and those of d more
values_first : (root d : ℕ) (row : List ℤ) → row_values root row 0 (d + 1) ≡ value_at root row 0 ∷ row_values root row 1 d
values_first root d row =
    let some : d + 1 ≢ 0 = λ e. omega (arith, e) in
    let left : d + 1 - 1 ≡ d = omega arith in
    places_next (value_at root row) 0 (d + 1) some ∙ ap (λ (n : ℕ). value_at root row 0 ∷ row_values root row 1 n) left

module _ (root d : ℕ) (xs qs : List ℤ) where
  abbrev o : Operations Value
  o = value_operations root

  pub products_fit : dot_fits o (row_values root xs 0 (d + 1)) (row_values root qs 0 (d + 1))
      ≡ (product_fits root (value_at root xs 0) (value_at root qs 0)
      && dot_fits_from o (times root (value_at root xs 0) (value_at root qs 0)) (row_values root xs 1 d) (row_values root qs 1 d))
  products_fit = ap₂ (dot_fits o) (values_first root d xs) (values_first root d qs)

  pub products_sum : dot_of o (row_values root xs 0 (d + 1)) (row_values root qs 0 (d + 1))
      ≡ fold plus (times root (value_at root xs 0) (value_at root qs 0)) (products o (row_values root xs 1 d) (row_values root qs 1 d))
  products_sum = ap₂ (dot_of o) (values_first root d xs) (values_first root d qs)

module _ (root side : ℕ) (numbers : List ℤ) (i j : ℕ) where
  pub rows_end : (rest : List (List ℤ)) → length rest ≡ 0 → first_failure (parameter_rows root side numbers i j rest) ≡ Ok tt
  unfolding parameter_rows
  rows_end [] e = refl
  rows_end (row ∷ rest) e = absurd (omega arith)

  pub rows_fail : (row : List ℤ) (rest : List (List ℤ)) (r : Refusal) → first_failure (parameter_steps root side numbers i j row) ≡ Err r → first_failure (parameter_rows root side numbers i j (row ∷ rest)) ≡ Err r
  unfolding parameter_rows
  rows_fail row rest r h = fails_first (parameter_steps root side numbers i j row) (parameter_rows root side numbers i j rest) r h

  pub rows_next : (row : List ℤ) (rest : List (List ℤ)) → first_failure (parameter_steps root side numbers i j row) ≡ Ok tt
      → first_failure (parameter_rows root side numbers i j (row ∷ rest)) ≡ first_failure (parameter_rows root side numbers i j rest)
  unfolding parameter_rows
  rows_next row rest h = passes_first (parameter_steps root side numbers i j row) (parameter_rows root side numbers i j rest) h
