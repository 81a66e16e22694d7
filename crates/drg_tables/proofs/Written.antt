-- The records of rows, one after another.
use Rattle.std.proofs.Common.{◌≡◌, ◌∙◌, ◌<◌, ◌+◌, ◌++◌, ◌∷◌, [], refl, sym, ap, arith, ℕ, List, length, append_assoc, get_or, take}
use Rattle.std.proofs.lemmas.List.{length-take-le, take_more}
use Rattle.drg_tables.specs.Output.{record_text, records_text}
use Rattle.drg_tables.specs.declared.row.Row.{Row}

append_none : (xs : List ℕ) → xs ++ [] ≡ xs
append_none [] = refl
append_none (x ∷ xs) = ap (λ l. x ∷ l) (append_none xs)

pub records_more : (rows : List Row) (each : List (List ℕ)) (row : Row) (words : List ℕ) → length each ≡ length rows
    → records_text (rows ++ row ∷ []) (each ++ words ∷ []) ≡ records_text rows each ++ record_text row words
records_more [] [] row words e = append_none (record_text row words)
records_more [] (w ∷ each) row words e = absurd (omega (arith, e))
records_more (r ∷ rows) [] row words e = absurd (omega (arith, e))
records_more (r ∷ rows) (w ∷ each) row words e =
    ap (λ l. record_text r w ++ l) (records_more rows each row words (omega (arith, e)))
    ∙ sym (append_assoc (record_text r w) (records_text rows each) (record_text row words))

pub records_next : (rows : List Row) (i : ℕ) (each : List (List ℕ)) (row : Row) (words : List ℕ) → i < length rows → length each ≡ i → row ≡ get_or rows i row
    → records_text (take (i + 1) rows) (each ++ words ∷ []) ≡ records_text (take i rows) each ++ record_text row words
records_next rows i each row words low count is =
    let long = length-take-le i rows (omega (arith, low)) in
    ap (λ l. records_text l (each ++ words ∷ [])) (take_more rows i row low ∙ ap (λ r. take i rows ++ r ∷ []) (sym is))
    ∙ records_more (take i rows) each row words (count ∙ sym long)
