-- What is found among the rows, when defaults are added.
use Rattle.std.proofs.Common.{◌≡◌, ◌∙◌, ◌||◌, Bool, cond, true, false, refl, [], ◌∷◌, ◌++◌, map, List, ℕ, codes, Some, None, Option, ap, sym, suc, true≢false}
use Rattle.std.specs.Prelude.{fold, is_some}
use Rattle.std.specs.Option.{option_or}
use Rattle.std.specs.List.{find}
use Rattle.std.specs.Str.{bytes_eq}
use Rattle.std.proofs.lemmas.Bool.{or_parts}
use Rattle.std.proofs.lemmas.List.Folds.{find-append}
use Rattle.std.proofs.lemmas.List.Sums.{fold-append}
use Rattle.std.proofs.lemmas.Slice.Eq.{bytes_eq-Decides}
use Rattle.clap.specs.Walk.{Row, Text, has_row, more_values, with_default}
use Rattle.clap.specs.declared.parser.matches.ValueSource.TheVariants.{DefaultValue}
use Rattle.drg_words.specs.Grammar.{Grammar, has_name}
use Rattle.drg_words.proofs.Rows.{at_row_new, default_row}
use Rattle.drg_words.proofs.Rules.{flag_full, numbered, option_full, rules, word_full}

abbrev pub row_at : Text → List Row → Option Row
row_at id rows = find (λ (r : Row). bytes_eq r.id id) rows

pub has_row_is : (id : Text) (rows : List Row) → has_row id rows ≡ is_some (row_at id rows)
has_row_is id [] = refl
has_row_is id (r ∷ rs) = go (bytes_eq r.id id) (has_row_is id rs)
  where
    go : (b : Bool) → has_row id rs ≡ is_some (row_at id rs) → (b || has_row id rs) ≡ is_some (cond b (Some r) (row_at id rs))
    go true e = refl
    go false e = e

row_append : (id : Text) (rows : List Row) (r : Row) → row_at id (rows ++ r ∷ []) ≡ option_or (row_at id rows) (cond (bytes_eq r.id id) (Some r) None)
row_append id rows r = find-append (λ (x : Row). bytes_eq x.id id) rows (r ∷ [])

row_kept : (id : Text) (rows : List Row) (r : Row) → has_row id rows ≡ true → row_at id (rows ++ r ∷ []) ≡ row_at id rows
row_kept id rows r h = row_append id rows r ∙ go (row_at id rows) (cond (bytes_eq r.id id) (Some r) None) (sym (has_row_is id rows) ∙ h)
  where
    go : (o last : Option Row) → is_some o ≡ true → option_or o last ≡ o
    go None last e = absurd (true≢false (sym e))
    go (Some x) last e = refl

row_other : (id : Text) (rows : List Row) (r : Row) → bytes_eq r.id id ≡ false → row_at id (rows ++ r ∷ []) ≡ row_at id rows
row_other id rows r h = row_append id rows r ∙ ap (λ b. option_or (row_at id rows) (cond b (Some r) None)) h ∙ go (row_at id rows)
  where
    go : (o : Option Row) → option_or o None ≡ o
    go None = refl
    go (Some x) = refl

row_new : (id : Text) (rows : List Row) (r : Row) → has_row id rows ≡ false → bytes_eq r.id id ≡ true → row_at id (rows ++ r ∷ []) ≡ Some r
row_new id rows r h e = row_append id rows r ∙ go (row_at id rows) (sym (has_row_is id rows) ∙ h) ∙ ap (λ b. cond b (Some r) None) e
  where
    go : (o : Option Row) → is_some o ≡ false → option_or o (cond (bytes_eq r.id id) (Some r) None) ≡ cond (bytes_eq r.id id) (Some r) None
    go None e = refl
    go (Some x) e = absurd (true≢false e)

same_either : (b : Bool) (rows : List Row) → cond b rows rows ≡ rows
same_either true rows = refl
same_either false rows = refl

same_options : (xs : List Text) (rows : List Row) → fold with_default rows (map option_full xs) ≡ rows
same_options [] rows = refl
same_options (x ∷ xs) rows = same_options xs (with_default rows (option_full x)) ∙ same_either (has_row x rows) rows

same_words : (i : ℕ) (xs : List Text) (rows : List Row) → fold with_default rows (numbered i xs) ≡ rows
same_words i [] rows = refl
same_words i (x ∷ xs) rows = same_words (suc i) xs (with_default rows (word_full i x)) ∙ same_either (has_row x rows) rows

-- only flags have defaults
pub finished_is : (g : Grammar) (rows : List Row) → fold with_default rows (rules g) ≡ fold with_default rows (map flag_full g.flags)
finished_is g rows =
    fold-append with_default rows (map option_full g.options) (map flag_full g.flags ++ numbered 1 g.words)
    ∙ ap (λ rs. fold with_default rs (map flag_full g.flags ++ numbered 1 g.words)) (same_options g.options rows)
    ∙ fold-append with_default rows (map flag_full g.flags) (numbered 1 g.words) ∙ same_words 1 g.words (fold with_default rows (map flag_full g.flags))

new_default : (x : Text) (rows : List Row) → has_row x rows ≡ false → with_default rows (flag_full x) ≡ rows ++ default_row x ∷ []
new_default x rows e = rw e (at_row_new x (more_values DefaultValue (codes "false" ∷ [])) (default_row x ∷ []) rows e)

old_default : (x : Text) (rows : List Row) → has_row x rows ≡ true → with_default rows (flag_full x) ≡ rows
old_default x rows e = rw e refl

-- what is no flag is found as before
pub find_other : (id : Text) (xs : List Text) (rows : List Row) → has_name xs id ≡ false → row_at id (fold with_default rows (map flag_full xs)) ≡ row_at id rows
find_other id [] rows h = refl
find_other id (x ∷ xs) rows h = find_other id xs (with_default rows (flag_full x)) (or_parts (bytes_eq x id) (has_name xs id) h).1 ∙ one (has_row x rows) refl
  where
    one : (b : Bool) → has_row x rows ≡ b → row_at id (with_default rows (flag_full x)) ≡ row_at id rows
    one true e = ap (row_at id) (old_default x rows e)
    one false e = ap (row_at id) (new_default x rows e) ∙ row_other id rows (default_row x) (or_parts (bytes_eq x id) (has_name xs id) h).0

-- a flag that was used keeps its row
pub find_kept : (id : Text) (xs : List Text) (rows : List Row) → has_row id rows ≡ true → row_at id (fold with_default rows (map flag_full xs)) ≡ row_at id rows
find_kept id [] rows h = refl
find_kept id (x ∷ xs) rows h = find_kept id xs (with_default rows (flag_full x)) (has_row_is id (with_default rows (flag_full x)) ∙ ap is_some same ∙ sym (has_row_is id rows) ∙ h) ∙ same
  where
    one : (b : Bool) → has_row x rows ≡ b → row_at id (with_default rows (flag_full x)) ≡ row_at id rows
    one true e = ap (row_at id) (old_default x rows e)
    one false e = ap (row_at id) (new_default x rows e) ∙ row_kept id rows (default_row x) h

    same : row_at id (with_default rows (flag_full x)) ≡ row_at id rows
    same = one (has_row x rows) refl

-- one that wasn't has its default
pub find_default : (id : Text) (xs : List Text) (rows : List Row) → has_row id rows ≡ false → has_name xs id ≡ true → row_at id (fold with_default rows (map flag_full xs)) ≡ Some (default_row id)
find_default id [] rows h t = absurd (true≢false (sym t))
find_default id (x ∷ xs) rows h t = by (bytes_eq x id) refl (find_default id xs (with_default rows (flag_full x)))
  where
    other : bytes_eq x id ≡ false → (b : Bool) → has_row x rows ≡ b → row_at id (with_default rows (flag_full x)) ≡ row_at id rows
    other d true e = ap (row_at id) (old_default x rows e)
    other d false e = ap (row_at id) (new_default x rows e) ∙ row_other id rows (default_row x) d

    by : (b : Bool) → bytes_eq x id ≡ b → (has_row id (with_default rows (flag_full x)) ≡ false → has_name xs id ≡ true → row_at id (fold with_default (with_default rows (flag_full x)) (map flag_full xs)) ≡ Some (default_row id))
        → row_at id (fold with_default (with_default rows (flag_full x)) (map flag_full xs)) ≡ Some (default_row id)
    by true e rest =
        let same = (bytes_eq-Decides x id).0 e in
        let there : row_at id (with_default rows (flag_full x)) ≡ Some (default_row x) = ap (row_at id) (new_default x rows (ap (λ y. has_row y rows) same ∙ h)) ∙ row_new id rows (default_row x) h e in
        find_kept id xs (with_default rows (flag_full x)) (has_row_is id (with_default rows (flag_full x)) ∙ ap is_some there) ∙ there ∙ ap (λ y. Some (default_row y)) same
    by false e rest =
        rest (has_row_is id (with_default rows (flag_full x)) ∙ ap is_some (other e (has_row x rows) refl) ∙ sym (has_row_is id rows) ∙ h) (sym (ap (λ b. b || has_name xs id) e) ∙ t)
