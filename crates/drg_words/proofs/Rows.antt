-- What the rows of a command hold, and what is looked at when its words end.
use Rattle.std.proofs.Common.{◌≡◌, ◌∙◌, ◌&&◌, ◌||◌, Bool, cond, not, true, false, refl, [], ◌∷◌, ◌++◌, map, List, ℕ, codes, Some, None, Option, ap, ap₂, sym, suc, true≢false}
use Rattle.std.specs.Prelude.{fold}
use Rattle.std.specs.Option.{option_map_or, option_or}
use Rattle.std.specs.List.{find, list_any}
use Rattle.std.specs.Str.{bytes_eq}
use Rattle.std.proofs.lemmas.Bool.{or_parts, or_right}
use Rattle.std.proofs.lemmas.List.Folds.{find-append, list_any-append}
use Rattle.std.proofs.lemmas.List.Sums.{fold-append}
use Rattle.clap.specs.Facts.{explicit_source}
use Rattle.clap.specs.Walk.{Row, Rule, Text, at_row, has_row, more_values, with_default, without}
use Rattle.clap.specs.declared.parser.matches.ValueSource.TheVariants.{DefaultValue}
use Rattle.clap.specs.declared.builder.value_parser.Reading.TheVariants.{AsWritten}
use Rattle.clap.specs.Kinds.{Kinds, or_else}
use Rattle.clap.specs.Takes.{is_given}
use Rattle.clap.specs.Faults.{default_fault, defaults_fault}
use Rattle.clap.proofs.OnLiterals.{clap_on_literals}
use Rattle.drg_words.specs.Grammar.{Grammar, has_name}
use Rattle.drg_words.proofs.Rules.{flag_full, numbered, option_full, rules, word_full}

-- ---- defaults fail nowhere

quiet : (b : Bool) (k : Kinds) → k ≡ [] → cond b [] k ≡ []
quiet true k e = refl
quiet false k e = e

quiet_at_once : (b : Bool) (k : Kinds) → cond (b || true) [] k ≡ []
quiet_at_once true k = refl
quiet_at_once false k = refl

quiet_option : (x : Text) (rows : List Row) → default_fault rows (option_full x) ≡ []
quiet_option x rows = quiet_at_once (has_row x rows) _

quiet_word : (i : ℕ) (x : Text) (rows : List Row) → default_fault rows (word_full i x) ≡ []
quiet_word i x rows = quiet_at_once (has_row x rows) _

quiet_flag : (x : Text) (rows : List Row) → default_fault rows (flag_full x) ≡ []
unfolding clap_on_literals
quiet_flag x rows = quiet (has_row x rows || false) _ refl

quiet_words : (i : ℕ) (ns : List Text) (rows : List Row) → defaults_fault rows (numbered i ns) ≡ []
unfolding defaults_fault
quiet_words i [] rows = refl
quiet_words i (x ∷ xs) rows = ap₂ or_else (quiet_word i x rows) (quiet_words (suc i) xs (with_default rows (word_full i x)))

quiet_more : (f : Text → Rule) → ((x : Text) (rows : List Row) → default_fault rows (f x) ≡ []) → (rest : List Rule) → ((rows : List Row) → defaults_fault rows rest ≡ [])
    → (xs : List Text) (rows : List Row) → defaults_fault rows (map f xs ++ rest) ≡ []
unfolding defaults_fault
quiet_more f h rest r [] rows = r rows
quiet_more f h rest r (x ∷ xs) rows = ap₂ or_else (h x rows) (quiet_more f h rest r xs (with_default rows (f x)))

pub defaults_quiet : (g : Grammar) (rows : List Row) → defaults_fault rows (rules g) ≡ []
defaults_quiet g rows = quiet_more option_full quiet_option _ (quiet_more flag_full quiet_flag _ (quiet_words 1 g.words) g.flags) g.options rows

-- ---- rows that are added

pub at_row_new : (id : Text) (change : Row → List Row) (missing rows : List Row) → has_row id rows ≡ false → at_row id change missing rows ≡ rows ++ missing
at_row_new id change missing [] h = refl
at_row_new id change missing (r ∷ rs) h =
    let parts = or_parts (bytes_eq r.id id) (has_row id rs) h in
    rw parts.0 (ap (λ more. r ∷ more) (at_row_new id change missing rs parts.1))

append_none : (rows : List Row) → rows ++ [] ≡ rows
append_none [] = refl
append_none (r ∷ rs) = ap (λ more. r ∷ more) (append_none rs)

-- a use of an id that has no row adds one
pub used_new : (id : Text) (change : Row → List Row) (missing rows : List Row) → has_row id rows ≡ false → at_row id change missing (without id rows) ≡ rows ++ missing
used_new id change missing rows h =
    let same : without id rows ≡ rows = at_row_new id (λ _. []) [] rows h ∙ append_none rows in
    ap (at_row id change missing) same ∙ at_row_new id change missing rows h

pub has_row_more : (id : Text) (rows : List Row) (r : Row) → has_row id (rows ++ r ∷ []) ≡ (has_row id rows || (bytes_eq r.id id || false))
has_row_more id rows r = list_any-append (λ (x : Row). bytes_eq x.id id) rows (r ∷ [])

no_find : (id : Text) (rows : List Row) → has_row id rows ≡ false → find (λ (r : Row). bytes_eq r.id id) rows ≡ None
no_find id [] h = refl
no_find id (r ∷ rs) h =
    let parts = or_parts (bytes_eq r.id id) (has_row id rs) h in
    rw parts.0 (no_find id rs parts.1)

abbrev is_explicit_row : Option Row → Bool
is_explicit_row o = option_map_or (λ (r : Row). explicit_source r.source) o false

pub not_given : (id : Text) (rows : List Row) → has_row id rows ≡ false → is_given id rows ≡ false
not_given id rows h = ap is_explicit_row (no_find id rows h)

given_append : (id : Text) (rows : List Row) (r : Row) → is_given id (rows ++ r ∷ []) ≡ is_explicit_row (option_or (find (λ (x : Row). bytes_eq x.id id) rows) (cond (bytes_eq r.id id) (Some r) None))
given_append id rows r = ap is_explicit_row (find-append (λ (x : Row). bytes_eq x.id id) rows (r ∷ []))

pub given_other : (id : Text) (rows : List Row) (r : Row) → bytes_eq r.id id ≡ false → is_given id (rows ++ r ∷ []) ≡ is_given id rows
given_other id rows r h =
    given_append id rows r ∙ ap (λ b. is_explicit_row (option_or (find (λ (x : Row). bytes_eq x.id id) rows) (cond b (Some r) None))) h ∙ go (find (λ (x : Row). bytes_eq x.id id) rows)
  where
    go : (o : Option Row) → is_explicit_row (option_or o None) ≡ is_explicit_row o
    go None = refl
    go (Some x) = refl

pub given_kept : (id : Text) (rows : List Row) (r : Row) → is_given id rows ≡ true → is_given id (rows ++ r ∷ []) ≡ true
given_kept id rows r h = given_append id rows r ∙ go (find (λ (x : Row). bytes_eq x.id id) rows) (cond (bytes_eq r.id id) (Some r) None) h
  where
    go : (o last : Option Row) → is_explicit_row o ≡ true → is_explicit_row (option_or o last) ≡ true
    go None last e = absurd (true≢false (sym e))
    go (Some x) last e = e

pub given_new : (id : Text) (rows : List Row) (r : Row) → has_row id rows ≡ false → bytes_eq r.id id ≡ true → explicit_source r.source ≡ true → is_given id (rows ++ r ∷ []) ≡ true
given_new id rows r h e s =
    given_append id rows r ∙ ap₂ (λ o b. is_explicit_row (option_or o (cond b (Some r) None))) (no_find id rows h) e ∙ s

-- ---- defaults give no positional word

default_option : (id x : Text) (rows : List Row) → is_given id (with_default rows (option_full x)) ≡ is_given id rows
default_option id x rows = go (has_row x rows)
  where
    go : (b : Bool) → is_given id (cond b rows rows) ≡ is_given id rows
    go true = refl
    go false = refl

default_word : (id : Text) (i : ℕ) (x : Text) (rows : List Row) → is_given id (with_default rows (word_full i x)) ≡ is_given id rows
default_word id i x rows = go (has_row x rows)
  where
    go : (b : Bool) → is_given id (cond b rows rows) ≡ is_given id rows
    go true = refl
    go false = refl

abbrev pub default_row : Text → Row
default_row x = record { id = x; values = codes "false" ∷ []; count = None; source = Some DefaultValue; reading = AsWritten }

default_flag : (id x : Text) (rows : List Row) → bytes_eq x id ≡ false → is_given id (with_default rows (flag_full x)) ≡ is_given id rows
default_flag id x rows apart = go (has_row x rows) refl
  where
    go : (b : Bool) → has_row x rows ≡ b → is_given id (with_default rows (flag_full x)) ≡ is_given id rows
    go true e = rw e refl
    go false e = rw e (ap (is_given id) (at_row_new x (more_values DefaultValue (codes "false" ∷ [])) (default_row x ∷ []) rows e) ∙ given_other id rows (default_row x) apart)

over_options : (id : Text) (xs : List Text) (rows : List Row) → is_given id (fold with_default rows (map option_full xs)) ≡ is_given id rows
over_options id [] rows = refl
over_options id (x ∷ xs) rows = over_options id xs (with_default rows (option_full x)) ∙ default_option id x rows

over_words : (id : Text) (i : ℕ) (xs : List Text) (rows : List Row) → is_given id (fold with_default rows (numbered i xs)) ≡ is_given id rows
over_words id i [] rows = refl
over_words id i (x ∷ xs) rows = over_words id (suc i) xs (with_default rows (word_full i x)) ∙ default_word id i x rows

over_flags : (id : Text) (xs : List Text) (rows : List Row) → has_name xs id ≡ false → is_given id (fold with_default rows (map flag_full xs)) ≡ is_given id rows
over_flags id [] rows h = refl
over_flags id (x ∷ xs) rows h =
    let parts = or_parts (bytes_eq x id) (has_name xs id) h in
    over_flags id xs (with_default rows (flag_full x)) parts.1 ∙ default_flag id x rows parts.0

pub given_finished : (g : Grammar) (id : Text) (rows : List Row) → has_name g.flags id ≡ false → is_given id (fold with_default rows (rules g)) ≡ is_given id rows
given_finished g id rows h =
    let a = fold with_default rows (map option_full g.options) in
    let b = fold with_default a (map flag_full g.flags) in
    ap (is_given id) (fold-append with_default rows (map option_full g.options) (map flag_full g.flags ++ numbered 1 g.words))
    ∙ ap (is_given id) (fold-append with_default a (map flag_full g.flags) (numbered 1 g.words))
    ∙ over_words id 1 g.words b ∙ over_flags id g.flags a h ∙ over_options id g.options rows

-- ---- what is required

abbrev pub lacks : List Row → Rule → Bool
lacks rows a = a.required && not (is_given a.id rows)

none_lacks : (f : Text → Rule) (rows : List Row) → ((x : Text) → lacks rows (f x) ≡ false) → (xs : List Text) → list_any (lacks rows) (map f xs) ≡ false
none_lacks f rows h [] = refl
none_lacks f rows h (x ∷ xs) = rw (h x) (none_lacks f rows h xs)

words_lack : (rows : List Row) (i : ℕ) (ns : List Text) → list_any (lacks rows) (numbered i ns) ≡ list_any (λ n. not (is_given n rows)) ns
words_lack rows i [] = refl
words_lack rows i (n ∷ ns) = ap (λ b. not (is_given n rows) || b) (words_lack rows (suc i) ns)

pub missing_is : (g : Grammar) (rows : List Row) → list_any (lacks rows) (rules g) ≡ list_any (λ n. not (is_given n rows)) g.words
missing_is g rows =
    list_any-append (lacks rows) (map option_full g.options) (map flag_full g.flags ++ numbered 1 g.words)
    ∙ ap₂ ◌||◌ (none_lacks option_full rows (λ x. refl) g.options) (list_any-append (lacks rows) (map flag_full g.flags) (numbered 1 g.words)
    ∙ ap₂ ◌||◌ (none_lacks flag_full rows (λ x. refl) g.flags) (words_lack rows 1 g.words))

pub all_given : (rows : List Row) (ns : List Text) → ((n : Text) → has_name ns n ≡ true → is_given n rows ≡ true) → list_any (λ n. not (is_given n rows)) ns ≡ false
all_given rows [] h = refl
all_given rows (n ∷ ns) h = rw (h n (ap (λ b. b || has_name ns n) (Rattle.drg_words.proofs.Rules.same_text n))) (all_given rows ns (λ m e. h m (or_right (bytes_eq n m) (has_name ns m) e)))

pub one_missing : (rows : List Row) (done : List Text) (id : Text) (more : List Text) → is_given id rows ≡ false → list_any (λ n. not (is_given n rows)) (done ++ id ∷ more) ≡ true
one_missing rows [] id more h = rw h refl
one_missing rows (x ∷ xs) id more h = or_right (not (is_given x rows)) _ (one_missing rows xs id more h)
