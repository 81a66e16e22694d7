-- How far the words of a command have come.
use Rattle.std.proofs.Common.{◌≡◌, ◌∙◌, ◌&&◌, ◌||◌, Bool, cond, not, true, false, refl, [], ◌∷◌, ◌++◌, List, ℕ, Some, ap, ap₂, sym, subst, true≢false, append_assoc, append-nil}
use Rattle.std.specs.Prelude.{fold}
use Rattle.std.specs.List.{list_any}
use Rattle.std.specs.Str.{bytes_eq}
use Rattle.std.proofs.lemmas.Bool.{or_from, or_left, or_parts, or_right}
use Rattle.std.proofs.lemmas.List.Folds.{list_any-append}
use Rattle.std.proofs.lemmas.Slice.Eq.{bytes_eq-Decides}
use Rattle.clap.specs.Words.{Kinds, Row, Rule, Shape, Text}
use Rattle.clap.specs.Kinds.{or_else}
use Rattle.clap.specs.Faults.{settle_fault, turn_fault, use_fault}
use Rattle.clap.specs.Facts.{explicit_source}
use Rattle.clap.specs.Walk.{Walk, arg_by_id, has_row, settled_rows, used, walked, with_default}
use Rattle.clap.specs.Takes.{is_given}
use Rattle.clap.specs.declared.error.kind.ErrorKind.{ErrorKind}
use Rattle.clap.specs.declared.error.kind.ErrorKind.TheVariants.{MissingRequiredArgument}
use Rattle.clap.proofs.OnLiterals.{clap_on_literals}
use Rattle.clap.proofs.WalkLemmas.{both}
use Rattle.drg_words.specs.Grammar.{Grammar, has_name}
use Rattle.drg_words.proofs.Lawful.{IsLawful, is_named, is_once}
use Rattle.drg_words.proofs.Looks.{member}
use Rattle.drg_words.proofs.Steps.{finish, rest_of, step}
use Rattle.drg_words.proofs.Rows.{all_given, defaults_quiet, given_finished, given_kept, given_new, has_row_more, lacks, missing_is, not_given, one_missing}
use Rattle.drg_words.proofs.Rules.{flag_full, leaf, option_full, rules, same_text, word_full}
use Rattle.drg_words.proofs.Turns.{Pending, held}

pub nil_parts : (a b : Kinds) → or_else a b ≡ [] → (a ≡ []) × (b ≡ [])
nil_parts [] b h = (refl, h)
nil_parts (k ∷ ks) b h = absurd (cc h)

pub nil_both : (a b : Kinds) → a ≡ [] → b ≡ [] → or_else a b ≡ []
nil_both a b x y = ap₂ or_else x y

-- one word more
pub goes : (s : Shape) (w next : Walk) (word : Text) (rest : List Text) (t : Kinds) → turn_fault s [] w word ≡ t → walked s.rules [] w word ≡ next
    → rest_of s w (word ∷ rest) ≡ [] → (t ≡ []) × (rest_of s next rest ≡ [])
goes s w next word rest t a b h =
    let parts = nil_parts (turn_fault s [] w word) (rest_of s (walked s.rules [] w word) rest) (sym (step s w word rest) ∙ h) in
    (sym a ∙ parts.0, ap (λ (x : Walk). rest_of s x rest) (sym b) ∙ parts.1)

pub comes : (s : Shape) (w next : Walk) (word : Text) (rest : List Text) (t : Kinds) → turn_fault s [] w word ≡ t → walked s.rules [] w word ≡ next
    → t ≡ [] → rest_of s next rest ≡ [] → rest_of s w (word ∷ rest) ≡ []
comes s w next word rest t a b x y = step s w word rest ∙ nil_both (turn_fault s [] w word) (rest_of s (walked s.rules [] w word) rest) (a ∙ x) (ap (λ (z : Walk). rest_of s z rest) b ∙ y)

pub fails : {X : Type 0} (s : Shape) (w : Walk) (word : Text) (rest : List Text) (k : ErrorKind) → turn_fault s [] w word ≡ k ∷ [] → rest_of s w (word ∷ rest) ≡ [] → X
fails s w word rest k a h =
    let parts = nil_parts (turn_fault s [] w word) (rest_of s (walked s.rules [] w word) rest) (sym (step s w word rest) ∙ h) in
    absurd (cc (a, parts.0))

-- ---- one use

clash_none : (b : Bool) (k : ErrorKind) → or_else (cond (b && true) (k ∷ []) []) [] ≡ [] → b ≡ false
clash_none true k h = absurd (cc h)
clash_none false k h = refl

clash_ok : (b : Bool) (k : ErrorKind) → b ≡ false → or_else (cond (b && true) (k ∷ []) []) [] ≡ []
clash_ok b k h = ap (λ t. or_else (cond (t && true) (k ∷ []) []) []) h

pub option_used : (n v : Text) (rows : List Row) → use_fault false (option_full n) (v ∷ []) rows ≡ [] → has_row n rows ≡ false
option_used n v rows h = clash_none (has_row n rows) _ h

pub option_use : (n v : Text) (rows : List Row) → has_row n rows ≡ false → use_fault false (option_full n) (v ∷ []) rows ≡ []
option_use n v rows h = clash_ok (has_row n rows) _ h

pub flag_used : (n : Text) (rows : List Row) → use_fault false (flag_full n) [] rows ≡ [] → has_row n rows ≡ false
unfolding clap_on_literals
flag_used n rows h = clash_none (has_row n rows) _ h

pub flag_use : (n : Text) (rows : List Row) → has_row n rows ≡ false → use_fault false (flag_full n) [] rows ≡ []
unfolding clap_on_literals
flag_use n rows h = clash_ok (has_row n rows) _ h

pub word_use : (i : ℕ) (n v : Text) (rows : List Row) → has_row n rows ≡ false → use_fault false (word_full i n) (v ∷ []) rows ≡ []
word_use i n v rows h = clash_ok (has_row n rows) _ h

pub pending_fault : (g : Grammar) (n : Text) (vs : List Text) (a : Rule) (rows : List Row) → arg_by_id (rules g) n ≡ Some a
    → settle_fault (rules g) false (held rows (Some (n, vs))) ≡ use_fault false a vs rows
pending_fault g n vs a rows e = rw e refl

pub pending_rows : (g : Grammar) (n : Text) (vs : List Text) (a : Rule) (rows : List Row) → arg_by_id (rules g) n ≡ Some a
    → settled_rows (rules g) (Some (n, vs)) rows ≡ used a vs rows
pending_rows g n vs a rows e = rw e refl

-- ---- the names that are used, the words that are there, and those that are to come

pub record Stands (g : Grammar) (rows : List Row) (seen done left : List Text) : Type 0 where
  pub split : g.words ≡ done ++ left
  pub named : (n : Text) → is_named g n ≡ true → has_row n rows ≡ has_name seen n
  pub given : (n : Text) → has_name done n ≡ true → is_given n rows ≡ true
  pub open_ : (n : Text) → has_name left n ≡ true → has_row n rows ≡ false

pub un_not : (b : Bool) → not b ≡ true → b ≡ false
un_not true h = absurd (true≢false (sym h))
un_not false h = refl

pub differ : (m n : Text) (p : Text → Bool) → p m ≡ true → p n ≡ false → bytes_eq m n ≡ false
differ m n p a b = go (bytes_eq m n) refl
  where
    go : (t : Bool) → bytes_eq m n ≡ t → bytes_eq m n ≡ false
    go true e = absurd (true≢false (sym a ∙ ap p ((bytes_eq-Decides m n).0 e) ∙ b))
    go false e = e

has_append : (xs ys : List Text) (n : Text) → has_name (xs ++ ys) n ≡ (has_name xs n || has_name ys n)
has_append xs ys n = list_any-append (λ x. bytes_eq x n) xs ys

pub unnamed : (g : Grammar) → IsLawful g → (n : Text) → has_name g.words n ≡ true → is_named g n ≡ false
unnamed g law n h = un_not (is_named g n) (member (λ m. not (is_named g m)) g.words n law.others h)

pub left_word : (g : Grammar) (rows : List Row) (seen done left : List Text) → Stands g rows seen done left → (n : Text) → has_name left n ≡ true → has_name g.words n ≡ true
left_word g rows seen done left st n h = ap (λ ws. has_name ws n) st.split ∙ has_append done left n ∙ or_right (has_name done n) (has_name left n) h

swap : (a b : Bool) → (a || (b || false)) ≡ (b || a)
swap true true = refl
swap true false = refl
swap false true = refl
swap false false = refl

-- after an option or a flag
pub after_named : (g : Grammar) → IsLawful g → (rows : List Row) (seen done left : List Text) (m : Text) (r : Row) → r.id ≡ m → is_named g m ≡ true
    → Stands g rows seen done left → Stands g (rows ++ r ∷ []) (m ∷ seen) done left
after_named g law rows seen done left m r id h st = record {
  split = st.split;
  named = λ n e. has_row_more n rows r ∙ ap₂ (λ a b. a || (bytes_eq b n || false)) (st.named n e) id ∙ swap (has_name seen n) (bytes_eq m n);
  given = λ n e. given_kept n rows r (st.given n e);
  open_ = λ n e. has_row_more n rows r ∙ or_from (has_row n rows) (bytes_eq r.id n || false) (st.open_ n e) (or_from (bytes_eq r.id n) false
      (ap (λ t. bytes_eq t n) id ∙ differ m n (is_named g) h (unnamed g law n (left_word g rows seen done left st n e))) refl);
}

once_later : (done : List Text) (id : Text) (more : List Text) → is_once (done ++ id ∷ more) ≡ true → (has_name done id ≡ false) × (has_name more id ≡ false)
once_later [] id more h = (refl, un_not (has_name more id) (both (not (has_name more id)) (is_once more) h).0)
once_later (x ∷ xs) id more h =
    let parts = both (not (has_name (xs ++ id ∷ more) x)) (is_once (xs ++ id ∷ more)) h in
    let rest = once_later xs id more parts.1 in
    let apart : bytes_eq id x ≡ false = (or_parts (bytes_eq id x) (has_name more x) (or_parts (has_name xs x) (has_name (id ∷ more) x) (sym (has_append xs (id ∷ more) x) ∙ un_not (has_name (xs ++ id ∷ more) x) parts.0)).1).0 in
    (or_from (bytes_eq x id) (has_name xs id) (differ x id (λ t. bytes_eq t x) (same_text x) apart) rest.0, rest.1)

pub once_apart : (g : Grammar) → IsLawful g → (done : List Text) (id : Text) (more : List Text) → g.words ≡ done ++ id ∷ more → (has_name done id ≡ false) × (has_name more id ≡ false)
once_apart g law done id more e = once_later done id more (ap is_once (sym e) ∙ law.once)

-- after a positional word
pub after_positional : (g : Grammar) → IsLawful g → (rows : List Row) (seen done : List Text) (id : Text) (left : List Text) (r : Row) → r.id ≡ id → explicit_source r.source ≡ true
    → Stands g rows seen done (id ∷ left) → Stands g (rows ++ r ∷ []) seen (done ++ id ∷ []) left
after_positional g law rows seen done id left r is s st = record {
  split = st.split ∙ sym (append_assoc done (id ∷ []) left);
  named = λ n e. has_row_more n rows r ∙ ap₂ (λ a b. a || (b || false)) (st.named n e) (ap (λ t. bytes_eq t n) is ∙ not_named n e) ∙ or_nil (has_name seen n);
  given = λ n e. by n (has_name done n) refl (sym (has_append done (id ∷ []) n) ∙ e);
  open_ = λ n e. has_row_more n rows r ∙ or_from (has_row n rows) (bytes_eq r.id n || false) (st.open_ n (or_right (bytes_eq id n) (has_name left n) e))
      (or_from (bytes_eq r.id n) false (ap (λ t. bytes_eq t n) is ∙ apart n e) refl);
}
  where
    or_nil : (b : Bool) → (b || (false || false)) ≡ b
    or_nil true = refl
    or_nil false = refl

    here : has_name (id ∷ left) id ≡ true
    here = or_left (bytes_eq id id) (has_name left id) (same_text id)

    flip : (n : Text) → bytes_eq n id ≡ false → bytes_eq id n ≡ false
    flip n e = differ id n (λ t. bytes_eq t id) (same_text id) e

    not_named : (n : Text) → is_named g n ≡ true → bytes_eq id n ≡ false
    not_named n e = flip n (differ n id (is_named g) e (unnamed g law id (left_word g rows seen done (id ∷ left) st id here)))

    apart : (n : Text) → has_name left n ≡ true → bytes_eq id n ≡ false
    apart n e = flip n (differ n id (has_name left) e (once_apart g law done id left st.split).1)

    by : (n : Text) (b : Bool) → has_name done n ≡ b → (has_name done n || (bytes_eq id n || false)) ≡ true → is_given n (rows ++ r ∷ []) ≡ true
    by n true e h = given_kept n rows r (st.given n e)
    by n false e h = same n (sym (ap₂ (λ a b. a || b) e (or_nil_right (bytes_eq id n))) ∙ h)
      where
        or_nil_right : (b : Bool) → (b || false) ≡ b
        or_nil_right true = refl
        or_nil_right false = refl

        same : (n : Text) → bytes_eq id n ≡ true → is_given n (rows ++ r ∷ []) ≡ true
        same n e = subst (λ t. is_given t (rows ++ r ∷ []) ≡ true) ((bytes_eq-Decides id n).0 e) (given_new id rows r (st.open_ id here) (ap (λ t. bytes_eq t id) is ∙ same_text id) s)

-- ---- where the words end

abbrev pub ended : Grammar → List Row → Bool
ended g rows = list_any (lacks (fold with_default rows (rules g))) (rules g)

pub ends_well : (g : Grammar) → IsLawful g → (rows : List Row) (seen done : List Text) → Stands g rows seen done [] → ended g rows ≡ false
ends_well g law rows seen done st =
    let all = fold with_default rows (rules g) in
    missing_is g all ∙ all_given all g.words (λ n e.
    given_finished g n rows (or_parts (has_name g.options n) (has_name g.flags n) (unnamed g law n e)).1 ∙ st.given n (sym (ap (λ ws. has_name ws n) (st.split ∙ append-nil done)) ∙ e))

pub ends_short : (g : Grammar) → IsLawful g → (rows : List Row) (seen done : List Text) (id : Text) (left : List Text) → Stands g rows seen done (id ∷ left) → ended g rows ≡ true
ends_short g law rows seen done id left st =
    let all = fold with_default rows (rules g) in
    let here : has_name (id ∷ left) id ≡ true = or_left (bytes_eq id id) (has_name left id) (same_text id) in
    let word = left_word g rows seen done (id ∷ left) st id here in
    missing_is g all ∙ ap (list_any (λ n. not (is_given n all))) st.split
    ∙ one_missing all done id left (given_finished g id rows (or_parts (has_name g.options id) (has_name g.flags id) (unnamed g law id word)).1 ∙ not_given id rows (st.open_ id here))

pub finish_is : (name : Text) (g : Grammar) (rows : List Row) (p : Pending) → finish (leaf name g) (held rows p)
    ≡ or_else (settle_fault (rules g) false (held rows p)) (cond (ended g (settled_rows (rules g) p rows)) (MissingRequiredArgument ∷ []) [])
finish_is name g rows p =
    let now = settled_rows (rules g) p rows in
    ap (λ k. or_else (settle_fault (rules g) false (held rows p)) (or_else k (cond (ended g now) (MissingRequiredArgument ∷ []) []))) (defaults_quiet g now)

cond_nil : (b : Bool) (k : ErrorKind) → cond b (k ∷ []) [] ≡ [] → b ≡ false
cond_nil true k h = absurd (cc h)
cond_nil false k h = refl

pub finish_sound : (name : Text) (g : Grammar) → IsLawful g → (rows : List Row) (p : Pending) (seen done left : List Text)
    → (settle_fault (rules g) false (held rows p) ≡ [] → Stands g (settled_rows (rules g) p rows) seen done left) → finish (leaf name g) (held rows p) ≡ []
    → (settle_fault (rules g) false (held rows p) ≡ []) × (left ≡ [])
finish_sound name g law rows p seen done left st h =
    let parts = nil_parts (settle_fault (rules g) false (held rows p)) (cond (ended g (settled_rows (rules g) p rows)) (MissingRequiredArgument ∷ []) []) (sym (finish_is name g rows p) ∙ h) in
    (parts.0, by left (st parts.0) (cond_nil (ended g (settled_rows (rules g) p rows)) MissingRequiredArgument parts.1))
  where
    by : (left : List Text) → Stands g (settled_rows (rules g) p rows) seen done left → ended g (settled_rows (rules g) p rows) ≡ false → left ≡ []
    by [] s e = refl
    by (id ∷ more) s e = absurd (true≢false (sym (ends_short g law (settled_rows (rules g) p rows) seen done id more s) ∙ e))

pub finish_complete : (name : Text) (g : Grammar) → IsLawful g → (rows : List Row) (p : Pending) (seen done : List Text)
    → Stands g (settled_rows (rules g) p rows) seen done [] → settle_fault (rules g) false (held rows p) ≡ [] → finish (leaf name g) (held rows p) ≡ []
finish_complete name g law rows p seen done st h =
    finish_is name g rows p ∙ nil_both _ _ h (ap (λ b. cond b (MissingRequiredArgument ∷ []) []) (ends_well g law (settled_rows (rules g) p rows) seen done st))
