-- What clap's matches of words in the grammar hold.
use Rattle.std.proofs.Common.{◌≡◌, ◌∙◌, ◌+◌, ◌||◌, Bool, cond, not, true, false, refl, [], ◌∷◌, ◌++◌, inl, inr, map, List, ℕ, codes, Some, None, Option, ap, ap₂, sym, length, arith, min, true≢false, append_assoc, append-nil}
use Rattle.std.specs.Prelude.{fold, is_some, option_and_then, slice_get}
use Rattle.std.specs.Str.{bytes_eq}
use Rattle.std.proofs.lemmas.Bool.{or_left, or_parts, or_right}
use Rattle.std.proofs.lemmas.Slice.Eq.{bytes_eq-Decides}
use Rattle.clap.specs.Lexer.{usize_max}
use Rattle.clap.specs.Words.{Row, Text}
use Rattle.clap.specs.Walk.{Walk, Waiting, first_of, has_row, idle, more_values, one_of, row_text, rows_after, settled_rows, used, walked, with_default}
use Rattle.drg_words.specs.Grammar.{AreKnown, AreOnce, AreSpelt, Grammar, IsLine, Part, dashed, flag, has_flag, has_name, option, positional, value_of, word}
use Rattle.drg_words.proofs.Lawful.{IsLawful, is_named, is_once}
use Rattle.clap.proofs.WalkLemmas.{both}
use Rattle.drg_words.proofs.Finds.{find_default, find_kept, find_other, finished_is, has_row_is, row_at}
use Rattle.drg_words.proofs.Lines.{flag_name, flag_named, flag_only, id_fresh, id_known, long_flag, long_option, new_row, next_place, option_name, option_named, place, stands_attached, stands_flag, stands_option, stands_word, start}
use Rattle.drg_words.proofs.Looks.{name_long, name_value}
use Rattle.drg_words.proofs.Plain.{no_dash, no_long, no_short}
use Rattle.drg_words.proofs.Rows.{used_new}
use Rattle.drg_words.proofs.Rules.{by_id_option, flag_full, option_full, rules, same_text, word_full}
use Rattle.drg_words.proofs.Stands.{Stands, differ, pending_rows, un_not, unnamed}
use Rattle.drg_words.proofs.Turns.{Pending, at, attached_turn, dashes_turn, flag_turn, held, last_turn, option_turn, value_turn, word_turn}

-- the rows of last words, and of parts, where these positional words are left
abbrev last_rows : List Text → List Text → List Row
last_rows [] ws = []
last_rows (id ∷ ids) [] = []
last_rows (id ∷ ids) (w ∷ ws) = new_row id w ∷ last_rows ids ws

abbrev pub parts_rows : List Part → List Text → List Text → List Row
parts_rows [] left last = last_rows left last
parts_rows (option n v ∷ ps) left last = new_row n v ∷ parts_rows ps left last
parts_rows (flag n ∷ ps) left last = new_row n (codes "true") ∷ parts_rows ps left last
parts_rows (word w ∷ ps) [] last = []
parts_rows (word w ∷ ps) (id ∷ left) last = new_row id w ∷ parts_rows ps left last

module _ (name : Text) (g : Grammar) (law : IsLawful g) where
  abbrev end_rows : Walk → List Text → List Row
  end_rows w words = settled_rows (rules g) (fold (walked (rules g) []) w words).held.pending (fold (walked (rules g) []) w words).held.rows

  abbrev end_from : List Row → Pending → ℕ → List Text → List Row
  end_from rows p k words = end_rows (at (held rows p) idle k false) words

  attached_rows : (rows : List Row) (n v : Text) → has_row n rows ≡ false → used (option_full n) (v ∷ []) rows ≡ rows ++ new_row n v ∷ []
  attached_rows rows n v fresh = used_new n (more_values Rattle.clap.specs.declared.parser.matches.ValueSource.TheVariants.CommandLine (v ∷ [])) (new_row n v ∷ []) rows fresh

  flag_rows : (rows : List Row) (n : Text) → has_row n rows ≡ false → used (flag_full n) [] rows ≡ rows ++ new_row n (codes "true") ∷ []
  flag_rows rows n fresh = used_new n (more_values Rattle.clap.specs.declared.parser.matches.ValueSource.TheVariants.CommandLine (codes "true" ∷ [])) (new_row n (codes "true") ∷ []) rows fresh

  option_rows : (rows : List Row) (n v : Text) → has_name g.options n ≡ true → has_row n rows ≡ false → settled_rows (rules g) (Some (n, v ∷ [])) rows ≡ rows ++ new_row n v ∷ []
  option_rows rows n v h fresh = pending_rows g n (v ∷ []) (option_full n) rows (by_id_option g n h) ∙ attached_rows rows n v fresh

  word_rows : (rows : List Row) (seen done : List Text) (id : Text) (left : List Text) (v : Text) → Stands g rows seen done (id ∷ left)
      → settled_rows (rules g) (Some (id, v ∷ [])) rows ≡ rows ++ new_row id v ∷ []
  word_rows rows seen done id left v st =
      pending_rows g id (v ∷ []) (word_full (1 + length done) id) rows (id_known name g law rows seen done id left st)
      ∙ used_new id (more_values Rattle.clap.specs.declared.parser.matches.ValueSource.TheVariants.CommandLine (v ∷ [])) (new_row id v ∷ []) rows (id_fresh name g law rows seen done id left st)

  join : (xs now_ ys : List Row) (r : Row) → now_ ≡ xs ++ r ∷ [] → now_ ++ ys ≡ xs ++ r ∷ ys
  join xs now_ ys r e = ap (λ x. x ++ ys) e ∙ append_assoc xs (r ∷ []) ys

  end_last : (words : List Text) (rows : List Row) (p : Pending) (w : Waiting) (k : ℕ) (seen done left : List Text) → k ≡ 1 + length done
      → Stands g (settled_rows (rules g) p rows) seen done left → length words ≡ length left → end_rows (at (held rows p) w k true) words ≡ settled_rows (rules g) p rows ++ last_rows left words
  end_last [] rows p w k seen done [] e st h = sym (append-nil (settled_rows (rules g) p rows))
  end_last [] rows p w k seen done (id ∷ left) e st h = absurd (omega arith)
  end_last (v ∷ rest) rows p w k seen done [] e st h = absurd (omega arith)
  end_last (v ∷ rest) rows p w k seen done (id ∷ left) e st h =
      let now_ = settled_rows (rules g) p rows in
      ap (λ x. end_rows x rest) (last_turn name g rows p k w v id (place name g law k done id left e st.split)).1
      ∙ end_last rest now_ (Some (id, v ∷ [])) idle (min (k + 1) usize_max) seen (done ++ id ∷ []) left (next_place name g law k done id left e st.split)
      (stands_word name g law now_ seen done id left v st) (omega arith)
      ∙ join now_ (settled_rows (rules g) (Some (id, v ∷ [])) now_) (last_rows left rest) (new_row id v) (word_rows now_ seen done id left v st)

  end_parts : (ps : List Part) (last words : List Text) (rows : List Row) (p : Pending) (k : ℕ) (seen done left : List Text) → k ≡ 1 + length done
      → Stands g (settled_rows (rules g) p rows) seen done left → AreSpelt ps last words → AreKnown g ps → AreOnce seen ps → length (positional ps ++ last) ≡ length left
      → end_from rows p k words ≡ settled_rows (rules g) p rows ++ parts_rows ps left last
  end_parts [] last words rows p k seen done [] ke st (inl a) kn on c = ap (end_from rows p k) a.0 ∙ sym (append-nil (settled_rows (rules g) p rows))
  end_parts [] last words rows p k seen done (id ∷ left) ke st (inl a) kn on c = let e = ap length a.1 in absurd (omega arith)
  end_parts [] last words rows p k seen done left ke st (inr a) kn on c =
      ap (end_from rows p k) a ∙ ap (λ x. end_rows x last) (dashes_turn name g rows p k).1 ∙ end_last last rows p idle k seen done left ke st c
  end_parts (option n v ∷ ps) last words rows p k seen done left ke st (front, rest, e, inl o, more) kn on c =
      let now_ = settled_rows (rules g) p rows in
      let fresh = st.named n (option_named name g law n kn.0) ∙ on.0 in
      let known = by_id_option g n kn.0 in
      let long = name_long n (option_name name g law n kn.0) in
      let t = option_turn name g rows p k (dashed n) n long.0 long.1 (long_option name g law n kn.0) in
      let t2 = value_turn name g now_ n k known v (no_dash v o.1) (no_long v o.1) (no_short v o.1) (same_text n) in
      ap (end_from rows p k) (e ∙ ap (λ x. x ++ rest) o.0) ∙ ap (λ x. end_rows x (v ∷ rest)) t.1 ∙ ap (λ x. end_rows x rest) t2.1
      ∙ end_parts ps last rest now_ (Some (n, v ∷ [])) k (n ∷ seen) done left ke (stands_option name g law now_ seen done left n v kn.0 fresh st) more kn.1 on.1 c
      ∙ join now_ (settled_rows (rules g) (Some (n, v ∷ [])) now_) (parts_rows ps left last) (new_row n v) (option_rows now_ n v kn.0 fresh)
  end_parts (option n v ∷ ps) last words rows p k seen done left ke st (front, rest, e, inr o, more) kn on c =
      let now_ = settled_rows (rules g) p rows in
      let fresh = st.named n (option_named name g law n kn.0) ∙ on.0 in
      let long = name_value n v (option_name name g law n kn.0) in
      let t = attached_turn name g rows p k (dashed (n ++ 61 ∷ v)) n v long.0 long.1 (long_option name g law n kn.0) in
      ap (end_from rows p k) (e ∙ ap (λ x. x ++ rest) o) ∙ ap (λ x. end_rows x rest) t.1
      ∙ end_parts ps last rest (used (option_full n) (v ∷ []) now_) None k (n ∷ seen) done left ke (stands_attached name g law now_ seen done left n v kn.0 fresh st) more kn.1 on.1 c
      ∙ join now_ (used (option_full n) (v ∷ []) now_) (parts_rows ps left last) (new_row n v) (attached_rows now_ n v fresh)
  end_parts (flag n ∷ ps) last words rows p k seen done left ke st (front, rest, e, o, more) kn on c =
      let now_ = settled_rows (rules g) p rows in
      let fresh = st.named n (flag_named name g law n kn.0) ∙ on.0 in
      let long = name_long n (flag_name name g law n kn.0) in
      let t = flag_turn name g rows p k (dashed n) n long.0 long.1 (long_flag name g law n (flag_only name g law n kn.0) kn.0) in
      ap (end_from rows p k) (e ∙ ap (λ x. x ++ rest) o) ∙ ap (λ x. end_rows x rest) t.1
      ∙ end_parts ps last rest (used (flag_full n) [] now_) None k (n ∷ seen) done left ke (stands_flag name g law now_ seen done left n kn.0 fresh st) more kn.1 on.1 c
      ∙ join now_ (used (flag_full n) [] now_) (parts_rows ps left last) (new_row n (codes "true")) (flag_rows now_ n fresh)
  end_parts (word w ∷ ps) last words rows p k seen done [] ke st s kn on c = absurd (omega arith)
  end_parts (word w ∷ ps) last words rows p k seen done (id ∷ left) ke st (front, rest, e, o, more) kn on c =
      let now_ = settled_rows (rules g) p rows in
      let q = o.1 in
      let t = word_turn name g rows p k w id (no_dash w q) (no_long w q) (no_short w q) (place name g law k done id left ke st.split) in
      ap (end_from rows p k) (e ∙ ap (λ x. x ++ rest) o.0) ∙ ap (λ x. end_rows x rest) t.1
      ∙ end_parts ps last rest now_ (Some (id, w ∷ [])) (min (k + 1) usize_max) seen (done ++ id ∷ []) left (next_place name g law k done id left ke st.split)
      (stands_word name g law now_ seen done id left w st) more kn on (omega arith)
      ∙ join now_ (settled_rows (rules g) (Some (id, w ∷ [])) now_) (parts_rows ps left last) (new_row id w) (word_rows now_ seen done id left w st)

  -- the matches of a line
  pub line_rows : (ps : List Part) (last words : List Text) → IsLine g ps last words → rows_after (rules g) [] words ≡ fold with_default (parts_rows ps g.words last) (map flag_full g.flags)
  line_rows ps last words l =
      ap (λ rs. fold with_default rs (rules g)) (end_parts ps last words [] None 1 [] [] g.words refl (start name g law) l.spelt l.known l.once l.count)
      ∙ finished_is g (parts_rows ps g.words last)

  -- ---- by name

  abbrev AreIds : List Text → Type 0
  AreIds left = (x : Text) → has_name left x ≡ true → is_named g x ≡ false

  id_differs : (id : Text) (left : List Text) (n : Text) → AreIds (id ∷ left) → is_named g n ≡ true → bytes_eq id n ≡ false
  id_differs id left n ids h =
      differ id n (λ t. bytes_eq t id) (same_text id) (differ n id (is_named g) h (ids id (or_left (bytes_eq id id) (has_name left id) (same_text id))))

  tail_ids : (id : Text) (left : List Text) → AreIds (id ∷ left) → AreIds left
  tail_ids id left ids x h = ids x (or_right (bytes_eq id x) (has_name left x) h)

  no_last : (n : Text) → is_named g n ≡ true → (left last : List Text) → AreIds left → row_at n (last_rows left last) ≡ None
  no_last n h [] last ids = refl
  no_last n h (id ∷ left) [] ids = refl
  no_last n h (id ∷ left) (w ∷ ws) ids = rw (id_differs id left n ids h) (no_last n h left ws (tail_ids id left ids))

  option_row : (n : Text) → has_name g.options n ≡ true → (ps : List Part) (left last : List Text) → AreKnown g ps → AreIds left → length (positional ps ++ last) ≡ length left
      → first_of n (parts_rows ps left last) ≡ value_of n ps
  option_row n h [] left last kn ids c = ap (option_and_then (λ (r : Row). slice_get r.values 0)) (no_last n (option_named name g law n h) left last ids)
  option_row n h (option m v ∷ ps) left last kn ids c = go (bytes_eq m n) (option_row n h ps left last kn.1 ids c)
    where
      go : (b : Bool) → first_of n (parts_rows ps left last) ≡ value_of n ps
          → option_and_then (λ (r : Row). slice_get r.values 0) (cond b (Some (new_row m v)) (row_at n (parts_rows ps left last))) ≡ cond b (Some v) (value_of n ps)
      go true e = refl
      go false e = e
  option_row n h (flag m ∷ ps) left last kn ids c =
      let apart : bytes_eq m n ≡ false = differ m n (λ t. not (has_name g.options t)) (ap not (flag_only name g law m kn.0)) (ap not h) in
      rw apart (option_row n h ps left last kn.1 ids c)
  option_row n h (word w ∷ ps) [] last kn ids c = absurd (omega arith)
  option_row n h (word w ∷ ps) (id ∷ left) last kn ids c =
      rw (id_differs id left n ids (option_named name g law n h)) (option_row n h ps left last kn (tail_ids id left ids) (omega arith))

  flag_row : (n : Text) → has_name g.flags n ≡ true → (ps : List Part) (left last : List Text) → AreKnown g ps → AreIds left → length (positional ps ++ last) ≡ length left
      → row_at n (parts_rows ps left last) ≡ cond (has_flag n ps) (Some (new_row n (codes "true"))) None
  flag_row n h [] left last kn ids c = no_last n (flag_named name g law n h) left last ids
  flag_row n h (option m v ∷ ps) left last kn ids c =
      let apart : bytes_eq m n ≡ false = differ m n (has_name g.options) kn.0 (flag_only name g law n h) in
      rw apart (flag_row n h ps left last kn.1 ids c)
  flag_row n h (flag m ∷ ps) left last kn ids c = go (bytes_eq m n) refl (flag_row n h ps left last kn.1 ids c)
    where
      go : (b : Bool) → bytes_eq m n ≡ b → row_at n (parts_rows ps left last) ≡ cond (has_flag n ps) (Some (new_row n (codes "true"))) None
          → cond (bytes_eq m n) (Some (new_row m (codes "true"))) (row_at n (parts_rows ps left last)) ≡ cond (bytes_eq m n || has_flag n ps) (Some (new_row n (codes "true"))) None
      go true e r = rw e (ap (λ t. Some (new_row t (codes "true"))) ((bytes_eq-Decides m n).0 e))
      go false e r = rw e r
  flag_row n h (word w ∷ ps) [] last kn ids c = absurd (omega arith)
  flag_row n h (word w ∷ ps) (id ∷ left) last kn ids c =
      rw (id_differs id left n ids (flag_named name g law n h)) (flag_row n h ps left last kn (tail_ids id left ids) (omega arith))

  map_past : (r : Row) (rows : List Row) (xs : List Text) → ((x : Text) → has_name xs x ≡ true → bytes_eq r.id x ≡ false) → map (λ x. first_of x (r ∷ rows)) xs ≡ map (λ x. first_of x rows) xs
  map_past r rows [] h = refl
  map_past r rows (x ∷ xs) h =
      let here : bytes_eq r.id x ≡ false = h x (or_left (bytes_eq x x) (has_name xs x) (same_text x)) in
      let head : first_of x (r ∷ rows) ≡ first_of x rows = rw here refl in
      ap₂ (λ a b. a ∷ b) head (map_past r rows xs (λ y e. h y (or_right (bytes_eq x y) (has_name xs y) e)))

  head_found : (id w : Text) (rows : List Row) → first_of id (new_row id w ∷ rows) ≡ Some w
  head_found id w rows = rw (same_text id) refl

  word_past : (id w : Text) (rows : List Row) (left : List Text) → is_once (id ∷ left) ≡ true → map (λ x. first_of x (new_row id w ∷ rows)) left ≡ map (λ x. first_of x rows) left
  word_past id w rows left once =
      map_past (new_row id w) rows left (λ x h. flip x (differ x id (has_name left) h (un_not (has_name left id) (both (not (has_name left id)) (is_once left) once).0)))
    where
      flip : (x : Text) → bytes_eq x id ≡ false → bytes_eq id x ≡ false
      flip x e = differ id x (λ t. bytes_eq t id) (same_text id) e

  last_found : (left last : List Text) → is_once left ≡ true → length last ≡ length left → map (λ x. first_of x (last_rows left last)) left ≡ map Some last
  last_found [] [] once c = refl
  last_found [] (w ∷ ws) once c = absurd (omega arith)
  last_found (id ∷ left) [] once c = absurd (omega arith)
  last_found (id ∷ left) (w ∷ ws) once c =
      ap₂ (λ a b. a ∷ b) (head_found id w (last_rows left ws)) (word_past id w (last_rows left ws) left once ∙ last_found left ws (both (not (has_name left id)) (is_once left) once).1 (omega arith))

  words_found : (ps : List Part) (left last : List Text) → AreKnown g ps → AreIds left → is_once left ≡ true → length (positional ps ++ last) ≡ length left
      → map (λ x. first_of x (parts_rows ps left last)) left ≡ map Some (positional ps ++ last)
  words_found [] left last kn ids once c = last_found left last once c
  words_found (option n v ∷ ps) left last kn ids once c =
      map_past (new_row n v) (parts_rows ps left last) left (λ x h. differ n x (is_named g) (option_named name g law n kn.0) (ids x h)) ∙ words_found ps left last kn.1 ids once c
  words_found (flag n ∷ ps) left last kn ids once c =
      map_past (new_row n (codes "true")) (parts_rows ps left last) left (λ x h. differ n x (is_named g) (flag_named name g law n kn.0) (ids x h)) ∙ words_found ps left last kn.1 ids once c
  words_found (word w ∷ ps) [] last kn ids once c = absurd (omega arith)
  words_found (word w ∷ ps) (id ∷ left) last kn ids once c =
      ap₂ (λ a b. a ∷ b) (head_found id w (parts_rows ps left last)) (word_past id w (parts_rows ps left last) left once
      ∙ words_found ps left last kn (tail_ids id left ids) (both (not (has_name left id)) (is_once left) once).1 (omega arith))

  -- ---- what the matches say

  own_ids : AreIds g.words
  own_ids x h = unnamed g law x h

  no_flag : (n : Text) → has_name g.options n ≡ true → has_name g.flags n ≡ false
  no_flag n h = go (has_name g.flags n) refl
    where
      go : (b : Bool) → has_name g.flags n ≡ b → has_name g.flags n ≡ false
      go true e = absurd (true≢false (sym h ∙ flag_only name g law n e))
      go false e = e

  pub option_reads : (ps : List Part) (last words : List Text) → IsLine g ps last words → (n : Text) → has_name g.options n ≡ true → first_of n (rows_after (rules g) [] words) ≡ value_of n ps
  option_reads ps last words l n h =
      ap (first_of n) (line_rows ps last words l)
      ∙ ap (option_and_then (λ (r : Row). slice_get r.values 0)) (find_other n g.flags (parts_rows ps g.words last) (no_flag n h))
      ∙ option_row n h ps g.words last l.known own_ids l.count

  pub flag_reads : (ps : List Part) (last words : List Text) → IsLine g ps last words → (n : Text) → has_name g.flags n ≡ true
      → one_of n (rows_after (rules g) [] words) ≡ Some (cond (has_flag n ps) (codes "true") (codes "false"))
  flag_reads ps last words l n h = ap (one_of n) (line_rows ps last words l) ∙ by (has_flag n ps) refl
    where
      rows : List Row
      rows = parts_rows ps g.words last

      there : row_at n rows ≡ cond (has_flag n ps) (Some (new_row n (codes "true"))) None
      there = flag_row n h ps g.words last l.known own_ids l.count

      by : (b : Bool) → has_flag n ps ≡ b → one_of n (fold with_default rows (map flag_full g.flags)) ≡ Some (cond (has_flag n ps) (codes "true") (codes "false"))
      by true e =
          let at_ = there ∙ ap (λ b. cond b (Some (new_row n (codes "true"))) None) e in
          ap (option_and_then row_text) (find_kept n g.flags rows (has_row_is n rows ∙ ap is_some at_) ∙ at_) ∙ ap (λ b. Some (cond b (codes "true") (codes "false"))) (sym e)
      by false e =
          let at_ = there ∙ ap (λ b. cond b (Some (new_row n (codes "true"))) None) e in
          ap (option_and_then row_text) (find_default n g.flags rows (has_row_is n rows ∙ ap is_some at_) h) ∙ ap (λ b. Some (cond b (codes "true") (codes "false"))) (sym e)

  map_same : (a b : Text → Option Text) (xs : List Text) → ((x : Text) → has_name xs x ≡ true → a x ≡ b x) → map a xs ≡ map b xs
  map_same a b [] h = refl
  map_same a b (x ∷ xs) h = ap₂ (λ y z. y ∷ z) (h x (or_left (bytes_eq x x) (has_name xs x) (same_text x))) (map_same a b xs (λ y e. h y (or_right (bytes_eq x y) (has_name xs y) e)))

  pub words_read : (ps : List Part) (last words : List Text) → IsLine g ps last words → map (λ n. first_of n (rows_after (rules g) [] words)) g.words ≡ map Some (positional ps ++ last)
  words_read ps last words l =
      map_same (λ n. first_of n (rows_after (rules g) [] words)) (λ n. first_of n (parts_rows ps g.words last)) g.words (λ n h.
      ap (first_of n) (line_rows ps last words l)
      ∙ ap (option_and_then (λ (r : Row). slice_get r.values 0)) (find_other n g.flags (parts_rows ps g.words last) (or_parts (has_name g.options n) (has_name g.flags n) (own_ids n h)).1))
      ∙ words_found ps g.words last l.known own_ids law.once l.count
