-- clap takes exactly the words that are in the grammar of a command.
use Rattle.std.proofs.Common.{◌≡◌, ◌∙◌, ◌+◌, ◌<◌, ◌≤◌, Bool, cond, not, true, false, zero, suc, refl, [], ◌∷◌, ◌++◌, inl, inr, List, ℕ, Some, None, Option, ap, ap₂, sym, subst, length, arith, min, true≢false, append_assoc, append-nil, ◌↔◌}
use Rattle.std.specs.Prelude.{IsUtf8, nat_lt}
use Rattle.std.specs.List.{All, list_all, list_any}
use Rattle.std.specs.Str.{bytes_eq}
use Rattle.std.proofs.lemmas.Bool.{ltb-true, or_left, or_right}
use Rattle.std.proofs.lemmas.List.{length-append}
use Rattle.clap.specs.Lexer.{long_of, usize_max}
use Rattle.clap.specs.Words.{Kinds, Row, Rule, Shape, Text}
use Rattle.clap.specs.Kinds.{or_else}
use Rattle.clap.specs.Faults.{level_fault, settle_fault, use_fault, walk_fault}
use Rattle.clap.specs.Walk.{Walk, arg_by_id, arg_by_index, arg_by_long, has_row, idle, more_values, nothing_held, option as wants, settled_rows, used, walk_from, walked}
use Rattle.clap.specs.declared.builder.value_parser.Reading.TheVariants.{AsWritten}
use Rattle.clap.specs.declared.error.kind.ErrorKind.TheVariants.{InvalidValue, TooManyValues, UnknownArgument}
use Rattle.clap.specs.declared.parser.matches.ValueSource.TheVariants.{CommandLine}
use Rattle.drg_words.specs.Grammar.{AreKnown, AreOnce, AreSpelt, Grammar, IsOption, IsPlain, Part, dashed, flag, has_name, option, positional, word}
use Rattle.drg_words.proofs.Lawful.{InGrammar, IsLawful, is_name, is_named}
use Rattle.drg_words.proofs.Looks.{Look, bare, brief, ends, look, member, name_long, name_value, plain, valued}
use Rattle.drg_words.proofs.Plain.{no_dash, no_long, no_short}
use Rattle.drg_words.proofs.Steps.{rest_of}
use Rattle.drg_words.proofs.Rows.{used_new}
use Rattle.drg_words.proofs.Rules.{by_id_option, by_id_word, by_index_past, by_index_word, by_long, flag_full, leaf, option_full, rules, same_text, word_full}
use Rattle.drg_words.proofs.Stands.{Stands, after_named, after_positional, comes, fails, finish_complete, finish_sound, flag_use, flag_used, goes, nil_both, nil_parts, once_apart, option_use, option_used, pending_fault, pending_rows, un_not, unnamed, word_use}
use Rattle.drg_words.proofs.Turns.{Pending, after_word, at, attached_turn, dashes_after, dashes_turn, flag_after, flag_turn, flag_value_after, flag_value_turn, held, last_turn, option_after, option_turn, short_after, short_turn, stray_last, stray_turn, unknown_after, unknown_turn, unsettled, value_turn, word_turn}

-- a row for one use
abbrev pub new_row : Text → Text → Row
new_row id v = record { id = id; values = v ∷ []; count = None; source = Some CommandLine; reading = AsWritten }

module _ (name : Text) (g : Grammar) (law : IsLawful g) where
  abbrev pub S : Shape
  S = leaf name g

  abbrev pub R : List Rule
  R = rules g

  abbrev pub fault : List Row → Pending → Kinds
  fault rows p = settle_fault R false (held rows p)

  abbrev pub now : List Row → Pending → List Row
  now rows p = settled_rows R p rows

  abbrev Rest : List Text → List Text → List Text → Type 0
  Rest seen left words = (ps : List Part) × (last : List Text) × AreSpelt ps last words × AreKnown g ps × AreOnce seen ps × (length (positional ps ++ last) ≡ length left)

  -- ---- how it stands after a use

  pub option_named : (n : Text) → has_name g.options n ≡ true → is_named g n ≡ true
  option_named n h = or_left (has_name g.options n) (has_name g.flags n) h

  pub flag_named : (n : Text) → has_name g.flags n ≡ true → is_named g n ≡ true
  flag_named n h = or_right (has_name g.options n) (has_name g.flags n) h

  pub stands_attached : (rows : List Row) (seen done left : List Text) (n v : Text) → has_name g.options n ≡ true → has_row n rows ≡ false → Stands g rows seen done left
      → Stands g (used (option_full n) (v ∷ []) rows) (n ∷ seen) done left
  stands_attached rows seen done left n v h fresh st =
      subst (λ rs. Stands g rs (n ∷ seen) done left) (sym (used_new n (more_values CommandLine (v ∷ [])) (new_row n v ∷ []) rows fresh))
      (after_named g law rows seen done left n (new_row n v) refl (option_named n h) st)

  pub stands_flag : (rows : List Row) (seen done left : List Text) (n : Text) → has_name g.flags n ≡ true → has_row n rows ≡ false → Stands g rows seen done left
      → Stands g (used (flag_full n) [] rows) (n ∷ seen) done left
  stands_flag rows seen done left n h fresh st =
      let v = Rattle.std.specs.Prelude.codes "true" in
      subst (λ rs. Stands g rs (n ∷ seen) done left) (sym (used_new n (more_values CommandLine (v ∷ [])) (new_row n v ∷ []) rows fresh))
      (after_named g law rows seen done left n (new_row n v) refl (flag_named n h) st)

  pub stands_option : (rows : List Row) (seen done left : List Text) (n v : Text) → has_name g.options n ≡ true → has_row n rows ≡ false → Stands g rows seen done left
      → Stands g (now rows (Some (n, v ∷ []))) (n ∷ seen) done left
  stands_option rows seen done left n v h fresh st =
      subst (λ rs. Stands g rs (n ∷ seen) done left) (sym (pending_rows g n (v ∷ []) (option_full n) rows (by_id_option g n h))) (stands_attached rows seen done left n v h fresh st)

  pub id_known : (rows : List Row) (seen done : List Text) (id : Text) (left : List Text) → Stands g rows seen done (id ∷ left) → arg_by_id R id ≡ Some (word_full (1 + length done) id)
  id_known rows seen done id left st =
      let word : has_name g.words id ≡ true = Rattle.drg_words.proofs.Stands.left_word g rows seen done (id ∷ left) st id (or_left (bytes_eq id id) (has_name left id) (same_text id)) in
      let parts = Rattle.std.proofs.lemmas.Bool.or_parts (has_name g.options id) (has_name g.flags id) (unnamed g law id word) in
      by_id_word g done id left st.split parts.0 parts.1 (once_apart g law done id left st.split).0

  pub id_fresh : (rows : List Row) (seen done : List Text) (id : Text) (left : List Text) → Stands g rows seen done (id ∷ left) → has_row id rows ≡ false
  id_fresh rows seen done id left st = st.open_ id (or_left (bytes_eq id id) (has_name left id) (same_text id))

  pub stands_word : (rows : List Row) (seen done : List Text) (id : Text) (left : List Text) (v : Text) → Stands g rows seen done (id ∷ left)
      → Stands g (now rows (Some (id, v ∷ []))) seen (done ++ id ∷ []) left
  stands_word rows seen done id left v st =
      let e = pending_rows g id (v ∷ []) (word_full (1 + length done) id) rows (id_known rows seen done id left st)
      ∙ used_new id (more_values CommandLine (v ∷ [])) (new_row id v ∷ []) rows (id_fresh rows seen done id left st) in
      subst (λ rs. Stands g rs seen (done ++ id ∷ []) left) (sym e) (after_positional g law rows seen done id left (new_row id v) refl refl st)

  pub word_fault : (rows : List Row) (seen done : List Text) (id : Text) (left : List Text) (v : Text) → Stands g rows seen done (id ∷ left) → fault rows (Some (id, v ∷ [])) ≡ []
  word_fault rows seen done id left v st =
      pending_fault g id (v ∷ []) (word_full (1 + length done) id) rows (id_known rows seen done id left st) ∙ word_use (1 + length done) id v rows (id_fresh rows seen done id left st)

  -- ---- places

  pub place : (k : ℕ) (done : List Text) (id : Text) (left : List Text) → k ≡ 1 + length done → g.words ≡ done ++ id ∷ left → arg_by_index R k ≡ Some (word_full k id)
  place k done id left e sp = ap (arg_by_index R) e ∙ by_index_word g done id left sp ∙ ap (λ i. Some (word_full i id)) (sym e)

  past : (k : ℕ) (done : List Text) → k ≡ 1 + length done → g.words ≡ done ++ [] → arg_by_index R k ≡ None
  past k done e sp = ap (arg_by_index R) (e ∙ ap (λ ws. 1 + length ws) (sym (sp ∙ append-nil done))) ∙ by_index_past g

  pub next_place : (k : ℕ) (done : List Text) (id : Text) (left : List Text) → k ≡ 1 + length done → g.words ≡ done ++ id ∷ left → min (k + 1) usize_max ≡ 1 + length (done ++ id ∷ [])
  next_place k done id left e sp =
      let few : length g.words < 1000 = ltb-true (length g.words) 1000 law.few in
      let all : length g.words ≡ length done + suc (length left) = ap length sp ∙ length-append done (id ∷ left) in
      let more : length (done ++ id ∷ []) ≡ length done + 1 = length-append done (id ∷ []) in
      omega arith

  pub shift : (done : List Text) (id : Text) (left : List Text) → g.words ≡ done ++ id ∷ left → g.words ≡ (done ++ id ∷ []) ++ left
  shift done id left sp = sp ∙ sym (append_assoc done (id ∷ []) left)

  -- ---- the words after `--`

  pub sound_last : (words : List Text) (rows : List Row) (p : Pending) (w : Rattle.clap.specs.Walk.Waiting) (k : ℕ) (seen done left : List Text) → k ≡ 1 + length done → g.words ≡ done ++ left
      → (fault rows p ≡ [] → Stands g (now rows p) seen done left) → rest_of S (at (held rows p) w k true) words ≡ [] → (fault rows p ≡ []) × (length words ≡ length left)
  unfolding walk_fault
  sound_last [] rows p w k seen done left e sp st h = let f = finish_sound name g law rows p seen done left st h in (f.0, ap length (sym f.1))
  sound_last (v ∷ rest) rows p w k seen done [] e sp st h = fails S (at (held rows p) w k true) v rest UnknownArgument (stray_last name g rows p k w v (past k done e sp)) h
  sound_last (v ∷ rest) rows p w k seen done (id ∷ left) e sp st h =
      let t = last_turn name g rows p k w v id (place k done id left e sp) in
      let parts = goes S (at (held rows p) w k true) (after_word name g rows p k id v true) v rest (fault rows p) t.0 t.1 h in
      let st0 = st parts.0 in
      let r = sound_last rest (now rows p) (Some (id, v ∷ [])) idle (min (k + 1) usize_max) seen (done ++ id ∷ []) left (next_place k done id left e sp) (shift done id left sp)
      (λ _. stands_word (now rows p) seen done id left v st0) parts.1 in
      (parts.0, ap suc r.1)

  pub complete_last : (words : List Text) (rows : List Row) (p : Pending) (w : Rattle.clap.specs.Walk.Waiting) (k : ℕ) (seen done left : List Text) → k ≡ 1 + length done
      → Stands g (now rows p) seen done left → fault rows p ≡ [] → length words ≡ length left → rest_of S (at (held rows p) w k true) words ≡ []
  unfolding walk_fault
  complete_last [] rows p w k seen done [] e st f h = finish_complete name g law rows p seen done st f
  complete_last [] rows p w k seen done (id ∷ left) e st f h = absurd (omega arith)
  complete_last (v ∷ rest) rows p w k seen done [] e st f h = absurd (omega arith)
  complete_last (v ∷ rest) rows p w k seen done (id ∷ left) e st f h =
      let t = last_turn name g rows p k w v id (place k done id left e st.split) in
      comes S (at (held rows p) w k true) (after_word name g rows p k id v true) v rest (fault rows p) t.0 t.1 f
      (complete_last rest (now rows p) (Some (id, v ∷ [])) idle (min (k + 1) usize_max) seen (done ++ id ∷ []) left (next_place k done id left e st.split)
      (stands_word (now rows p) seen done id left v st) (word_fault (now rows p) seen done id left v st) (omega arith))

  -- ---- what clap takes is in the grammar

  abbrev Claim : List Text → Type 0
  Claim words = All IsUtf8 words → (rows : List Row) (p : Pending) (k : ℕ) (seen done left : List Text) → k ≡ 1 + length done → g.words ≡ done ++ left
      → (fault rows p ≡ [] → Stands g (now rows p) seen done left) → rest_of S (at (held rows p) idle k false) words ≡ [] → (fault rows p ≡ []) × Rest seen left words

  rest_option : (n v : Text) (front rest words seen left : List Text) → words ≡ front ++ rest → IsOption n v front → has_name g.options n ≡ true → has_name seen n ≡ false → Rest (n ∷ seen) left rest
      → Rest seen left words
  rest_option n v front rest words seen left e o h f r = (option n v ∷ r.0, r.1, (front, rest, e, o, r.2), (h, r.3), (f, r.4), r.5)

  rest_flag : (n : Text) (rest words seen left : List Text) → words ≡ dashed n ∷ rest → has_name g.flags n ≡ true → has_name seen n ≡ false → Rest (n ∷ seen) left rest → Rest seen left words
  rest_flag n rest words seen left e h f r = (flag n ∷ r.0, r.1, (dashed n ∷ [], rest, e, refl, r.2), (h, r.3), (f, r.4), r.5)

  rest_word : (w : Text) (rest seen : List Text) (id : Text) (left : List Text) → IsPlain w → Rest seen left rest → Rest seen (id ∷ left) (w ∷ rest)
  rest_word w rest seen id left q r = (word w ∷ r.0, r.1, (w ∷ [], rest, refl, (refl, q), r.2), r.3, r.4, ap suc r.5)

  tail_utf8 : (w : Text) (rest : List Text) → All IsUtf8 (w ∷ rest) → All IsUtf8 rest
  tail_utf8 w rest u = λ k d lt. u (suc k) d (omega arith)

  pub long_option : (n : Text) → has_name g.options n ≡ true → arg_by_long R n ≡ Some (option_full n)
  long_option n h = by_long g n ∙ ap (λ t. cond t (Some (option_full n)) (cond (has_name g.flags n) (Some (flag_full n)) None)) h

  pub long_flag : (n : Text) → has_name g.options n ≡ false → has_name g.flags n ≡ true → arg_by_long R n ≡ Some (flag_full n)
  long_flag n h f = by_long g n ∙ ap₂ (λ s t. cond s (Some (option_full n)) (cond t (Some (flag_full n)) None)) h f

  long_none : (n : Text) → has_name g.options n ≡ false → has_name g.flags n ≡ false → arg_by_long R n ≡ None
  long_none n h f = by_long g n ∙ ap₂ (λ s t. cond s (Some (option_full n)) (cond t (Some (flag_full n)) None)) h f

  sound_valued : (n v w : Text) (rest : List Text) → w ≡ dashed (n ++ 61 ∷ v) → bytes_eq w (45 ∷ 45 ∷ []) ≡ false → long_of w ≡ Some (n, Some v) → Claim rest → Claim (w ∷ rest)
  sound_valued n v w rest e a b ih u rows p k seen done left ke sp st h = by (has_name g.options n) refl (has_name g.flags n) refl
    where
      by : (x : Bool) → has_name g.options n ≡ x → (y : Bool) → has_name g.flags n ≡ y → (fault rows p ≡ []) × Rest seen left (w ∷ rest)
      by true ho y hf =
          let t = attached_turn name g rows p k w n v a b (long_option n ho) in
          let uses = use_fault false (option_full n) (v ∷ []) (now rows p) in
          let parts = goes S (at (held rows p) idle k false) (at (held (used (option_full n) (v ∷ []) (now rows p)) None) idle k false) w rest (or_else (or_else (fault rows p) uses) []) t.0 t.1 h in
          let two = nil_parts (fault rows p) uses (nil_parts (or_else (fault rows p) uses) [] parts.0).0 in
          let fresh = option_used n v (now rows p) two.1 in
          let st0 = st two.0 in
          let r = ih (tail_utf8 w rest u) (used (option_full n) (v ∷ []) (now rows p)) None k (n ∷ seen) done left ke sp (λ _. stands_attached (now rows p) seen done left n v ho fresh st0) parts.1 in
          (two.0, rest_option n v (dashed (n ++ 61 ∷ v) ∷ []) rest (w ∷ rest) seen left (ap (λ t. t ∷ rest) e) (inr refl) ho (sym (st0.named n (option_named n ho)) ∙ fresh) r.1)
      by false ho true hf = fails S (at (held rows p) idle k false) w rest TooManyValues (flag_value_turn name g rows p k w n v a b (long_flag n ho hf)) h
      by false ho false hf = fails S (at (held rows p) idle k false) w rest UnknownArgument (unknown_turn name g rows p k w n (Some v) a b (long_none n ho hf)) h

  -- an option, and the word after it
  sound_option : (n w : Text) (rest : List Text) → w ≡ dashed n → bytes_eq w (45 ∷ 45 ∷ []) ≡ false → long_of w ≡ Some (n, None) → has_name g.options n ≡ true
      → ((words : List Text) → length words ≤ length rest → Claim words) → Claim (w ∷ rest)
  unfolding walk_fault
  sound_option n w rest e a b ho ih u rows p k seen done left ke sp st h = by rest u ih next refl
    where
      known : arg_by_id R n ≡ Some (option_full n)
      known = by_id_option g n ho

      W : Walk
      W = at (held (now rows p) (Some (n, []))) (wants n) k false

      parts : (or_else (fault rows p) [] ≡ []) × (rest_of S W rest ≡ [])
      parts = let t = option_turn name g rows p k w n a b (long_option n ho) in goes S (at (held rows p) idle k false) W w rest (or_else (fault rows p) []) t.0 t.1 h

      settled : fault rows p ≡ []
      settled = (nil_parts (fault rows p) [] parts.0).0

      next : rest_of S W rest ≡ []
      next = parts.1

      never : {X : Type 0} → fault (now rows p) (Some (n, [])) ≡ [] → X
      never f = absurd (cc (unsettled name g (now rows p) n k known, f))

      value : (v : Text) (more : List Text) → IsPlain v → Claim more → All IsUtf8 more → w ∷ rest ≡ w ∷ v ∷ more → rest_of S W (v ∷ more) ≡ [] → (fault rows p ≡ []) × Rest seen left (w ∷ rest)
      value v more q claim um same h =
          let t = value_turn name g (now rows p) n k known v (no_dash v q) (no_long v q) (no_short v q) (same_text n) in
          let go = goes S W (at (held (now rows p) (Some (n, v ∷ []))) idle k false) v more [] t.0 t.1 h in
          let st0 = st settled in
          let free = λ (f : fault (now rows p) (Some (n, v ∷ [])) ≡ []). option_used n v (now rows p) (sym (pending_fault g n (v ∷ []) (option_full n) (now rows p) known) ∙ f) in
          let r = claim um (now rows p) (Some (n, v ∷ [])) k (n ∷ seen) done left ke sp (λ f. stands_option (now rows p) seen done left n v ho (free f) st0) go.1 in
          (settled, rest_option n v (dashed n ∷ v ∷ []) more (w ∷ rest) seen left (same ∙ ap (λ t. t ∷ v ∷ more) e) (inl (refl, q)) ho (sym (st0.named n (option_named n ho)) ∙ free r.0) r.1)

      after : (v : Text) (more : List Text) → Look v → Claim more → All IsUtf8 more → w ∷ rest ≡ w ∷ v ∷ more → rest_of S W (v ∷ more) ≡ [] → (fault rows p ≡ []) × Rest seen left (w ∷ rest)
      after v more (plain q) claim um same h = value v more q claim um same h
      after v more (ends d) claim um same h =
          let t = dashes_after name g (now rows p) n k known in
          let go = goes S W (at (held (now rows p) (Some (n, []))) (wants n) k true) (45 ∷ 45 ∷ []) more [] t.0 t.1 (ap (λ t. rest_of S W (t ∷ more)) (sym d) ∙ h) in
          never (sound_last more (now rows p) (Some (n, [])) (wants n) k seen done left ke sp (λ f. never f) go.1).0
      after v more (bare m d x y) claim um same h = long m None x y (has_name g.options m) refl (has_name g.flags m) refl
        where
          long : (m : Text) (o : Option Text) → bytes_eq v (45 ∷ 45 ∷ []) ≡ false → long_of v ≡ Some (m, o) → (s : Bool) → has_name g.options m ≡ s → (t : Bool) → has_name g.flags m ≡ t → (fault rows p ≡ []) × Rest seen left (w ∷ rest)
          long m o x y true hs t ht = fails S W v more InvalidValue (option_after name g (now rows p) n k known v m o x y (long_option m hs)) h
          long m None x y false hs true ht = fails S W v more InvalidValue (flag_after name g (now rows p) n k known v m x y (long_flag m hs ht)) h
          long m (Some z) x y false hs true ht = fails S W v more TooManyValues (flag_value_after name g (now rows p) n k known v m z x y (long_flag m hs ht)) h
          long m o x y false hs false ht = fails S W v more UnknownArgument (unknown_after name g (now rows p) n k known v m o x y (long_none m hs ht)) h
      after v more (valued m z d x y) claim um same h = long m (Some z) x y (has_name g.options m) refl (has_name g.flags m) refl
        where
          long : (m : Text) (o : Option Text) → bytes_eq v (45 ∷ 45 ∷ []) ≡ false → long_of v ≡ Some (m, o) → (s : Bool) → has_name g.options m ≡ s → (t : Bool) → has_name g.flags m ≡ t → (fault rows p ≡ []) × Rest seen left (w ∷ rest)
          long m o x y true hs t ht = fails S W v more InvalidValue (option_after name g (now rows p) n k known v m o x y (long_option m hs)) h
          long m None x y false hs true ht = fails S W v more InvalidValue (flag_after name g (now rows p) n k known v m x y (long_flag m hs ht)) h
          long m (Some z) x y false hs true ht = fails S W v more TooManyValues (flag_value_after name g (now rows p) n k known v m z x y (long_flag m hs ht)) h
          long m o x y false hs false ht = fails S W v more UnknownArgument (unknown_after name g (now rows p) n k known v m o x y (long_none m hs ht)) h
      after v more (brief x y xs a2 b2 c2 f) claim um same h = fails S W v more UnknownArgument (short_after name g (now rows p) n k known v x y xs a2 b2 c2 f) h

      by : (words : List Text) → All IsUtf8 (w ∷ words) → ((ws : List Text) → length ws ≤ length words → Claim ws) → rest_of S W words ≡ [] → rest ≡ words → (fault rows p ≡ []) × Rest seen left (w ∷ rest)
      by [] uw claims h same = never (nil_parts (fault (now rows p) (Some (n, []))) _ h).0
      by (v ∷ more) uw claims h same =
          after v more (look v (uw 1 v (omega arith))) (claims more (omega arith)) (λ i d lt. uw (suc (suc i)) d (omega arith)) (ap (λ r. w ∷ r) same) h

  sound_bare : (n w : Text) (rest : List Text) → w ≡ dashed n → bytes_eq w (45 ∷ 45 ∷ []) ≡ false → long_of w ≡ Some (n, None)
      → ((words : List Text) → length words ≤ length rest → Claim words) → Claim (w ∷ rest)
  sound_bare n w rest e a b ih u rows p k seen done left ke sp st h = by (has_name g.options n) refl (has_name g.flags n) refl
    where
      by : (x : Bool) → has_name g.options n ≡ x → (y : Bool) → has_name g.flags n ≡ y → (fault rows p ≡ []) × Rest seen left (w ∷ rest)
      by true ho y hf = sound_option n w rest e a b ho ih u rows p k seen done left ke sp st h
      by false ho true hf =
          let t = flag_turn name g rows p k w n a b (long_flag n ho hf) in
          let uses = use_fault false (flag_full n) [] (now rows p) in
          let parts = goes S (at (held rows p) idle k false) (at (held (used (flag_full n) [] (now rows p)) None) idle k false) w rest (or_else (or_else (fault rows p) uses) []) t.0 t.1 h in
          let two = nil_parts (fault rows p) uses (nil_parts (or_else (fault rows p) uses) [] parts.0).0 in
          let fresh = flag_used n (now rows p) two.1 in
          let st0 = st two.0 in
          let r = ih rest (omega arith) (tail_utf8 w rest u) (used (flag_full n) [] (now rows p)) None k (n ∷ seen) done left ke sp (λ _. stands_flag (now rows p) seen done left n hf fresh st0) parts.1 in
          (two.0, rest_flag n rest (w ∷ rest) seen left (ap (λ t. t ∷ rest) e) hf (sym (st0.named n (flag_named n hf)) ∙ fresh) r.1)
      by false ho false hf = fails S (at (held rows p) idle k false) w rest UnknownArgument (unknown_turn name g rows p k w n None a b (long_none n ho hf)) h

  sound_plain : (w : Text) (rest : List Text) → IsPlain w → Claim rest → Claim (w ∷ rest)
  sound_plain w rest q ih u rows p k seen done [] ke sp st h =
      fails S (at (held rows p) idle k false) w rest UnknownArgument (stray_turn name g rows p k w (no_dash w q) (no_long w q) (no_short w q) (past k done ke sp)) h
  sound_plain w rest q ih u rows p k seen done (id ∷ left) ke sp st h =
      let t = word_turn name g rows p k w id (no_dash w q) (no_long w q) (no_short w q) (place k done id left ke sp) in
      let parts = goes S (at (held rows p) idle k false) (after_word name g rows p k id w false) w rest (fault rows p) t.0 t.1 h in
      let st0 = st parts.0 in
      let r = ih (tail_utf8 w rest u) (now rows p) (Some (id, w ∷ [])) (min (k + 1) usize_max) seen (done ++ id ∷ []) left (next_place k done id left ke sp) (shift done id left sp)
      (λ _. stands_word (now rows p) seen done id left w st0) parts.1 in
      (parts.0, rest_word w rest seen id left q r.1)

  sound_ends : (w : Text) (rest : List Text) → w ≡ 45 ∷ 45 ∷ [] → Claim (w ∷ rest)
  sound_ends w rest e u rows p k seen done left ke sp st h =
      let t = dashes_turn name g rows p k in
      let W = at (held rows p) idle k false in
      let parts = goes S W (at (held rows p) idle k true) (45 ∷ 45 ∷ []) rest [] t.0 t.1 (ap (λ t. rest_of S W (t ∷ rest)) (sym e) ∙ h) in
      let r = sound_last rest rows p idle k seen done left ke sp st parts.1 in
      (r.0, ([], rest, inr (ap (λ t. t ∷ rest) e), tt, tt, r.1))

  sound_nil : Claim []
  unfolding walk_fault
  sound_nil u rows p k seen done left ke sp st h =
      let f = finish_sound name g law rows p seen done left st h in
      (f.0, ([], [], inl (refl, refl), tt, tt, ap length (sym f.1)))

  sound_word : (w : Text) (rest : List Text) → ((words : List Text) → length words ≤ length rest → Claim words) → Look w → Claim (w ∷ rest)
  sound_word w rest ih (ends e) = sound_ends w rest e
  sound_word w rest ih (plain q) = sound_plain w rest q (ih rest (omega arith))
  sound_word w rest ih (bare n e a b) = sound_bare n w rest e a b ih
  sound_word w rest ih (valued n v e a b) = sound_valued n v w rest e a b (ih rest (omega arith))
  sound_word w rest ih (brief x y xs a b c f) = λ u rows p k seen done left ke sp st h. fails S (at (held rows p) idle k false) w rest UnknownArgument (short_turn name g rows p k w x y xs a b c f) h

  sound : (fuel : ℕ) (words : List Text) → length words ≤ fuel → Claim words
  sound fuel [] lt = sound_nil
  sound zero (w ∷ rest) lt = absurd (omega arith)
  sound (suc fuel) (w ∷ rest) lt = λ u. sound_word w rest (λ ws le. sound fuel ws (omega arith)) (look w (u 0 w (omega arith))) u

  -- ---- what is in the grammar clap takes

  pub option_name : (n : Text) → has_name g.options n ≡ true → is_name n ≡ true
  option_name n h = member is_name g.options n law.options h

  pub flag_name : (n : Text) → has_name g.flags n ≡ true → is_name n ≡ true
  flag_name n h = member is_name g.flags n law.flags h

  pub flag_only : (n : Text) → has_name g.flags n ≡ true → has_name g.options n ≡ false
  flag_only n h = un_not (has_name g.options n) (member (λ m. not (has_name g.options m)) g.flags n law.apart h)

  complete : (ps : List Part) (last words : List Text) (rows : List Row) (p : Pending) (k : ℕ) (seen done left : List Text) → k ≡ 1 + length done
      → Stands g (now rows p) seen done left → fault rows p ≡ [] → AreSpelt ps last words → AreKnown g ps → AreOnce seen ps → length (positional ps ++ last) ≡ length left
      → rest_of S (at (held rows p) idle k false) words ≡ []
  unfolding walk_fault
  complete [] last words rows p k seen done [] ke st f (inl a) kn on c =
      ap (rest_of S (at (held rows p) idle k false)) a.0 ∙ finish_complete name g law rows p seen done st f
  complete [] last words rows p k seen done (id ∷ left) ke st f (inl a) kn on c = let e = ap length a.1 in absurd (omega arith)
  complete [] last words rows p k seen done left ke st f (inr a) kn on c =
      let t = dashes_turn name g rows p k in
      ap (rest_of S (at (held rows p) idle k false)) a
      ∙ comes S (at (held rows p) idle k false) (at (held rows p) idle k true) (45 ∷ 45 ∷ []) last [] t.0 t.1 refl (complete_last last rows p idle k seen done left ke st f c)
  complete (option n v ∷ ps) last words rows p k seen done left ke st f (front, rest, e, inl o, more) kn on c =
      let fresh = st.named n (option_named n kn.0) ∙ on.0 in
      let known = by_id_option g n kn.0 in
      let long = name_long n (option_name n kn.0) in
      let t = option_turn name g rows p k (dashed n) n long.0 long.1 (long_option n kn.0) in
      let W = at (held (now rows p) (Some (n, []))) (wants n) k false in
      let t2 = value_turn name g (now rows p) n k known v (no_dash v o.1) (no_long v o.1) (no_short v o.1) (same_text n) in
      ap (rest_of S (at (held rows p) idle k false)) (e ∙ ap (λ x. x ++ rest) o.0)
      ∙ comes S (at (held rows p) idle k false) W (dashed n) (v ∷ rest) (or_else (fault rows p) []) t.0 t.1 (nil_both (fault rows p) [] f refl)
      (comes S W (at (held (now rows p) (Some (n, v ∷ []))) idle k false) v rest [] t2.0 t2.1 refl
      (complete ps last rest (now rows p) (Some (n, v ∷ [])) k (n ∷ seen) done left ke (stands_option (now rows p) seen done left n v kn.0 fresh st)
      (pending_fault g n (v ∷ []) (option_full n) (now rows p) known ∙ option_use n v (now rows p) fresh) more kn.1 on.1 c))
  complete (option n v ∷ ps) last words rows p k seen done left ke st f (front, rest, e, inr o, more) kn on c =
      let fresh = st.named n (option_named n kn.0) ∙ on.0 in
      let long = name_value n v (option_name n kn.0) in
      let t = attached_turn name g rows p k (dashed (n ++ 61 ∷ v)) n v long.0 long.1 (long_option n kn.0) in
      let uses = use_fault false (option_full n) (v ∷ []) (now rows p) in
      ap (rest_of S (at (held rows p) idle k false)) (e ∙ ap (λ x. x ++ rest) o)
      ∙ comes S (at (held rows p) idle k false) (at (held (used (option_full n) (v ∷ []) (now rows p)) None) idle k false) (dashed (n ++ 61 ∷ v)) rest (or_else (or_else (fault rows p) uses) []) t.0 t.1
      (nil_both (or_else (fault rows p) uses) [] (nil_both (fault rows p) uses f (option_use n v (now rows p) fresh)) refl)
      (complete ps last rest (used (option_full n) (v ∷ []) (now rows p)) None k (n ∷ seen) done left ke (stands_attached (now rows p) seen done left n v kn.0 fresh st) refl more kn.1 on.1 c)
  complete (flag n ∷ ps) last words rows p k seen done left ke st f (front, rest, e, o, more) kn on c =
      let fresh = st.named n (flag_named n kn.0) ∙ on.0 in
      let long = name_long n (flag_name n kn.0) in
      let t = flag_turn name g rows p k (dashed n) n long.0 long.1 (long_flag n (flag_only n kn.0) kn.0) in
      let uses = use_fault false (flag_full n) [] (now rows p) in
      ap (rest_of S (at (held rows p) idle k false)) (e ∙ ap (λ x. x ++ rest) o)
      ∙ comes S (at (held rows p) idle k false) (at (held (used (flag_full n) [] (now rows p)) None) idle k false) (dashed n) rest (or_else (or_else (fault rows p) uses) []) t.0 t.1
      (nil_both (or_else (fault rows p) uses) [] (nil_both (fault rows p) uses f (flag_use n (now rows p) fresh)) refl)
      (complete ps last rest (used (flag_full n) [] (now rows p)) None k (n ∷ seen) done left ke (stands_flag (now rows p) seen done left n kn.0 fresh st) refl more kn.1 on.1 c)
  complete (word w ∷ ps) last words rows p k seen done [] ke st f s kn on c = absurd (omega arith)
  complete (word w ∷ ps) last words rows p k seen done (id ∷ left) ke st f (front, rest, e, o, more) kn on c =
      let q = o.1 in
      let t = word_turn name g rows p k w id (no_dash w q) (no_long w q) (no_short w q) (place k done id left ke st.split) in
      ap (rest_of S (at (held rows p) idle k false)) (e ∙ ap (λ x. x ++ rest) o.0)
      ∙ comes S (at (held rows p) idle k false) (after_word name g rows p k id w false) w rest (fault rows p) t.0 t.1 f
      (complete ps last rest (now rows p) (Some (id, w ∷ [])) (min (k + 1) usize_max) seen (done ++ id ∷ []) left (next_place k done id left ke st.split)
      (stands_word (now rows p) seen done id left w st) (word_fault (now rows p) seen done id left w st) more kn on (omega arith))

  -- ---- both

  pub start : Stands g [] [] [] g.words
  start = record { split = refl; named = λ n e. refl; given = λ n e. absurd (true≢false (sym e)); open_ = λ n e. refl }

  pub exact : (words : List Text) → All IsUtf8 words → (level_fault S [] nothing_held words false [] ≡ []) ↔ InGrammar g words
  exact words u = (
    λ h. let r = (sound (length words) words (omega arith) u [] None 1 [] [] g.words refl refl (λ _. start) h).1 in
        (r.0, r.1, record { spelt = r.2; known = r.3; once = r.4; count = r.5 }),
    λ l. complete l.0 l.1 words [] None 1 [] [] g.words refl start refl l.2.spelt l.2.known l.2.once l.2.count,
  )
