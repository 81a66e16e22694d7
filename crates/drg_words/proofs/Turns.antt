-- One word of a command, by what it looks like.
use Rattle.std.proofs.Common.{◌≡◌, ◌∙◌, ◌+◌, ◌&&◌, Bool, cond, true, false, refl, [], ◌∷◌, ◌++◌, List, ℕ, Some, None, Option, ap, length, min}
use Rattle.std.specs.Prelude.{drop, encode_utf8, slice_get}
use Rattle.std.specs.Str.{bytes_eq, chars}
use Rattle.clap.specs.Lexer.{long_of, short_of, usize_max}
use Rattle.clap.specs.Words.{Kinds, Row, Rule, Text}
use Rattle.clap.specs.Kinds.{or_else}
use Rattle.clap.specs.Faults.{bundle_step_fault, flags_fault, settle_fault, short_fault, turn_fault, use_fault}
use Rattle.clap.specs.Walk.{Held, Waiting, Walk, arg_by_id, arg_by_index, arg_by_long, arg_by_short, idle, is_pending, option, settled_rows, used, value, walked}
use Rattle.clap.specs.declared.error.kind.ErrorKind.TheVariants.{InvalidValue, TooManyValues, UnknownArgument}
use Rattle.clap.proofs.OnLiterals.{clap_on_literals}
use Rattle.drg_words.specs.Grammar.{Grammar}
use Rattle.drg_words.proofs.Rules.{by_short, flag_full, leaf, option_full, rules, word_full}

abbrev pub Pending : Type 0
Pending = Option (Text × List Text)

abbrev pub held : List Row → Pending → Held
held rows p = record { rows = rows; pending = p; skip = 0 }

-- the walk between two words
abbrev pub at : Held → Waiting → ℕ → Bool → Walk
at h w k t = record { held = h; waiting = w; position = k; is_trailing = t; stopped = None }

module _ (name : Text) (g : Grammar) (rows : List Row) (p : Pending) (k : ℕ) where
  abbrev R : List Rule
  R = rules g

  abbrev pub here : Waiting → Walk
  here w = at (held rows p) w k false

  abbrev pub settle : Kinds
  settle = settle_fault R false (held rows p)

  abbrev pub now : List Row
  now = settled_rows R p rows

  -- `--name=value`
  pub attached_turn : (word n v : Text) → bytes_eq word (45 ∷ 45 ∷ []) ≡ false → long_of word ≡ Some (n, Some v) → arg_by_long R n ≡ Some (option_full n)
      → (turn_fault (leaf name g) [] (here idle) word ≡ or_else (or_else settle (use_fault false (option_full n) (v ∷ []) now)) [])
      × (walked R [] (here idle) word ≡ at (held (used (option_full n) (v ∷ []) now) None) idle k false)
  unfolding clap_on_literals
  attached_turn word n v a b e = (rw (a, b, e) refl, rw (a, b, e) refl)

  -- `--name`, of an option
  pub option_turn : (word n : Text) → bytes_eq word (45 ∷ 45 ∷ []) ≡ false → long_of word ≡ Some (n, None) → arg_by_long R n ≡ Some (option_full n)
      → (turn_fault (leaf name g) [] (here idle) word ≡ or_else settle [])
      × (walked R [] (here idle) word ≡ at (held now (Some (n, []))) (option n) k false)
  unfolding clap_on_literals
  option_turn word n a b e = (rw (a, b, e) refl, rw (a, b, e) refl)

  -- `--name`, of a flag
  pub flag_turn : (word n : Text) → bytes_eq word (45 ∷ 45 ∷ []) ≡ false → long_of word ≡ Some (n, None) → arg_by_long R n ≡ Some (flag_full n)
      → (turn_fault (leaf name g) [] (here idle) word ≡ or_else (or_else settle (use_fault false (flag_full n) [] now)) [])
      × (walked R [] (here idle) word ≡ at (held (used (flag_full n) [] now) None) idle k false)
  unfolding clap_on_literals
  flag_turn word n a b e = (rw (a, b, e) refl, rw (a, b, e) refl)

  pub flag_value_turn : (word n v : Text) → bytes_eq word (45 ∷ 45 ∷ []) ≡ false → long_of word ≡ Some (n, Some v) → arg_by_long R n ≡ Some (flag_full n)
      → turn_fault (leaf name g) [] (here idle) word ≡ TooManyValues ∷ []
  unfolding clap_on_literals
  flag_value_turn word n v a b e = rw (a, b, e) refl

  pub unknown_turn : (word n : Text) (v : Option Text) → bytes_eq word (45 ∷ 45 ∷ []) ≡ false → long_of word ≡ Some (n, v) → arg_by_long R n ≡ None
      → turn_fault (leaf name g) [] (here idle) word ≡ UnknownArgument ∷ []
  unfolding clap_on_literals
  unknown_turn word n v a b e = rw (a, b, e) refl

  -- `-abc`
  pub flags_fail : (x y : ℕ) (xs : Text) → slice_get (chars (x ∷ xs)) 0 ≡ Some y → flags_fault R false (length (x ∷ xs)) (x ∷ xs) 0 (held rows p) ≡ UnknownArgument ∷ []
  unfolding flags_fault
  flags_fail x y xs e =
      ap (λ o. bundle_step_fault R false o (x ∷ xs) 0 (held rows p) (flags_fault R false (length xs))) e
      ∙ ap (λ o. short_fault R false o (drop (length (encode_utf8 y)) (x ∷ xs)) (held rows p) (flags_fault R false (length xs) (drop (length (encode_utf8 y)) (x ∷ xs)) 0)) (by_short g y)

  pub short_turn : (word : Text) (x y : ℕ) (xs : Text) → bytes_eq word (45 ∷ 45 ∷ []) ≡ false → long_of word ≡ None → short_of word ≡ Some (x ∷ xs)
      → slice_get (chars (x ∷ xs)) 0 ≡ Some y → turn_fault (leaf name g) [] (here idle) word ≡ UnknownArgument ∷ []
  unfolding walked
  short_turn word x y xs a b c first = by (flags_fail x y xs first)
    where
      by : flags_fault R false (length (x ∷ xs)) (x ∷ xs) 0 (held rows p) ≡ UnknownArgument ∷ [] → turn_fault (leaf name g) [] (here idle) word ≡ UnknownArgument ∷ []
      by d = rw (a, b, c, d) refl

  both_false : {X : Type 0} (b : Bool) (x y : X) → cond (b && false) x y ≡ y
  both_false true x y = refl
  both_false false x y = refl

  abbrev pub after_word : Text → Text → Bool → Walk
  after_word id word t = at (held now (Some (id, word ∷ []))) idle (min (k + 1) usize_max) t

  -- a positional word
  pub word_turn : (word id : Text) → bytes_eq word (45 ∷ 45 ∷ []) ≡ false → long_of word ≡ None → short_of word ≡ None → arg_by_index R k ≡ Some (word_full k id)
      → (turn_fault (leaf name g) [] (here idle) word ≡ settle) × (walked R [] (here idle) word ≡ after_word id word false)
  unfolding clap_on_literals
  word_turn word id a b c e = (
    rw (a, b, c, e) (both_false (is_pending (word_full k id) p) [] settle),
    rw (a, b, c, e) (ap (λ (h : Held). at (record h { pending = Some ((Rattle.clap.specs.Walk.started id h.pending).0, (Rattle.clap.specs.Walk.started id h.pending).1 ++ word ∷ []) }) idle (min (k + 1) usize_max) false)
        (both_false (is_pending (word_full k id) p) (held rows p) (held now None))),
  )

  pub stray_turn : (word : Text) → bytes_eq word (45 ∷ 45 ∷ []) ≡ false → long_of word ≡ None → short_of word ≡ None → arg_by_index R k ≡ None
      → turn_fault (leaf name g) [] (here idle) word ≡ UnknownArgument ∷ []
  unfolding clap_on_literals
  stray_turn word a b c e = rw (a, b, c, e) refl

  -- `--`
  pub dashes_turn : (turn_fault (leaf name g) [] (here idle) (45 ∷ 45 ∷ []) ≡ []) × (walked R [] (here idle) (45 ∷ 45 ∷ []) ≡ at (held rows p) idle k true)
  unfolding clap_on_literals
  dashes_turn = (refl, refl)

  -- words after it
  pub last_turn : (w : Waiting) (word id : Text) → arg_by_index R k ≡ Some (word_full k id)
      → (turn_fault (leaf name g) [] (at (held rows p) w k true) word ≡ settle) × (walked R [] (at (held rows p) w k true) word ≡ after_word id word true)
  unfolding clap_on_literals
  last_turn w word id e = (
    rw e (both_false (is_pending (word_full k id) p) [] settle),
    rw e (ap (λ (h : Held). at (record h { pending = Some ((Rattle.clap.specs.Walk.started id h.pending).0, (Rattle.clap.specs.Walk.started id h.pending).1 ++ word ∷ []) }) idle (min (k + 1) usize_max) true)
        (both_false (is_pending (word_full k id) p) (held rows p) (held now None))),
  )

  pub stray_last : (w : Waiting) (word : Text) → arg_by_index R k ≡ None → turn_fault (leaf name g) [] (at (held rows p) w k true) word ≡ UnknownArgument ∷ []
  unfolding clap_on_literals
  stray_last w word e = rw e refl

-- ---- the word after an option that wants a value

module _ (name : Text) (g : Grammar) (rows : List Row) (n : Text) (k : ℕ) (known : arg_by_id (rules g) n ≡ Some (option_full n)) where
  abbrev pub wanting : Walk
  wanting = at (held rows (Some (n, []))) (option n) k false

  -- is its value
  pub value_turn : (word : Text) → bytes_eq word (45 ∷ 45 ∷ []) ≡ false → long_of word ≡ None → short_of word ≡ None → bytes_eq n n ≡ true
      → (turn_fault (leaf name g) [] wanting word ≡ []) × (walked (rules g) [] wanting word ≡ at (held rows (Some (n, word ∷ []))) idle k false)
  unfolding clap_on_literals
  value_turn word a b c s = (rw (a, b, c) refl, rw (a, b, c, known, s) refl)

  pub unsettled : settle_fault (rules g) false (held rows (Some (n, []))) ≡ InvalidValue ∷ []
  unsettled = rw known refl

  -- or the words fail
  pub dashes_after : (turn_fault (leaf name g) [] wanting (45 ∷ 45 ∷ []) ≡ []) × (walked (rules g) [] wanting (45 ∷ 45 ∷ []) ≡ at (held rows (Some (n, []))) (option n) k true)
  unfolding clap_on_literals
  dashes_after = (refl, refl)

  pub option_after : (word m : Text) (v : Option Text) → bytes_eq word (45 ∷ 45 ∷ []) ≡ false → long_of word ≡ Some (m, v) → arg_by_long (rules g) m ≡ Some (option_full m)
      → turn_fault (leaf name g) [] wanting word ≡ InvalidValue ∷ []
  unfolding clap_on_literals
  option_after word m (Some v) a b e = rw (a, b, e, known) refl
  option_after word m None a b e = rw (a, b, e, known) refl

  pub flag_after : (word m : Text) → bytes_eq word (45 ∷ 45 ∷ []) ≡ false → long_of word ≡ Some (m, None) → arg_by_long (rules g) m ≡ Some (flag_full m)
      → turn_fault (leaf name g) [] wanting word ≡ InvalidValue ∷ []
  unfolding clap_on_literals
  flag_after word m a b e = rw (a, b, e, known) refl

  pub flag_value_after : (word m v : Text) → bytes_eq word (45 ∷ 45 ∷ []) ≡ false → long_of word ≡ Some (m, Some v) → arg_by_long (rules g) m ≡ Some (flag_full m)
      → turn_fault (leaf name g) [] wanting word ≡ TooManyValues ∷ []
  unfolding clap_on_literals
  flag_value_after word m v a b e = rw (a, b, e) refl

  pub unknown_after : (word m : Text) (v : Option Text) → bytes_eq word (45 ∷ 45 ∷ []) ≡ false → long_of word ≡ Some (m, v) → arg_by_long (rules g) m ≡ None
      → turn_fault (leaf name g) [] wanting word ≡ UnknownArgument ∷ []
  unfolding clap_on_literals
  unknown_after word m v a b e = rw (a, b, e) refl

  pub short_after : (word : Text) (x y : ℕ) (xs : Text) → bytes_eq word (45 ∷ 45 ∷ []) ≡ false → long_of word ≡ None → short_of word ≡ Some (x ∷ xs)
      → slice_get (chars (x ∷ xs)) 0 ≡ Some y → turn_fault (leaf name g) [] wanting word ≡ UnknownArgument ∷ []
  unfolding walked
  short_after word x y xs a b c first = by (flags_fail name g rows (Some (n, [])) k x y xs first)
    where
      by : flags_fault (rules g) false (length (x ∷ xs)) (x ∷ xs) 0 (held rows (Some (n, []))) ≡ UnknownArgument ∷ [] → turn_fault (leaf name g) [] wanting word ≡ UnknownArgument ∷ []
      by d = rw (a, b, c, d) refl
