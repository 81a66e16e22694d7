-- clap takes exactly the words of the commands of a program.
use Rattle.std.proofs.Common.{◌≡◌, ◌∙◌, ◌&&◌, Bool, cond, true, false, suc, refl, [], ◌∷◌, map, List, ℕ, Some, None, Option, ap, ap₂, sym, subst, length, drop, arith, codes, ◌↔◌}
use Rattle.std.specs.Prelude.{IsUtf8, slice_get, is_some, fold, option_map}
use Rattle.std.specs.List.{All, find}
use Rattle.std.specs.Str.{bytes_eq, chars}
use Rattle.std.proofs.lemmas.Slice.Eq.{bytes_eq-Decides}
use Rattle.clap.specs.Lexer.{long_of, short_of}
use Rattle.clap.specs.Words.{App, Kinds, Shape, Text, fault_of, subcommand_of}
use Rattle.clap.specs.Kinds.{or_else}
use Rattle.clap.specs.Simple.{built, entered, label_of, names_of, rows_at}
use Rattle.clap.specs.Faults.{built_fault, bundle_step_fault, check_fault, defaults_fault, entered_fault, flags_fault, level_fault, settle_fault, turn_fault, walk_fault}
use Rattle.clap.specs.Walk.{Names, Walk, answers_to, finished, nothing_held, settled, rows_after, stop_after, walk_from, walked}
use Rattle.clap.specs.declared.error.kind.ErrorKind.{ErrorKind}
use Rattle.clap.specs.declared.error.kind.ErrorKind.TheVariants.{InvalidSubcommand, UnknownArgument}
use Rattle.clap.proofs.OnLiterals.{clap_on_literals}
use Rattle.clap.proofs.WalkLemmas.{walk_stopped}
use Rattle.clap.proofs.FaultLemmas.{stopped_fault}
use Rattle.drg_words.specs.Grammar.{Grammar, IsPlain}
use Rattle.drg_words.specs.Matches.{bare, grammar_named}
use Rattle.drg_words.proofs.Lawful.{AreLawful, InCommands, InGrammar, IsLawful}
use Rattle.drg_words.proofs.Lines.{exact}
use Rattle.drg_words.proofs.Looks.{Look, bare as bare_word, brief, ends, look, plain, valued}
use Rattle.drg_words.proofs.Plain.{no_dash, no_long, no_short}
use Rattle.drg_words.proofs.Rules.{leaf, rules}
use Rattle.drg_words.proofs.Stands.{nil_parts}

abbrev pub sub_of : Text × Grammar → Shape
sub_of c = leaf c.0 c.1

abbrev pub top : Shape
top = record bare.top { is_leaf = false; is_built = true }

-- the built program
abbrev pub built_commands : List (Text × Grammar) → App
built_commands cs = record { top = top; subs = map sub_of cs }

abbrev pub names : List (Text × Grammar) → Names
names cs = map label_of (map sub_of cs)

-- the command of a first word
pub data Named (cs : List (Text × Grammar)) (w : Text) : Type 0 where
  no : find (answers_to w) (names cs) ≡ None → grammar_named cs w ≡ None → Named cs w
  yes : (g : Grammar) → find (answers_to w) (names cs) ≡ Some (w, []) → find (λ s. answers_to w (label_of s)) (map sub_of cs) ≡ Some (leaf w g) → IsLawful g
      → grammar_named cs w ≡ Some g → Named cs w

pub named : (cs : List (Text × Grammar)) → AreLawful cs → (w : Text) → Named cs w
named [] law w = no refl refl
named (c ∷ cs) law w = by (bytes_eq c.0 w) refl (named cs law.1 w)
  where
    by : (b : Bool) → bytes_eq c.0 w ≡ b → Named cs w → Named (c ∷ cs) w
    by true e n =
        let same = (bytes_eq-Decides c.0 w).0 e in
        yes c.1 (rw e (ap (λ t. Some (t, [])) same)) (rw e (ap (λ t. Some (leaf t c.1)) same)) law.0 (rw e refl)
    by false e (no f h) = no (rw e f) (rw e h)
    by false e (yes g f s l h) = yes g (rw e f) (rw e s) l (rw e h)

or_else_nil : (k : Kinds) → or_else k [] ≡ k
or_else_nil [] = refl
or_else_nil (k ∷ ks) = refl

module _ (cs : List (Text × Grammar)) where
  abbrev B : App
  B = built_commands cs

  abbrev start : Walk
  start = walk_from nothing_held

  abbrev entry : Text → List Text → Walk
  entry w rest = record start { stopped = Some (w, rest) }

  abbrev from_walk : Walk → Kinds → Kinds
  from_walk v k = or_else k (or_else (entered_fault B v.stopped) (or_else (settle_fault top.rules false v.held)
      (or_else (defaults_fault (settled top.rules v.held).rows top.rules)
      (check_fault top (finished top.rules v.held) (is_some (entered B v.stopped))))))

  abbrev turn : Text → Kinds
  turn w = turn_fault top (names cs) start w

  abbrev after : Text → Walk
  after w = walked top.rules (names cs) start w

  abbrev through : Walk → Kinds → List Text → Kinds
  through v k rest = from_walk (fold (walked top.rules (names cs)) v rest) (or_else k (walk_fault top (names cs) v rest))

  opens : (w : Text) (rest : List Text) → built_fault B nothing_held (w ∷ rest) ≡ through (after w) (turn w) rest
  unfolding walk_fault
  opens w rest = refl

  no_help : (b : Bool) (k : Kinds) → cond (b && false) k [] ≡ []
  no_help true k = refl
  no_help false k = refl

  enters : (w : Text) → find (answers_to w) (names cs) ≡ Some (w, []) → (turn w ≡ []) × (after w ≡ entry w [])
  unfolding walked
  enters w f = (rw f (ap (λ k. or_else k []) (no_help (bytes_eq w (codes "help")) _)), rw f refl)

  stops : (w : Text) (rest : List Text) (g : Grammar) → find (λ s. answers_to w (label_of s)) (map sub_of cs) ≡ Some (leaf w g)
      → from_walk (entry w rest) [] ≡ or_else (level_fault (leaf w g) [] nothing_held rest false []) []
  unfolding defaults_fault
  stops w rest g s = rw s refl

  pub found : (w : Text) (rest : List Text) (g : Grammar) → find (answers_to w) (names cs) ≡ Some (w, []) → find (λ s. answers_to w (label_of s)) (map sub_of cs) ≡ Some (leaf w g)
      → built_fault B nothing_held (w ∷ rest) ≡ level_fault (leaf w g) [] nothing_held rest false []
  found w rest g f s =
      let e = enters w f in
      opens w rest ∙ ap₂ (λ v k. through v k rest) e.1 e.0
      ∙ ap₂ from_walk (sym (walk_stopped top.rules (names cs) start w [] rest)) (stopped_fault top (names cs) start (w, []) rest)
      ∙ stops w rest g s ∙ or_else_nil (level_fault (leaf w g) [] nothing_held rest false [])

  -- no command has the name
  refused : (w : Text) (rest : List Text) (k : ErrorKind) (ks : Kinds) → turn w ≡ k ∷ ks → built_fault B nothing_held (w ∷ rest) ≡ [] → ⊥
  refused w rest k ks t h =
      let v = nil_parts (or_else (turn w) (walk_fault top (names cs) (after w) rest)) _ (sym (opens w rest) ∙ h) in
      cc (t, (nil_parts (turn w) (walk_fault top (names cs) (after w) rest) v.0).0)

  flags_fail : (x y : ℕ) (xs : Text) → slice_get (chars (x ∷ xs)) 0 ≡ Some y → flags_fault [] false (length (x ∷ xs)) (x ∷ xs) 0 nothing_held ≡ UnknownArgument ∷ []
  unfolding flags_fault
  flags_fail x y xs e = ap (λ o. bundle_step_fault [] false o (x ∷ xs) 0 nothing_held (flags_fault [] false (length xs))) e

  short_fails : (w : Text) (x : ℕ) (xs : Text) → find (answers_to w) (names cs) ≡ None → bytes_eq w (45 ∷ 45 ∷ []) ≡ false → long_of w ≡ None → short_of w ≡ Some (x ∷ xs)
      → flags_fault [] false (length (x ∷ xs)) (x ∷ xs) 0 nothing_held ≡ UnknownArgument ∷ [] → turn w ≡ UnknownArgument ∷ []
  unfolding walked
  short_fails w x xs f a b c d = rw (f, a, b, c, d) refl

  plain_fails : (w : Text) → find (answers_to w) (names cs) ≡ None → IsPlain w → turn w ≡ UnknownArgument ∷ InvalidSubcommand ∷ []
  unfolding walked
  plain_fails w f q = rw (f, no_dash w q, no_long w q, no_short w q) refl

  long_fails : (w n : Text) (v : Option Text) → find (answers_to w) (names cs) ≡ None → bytes_eq w (45 ∷ 45 ∷ []) ≡ false → long_of w ≡ Some (n, v) → turn w ≡ UnknownArgument ∷ []
  unfolding walked
  long_fails w n v f a b = rw (f, a, b) refl

  dashes_fail : (rest : List Text) → find (answers_to (45 ∷ 45 ∷ [])) (names cs) ≡ None → built_fault B nothing_held ((45 ∷ 45 ∷ []) ∷ rest) ≡ [] → ⊥
  unfolding clap_on_literals
  dashes_fail rest f h = by rest (sym (ap₂ (λ v k. through v k rest) after_is turn_is) ∙ h)
    where
      turn_is : turn (45 ∷ 45 ∷ []) ≡ []
      turn_is = rw f refl

      after_is : after (45 ∷ 45 ∷ []) ≡ record start { is_trailing = true }
      after_is = rw f refl

      by : (rest : List Text) → through (record start { is_trailing = true }) [] rest ≡ [] → ⊥
      by [] x = cc x
      by (v ∷ more) x = cc x

  pub missing : (w : Text) (rest : List Text) → find (answers_to w) (names cs) ≡ None → Look w → built_fault B nothing_held (w ∷ rest) ≡ [] → ⊥
  missing w rest f (ends e) h = dashes_fail rest (ap (λ t. find (answers_to t) (names cs)) (sym e) ∙ f) (ap (λ t. built_fault B nothing_held (t ∷ rest)) (sym e) ∙ h)
  missing w rest f (plain q) h = refused w rest UnknownArgument (InvalidSubcommand ∷ []) (plain_fails w f q) h
  missing w rest f (bare_word n e a b) h = refused w rest UnknownArgument [] (long_fails w n None f a b) h
  missing w rest f (valued n v e a b) h = refused w rest UnknownArgument [] (long_fails w n (Some v) f a b) h
  missing w rest f (brief x y xs a b c d) h = refused w rest UnknownArgument [] (short_fails w x xs f a b c (flags_fail x y xs d)) h

  none : built_fault B nothing_held [] ≡ [] → ⊥
  unfolding clap_on_literals
  none h = cc h

  pub built_exact : AreLawful cs → (words : List Text) → All IsUtf8 words → (built_fault B nothing_held words ≡ []) ↔ InCommands cs words
  built_exact law [] u = (λ h. absurd (none h), λ h. absurd h)
  built_exact law (w ∷ rest) u = by (named cs law w)
    where
      by : Named cs w → (built_fault B nothing_held (w ∷ rest) ≡ []) ↔ InCommands cs (w ∷ rest)
      by (no f h) = (λ x. absurd (missing w rest f (look w (u 0 w (omega arith))) x), λ x. absurd (cc (h, x.1)))
      by (yes g f s l h) =
          let same = found w rest g f s in
          let iff = exact w g l rest (λ i d lt. u (suc i) d (omega arith)) in
          (λ x. (g, h, iff.0 (sym same ∙ x)), λ x. same ∙ iff.1 (own x.0 (sym x.1 ∙ h) x.2))
        where
          own : (k : Grammar) → ◌≡◌ {A = Option Grammar} (Some k) (Some g) → InGrammar k rest → InGrammar g rest
          own k e i = let same : k ≡ g = cc e in subst (λ (t : Grammar). InGrammar t rest) same i

-- the command that the words name, and its rows
pub app_rows : (a : App) (cs : List (Text × Grammar)) → built a ≡ built_commands cs → a.top.no_binary_name ≡ true → AreLawful cs → (w : Text) (rest : List Text) (g : Grammar)
    → grammar_named cs w ≡ Some g → IsLawful g × (subcommand_of a (w ∷ rest) ≡ Some (w, rows_after (rules g) [] rest))
app_rows a cs e n law w rest g h = by (named cs law w)
  where
    rows : (k : Grammar) → find (answers_to w) (names cs) ≡ Some (w, []) → find (λ s. answers_to w (label_of s)) (map sub_of cs) ≡ Some (leaf w k)
        → subcommand_of a (w ∷ rest) ≡ Some (w, rows_after (rules k) [] rest)
    rows k f s =
        ap₂ (λ (b : App) t. entered b (stop_after b.top.rules (names_of b) (cond t (w ∷ rest) (drop 1 (w ∷ rest))))) e n
        ∙ ap (λ (v : Walk). entered (built_commands cs) (fold (walked top.rules (names cs)) v rest).stopped) (enters cs w f).1
        ∙ ap (λ (v : Walk). entered (built_commands cs) v.stopped) (sym (walk_stopped top.rules (names cs) (walk_from nothing_held) w [] rest))
        ∙ ap (option_map (λ s. rows_at s rest)) s

    by : Named cs w → IsLawful g × (subcommand_of a (w ∷ rest) ≡ Some (w, rows_after (rules g) [] rest))
    by (no f k) = absurd (cc (h, k))
    by (yes k f s l m) =
        let same : k ≡ g = cc (h, m) in
        (subst IsLawful same l, rows k f s ∙ ap (λ (t : Grammar). Some (w, rows_after (rules t) [] rest)) same)

-- a program whose commands are built to these grammars takes exactly their words
pub app_exact : (a : App) (cs : List (Text × Grammar)) → built a ≡ built_commands cs → a.top.no_binary_name ≡ true → AreLawful cs → (words : List Text) → All IsUtf8 words
    → (fault_of a words ≡ []) ↔ InCommands cs words
app_exact a cs e n law words u =
    let same : fault_of a words ≡ built_fault (built_commands cs) nothing_held words = ap₂ (λ (b : App) t. built_fault b nothing_held (cond t words (drop 1 words))) e n in
    let iff = built_exact cs law words u in
    (λ h. iff.0 (sym same ∙ h), λ h. same ∙ iff.1 h)
