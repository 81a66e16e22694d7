-- The command of a name is read by the reader of its kind.
use Rattle.std.proofs.Common.{◌≡◌, ◌∙◌, Bool, true, false, refl, List, codes, Some, None, Option, ap, sym, subst}
use Rattle.std.specs.Prelude.{IfNone, IfSome}
use Rattle.std.specs.Str.{bytes_eq}
use Rattle.std.proofs.lemmas.Slice.Eq.{bytes_eq-Decides}
use Rattle.clap.specs.Walk.{Row, Text}
use Rattle.drg_words.specs.Grammar.{Grammar, Part}
use Rattle.drg_words.specs.Matches.{Reads, ReadsNamed, ReadsNone, ReadsNoneNamed, SaysNamed, Tells, commands, grammar_named}
use Rattle.drg_words.specs.declared.command.Command.{Command}
use Rattle.drg_words.proofs.Told.{none_weaker, some_weaker}

same_grammar : (name w : Text) (k g : Grammar) → grammar_named commands name ≡ Some k → name ≡ w → grammar_named commands w ≡ Some g → g ≡ k
same_grammar name w k g a same e =
    let both : ◌≡◌ {A = Option Grammar} (Some g) (Some k) = sym e ∙ ap (grammar_named commands) (sym same) ∙ a in
    cc both

pub arm_some : (rows : List Row) (name own : Text) (k : Grammar) (Meant : List Part → List Text → Command → Type 0) → grammar_named commands own ≡ Some k → own ≡ name
    → ((parts : List Part) (last : List Text) (c : Command) → Meant parts last c → SaysNamed own parts last c) → (r : Option Command) → IfSome r (Reads k rows Meant) → IfSome r (ReadsNamed name rows)
arm_some rows name own k Meant known same into r h =
    some_weaker r _ _ (λ c reads g e parts last told.
    (let told2 = subst (λ (x : Grammar). Tells x parts last rows) (same_grammar own name k g known same e) told in
    subst (λ t. SaysNamed t parts last c) same (into parts last c (reads parts last told2)))) h

pub arm_none : (rows : List Row) (name own : Text) (k : Grammar) (Meant : List Part → List Text → Command → Type 0) → grammar_named commands own ≡ Some k → own ≡ name
    → ((parts : List Part) (last : List Text) (c : Command) → SaysNamed own parts last c → Meant parts last c) → (r : Option Command) → IfNone r (ReadsNone k rows Meant) → IfNone r (ReadsNoneNamed name rows)
arm_none rows name own k Meant known same out r h =
    none_weaker r _ _ (λ none g e parts last told c says.
    (let told2 = subst (λ (x : Grammar). Tells x parts last rows) (same_grammar own name k g known same e) told in
    none parts last told2 c (out parts last c (subst (λ t. SaysNamed t parts last c) (sym same) says)))) h

differs : (a b : Text) → (b ≡ a → ⊥) → bytes_eq a b ≡ false
differs a b h = by (bytes_eq a b) refl
  where
    by : (t : Bool) → bytes_eq a b ≡ t → bytes_eq a b ≡ false
    by true e = absurd (h (sym ((bytes_eq-Decides a b).0 e)))
    by false e = e

-- no command has another name
pub other_none : (rows : List Row) (name : Text) → (name ≡ codes "check" → ⊥) → (name ≡ codes "replay" → ⊥) → (name ≡ codes "table" → ⊥) → (name ≡ codes "sample" → ⊥)
    → (name ≡ codes "graph" → ⊥) → (name ≡ codes "census" → ⊥) → (name ≡ codes "classical" → ⊥) → ReadsNoneNamed name rows
other_none rows name a b c d e f g = λ k known.
    let none : grammar_named commands name ≡ None =
    rw (
      differs (codes "check") name a,
      differs (codes "replay") name b,
      differs (codes "table") name c,
      differs (codes "sample") name d,
      differs (codes "graph") name e,
      differs (codes "census") name f,
      differs (codes "classical") name g,
    ) refl in
    absurd (cc (known, none))
