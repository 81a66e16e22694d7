-- What the rows of matches tell of the parts of the words.
use Rattle.std.proofs.Common.{◌≡◌, Bool, cond, true, false, [], ◌∷◌, map, List, codes, Some, None, Option, ap, ap₂, sym, subst}
use Rattle.std.specs.Prelude.{IfErr, IfNone, IfOk, IfSome, Result}
use Rattle.std.specs.Option.{ok_or}
use Rattle.clap.specs.Walk.{Text, rows_after}
use Rattle.drg_words.specs.Grammar.{Grammar, IsLine, Part}
use Rattle.drg_words.specs.Matches.{Tells}
use Rattle.drg_words.proofs.Lawful.{IsLawful}
use Rattle.drg_words.proofs.Matches.{flag_reads, option_reads, words_read}
use Rattle.drg_words.proofs.Rules.{rules}

-- the rows of words in the grammar tell what they say
pub line_tells : Text → (g : Grammar) → IsLawful g → (ps : List Part) (last words : List Text) → IsLine g ps last words → Tells g ps last (rows_after (rules g) [] words)
line_tells name g law ps last words l = record {
  options = option_reads name g law ps last words l;
  flags = flag_reads name g law ps last words l;
  words = words_read name g law ps last words l;
}

-- one positional word
pub one_word : (o : Option Text) (ws : List Text) → o ∷ [] ≡ map Some ws → (f : Text) → Some f ≡ o → ws ≡ f ∷ []
one_word o [] e f h = absurd (cc e)
one_word o (w ∷ []) e f h = let same : w ≡ f = cc (h, e) in ap (λ t. t ∷ []) same
one_word o (w ∷ x ∷ ws) e f h = absurd (cc e)

-- two of them
pub two_words : (o p : Option Text) (ws : List Text) → o ∷ p ∷ [] ≡ map Some ws → (f k : Text) → Some f ≡ o → Some k ≡ p → ws ≡ f ∷ k ∷ []
two_words o p [] e f k h i = absurd (cc e)
two_words o p (w ∷ ws) e f k h i =
    let first : w ≡ f = cc (h, e) in
    let rest : p ∷ [] ≡ map Some ws = cc e in
    ap₂ (λ s t. s ∷ t) first (one_word p ws rest k i)

-- three of them
pub three_words : (o p q : Option Text) (ws : List Text) → o ∷ p ∷ q ∷ [] ≡ map Some ws → (f k n : Text) → Some f ≡ o → Some k ≡ p → Some n ≡ q → ws ≡ f ∷ k ∷ n ∷ []
three_words o p q [] e f k n h i j = absurd (cc e)
three_words o p q (w ∷ ws) e f k n h i j =
    let first : w ≡ f = cc (h, e) in
    let rest : p ∷ q ∷ [] ≡ map Some ws = cc e in
    ap₂ (λ s t. s ∷ t) first (two_words p q ws rest k n i j)

-- the rows have a first word, where there is one
pub no_first : (o : Option Text) (os : List (Option Text)) (ws : List Text) → o ∷ os ≡ map Some ws → None ≡ o → ⊥
no_first o os [] e h = cc e
no_first o os (w ∷ ws) e h = cc (h, e)

-- which word is the first, the second or the third
pub first_is : (o : Option Text) (os : List (Option Text)) (w : Text) (ws : List Text) → o ∷ os ≡ map Some (w ∷ ws) → o ≡ Some w
first_is o os w ws e = cc e

pub second_is : (o p : Option Text) (os : List (Option Text)) (v w : Text) (ws : List Text) → o ∷ p ∷ os ≡ map Some (v ∷ w ∷ ws) → p ≡ Some w
second_is o p os v w ws e = cc e

pub third_is : (o p q : Option Text) (os : List (Option Text)) (u v w : Text) (ws : List Text) → o ∷ p ∷ q ∷ os ≡ map Some (u ∷ v ∷ w ∷ ws) → q ≡ Some w
third_is o p q os u v w ws e = cc e

-- what a flag is read as
pub flag_is : (b r : Bool) (o : Option Text) → o ≡ Some (cond b (codes "true") (codes "false")) → (o ≡ Some (codes "true") → r ≡ true) → (o ≡ Some (codes "false") → r ≡ false) → r ≡ b
flag_is true r o e x y = x e
flag_is false r o e x y = y e

pub if_none : {X : Type 0} (r : Option X) (P : Type 0) → P → IfNone r P
if_none None P p = p
if_none (Some x) P p = tt

pub none_weaker : {X : Type 0} (r : Option X) (P Q : Type 0) → (P → Q) → IfNone r P → IfNone r Q
none_weaker None P Q f p = f p
none_weaker (Some x) P Q f p = tt

pub some_weaker : {X : Type 0} (r : Option X) (P Q : X → Type 0) → ((x : X) → P x → Q x) → IfSome r P → IfSome r Q
some_weaker None P Q f p = tt
some_weaker (Some x) P Q f p = f x p

-- what is there is an answer, and what isn't is the fault
pub ok_of : {X E : Type 0} (o : Option X) (fault : E) (r : Result X E) → r ≡ ok_or o fault → (P : X → Type 0) → IfSome o P → IfOk r P
ok_of {X} {E} None fault r e P h = subst (λ (t : Result X E). IfOk t P) (sym e) tt
ok_of {X} {E} (Some x) fault r e P h = subst (λ (t : Result X E). IfOk t P) (sym e) h

pub fault_of : {X E : Type 0} (o : Option X) (fault : E) (r : Result X E) → r ≡ ok_or o fault → (P : E → Type 0) → IfNone o (P fault) → IfErr r P
fault_of {X} {E} None fault r e P h = subst (λ (t : Result X E). IfErr t P) (sym e) h
fault_of {X} {E} (Some x) fault r e P h = subst (λ (t : Result X E). IfErr t P) (sym e) tt
