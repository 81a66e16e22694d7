-- What a word looks like, and what the names of a grammar are.
use Rattle.std.proofs.Common.{◌≡◌, ◌≢◌, ◌∙◌, ◌||◌, ◌==◌, Bool, not, true, false, zero, suc, refl, [], ◌∷◌, ◌++◌, inl, inr, List, ℕ, Some, None, ap, sym, arith, true≢false, subst}
use Rattle.std.specs.Prelude.{IsUtf8, slice_get, ◌⊎◌, encode_utf8_all as encodes}
use Rattle.std.proofs.lemmas.Str.{IsUtf8-past_char, encodes-chars}
use Rattle.std.specs.List.{list_all}
use Rattle.std.specs.Str.{bytes_eq, chars}
use Rattle.std.proofs.lemmas.Bool.{ne_eqb, or_parts}
use Rattle.std.proofs.lemmas.Bool.Decides.{eqb_tells}
use Rattle.std.proofs.lemmas.Slice.Eq.{bytes_eq-Decides}
use Rattle.std.proofs.Math.Dec.{eqb}
use Rattle.clap.specs.Words.{Text}
use Rattle.clap.specs.Walk.{is_empty}
use Rattle.clap.specs.Lexer.{has_byte, long_of, short_of}
use Rattle.clap.proofs.CutLemmas.{Lacks}
use Rattle.clap.proofs.LexerLemmas.{name_and_value-at, name_and_value-without}
use Rattle.clap.proofs.WalkLemmas.{both}
use Rattle.drg_words.specs.Grammar.{IsPlain, dashed, has_name}
use Rattle.drg_words.proofs.Lawful.{is_name}

-- the characters of a text that isn't empty
first_char : (x : ℕ) (xs : Text) → IsUtf8 (x ∷ xs) → (y : ℕ) × (slice_get (chars (x ∷ xs)) 0 ≡ Some y)
first_char x xs u = by (chars (x ∷ xs)) (encodes-chars (x ∷ xs) u)
  where
    by : (cs : List ℕ) → encodes cs ≡ x ∷ xs → (y : ℕ) × (slice_get cs 0 ≡ Some y)
    by [] e = absurd (cc e)
    by (c ∷ cs) e = (c, refl)

-- what a word is
data Kind (w : Text) : Type 0 where
  dashes : w ≡ 45 ∷ 45 ∷ [] → Kind w
  plain_word : IsPlain w → Kind w
  long : (x : ℕ) (xs : Text) → w ≡ 45 ∷ 45 ∷ x ∷ xs → Kind w
  short : (x y : ℕ) (xs : Text) → x ≢ 45 → slice_get (chars (x ∷ xs)) 0 ≡ Some y → w ≡ 45 ∷ x ∷ xs → Kind w

kind : (w : Text) → IsUtf8 w → Kind w
unfolding lib.Utf8.encode
kind [] u = plain_word (inl (λ e. cc e))
kind (x ∷ xs) u = by (eqb_tells x 45)
  where
    deeper : (ys : Text) → IsUtf8 (45 ∷ ys) → Kind (45 ∷ ys)
    deeper [] v = plain_word (inr refl)
    deeper (y ∷ ys) v = two (eqb_tells y 45) ys v
      where
        two : ((eqb y 45 ≡ true) × (y ≡ 45)) ⊎ ((eqb y 45 ≡ false) × (y ≢ 45)) → (zs : Text) → IsUtf8 (45 ∷ y ∷ zs) → Kind (45 ∷ y ∷ zs)
        two (inl h) [] v2 = dashes (ap (λ t. 45 ∷ t ∷ []) h.1)
        two (inl h) (z ∷ zs) v2 = long z zs (ap (λ t. 45 ∷ t ∷ z ∷ zs) h.1)
        two (inr h) zs v2 = let f = first_char y zs (IsUtf8-past_char (45 ∷ y ∷ zs) (y ∷ zs) 45 v2 refl) in short y f.0 zs h.1 f.1 refl

    by : ((eqb x 45 ≡ true) × (x ≡ 45)) ⊎ ((eqb x 45 ≡ false) × (x ≢ 45)) → Kind (x ∷ xs)
    by (inl h) = subst (λ t. Kind (t ∷ xs)) (sym h.1) (deeper xs (subst (λ t. IsUtf8 (t ∷ xs)) h.1 u))
    by (inr h) = plain_word (inl h.1)

-- the same, with the name and the value of an option
pub data Look (w : Text) : Type 0 where
  ends : w ≡ 45 ∷ 45 ∷ [] → Look w
  plain : IsPlain w → Look w
  bare : (n : Text) → w ≡ dashed n → bytes_eq w (45 ∷ 45 ∷ []) ≡ false → long_of w ≡ Some (n, None) → Look w
  valued : (n v : Text) → w ≡ dashed (n ++ 61 ∷ v) → bytes_eq w (45 ∷ 45 ∷ []) ≡ false → long_of w ≡ Some (n, Some v) → Look w
  brief : (x y : ℕ) (xs : Text) → bytes_eq w (45 ∷ 45 ∷ []) ≡ false → long_of w ≡ None → short_of w ≡ Some (x ∷ xs) → slice_get (chars (x ∷ xs)) 0 ≡ Some y → Look w

Lacks_more : (x : ℕ) (xs : Text) → x ≢ 61 → Lacks 61 xs → Lacks 61 (x ∷ xs)
Lacks_more x xs n h zero lt = n
Lacks_more x xs n h (suc i) lt = h i (omega arith)

Lacks_none : Lacks 61 []
Lacks_none i lt = absurd (omega arith)

cut : (xs : Text) → Lacks 61 xs ⊎ ((a b : Text) × (xs ≡ a ++ 61 ∷ b) × Lacks 61 a)
cut [] = inl Lacks_none
cut (x ∷ xs) = by (eqb_tells x 61) (cut xs)
  where
    by : ((eqb x 61 ≡ true) × (x ≡ 61)) ⊎ ((eqb x 61 ≡ false) × (x ≢ 61)) → Lacks 61 xs ⊎ ((a b : Text) × (xs ≡ a ++ 61 ∷ b) × Lacks 61 a)
        → Lacks 61 (x ∷ xs) ⊎ ((a b : Text) × (x ∷ xs ≡ a ++ 61 ∷ b) × Lacks 61 a)
    by (inl h) r = inr ([], xs, ap (λ t. t ∷ xs) h.1, Lacks_none)
    by (inr h) (inl r) = inl (Lacks_more x xs h.1 r)
    by (inr h) (inr r) = inr (x ∷ r.0, r.1, ap (λ t. x ∷ t) r.2, Lacks_more x r.0 h.1 r.3)

bare_long : (n : Text) (x : ℕ) (xs : Text) → n ≡ x ∷ xs → Lacks 61 (x ∷ xs) → long_of (dashed n) ≡ Some (n, None)
bare_long n x xs e h = ap (λ t. long_of (dashed t)) e ∙ ap Some (name_and_value-without (x ∷ xs) h) ∙ ap (λ t. Some (t, None)) (sym e)

valued_long : (n v : Text) (x : ℕ) (xs : Text) → n ++ 61 ∷ v ≡ x ∷ xs → Lacks 61 n → long_of (dashed (n ++ 61 ∷ v)) ≡ Some (n, Some v)
valued_long n v x xs e h = ap (λ t. long_of (dashed t)) e ∙ ap Some (ap Rattle.clap.specs.Lexer.name_and_value (sym e) ∙ name_and_value-at n v h)

no_end : (w : Text) (x : ℕ) (xs : Text) → w ≡ 45 ∷ 45 ∷ x ∷ xs → bytes_eq w (45 ∷ 45 ∷ []) ≡ false
no_end w x xs e = ap (λ t. bytes_eq t (45 ∷ 45 ∷ [])) e

pub look : (w : Text) → IsUtf8 w → Look w
look w u = by (kind w u)
  where
    by_long : (x : ℕ) (xs : Text) → w ≡ 45 ∷ 45 ∷ x ∷ xs → Lacks 61 (x ∷ xs) ⊎ ((a b : Text) × (x ∷ xs ≡ a ++ 61 ∷ b) × Lacks 61 a) → Look w
    by_long x xs e (inl h) = bare (x ∷ xs) e (no_end w x xs e) (ap long_of e ∙ bare_long (x ∷ xs) x xs refl h)
    by_long x xs e (inr h) = valued h.0 h.1 (e ∙ ap dashed h.2) (no_end w x xs e) (ap long_of e ∙ ap (λ t. long_of (dashed t)) h.2 ∙ valued_long h.0 h.1 x xs (sym h.2) h.3)

    by : Kind w → Look w
    by (dashes e) = ends e
    by (plain_word p) = plain p
    by (long x xs e) = by_long x xs e (cut (x ∷ xs))
    by (short x y xs n f e) = brief x y xs
        (ap (λ t. bytes_eq t (45 ∷ 45 ∷ [])) e ∙ rw (ne_eqb x 45 n) refl) (ap long_of e ∙ rw (ne_eqb x 45 n) refl) (ap short_of e ∙ rw (ne_eqb x 45 n) refl) f

-- ---- the other way, for the names of a grammar

pub member : (p : Text → Bool) (xs : List Text) (n : Text) → list_all p xs ≡ true → has_name xs n ≡ true → p n ≡ true
member p [] n a h = absurd (true≢false (sym h))
member p (x ∷ xs) n a h = go (bytes_eq x n) refl (member p xs n (both (p x) (list_all p xs) a).1)
  where
    go : (b : Bool) → bytes_eq x n ≡ b → (has_name xs n ≡ true → p n ≡ true) → p n ≡ true
    go true e rest = ap p (sym ((bytes_eq-Decides x n).0 e)) ∙ (both (p x) (list_all p xs) a).0
    go false e rest = rest (sym (ap (λ b. b || has_name xs n) e) ∙ h)

lacks_of : (xs : Text) → has_byte 61 xs ≡ false → Lacks 61 xs
lacks_of [] h = Lacks_none
lacks_of (x ∷ xs) h = Lacks_more x xs (differs (eqb_tells x 61)) (lacks_of xs (or_parts (x == 61) (has_byte 61 xs) h).1)
  where
    differs : ((eqb x 61 ≡ true) × (x ≡ 61)) ⊎ ((eqb x 61 ≡ false) × (x ≢ 61)) → x ≢ 61
    differs (inl t) = absurd (true≢false (sym t.0 ∙ (or_parts (x == 61) (has_byte 61 xs) h).0))
    differs (inr t) = t.1

un_not : (b : Bool) → not b ≡ true → b ≡ false
un_not true h = absurd (true≢false (sym h))
un_not false h = refl

no_equals : (x : ℕ) (xs : Text) → is_name (x ∷ xs) ≡ true → has_byte 61 (x ∷ xs) ≡ false
no_equals x xs h = un_not (has_byte 61 (x ∷ xs)) (both (not (is_empty (x ∷ xs))) (not (has_byte 61 (x ∷ xs))) h).1

pub name_long : (n : Text) → is_name n ≡ true → (bytes_eq (dashed n) (45 ∷ 45 ∷ []) ≡ false) × (long_of (dashed n) ≡ Some (n, None))
name_long [] h = absurd (true≢false (sym h))
name_long (x ∷ xs) h = (refl, bare_long (x ∷ xs) x xs refl (lacks_of (x ∷ xs) (no_equals x xs h)))

pub name_value : (n v : Text) → is_name n ≡ true → (bytes_eq (dashed (n ++ 61 ∷ v)) (45 ∷ 45 ∷ []) ≡ false) × (long_of (dashed (n ++ 61 ∷ v)) ≡ Some (n, Some v))
name_value [] v h = absurd (true≢false (sym h))
name_value (x ∷ xs) v h = (refl, valued_long (x ∷ xs) v x (xs ++ 61 ∷ v) refl (lacks_of (x ∷ xs) (no_equals x xs h)))
