-- The text of lines, of which each is taken by itself.
use Rattle.std.proofs.Common.{◌≡◌, ℕ, suc, List, [], ◌∷◌, ◌++◌, map, length, refl, sym, ap, ◌∙◌, arith, append_assoc, append-nil, length-append}
use Rattle.std.specs.Prelude.{IsAscii}
use Rattle.std.specs.List.{AllByRecursion}
use Rattle.std.proofs.lemmas.Str.{IsAscii-append}
use Rattle.std.proofs.lemmas.Str.Ascii.{IsAscii-cons, IsAscii-nil}
use Rattle.serde_json.specs.Data.{Data, string}
use Rattle.drg_derivation.specs.Content.{Content}
use Rattle.drg_derivation.specs.Text.{derivation_text, lines_of, written_texts}
use Rattle.drg_derivation.specs.Words.{written, written_text}
use Rattle.drg_derivation.specs.declared.view.LineView.{LineView}
use Rattle.drg_json.specs.Lines.{AreLinesOf, HasNoEnd, ended}
use Rattle.drg_json.specs.Reports.{derivation_lines}
use Rattle.drg_json.proofs.Plain.{plain-ascii, plain-open, plain-written}

-- ---- the first line of a text
first-line : (xs ys us vs : List ℕ) → HasNoEnd xs → HasNoEnd us → xs ++ 10 ∷ ys ≡ us ++ 10 ∷ vs → (xs ≡ us) × (ys ≡ vs)
first-line [] ys [] vs a b e = (refl, cc)
first-line [] ys (u ∷ us) vs a b e = absurd (b.0 (let same : u ≡ 10 = cc in same))
first-line (x ∷ xs) ys [] vs a b e = absurd (a.0 (let same : x ≡ 10 = cc in same))
first-line (x ∷ xs) ys (u ∷ us) vs a b e =
    let first : x ≡ u = cc in
    let rest : xs ++ 10 ∷ ys ≡ us ++ 10 ∷ vs = cc in
    let s = first-line xs ys us vs a.1 b.1 rest in
    let front = s.0 in (cc, s.1)

no-line : (bytes line more : List ℕ) → HasNoEnd bytes → bytes ≡ line ++ 10 ∷ more → ⊥
no-line [] [] more h e = (let k = e in cc)
no-line [] (x ∷ line) more h e = (let k = e in cc)
no-line (b ∷ bytes) [] more h e = h.0 (let same : b ≡ 10 = cc in same)
no-line (b ∷ bytes) (x ∷ line) more h e = no-line bytes line more h.1 (let rest : bytes ≡ line ++ 10 ∷ more = cc in rest)

-- ---- the lines that are taken, and those that are left
pub record AreTaken (taken : List Data) (rest : List ℕ) (lines : List (List ℕ)) : Type 0 where
  pub left : List (List ℕ)
  pub unbroken : AllByRecursion HasNoEnd left
  pub whole : rest ≡ ended left
  pub all : taken ++ map string left ≡ map string lines

pub none-taken : (text : List ℕ) (lines : List (List ℕ)) → AreLinesOf text lines → AreTaken [] text lines
none-taken text lines are = record { left = lines; unbroken = are.unbroken; whole = are.whole; all = refl }

pub one-taken : (rest line more : List ℕ) (taken : List Data) (lines : List (List ℕ)) → AreTaken taken rest lines
    → HasNoEnd line → rest ≡ line ++ 10 ∷ more → AreTaken (taken ++ string line ∷ []) more lines
one-taken rest line more taken lines are ended-here whole = by are.left are.unbroken are.whole are.all
  where
    by : (left : List (List ℕ)) → AllByRecursion HasNoEnd left → rest ≡ ended left → taken ++ map string left ≡ map string lines
        → AreTaken (taken ++ string line ∷ []) more lines
    by [] o w a = (let e = sym whole ∙ w in let n = ap length e in let m = length-append line (10 ∷ more) in absurd (omega (arith, n, m)))
    by (first ∷ left) o w a =
        let same = first-line line more first (ended left) ended-here o.0 (sym whole ∙ w) in
        record {
          left = left;
          unbroken = o.1;
          whole = same.1;
          all = append_assoc taken (string line ∷ []) (map string left) ∙ ap (λ (l : List ℕ). taken ++ string l ∷ map string left) same.0 ∙ a;
        }

pub all-taken : (rest : List ℕ) (taken : List Data) (lines : List (List ℕ)) → AreTaken taken rest lines → HasNoEnd rest
    → taken ≡ map string lines
all-taken rest taken lines are none = by are.left are.whole are.all
  where
    by : (left : List (List ℕ)) → rest ≡ ended left → taken ++ map string left ≡ map string lines → taken ≡ map string lines
    by [] w a = sym (append-nil taken) ∙ a
    by (first ∷ left) w a = absurd (no-line rest first (ended left) none w)

-- ---- the lines of a derivation
abbrev pub texts : List LineView → List (List ℕ)
texts views = map (λ line. written_text (written line)) views

pub derivation_ended : (views : List LineView) → written_texts views ≡ ended (texts views)
derivation_ended [] = refl
derivation_ended (view ∷ views) = ap (λ (l : List ℕ). written_text (written view) ++ 10 ∷ l) (derivation_ended views)

derivation_open : (views : List LineView) → AllByRecursion HasNoEnd (texts views)
derivation_open [] = tt
derivation_open (view ∷ views) = (plain-open (written_text (written view)) (plain-written (written view)), derivation_open views)

pub derivation_are : (δ : Content) → AreLinesOf (derivation_text δ) (derivation_lines δ)
derivation_are δ = record { unbroken = derivation_open (lines_of δ); whole = derivation_ended (lines_of δ) }

views_ascii : (views : List LineView) → IsAscii (written_texts views)
views_ascii [] = IsAscii-nil
views_ascii (view ∷ views) =
    let line = written_text (written view) in
    IsAscii-append line (10 ∷ written_texts views) (plain-ascii line (plain-written (written view))) (IsAscii-cons 10 (written_texts views) (omega arith) (views_ascii views))

pub derivation_ascii : (δ : Content) → IsAscii (derivation_text δ)
derivation_ascii δ = views_ascii (lines_of δ)

-- ---- ASCII before and after a line feed
pub ascii_front : (xs ys : List ℕ) → IsAscii (xs ++ ys) → IsAscii xs
ascii_front [] ys h = IsAscii-nil
ascii_front (x ∷ xs) ys h = IsAscii-cons x xs (h 0) (ascii_front xs ys (λ i. h (suc i)))

pub ascii_back : (xs ys : List ℕ) → IsAscii (xs ++ ys) → IsAscii ys
ascii_back [] ys h = h
ascii_back (x ∷ xs) ys h = ascii_back xs ys (λ i. h (suc i))
