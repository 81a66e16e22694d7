-- The text of a derivation is made piece by piece, and a beginning of it where that fails.
use Rattle.std.proofs.Common.{◌≡◌, ℕ, zero, suc, ◌+◌, ◌<◌, List, [], ◌∷◌, ◌++◌, length, take, drop, get_or, refl, sym, ap, ◌∙◌, arith, append_assoc, append-nil, ℤ, pos}
use Rattle.std.specs.Prelude.{Result, Ok, Err, OnErr, is_ok, if◌then◌else◌, map, codes, decimal}
use Rattle.std.specs.Fmt.{signed_decimal}
use Rattle.std.proofs.lemmas.Fmt.{decimal_digit}
use Rattle.std.proofs.lemmas.List.{map-append}
use Rattle.drg_algebra.specs.Beginnings.{BeginsWith}
use Rattle.drg_algebra.proofs.Beginnings.{begins, stops}
use Rattle.drg_array.specs.Entries.{Entries}
use Rattle.drg_array.specs.Claims.{indices_of, spaced, claim_text}
use Rattle.drg_array.specs.declared.claim.Claim.{Claim as TheClaim}
use Rattle.drg_derivation.specs.Content.{Content}
use Rattle.drg_derivation.specs.Integers.{integers_text}
use Rattle.drg_derivation.specs.Lines.{parts_of, kind_of}
use Rattle.drg_derivation.specs.Text.{derivation_text, evidence_views, line_text, written_texts}
use Rattle.drg_derivation.specs.Words.{array_numbers, written, written_text}
use Rattle.drg_derivation.specs.WordReading.{kind_word}
use Rattle.drg_derivation.specs.Writing.{parts_text, plain_line}
use Rattle.drg_derivation.specs.declared.line.Line.{Line}
use Rattle.drg_derivation.specs.declared.view.LineView.{LineView}
use Rattle.drg_derivation.specs.declared.view.LineView.TheVariants.{Version, Array, Claim, Evidence, End}

-- ---- numbers
integers_text-append : (xs ys : List ℤ) → integers_text (xs ++ ys) ≡ integers_text xs ++ integers_text ys
integers_text-append [] ys = refl
integers_text-append (x ∷ xs) ys =
    ap (λ l. 32 ∷ l) (ap (λ l. signed_decimal x ++ l) (integers_text-append xs ys) ∙ sym (append_assoc (signed_decimal x) (integers_text xs) (integers_text ys)))

pub take-more : {A : Type 0} (xs : List A) (i : ℕ) (y : A) → i < length xs → take (i + 1) xs ≡ take i xs ++ get_or xs i y ∷ []
take-more [] i y h = absurd (omega (arith, h))
take-more (x ∷ xs) zero y h = refl
take-more (x ∷ xs) (suc i) y h =
    let next : suc i + 1 ≡ suc (i + 1) = omega arith in
    rw next (ap (λ l. x ∷ l) (take-more xs i y (omega (arith, h))))

three-parts : {A : Type 0} (xs : List A) (i : ℕ) (y : A) → i < length xs → xs ≡ take i xs ++ (get_or xs i y ∷ [] ++ drop (i + 1) xs)
three-parts [] i y h = absurd (omega (arith, h))
three-parts (x ∷ xs) zero y h = refl
three-parts (x ∷ xs) (suc i) y h =
    let next : suc i + 1 ≡ suc (i + 1) = omega arith in
    rw next (ap (λ l. x ∷ l) (three-parts xs i y (omega (arith, h))))

-- one more number
pub integers-push : (before after start : List ℕ) (xs : List ℤ) (i : ℕ) (z : ℤ) → after ≡ before ++ integers_text (z ∷ [])
    → before ≡ start ++ integers_text (take i xs) → i < length xs → z ≡ get_or xs i (pos 0) → after ≡ start ++ integers_text (take (i + 1) xs)
integers-push before after start xs i z now was h is =
    rw (now, was, is, take-more xs i (pos 0) h, integers_text-append (take i xs) (get_or xs i (pos 0) ∷ []))
    (append_assoc start (integers_text (take i xs)) (integers_text (get_or xs i (pos 0) ∷ [])))

integers-parts : (xs : List ℤ) (i : ℕ) (z : ℤ) → i < length xs → z ≡ get_or xs i (pos 0)
    → integers_text xs ≡ integers_text (take i xs) ++ (integers_text (z ∷ []) ++ integers_text (drop (i + 1) xs))
integers-parts xs i z h is =
    let one : List ℤ = get_or xs i (pos 0) ∷ [] in
    let others = drop (i + 1) xs in
    rw is (ap integers_text (three-parts xs i (pos 0) h)
    ∙ (integers_text-append (take i xs) (one ++ others) ∙ ap (λ (l : List ℕ). integers_text (take i xs) ++ l) (integers_text-append one others)))

-- a number that isn't appended whole
pub integers-begin : {A E : Type 0} (r : Result A E) (start before after : List ℕ) (xs : List ℤ) (i : ℕ) (z : ℤ) → BeginsWith (integers_text (z ∷ [])) before after
    → before ≡ start ++ integers_text (take i xs) → i < length xs → z ≡ get_or xs i (pos 0) → OnErr r (BeginsWith (integers_text xs) start after)
integers-begin r start before after xs i z h was inside is = begins r start (integers_text (take i xs)) (integers_text (drop (i + 1) xs)) h was (integers-parts xs i z inside is)

-- ---- evidence lines
written_texts-append : (xs ys : List LineView) → written_texts (xs ++ ys) ≡ written_texts xs ++ written_texts ys
written_texts-append [] ys = refl
written_texts-append (x ∷ xs) ys =
    ap (λ l. written_text (written x) ++ 10 ∷ l) (written_texts-append xs ys) ∙ sym (append_assoc (written_text (written x)) (10 ∷ written_texts xs) (written_texts ys))

pub written-push : (before after start : List ℕ) (lines : List Line) (i : ℕ) (line : Line) → i < length lines → line ≡ get_or lines i line
    → before ≡ start ++ written_texts (evidence_views (take i lines)) → after ≡ before ++ line_text (Evidence line)
    → after ≡ start ++ written_texts (evidence_views (take (i + 1) lines))
written-push before after start lines i line h is was now =
    let one : take (i + 1) lines ≡ take i lines ++ line ∷ [] = take-more lines i line h ∙ ap (λ (l : Line). take i lines ++ l ∷ []) (sym is) in
    rw (now, was, one, map-append Evidence (take i lines) (line ∷ []), written_texts-append (evidence_views (take i lines)) (Evidence line ∷ []))
    (append_assoc start (written_texts (evidence_views (take i lines))) (written_text (written (Evidence line)) ++ 10 ∷ []))

evidence-append : (xs ys : List Line) → written_texts (evidence_views (xs ++ ys)) ≡ written_texts (evidence_views xs) ++ written_texts (evidence_views ys)
evidence-append xs ys = ap written_texts (map-append Evidence xs ys) ∙ written_texts-append (evidence_views xs) (evidence_views ys)

evidence-parts : (lines : List Line) (i : ℕ) (line : Line) → i < length lines → line ≡ get_or lines i line
    → written_texts (evidence_views lines) ≡ written_texts (evidence_views (take i lines)) ++ (line_text (Evidence line) ++ written_texts (evidence_views (drop (i + 1) lines)))
evidence-parts lines i line h is =
    let others = drop (i + 1) lines in
    let whole : lines ≡ take i lines ++ (line ∷ [] ++ others) = three-parts lines i line h ∙ ap (λ (l : Line). take i lines ++ (l ∷ [] ++ others)) (sym is) in
    ap (λ (l : List Line). written_texts (evidence_views l)) whole
    ∙ (evidence-append (take i lines) (line ∷ [] ++ others)
    ∙ ap (λ (l : List ℕ). written_texts (evidence_views (take i lines)) ++ l) (sym (append_assoc (written_text (written (Evidence line))) (10 ∷ []) (written_texts (evidence_views others)))))

-- a line that isn't appended whole
pub evidence-begin : {A E : Type 0} (r : Result A E) (start before after : List ℕ) (lines : List Line) (i : ℕ) (line : Line) → BeginsWith (line_text (Evidence line)) before after
    → before ≡ start ++ written_texts (evidence_views (take i lines)) → i < length lines → line ≡ get_or lines i line
    → OnErr r (BeginsWith (written_texts (evidence_views lines)) start after)
evidence-begin r start before after lines i line h was inside is =
    begins r start (written_texts (evidence_views (take i lines))) (written_texts (evidence_views (drop (i + 1) lines))) h was (evidence-parts lines i line inside is)

-- ---- lines of words and numbers
pub plain-evidence : (line : Line) (word : List ℕ) (leading tail : List ℤ) → word ≡ kind_word (kind_of line) → leading ≡ (parts_of line).leading → tail ≡ (parts_of line).tail
    → line_text (Evidence line) ≡ plain_line word leading tail
plain-evidence line word leading tail w l t =
    let parts = parts_of line in
    let k = kind_word (kind_of line) in
    rw (w, l, t, append-nil k, integers_text-append parts.leading parts.tail)
    (ap (λ (x : List ℕ). x ++ 10 ∷ []) (sym (append_assoc k (integers_text parts.leading) (integers_text parts.tail))))

pub plain-array : (a : Entries) (numbers : List ℤ) → numbers ≡ array_numbers a → line_text (Array a) ≡ plain_line (codes "array") numbers []
plain-array a numbers is = rw is (ap (λ (x : List ℕ). x ++ 10 ∷ []) (sym (append-nil (codes "array" ++ integers_text (array_numbers a)))))

spaced-is : (ns : List ℕ) → spaced ns ≡ integers_text (map pos ns)
spaced-is [] = refl
spaced-is (n ∷ ns) = ap (λ l. 32 ∷ (decimal n ++ l)) (spaced-is ns)

pub plain-claim : (claim : TheClaim) → line_text (Claim claim) ≡ codes "claim " ++ claim_text claim ++ codes "\n"
plain-claim claim = rw (spaced-is (indices_of claim)) refl

-- ---- the whole text
version-is : written_text (written (Version 1)) ≡ codes "drg 1"
version-is = ap (λ (l : List ℕ). codes "drg" ++ 32 ∷ (l ++ [])) (decimal_digit 1 (omega arith))

join-lines : (v a c l e : List ℕ) → v ++ 10 ∷ (a ++ 10 ∷ (c ++ 10 ∷ (l ++ e))) ≡ ((((v ++ 10 ∷ []) ++ (a ++ 10 ∷ [])) ++ (c ++ 10 ∷ [])) ++ l) ++ e
join-lines v a c l e = simp append_assoc

pub derivation-parts : (δ : Content) → derivation_text δ ≡ parts_text δ.array δ.claim δ.lines
derivation-parts δ =
    let v = written_text (written (Version 1)) in
    let a = written_text (written (Array δ.array)) in
    let c = written_text (written (Claim δ.claim)) in
    let l = written_texts (evidence_views δ.lines) in
    let last : written_texts (evidence_views δ.lines ++ End ∷ []) ≡ l ++ codes "end\n" = written_texts-append (evidence_views δ.lines) (End ∷ []) in
    ap (λ (x : List ℕ). v ++ 10 ∷ (a ++ 10 ∷ (c ++ 10 ∷ x))) last
    ∙ (join-lines v a c l (codes "end\n")
    ∙ ap (λ (x : List ℕ). ((((x ++ 10 ∷ []) ++ (a ++ 10 ∷ [])) ++ (c ++ 10 ∷ [])) ++ l) ++ codes "end\n") version-is)

pub content-parts : (a : Entries) (claim : TheClaim) (lines : List Line) (δ : Content) → (let parts : Content = record { array = a; claim = claim; lines = lines } in parts) ≡ δ
    → derivation_text δ ≡ parts_text a claim lines
content-parts a claim lines δ view =
    let parts : Content = record { array = a; claim = claim; lines = lines } in
    ap derivation_text (sym view) ∙ derivation-parts parts

-- ---- the lines before one that isn't appended whole, and those after it
pub from_array : (v a c l e : List ℕ) → (((v ++ a) ++ c) ++ l) ++ e ≡ v ++ (a ++ ((c ++ l) ++ e))
from_array v a c l e = simp append_assoc

pub from_claim : (v a c l e : List ℕ) → (((v ++ a) ++ c) ++ l) ++ e ≡ (v ++ a) ++ (c ++ (l ++ e))
from_claim v a c l e = simp append_assoc

pub from_evidence : (v a c l e : List ℕ) → (((v ++ a) ++ c) ++ l) ++ e ≡ ((v ++ a) ++ c) ++ (l ++ e)
from_evidence v a c l e = append_assoc ((v ++ a) ++ c) l e

-- the last piece isn't appended
pub all_but_last : {A E : Type 0} (r : Result A E) (old front back mid new : List ℕ) {text : List ℕ} → new ≡ (if is_ok r then mid ++ back else mid) → mid ≡ old ++ front
    → text ≡ front ++ back → OnErr r (BeginsWith text old new)
all_but_last (Ok x) old front back mid new h was whole = tt
all_but_last {A = A} (Err e) old front back mid new h was whole = stops {A = A} (Err e) old front back (h ∙ was) whole
