-- A derivation has one text, and a text one derivation.
use Rattle.std.proofs.Common.{◌≡◌, ℕ, ◌+◌, ◌≤◌, ◌-◌, List, [], ◌∷◌, ◌++◌, length, take, drop, refl, sym, ap, subst, ◌∙◌, arith, append-nil, length-drop, pos}
use Rattle.std.specs.Prelude.{map, ◌↔◌, is_some}
use Rattle.std.specs.List.{AllByRecursion}
use Rattle.std.proofs.lemmas.List.{take-append-drop}
use Rattle.drg_array.specs.Entries.{Entries, IsArray, IsEntry}
use Rattle.drg_array.specs.Claims.{indices_of}
use Rattle.drg_array.specs.declared.claim.Claim.{Claim as TheClaim}
use Rattle.drg_derivation.specs.Content.{Content}
use Rattle.drg_derivation.specs.Integers.{greatest, IsShort, integers_text}
use Rattle.drg_derivation.specs.Lines.{AreEvidence, AreShort, after_line}
use Rattle.drg_derivation.specs.Places.{Reading, start, HandsOutAll, AreLinesFrom, StandsAt, IsLineAt, IsRefusedAt}
use Rattle.drg_derivation.specs.Text.{IsDerivationText, HasText, Begins, context_of, derivation_text, evidence_views, lines_of, written_texts}
use Rattle.drg_derivation.specs.Words.{takes_name, array_numbers, words_text, written, written_text}
use Rattle.drg_derivation.specs.declared.context.Context.{Context}
use Rattle.drg_derivation.specs.declared.line.Line.{Line}
use Rattle.drg_derivation.specs.declared.place.Place.{Place}
use Rattle.drg_derivation.specs.declared.place.Place.TheVariants as place
use Rattle.drg_derivation.specs.declared.view.LineView.{LineView}
use Rattle.drg_derivation.specs.declared.view.LineView.TheVariants.{Version, Array, Claim, Evidence, End}
use Rattle.drg_derivation.proofs.DecimalLaws.{integers-decimal, decimal-integers}
use Rattle.drg_derivation.proofs.ReadingLaws.{text-to}
use Rattle.drg_derivation.proofs.Prefixes.{one-hands, not-both, one-stop, hands-from, stops-from}

-- ---- the one text
-- lines have the written text
written-text : (first last : Place) (text : List ℕ) (lines : List LineView) → AreLinesFrom first text lines last → text ≡ written_texts lines
written-text first last text [] h = h.0
written-text first last text (line ∷ lines) (front, rest, whole, is, more) =
    let one : front ≡ written_text (written line) =
    is.written.whole ∙ ap (λ (l : List ℕ). words_text (written line) ++ l) (integers-decimal is.written.numbers (written line).numbers is.written.numbers_are) in
    whole ∙ (ap (λ (l : List ℕ). l ++ 10 ∷ rest) one ∙ ap (λ (l : List ℕ). written_text (written line) ++ 10 ∷ l) (written-text _ last rest lines more))

named : (line : LineView) → takes_name (written line).word ≡ is_some (written line).name
named (Version version) = refl
named _ = refl

-- a line whose numbers can be written
line-at : (first : Place) (line : LineView) → StandsAt first line → AllByRecursion IsShort (written line).numbers → IsLineAt first (written_text (written line)) line
line-at first line stands short = record {
  written = record { numbers = integers_text (written line).numbers; whole = refl; named = named line; numbers_are = decimal-integers (written line).numbers short };
  stands = stands;
}

below-short : (limit : ℕ) (ns : List ℕ) → limit ≤ greatest → AllByRecursion (λ n. n ≤ limit) ns → AllByRecursion IsShort (map pos ns)
below-short limit [] small h = tt
below-short limit (n ∷ ns) small h = (omega (arith, h.0), below-short limit ns small h.1)

entries-below : (ns ms : List ℕ) → AllByRecursion IsEntry ns → AllByRecursion (λ n. n ≤ 4095) ms → AllByRecursion (λ n. n ≤ 4095) (ns ++ ms)
entries-below [] ms h k = k
entries-below (n ∷ ns) ms h k = (h.0.1, entries-below ns ms h.1 k)

short-array : (a : Entries) → IsArray a → AllByRecursion IsShort (array_numbers a)
short-array a array =
    let none : AllByRecursion (λ n. n ≤ 4095) [] = tt in
    let c : AllByRecursion (λ n. n ≤ 4095) a.c = subst (AllByRecursion (λ n. n ≤ 4095)) (append-nil a.c) (entries-below a.c [] array.entries_c none) in
    (omega (arith, array.short), below-short 4095 (a.b ++ a.c) (omega arith) (entries-below a.b a.c array.entries_b c))

evidence-at : (context : Context) (lines : List Line) → AreEvidence context lines → AreShort lines
    → AreLinesFrom (place.Evidence context) (written_texts (evidence_views lines ++ End ∷ [])) (evidence_views lines ++ End ∷ []) place.After
evidence-at context [] h s = (written_text (written End), [], refl, line-at (place.Evidence context) End tt tt, (refl, refl))
evidence-at context (line ∷ lines) h s =
    (written_text (written (Evidence line)), written_texts (evidence_views lines ++ End ∷ []), refl, line-at (place.Evidence context) (Evidence line) h.0 s.0, evidence-at (after_line context line) lines h.1 s.1)

is-text : (δ : Content) → HasText δ → IsDerivationText (derivation_text δ) δ
is-text δ h = (
  written_text (written (Version 1)),
  written_texts (Array δ.array ∷ Claim δ.claim ∷ (evidence_views δ.lines ++ End ∷ [])),
  refl,
  line-at place.Version (Version 1) refl (omega arith, tt),
  (
    written_text (written (Array δ.array)),
    written_texts (Claim δ.claim ∷ (evidence_views δ.lines ++ End ∷ [])),
    refl,
    line-at (place.Array 1) (Array δ.array) h.array (short-array δ.array h.array),
    (
      written_text (written (Claim δ.claim)),
      written_texts (evidence_views δ.lines ++ End ∷ []),
      refl,
      line-at (place.Claim (context_of δ.array)) (Claim δ.claim) h.claim (below-short 255 (indices_of δ.claim) (omega arith) h.claim),
      evidence-at (context_of δ.array) δ.lines h.evidence h.short,
    ),
  ),
)

pub one-text : (text : List ℕ) (δ : Content) → IsDerivationText text δ ↔ (HasText δ × (text ≡ derivation_text δ))
one-text text δ =
    (λ t. ((text-to text δ place.After t).has_text, written-text place.Version place.After text (lines_of δ) t), λ h. subst (λ (l : List ℕ). IsDerivationText l δ) (sym h.1) (is-text δ h.0))

-- ---- the one derivation
-- a line reader hands out the lines of a text in front
hands-text-front : (text more : List ℕ) (δ : Content) → IsDerivationText text δ
    → HandsOutAll (start (text ++ more)) (lines_of δ) (record { place = place.After; rest = more; line = 0 + length (lines_of δ) })
hands-text-front text more δ t = hands-from (start (text ++ more)) text more (lines_of δ) place.After refl t

same-evidence : (lines others : List Line) → evidence_views lines ++ End ∷ [] ≡ evidence_views others ++ End ∷ [] → lines ≡ others
same-evidence [] [] e = refl
same-evidence [] (other ∷ others) e = (let k = e in cc)
same-evidence (line ∷ lines) [] e = (let k = e in cc)
same-evidence (line ∷ lines) (other ∷ others) e =
    let rest : evidence_views lines ++ End ∷ [] ≡ evidence_views others ++ End ∷ [] = cc in
    let more = same-evidence lines others rest in
    let first : line ≡ other = cc in cc

content-eq : (δ ε : Content) → δ.array ≡ ε.array → δ.claim ≡ ε.claim → δ.lines ≡ ε.lines → δ ≡ ε
content-eq δ ε a c l =
    let one : δ ≡ record { array = ε.array; claim = δ.claim; lines = δ.lines } = ap (λ (x : Entries). let y : Content = record { array = x; claim = δ.claim; lines = δ.lines } in y) a in
    let two : record { array = ε.array; claim = δ.claim; lines = δ.lines } ≡ record { array = ε.array; claim = ε.claim; lines = δ.lines } = ap (λ (x : TheClaim). let y : Content = record { array = ε.array; claim = x; lines = δ.lines } in y) c in
    let three : record { array = ε.array; claim = ε.claim; lines = δ.lines } ≡ ε = ap (λ (x : List Line). let y : Content = record { array = ε.array; claim = ε.claim; lines = x } in y) l in
    one ∙ (two ∙ three)

same-content : (δ ε : Content) → lines_of δ ≡ lines_of ε → δ ≡ ε
same-content δ ε e =
    let a : δ.array ≡ ε.array = cc in
    let c : δ.claim ≡ ε.claim = cc in
    let l : δ.lines ≡ ε.lines = same-evidence δ.lines ε.lines (let rest : evidence_views δ.lines ++ End ∷ [] ≡ evidence_views ε.lines ++ End ∷ [] = cc in rest) in
    content-eq δ ε a c l

pub one-derivation : (text : List ℕ) (δ ε : Content) → IsDerivationText text δ → IsDerivationText text ε → δ ≡ ε
one-derivation text δ ε t u =
    same-content δ ε (one-hands _ _ _ (lines_of δ) (lines_of ε) (hands-text-front text [] δ t) (hands-text-front text [] ε u) refl refl).0

pub no-prefix : (text more : List ℕ) (δ ε : Content) → IsDerivationText text δ → IsDerivationText (text ++ more) ε → more ≡ []
no-prefix text more δ ε t u =
    let whole = hands-text-front (text ++ more) [] ε u in
    let same = subst (λ (l : List ℕ). HandsOutAll (start l) (lines_of ε) (record { place = place.After; rest = []; line = 0 + length (lines_of ε) })) (append-nil (text ++ more)) whole in
    let ends = (one-hands (start (text ++ more)) _ _ (lines_of δ) (lines_of ε) (hands-text-front text more δ t) same refl refl).1 in
    ap (λ (r : Reading). r.rest) ends

pub hands-begins : (bytes : List ℕ) (n : ℕ) (δ : Content) → Begins bytes n δ
    → HandsOutAll (start bytes) (lines_of δ) (record { place = place.After; rest = drop n bytes; line = length (lines_of δ) })
hands-begins bytes n δ b =
    let front = hands-text-front (take n bytes) (drop n bytes) δ b.text in
    let count : 0 + length (lines_of δ) ≡ length (lines_of δ) = omega arith in
    let whole = subst (λ (l : List ℕ). HandsOutAll (start l) (lines_of δ) (record { place = place.After; rest = drop n bytes; line = 0 + length (lines_of δ) })) (take-append-drop n bytes) front in
    subst (λ (k : ℕ). HandsOutAll (start bytes) (lines_of δ) (record { place = place.After; rest = drop n bytes; line = k })) count whole

pub begins-or-refused : (bytes : List ℕ) (n number : ℕ) (δ : Content) → Begins bytes n δ → IsRefusedAt bytes number → ⊥
begins-or-refused bytes n number δ b r =
    let s = stops-from bytes number r in
    not-both (start bytes) _ s.last (lines_of δ) s.lines number (hands-begins bytes n δ b) refl s.hands s.stops

pub one-refusal : (bytes : List ℕ) (m n : ℕ) → IsRefusedAt bytes m → IsRefusedAt bytes n → m ≡ n
one-refusal bytes m n a b =
    let s = stops-from bytes m a in
    let t = stops-from bytes n b in
    one-stop (start bytes) s.last t.last s.lines t.lines m n s.hands s.stops t.hands t.stops

pub one-beginning : (bytes : List ℕ) (m n : ℕ) (δ ε : Content) → Begins bytes m δ → Begins bytes n ε → (m ≡ n) × (δ ≡ ε)
one-beginning bytes m n δ ε a b =
    let same = one-hands (start bytes) _ _ (lines_of δ) (lines_of ε) (hands-begins bytes m δ a) (hands-begins bytes n ε b) refl refl in
    let rests : drop m bytes ≡ drop n bytes = ap (λ (r : Reading). r.rest) same.1 in
    let left : length bytes - m ≡ length bytes - n = sym (length-drop m bytes) ∙ (ap length rests ∙ length-drop n bytes) in
    let within = a.within in
    let other = b.within in
    (omega arith, same-content δ ε same.0)
