-- What a reader answers is the array of the text, or its fault.
use Rattle.std.proofs.Common.{◌≡◌, ℕ, suc, ◌+◌, ◌<◌, ◌⊎◌, inl, inr, List, [], ◌∷◌, ◌++◌, length, drop, get_or, None, Some, Ok, Err, refl, sym, ap, ap₂, ◌∙◌, arith, append-nil}
use Rattle.std.specs.Prelude.{Option, Result}
use Rattle.std.proofs.Math.Seq.{drop-cons}
use Rattle.drg_array.specs.Entries.{Entries}
use Rattle.drg_array.specs.Text.{IsArrayText}
use Rattle.drg_array.specs.Faults.{IsFaultAtByte, IsFaultAtEnd, IsFault}
use Rattle.drg_array.specs.declared.fault.ArrayFault.{ArrayFault}
use Rattle.drg_array.specs.declared.fault.ArrayKind.{ArrayKind}
use Rattle.drg_array.specs.declared.fault.ArrayKind.TheVariants.{Syntax}
use Rattle.drg_array.specs.Reading.{State, Brace, Number, Digit, Mark, End, Step, start, step, complete, at_end, follow, reading}
use Rattle.drg_array.proofs.Takes.{run, then_run, run-step, takes}
use Rattle.drg_array.proofs.Begins.{array-read, begins, began, goes_on, stops}
use Rattle.drg_array.proofs.KindLaws.{kind_is, kind_same}

abbrev failed : ℕ → ArrayKind → Result Entries ArrayFault
failed at kind = Err (record { at = at; kind = kind })

abbrev reading_on : ℕ → Step → List ℕ → Result Entries ArrayFault
reading_on at r cs = follow r (λ next. reading (at + 1) next cs) (λ kind. Err (record { at = at; kind = kind }))

-- ---- one byte more is read
pub reading-step : (at place : ℕ) (s n : State) (bytes : List ℕ) (byte : ℕ) → place < length bytes → byte ≡ get_or bytes place 0 → step s byte ≡ Ok n
    → reading at s (drop place bytes) ≡ reading (at + 1) n (drop (place + 1) bytes)
reading-step at place s n bytes byte less is e =
    let next : suc place ≡ place + 1 = omega arith in
    ap (λ l. reading at s l) (drop-cons bytes place 0 less ∙ ap₂ (λ c k. c ∷ drop k bytes) (sym is) next)
    ∙ ap (λ r. reading_on at r (drop (place + 1) bytes)) e

run-on : (at : ℕ) (r : Step) (n : State) (cs rest : List ℕ) → ((m : State) → run m cs ≡ Ok n → reading (at + 1) m (cs ++ rest) ≡ reading (at + 1 + length cs) n rest)
    → then_run r cs ≡ Ok n → reading_on at r (cs ++ rest) ≡ reading (at + 1 + length cs) n rest
run-on at (Ok m) n cs rest step_on e = step_on m e
run-on at (Err kind) n cs rest step_on e = (cc)

pub reading-run : (at : ℕ) (s n : State) (before rest : List ℕ) → run s before ≡ Ok n → reading at s (before ++ rest) ≡ reading (at + length before) n rest
reading-run at s n [] rest e = let same : s ≡ n = cc in ap₂ (λ k m. reading k m rest) (omega arith) same
reading-run at s n (c ∷ cs) rest e =
    run-on at (step s c) n cs rest (λ m h. reading-run (at + 1) m n cs rest h) e ∙ ap (λ k. reading k n rest) (omega arith)

pub reading-fault : (s n : State) (before after : List ℕ) (byte : ℕ) (kind : ArrayKind) → run s before ≡ Ok n → step n byte ≡ Err kind
    → reading 1 s (before ++ byte ∷ after) ≡ Err (record { at = length before + 1; kind = kind })
reading-fault s n before after byte kind e h =
    reading-run 1 s n before (byte ∷ after) e
    ∙ (ap (λ r. reading_on (1 + length before) r after) h ∙ ap (λ k. failed k kind) (omega arith))

-- ---- where the bytes take the reader, or the first byte that it refuses
pub data Goes (s : State) (bytes : List ℕ) : Type 0 where
  through : (n : State) → run s bytes ≡ Ok n → Goes s bytes
  stuck : (before : List ℕ) → (byte : ℕ) → (after : List ℕ) → (n : State) → (kind : ArrayKind) → bytes ≡ before ++ byte ∷ after → run s before ≡ Ok n → step n byte ≡ Err kind → Goes s bytes

goes-on : (s n : State) (c : ℕ) (cs : List ℕ) → step s c ≡ Ok n → Goes n cs → Goes s (c ∷ cs)
goes-on s n c cs e (through m h) = through m (run-step s n c cs e ∙ h)
goes-on s n c cs e (stuck before byte after m kind whole ran refused) =
    stuck (c ∷ before) byte after m kind (ap (λ l. c ∷ l) whole) (run-step s n c before e ∙ ran) refused

goes-by : (s : State) (c : ℕ) (cs : List ℕ) (r : Step) → step s c ≡ r → ((n : State) → Goes n cs) → Goes s (c ∷ cs)
goes-by s c cs (Ok n) e next = goes-on s n c cs e (next n)
goes-by s c cs (Err kind) e next = stuck [] c cs s kind refl refl e

pub goes : (s : State) (bytes : List ℕ) → Goes s bytes
goes s [] = through s refl
goes s (c ∷ cs) = goes-by s c cs (step s c) refl (λ n. goes n cs)

is_complete : (s : State) (a : Entries) → complete s ≡ Some a → s ≡ End (Some a.b) a.c
is_complete (Brace b ns) a e = (cc)
is_complete (Number b ns) a e = (cc)
is_complete (Digit b ns value) a e = (cc)
is_complete (Mark b ns) a e = (cc)
is_complete (End None ns) a e = (cc)
is_complete (End (Some b) ns) a e =
    let same : record { b = b; c = ns } ≡ a = cc in
    ap₂ (λ l m. End (Some l) m) (ap (λ (x : Entries). x.b) same) (ap (λ (x : Entries). x.c) same)

-- ---- the answer of a reader
pub data Answer (bytes : List ℕ) (answer : Result Entries ArrayFault) : Type 0 where
  array : (a : Entries) → IsArrayText bytes a → answer ≡ Ok a → Answer bytes answer
  fault : (f : ArrayFault) → IsFault bytes f → answer ≡ Err f → Answer bytes answer

at_end_is : (bytes : List ℕ) (s : State) (answer : Result Entries ArrayFault) → run start bytes ≡ Ok s → answer ≡ at_end (length bytes + 1) (complete s) → Answer bytes answer
at_end_is bytes s answer ran e = on (complete s) refl
  where
    on : (o : Option Entries) → complete s ≡ o → Answer bytes answer
    on (Some a) is =
        array a (array-read bytes a.b a.c (ran ∙ ap (λ x. Ok x) (is_complete s a is))) (e ∙ ap (λ o. at_end (length bytes + 1) o) is)
    on None is =
        fault (record { at = length bytes + 1; kind = Syntax })
        (inr (record {
          begins = begins bytes s ran;
          short = λ a text. (let all = takes bytes a text in
              let same : s ≡ End (Some a.b) a.c = cc in
              let some : None ≡ Some a = sym is ∙ ap complete same in cc);
          at = refl;
          kind = refl;
        }))
        (e ∙ ap (λ o. at_end (length bytes + 1) o) is)

pub answer-is : (bytes : List ℕ) → Answer bytes (reading 1 start bytes)
answer-is bytes = on (goes start bytes)
  where
    on : Goes start bytes → Answer bytes (reading 1 start bytes)
    on (through s ran) =
        at_end_is bytes s (reading 1 start bytes) ran
        (ap (λ l. reading 1 start l) (sym (append-nil bytes)) ∙ (reading-run 1 start s bytes [] ran ∙ ap (λ k. at_end k (complete s)) (omega arith)))
    on (stuck before byte after s kind whole ran refused) =
        fault (record { at = length before + 1; kind = kind })
        (inl (record {
          before = before;
          byte = byte;
          after = after;
          whole = whole;
          begins = begins before s ran;
          ends = stops before s byte kind ran refused;
          at = refl;
          kind = kind_is before s byte kind ran refused;
        }))
        (ap (λ l. reading 1 start l) whole ∙ reading-fault start s before after byte kind ran refused)

-- ---- a text has one array or one fault
pub array-answer : (bytes : List ℕ) (a : Entries) → IsArrayText bytes a → reading 1 start bytes ≡ Ok a
array-answer bytes a text =
    ap (λ l. reading 1 start l) (sym (append-nil bytes)) ∙ reading-run 1 start (End (Some a.b) a.c) bytes [] (takes bytes a text)

fault-at-byte : (bytes : List ℕ) (f : ArrayFault) → IsFaultAtByte bytes f → reading 1 start bytes ≡ Err f
fault-at-byte bytes f h = on (step s h.byte) refl
  where
    s : State
    s = (began h.before h.begins).0

    ran : run start h.before ≡ Ok s
    ran = (began h.before h.begins).1

    on : (r : Step) → step s h.byte ≡ r → reading 1 start bytes ≡ Err f
    on (Ok n) e = absurd (h.ends (goes_on h.before s h.byte n ran e))
    on (Err kind) e =
        ap (λ l. reading 1 start l) h.whole
        ∙ (reading-fault start s h.before h.after h.byte kind ran e
        ∙ ap₂ failed (sym h.at) (kind_same h.before s h.byte f.kind kind ran e h.kind))

fault-at-end : (bytes : List ℕ) (f : ArrayFault) → IsFaultAtEnd bytes f → reading 1 start bytes ≡ Err f
fault-at-end bytes f h = on (complete s) refl
  where
    s : State
    s = (began bytes h.begins).0

    ran : run start bytes ≡ Ok s
    ran = (began bytes h.begins).1

    on : (o : Option Entries) → complete s ≡ o → reading 1 start bytes ≡ Err f
    on (Some a) is = absurd (h.short a (array-read bytes a.b a.c (ran ∙ ap (λ x. Ok x) (is_complete s a is))))
    on None is =
        ap (λ l. reading 1 start l) (sym (append-nil bytes))
        ∙ (reading-run 1 start s bytes [] ran
        ∙ (ap (λ o. at_end (1 + length bytes) o) is
        ∙ ap₂ failed (omega (arith, h.at)) (sym h.kind)))

pub fault-answer : (bytes : List ℕ) (f : ArrayFault) → IsFault bytes f → reading 1 start bytes ≡ Err f
fault-answer bytes f (inl h) = fault-at-byte bytes f h
fault-answer bytes f (inr h) = fault-at-end bytes f h

pub one_array : (text : List ℕ) (a b : Entries) → IsArrayText text a → IsArrayText text b → a ≡ b
one_array text a b h k = let e = array-answer text a h in let f = array-answer text b k in cc

pub one_fault : (text : List ℕ) (f g : ArrayFault) → IsFault text f → IsFault text g → f ≡ g
one_fault text f g h k = let e = fault-answer text f h in let m = fault-answer text g k in cc

pub not_both : (text : List ℕ) (a : Entries) (f : ArrayFault) → IsArrayText text a → IsFault text f → ⊥
not_both text a f h k = let e = array-answer text a h in let m = fault-answer text f k in cc

pub either : (text : List ℕ) → ((a : Entries) × IsArrayText text a) ⊎ ((f : ArrayFault) × IsFault text f)
either text = elim (answer-is text) [ array a h e ↦ inl (a, h) | fault f h e ↦ inr (f, h) ]
