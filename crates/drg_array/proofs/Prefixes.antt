-- What was read is in the grammar.
use Rattle.std.proofs.Common.{◌≡◌, ℕ, zero, suc, ◌+◌, ◌-◌, ◌*◌, ◌≤◌, List, [], ◌∷◌, ◌++◌, None, Some, Ok, Err, refl, sym, ap, subst, ◌∙◌, arith, append_assoc, append-nil}
use Rattle.std.specs.Prelude.{Option}
use Rattle.drg_array.specs.Entries.{IsArray}
use Rattle.drg_array.specs.Text.{spaces, IsDigit, IsNumberFrom, IsNumber, AreMore, AreNumbers, IsArrayText}
use Rattle.drg_array.specs.declared.limits.TheConstants.{MAX_ENTRY}
use Rattle.drg_array.specs.Reading.{State, Brace, Number, Digit, Mark, End, Step, start, step, IsSound}
use Rattle.drg_array.proofs.Steps.{Marks, a_space, a_comma, a_semicolon, a_brace, before_it, it, before_number, first_digit, one_more, no_more, marks, opens, numbers, digits, ends, sound}
use Rattle.drg_array.proofs.Takes.{run, then_run, run-append, run-after, run-step}

-- the bytes up to the list in hand, with t of this list
abbrev pub Opened : Option (List ℕ) → List ℕ → List ℕ → Type 0
Opened None before t = (i : ℕ) × (before ≡ spaces i ++ 123 ∷ t)
Opened (Some b) before t = (i : ℕ) × (text : List ℕ) × (before ≡ spaces i ++ 123 ∷ (text ++ 59 ∷ t)) × AreNumbers text b

-- the text of these numbers, and then a number is due
abbrev pub Ahead : List ℕ → List ℕ → Type 0
Ahead t [] = (j : ℕ) × (t ≡ spaces j)
Ahead t (n ∷ ns) = (u : List ℕ) × (j : ℕ) × (t ≡ u ++ 44 ∷ spaces j) × AreNumbers u (n ∷ ns)

-- a number is due after these bytes
abbrev pub IsDue : List ℕ → Option (List ℕ) → List ℕ → Type 0
IsDue before b ns = (t : List ℕ) × Opened b before t × Ahead t ns

-- what the bytes are that brought the reader here
abbrev pub IsRead : List ℕ → State → Type 0
IsRead before (Brace b ns) = (i : ℕ) × (before ≡ spaces i)
IsRead before (Number b ns) = IsDue before b ns
IsRead before (Digit b ns value) =
    (front number : List ℕ) × (before ≡ front ++ number) × IsDue front b ns × (run start front ≡ Ok (Number b ns)) × IsNumber number value
IsRead before (Mark b ns) = (t : List ℕ) × Opened b before t × AreNumbers t ns
IsRead before (End None ns) = ⊥
IsRead before (End (Some b) ns) = IsArrayText before (record { b = b; c = ns })

spaces-push : (i : ℕ) → spaces i ++ 32 ∷ [] ≡ spaces (suc i)
spaces-push zero = refl
spaces-push (suc i) = ap (λ l. 32 ∷ l) (spaces-push i)

opened-push : (b : Option (List ℕ)) (before t u : List ℕ) → Opened b before t → Opened b (before ++ u) (t ++ u)
opened-push None before t u (i, e) = (i, rw e (append_assoc (spaces i) (123 ∷ t) u))
opened-push (Some b) before t u (i, text, e, h) = (i, text, rw e (simp append_assoc), h)

-- ---- a list of numbers grows at its end
from-push : (value n c : ℕ) (cs : List ℕ) → IsNumberFrom value cs n → IsDigit c → IsNumberFrom value (cs ++ c ∷ []) (n * 10 + (c - 48))
from-push value n c [] h k = (k, ap (λ m. m * 10 + (c - 48)) h)
from-push value n c (d ∷ ds) h k = (h.0, from-push (value * 10 + (d - 48)) n c ds h.1 k)

pub number-push : (n c : ℕ) (cs : List ℕ) → IsNumber cs n → IsDigit c → n * 10 + (c - 48) ≤ MAX_ENTRY → IsNumber (cs ++ c ∷ []) (n * 10 + (c - 48))
number-push n c [] h k small = absurd h
number-push n c (d ∷ ds) h k small = (h.0, h.1, small, from-push (d - 48) n c ds h.3 k)

more-space : (t ns : List ℕ) → AreMore t ns → AreMore (t ++ 32 ∷ []) ns
more-space t [] (i, e) = (suc i, rw e (spaces-push i))
more-space t (n ∷ ns) (i, j, number, rest, e, one, others) =
    (i, j, number, rest ++ 32 ∷ [], rw e (simp append_assoc), one, more-space rest ns others)

numbers-space : (t ns : List ℕ) → AreNumbers t ns → AreNumbers (t ++ 32 ∷ []) ns
numbers-space t [] h = h
numbers-space t (n ∷ ns) (i, number, rest, e, one, others) = (i, number, rest ++ 32 ∷ [], rw e (simp append_assoc), one, more-space rest ns others)

more-number : (t ns number : List ℕ) (j n : ℕ) → AreMore t ns → IsNumber number n → AreMore (t ++ 44 ∷ (spaces j ++ number)) (ns ++ n ∷ [])
more-number t [] number j n (i, e) one = (i, j, number, [], rw (e, append-nil number) refl, one, (0, refl))
more-number t (m ∷ ms) number j n (i, k, first, rest, e, two, others) one =
    (i, k, first, rest ++ 44 ∷ (spaces j ++ number), rw e (simp append_assoc), two, more-number rest ms number j n others one)

ahead-number : (t ns number : List ℕ) (n : ℕ) → Ahead t ns → IsNumber number n → AreNumbers (t ++ number) (ns ++ n ∷ [])
ahead-number t [] number n (j, e) one = (j, number, [], rw (e, append-nil number) refl, one, (0, refl))
ahead-number t (m ∷ ms) number n (u, j, e, (i, first, rest, is, two, others)) one =
    (i, first, rest ++ 44 ∷ (spaces j ++ number), rw (e, is) (simp append_assoc), two, more-number rest ms number j n others one)

ahead-space : (t ns : List ℕ) → Ahead t ns → Ahead (t ++ 32 ∷ []) ns
ahead-space t [] (j, e) = (suc j, rw e (spaces-push j))
ahead-space t (n ∷ ns) (u, j, e, h) = (u, suc j, rw e (append_assoc u (44 ∷ spaces j) (32 ∷ []) ∙ ap (λ l. u ++ 44 ∷ l) (spaces-push j)), h)

ahead-comma : (t ns : List ℕ) → AreNumbers t ns → Ahead (t ++ 44 ∷ []) ns
ahead-comma t [] h = absurd h
ahead-comma t (n ∷ ns) h = (t, 0, refl, h)

-- ---- one byte more
pub finished : (before : List ℕ) (b : Option (List ℕ)) (ns : List ℕ) (value : ℕ) → IsRead before (Digit b ns value) → IsRead before (Mark b (ns ++ value ∷ []))
finished before b ns value (front, number, e, (t, opened, ahead), ran, one) =
    (t ++ number, subst (λ l. Opened b l (t ++ number)) (sym e) (opened-push b front t number opened), ahead-number t ns number value ahead one)

after-semicolon : (before t ns : List ℕ) → Opened None before t → AreNumbers t ns → IsDue (before ++ 59 ∷ []) (Some ns) []
after-semicolon before t ns (i, e) h = ([], (i, t, rw e (append_assoc (spaces i) (123 ∷ t) (59 ∷ [])), h), (0, refl))

after-brace : (before t b ns : List ℕ) → Opened (Some b) before t → AreNumbers t ns → IsArray (record { b = b; c = ns })
    → IsArrayText (before ++ 125 ∷ []) (record { b = b; c = ns })
after-brace before t b ns (i, text, e, first) h array = record {
  before = i;
  text_b = text;
  text_c = t;
  after = 0;
  whole = rw e (simp append_assoc);
  numbers_b = first;
  numbers_c = h;
  array = array;
}

read-marks : (before : List ℕ) (b : Option (List ℕ)) (ns : List ℕ) (c : ℕ) (s : State) → IsRead before (Mark b ns) → IsSound s → Marks b ns c s
    → IsRead (before ++ c ∷ []) s
read-marks before b ns c s (t, opened, h) fine (a_space k e) =
    rw (e, k) (t ++ 32 ∷ [], opened-push b before t (32 ∷ []) opened, numbers-space t ns h)
read-marks before b ns c s (t, opened, h) fine (a_comma k less e) =
    rw (e, k) (t ++ 44 ∷ [], opened-push b before t (44 ∷ []) opened, ahead-comma t ns h)
read-marks before b ns c s (t, opened, h) fine (a_semicolon k none e) =
    rw (e, k) (after-semicolon before t ns (subst (λ l. Opened l before t) none opened) h)
read-marks before b ns c s (t, opened, h) fine (a_brace k front is same e) =
    let whole : s ≡ End (Some front) ns = e ∙ ap (λ l. End l ns) is in
    rw (whole, k) (after-brace before t front ns (subst (λ l. Opened l before t) is opened) h (subst IsSound whole fine))

pub read-step : (before : List ℕ) (s : State) (c : ℕ) (next : State) → run start before ≡ Ok s → IsSound s → IsRead before s → step s c ≡ Ok next
    → IsRead (before ++ c ∷ []) next
read-step before (Brace b ns) c next ran fine (i, e) h =
    elim (opens b ns c next h) [
      | before_it k is ↦ rw (is, k) (suc i, rw e (spaces-push i))
      | it k is ↦ rw (is, k, fine.0, fine.1) ([], (i, rw e refl), (0, refl))
    ]
read-step before (Number b ns) c next ran fine (t, opened, ahead) h =
    elim (numbers b ns c next h) [
      | before_number k is ↦ rw (is, k) (t ++ 32 ∷ [], opened-push b before t (32 ∷ []) opened, ahead-space t ns ahead)
      | first_digit low high is ↦ rw is (before, c ∷ [], refl, (t, opened, ahead), ran, (low, high, omega arith, refl))
    ]
read-step before (Digit b ns value) c next ran fine read h =
    elim (digits b ns value c next h) [
      | one_more k small is ↦ rw is (let (front, number, e, due, at, one) = read in
          (front, number ++ c ∷ [], rw e (append_assoc front number (c ∷ [])), due, at, number-push value c number one k small))
      | no_more m ↦ read-marks before b (ns ++ value ∷ []) c next (finished before b ns value read) (sound (Digit b ns value) c next fine h) m
    ]
read-step before (Mark b ns) c next ran fine read h = read-marks before b ns c next read (sound (Mark b ns) c next fine h) (marks b ns c next h)
read-step before (End None ns) c next ran fine read h = absurd read
read-step before (End (Some b) ns) c next ran fine read h =
    let k = ends (Some b) ns c next h in
    rw (k.1, k.0)
    (record {
      before = read.before;
      text_b = read.text_b;
      text_c = read.text_c;
      after = suc read.after;
      whole = rw read.whole (simp append_assoc (ap (λ l. spaces read.before ++ 123 ∷ (read.text_b ++ 59 ∷ (read.text_c ++ 125 ∷ l))) (spaces-push read.after)));
      numbers_b = read.numbers_b;
      numbers_c = read.numbers_c;
      array = read.array;
    })

-- ---- all bytes
followed : (r : Step) (cs : List ℕ) (s : State) → then_run r cs ≡ Ok s → (n : State) × (r ≡ Ok n) × (run n cs ≡ Ok s)
followed (Ok n) cs s e = (n, refl, e)
followed (Err kind) cs s e = (cc)

pub first_step : (s : State) (c : ℕ) (cs : List ℕ) (last : State) → run s (c ∷ cs) ≡ Ok last → (n : State) × (step s c ≡ Ok n) × (run n cs ≡ Ok last)
first_step s c cs last e = followed (step s c) cs last e

pub first_part : (s : State) (x y : List ℕ) (last : State) → run s (x ++ y) ≡ Ok last → (n : State) × (run s x ≡ Ok n) × (run n y ≡ Ok last)
first_part s x y last e = followed (run s x) y last (sym (run-append s x y) ∙ e)

reads_from : (before : List ℕ) (s : State) (rest : List ℕ) (last : State) → run start before ≡ Ok s → IsSound s → IsRead before s → run s rest ≡ Ok last
    → IsSound last × IsRead (before ++ rest) last
reads_from before s [] last ran fine read e =
    let same : s ≡ last = cc in
    let whole : IsSound s × IsRead (before ++ []) s = (fine, rw (append-nil before) read) in
    subst (λ x. IsSound x × IsRead (before ++ []) x) same whole
reads_from before s (c ∷ cs) last ran fine read e =
    let one = first_step s c cs last e in
    let ran_on : run start (before ++ c ∷ []) ≡ Ok one.0 = run-after start s before (c ∷ []) ran ∙ run-step s one.0 c [] one.1 in
    let all = reads_from (before ++ c ∷ []) one.0 cs last ran_on (sound s c one.0 fine one.1) (read-step before s c one.0 ran fine read one.1) one.2 in
    (all.0, subst (λ l. IsRead l last) (append_assoc before (c ∷ []) cs) all.1)

pub reads : (before : List ℕ) (s : State) → run start before ≡ Ok s → IsSound s × IsRead before s
reads before s e = reads_from [] start before s refl (refl, refl) (0, refl) e
