-- The kind of a fault, by the grammar, is the one with which a reader refuses the byte.
use Rattle.std.proofs.Common.{◌≡◌, ℕ, suc, ◌+◌, ◌-◌, ◌*◌, ◌≤◌, ◌<◌, true, false, inl, inr, List, [], ◌∷◌, ◌++◌, length, take, drop, None, Some, Ok, Err, refl, sym, ap, subst, ◌∙◌, arith, append_assoc, append-nil, take-append-drop}
use Rattle.std.proofs.Math.Seq.{drop-cons}
use Rattle.std.proofs.lemmas.List.Elements.{Contains-append_right}
use Rattle.std.specs.Prelude.{Option, nat_lt, ◌==◌, Contains}
use Rattle.std.proofs.lemmas.Bool.Decides.{nat_tests}
use Rattle.drg_array.specs.Text.{spaces, IsDigit}
use Rattle.drg_array.specs.Faults.{Begins, IsZero, IsLarge, IsLong, IsLengths, IsKind}
use Rattle.drg_array.specs.declared.limits.TheConstants.{MAX_DIAMETER, MAX_ENTRY}
use Rattle.drg_array.specs.declared.fault.ArrayKind.{ArrayKind}
use Rattle.drg_array.specs.declared.fault.ArrayKind.TheVariants.{Syntax, Zero, Large, Lengths, Long}
use Rattle.drg_array.specs.Reading.{State, Brace, Number, Digit, Mark, End, start, is_digit, comma, semicolon, brace, mark, step, most, IsSound}
use Rattle.drg_array.proofs.Steps.{chosen, is_byte, in_digits, digit_test, numbers, sound}
use Rattle.drg_array.proofs.Takes.{run, run-after, run-step, run-number, step-comma, step-brace, takes}
use Rattle.drg_array.proofs.Prefixes.{IsRead, finished, reads, first_step, first_part}
use Rattle.drg_array.proofs.Begins.{viable, array-read, began, goes_on, number_due, due_number, first_of, keeps}

-- a number of this list has just been read
pub data IsAfter (s : State) (b : Option (List ℕ)) (ns : List ℕ) : Type 0 where
  spaced : s ≡ Mark b ns → IsAfter s b ns
  close : (ms : List ℕ) → (value : ℕ) → s ≡ Digit b ms value → ns ≡ ms ++ value ∷ [] → IsAfter s b ns

after-step : (s : State) (b : Option (List ℕ)) (ns : List ℕ) (c : ℕ) → IsAfter s b ns → is_digit c ≡ false → step s c ≡ mark b ns c
after-step s b ns c (spaced e) h = ap (λ x. step x c) e
after-step s b ns c (close ms value e is) h = ap (λ x. step x c) e ∙ rw h (ap (λ l. mark b l c) (sym is))

after-sound : (s : State) (b : Option (List ℕ)) (ns : List ℕ) → IsAfter s b ns → IsSound s → IsSound (Mark b ns)
after-sound s b ns (spaced e) h = subst IsSound e h
after-sound s b ns (close ms value e is) h =
    subst (λ l. IsSound (Mark b l)) (sym is) (sound (Digit b ms value) 32 (Mark b (ms ++ value ∷ [])) (subst IsSound e h) refl)

after-read : (before : List ℕ) (s : State) (b : Option (List ℕ)) (ns : List ℕ) → IsAfter s b ns → IsRead before s → IsRead before (Mark b ns)
after-read before s b ns (spaced e) h = subst (IsRead before) e h
after-read before s b ns (close ms value e is) h =
    subst (λ l. IsRead before (Mark b l)) (sym is) (finished before b ms value (subst (IsRead before) e h))

after-first : (s : State) (b : Option (List ℕ)) (ns : List ℕ) → IsAfter s b ns → first_of s ≡ b
after-first s b ns (spaced e) = ap first_of e
after-first s b ns (close ms value e is) = ap first_of e

-- ---- how a byte is refused
pub data Refuses (s : State) (c : ℕ) (kind : ArrayKind) : Type 0 where
  zero_digit : (b : Option (List ℕ)) → (ns : List ℕ) → s ≡ Number b ns → c ≡ 48 → kind ≡ Zero → Refuses s c kind
  past : (b : Option (List ℕ)) → (ns : List ℕ) → (value : ℕ) → s ≡ Digit b ns value → IsDigit c → MAX_ENTRY < value * 10 + (c - 48) → kind ≡ Large → Refuses s c kind
  full : (ns : List ℕ) → IsAfter s None ns → c ≡ 44 → MAX_DIAMETER ≤ length ns → kind ≡ Long → Refuses s c kind
  enough : (b ns : List ℕ) → IsAfter s (Some b) ns → c ≡ 44 → length b ≤ length ns → kind ≡ Lengths → Refuses s c kind
  fewer : (b ns : List ℕ) → IsAfter s (Some b) ns → c ≡ 125 → (length ns ≡ length b → ⊥) → kind ≡ Lengths → Refuses s c kind
  other : kind ≡ Syntax → Refuses s c kind

not_less : (m n : ℕ) → nat_lt m n ≡ false → n ≤ m
not_less m n h = grind (arith, nat_tests)

is_less : (m n : ℕ) → nat_lt m n ≡ true → m < n
is_less m n h = grind (arith, nat_tests)

not_same : (m n : ℕ) → (m == n) ≡ false → m ≡ n → ⊥
not_same m n h e = grind (arith, nat_tests)

commas : (s : State) (b : Option (List ℕ)) (ns : List ℕ) (c : ℕ) (kind : ArrayKind) → IsAfter s b ns → c ≡ 44 → comma b ns ≡ Err kind → Refuses s c kind
commas s None ns c kind after is e =
    elim (chosen (nat_lt (length ns) MAX_DIAMETER) _ _ _ e) [
      | inl good ↦ (let h = good.1 in cc)
      | inr bad ↦ (let h = bad.1 in full ns after is (not_less _ _ bad.0) (cc))
    ]
commas s (Some b) ns c kind after is e =
    elim (chosen (nat_lt (length ns) (length b)) _ _ _ e) [
      | inl good ↦ (let h = good.1 in cc)
      | inr bad ↦ (let h = bad.1 in enough b ns after is (not_less _ _ bad.0) (cc))
    ]

semicolons : (s : State) (b : Option (List ℕ)) (ns : List ℕ) (c : ℕ) (kind : ArrayKind) → semicolon b ns ≡ Err kind → Refuses s c kind
semicolons s None ns c kind e = (cc)
semicolons s (Some b) ns c kind e = other (cc)

braces : (s : State) (b : Option (List ℕ)) (ns : List ℕ) (c : ℕ) (kind : ArrayKind) → IsAfter s b ns → c ≡ 125 → brace b ns ≡ Err kind → Refuses s c kind
braces s None ns c kind after is e = other (cc)
braces s (Some b) ns c kind after is e =
    elim (chosen (length ns == length b) _ _ _ e) [
      | inl good ↦ (let h = good.1 in cc)
      | inr bad ↦ (let h = bad.1 in fewer b ns after is (not_same _ _ bad.0) (cc))
    ]

marked : (s : State) (b : Option (List ℕ)) (ns : List ℕ) (c : ℕ) (kind : ArrayKind) → IsAfter s b ns → mark b ns c ≡ Err kind → Refuses s c kind
marked s b ns c kind after e =
    elim (chosen (c == 32) _ _ _ e) [
      | inl good ↦ (let k = good.1 in cc)
      | inr n1 ↦ (elim (chosen (c == 44) _ _ _ n1.1) [
        | inl good ↦ commas s b ns c kind after (is_byte c 44 good.0) good.1
        | inr n2 ↦ (elim (chosen (c == 59) _ _ _ n2.1) [
          | inl good ↦ semicolons s b ns c kind good.1
          | inr n3 ↦ (elim (chosen (c == 125) _ _ _ n3.1) [
            | inl good ↦ braces s b ns c kind after (is_byte c 125 good.0) good.1
            | inr n4 ↦ (let k = n4.1 in other (cc))
          ])
        ])
      ])
    ]

pub refuses : (s : State) (c : ℕ) (kind : ArrayKind) → step s c ≡ Err kind → Refuses s c kind
refuses (Brace b ns) c kind e =
    elim (chosen (c == 32) _ _ _ e) [
      | inl good ↦ (let k = good.1 in cc)
      | inr n1 ↦ (elim (chosen (c == 123) _ _ _ n1.1) [ inl good ↦ (let k = good.1 in cc) | inr bad ↦ (let k = bad.1 in other (cc)) ])
    ]
refuses (Number b ns) c kind e =
    elim (chosen (c == 32) _ _ _ e) [
      | inl good ↦ (let k = good.1 in cc)
      | inr n1 ↦ (elim (chosen (c == 48) _ _ _ n1.1) [
        | inl bad ↦ (let k = bad.1 in zero_digit b ns refl (is_byte c 48 bad.0) (cc))
        | inr n2 ↦ (elim (chosen (is_digit c) _ _ _ n2.1) [ inl good ↦ (let k = good.1 in cc) | inr bad ↦ (let k = bad.1 in other (cc)) ])
      ])
    ]
refuses (Digit b ns value) c kind e =
    elim (chosen (is_digit c) _ _ _ e) [
      | inl more ↦ (elim (chosen (nat_lt MAX_ENTRY (value * 10 + (c - 48))) _ _ _ more.1) [
        | inl bad ↦ (let k = bad.1 in past b ns value refl (in_digits c more.0) (is_less _ _ bad.0) (cc))
        | inr good ↦ (let k = good.1 in cc)
      ])
      | inr done ↦ marked (Digit b ns value) b (ns ++ value ∷ []) c kind (close ns value refl refl) done.1
    ]
refuses (Mark b ns) c kind e = marked (Mark b ns) b ns c kind (spaced refl) e
refuses (End b ns) c kind e =
    elim (chosen (c == 32) _ _ _ e) [ inl good ↦ (let k = good.1 in cc) | inr bad ↦ (let k = bad.1 in other (cc)) ]

-- ---- which bytes are taken after a number
taken-semicolon : (s n : State) → step s 59 ≡ Ok n → (ns : List ℕ) × IsAfter s None ns × (n ≡ Number (Some ns) [])
taken-semicolon (Brace b ns) n e = (cc)
taken-semicolon (Number b ns) n e = (cc)
taken-semicolon (Digit None ns value) n e = (ns ++ value ∷ [], close ns value refl refl, cc)
taken-semicolon (Digit (Some b) ns value) n e = (cc)
taken-semicolon (Mark None ns) n e = (ns, spaced refl, cc)
taken-semicolon (Mark (Some b) ns) n e = (cc)
taken-semicolon (End b ns) n e = (cc)

taken-brace : (s n : State) → step s 125 ≡ Ok n → (b ns : List ℕ) × IsAfter s (Some b) ns × (length ns ≡ length b)
taken-brace (Brace b ns) n e = (cc)
taken-brace (Number b ns) n e = (cc)
taken-brace (Digit None ns value) n e = (cc)
taken-brace (Digit (Some b) ns value) n e =
    elim (chosen (length (ns ++ value ∷ []) == length b) _ _ _ e) [
      | inl good ↦ (b, ns ++ value ∷ [], close ns value refl refl, is_byte _ _ good.0)
      | inr bad ↦ (let k = bad.1 in cc)
    ]
taken-brace (Mark None ns) n e = (cc)
taken-brace (Mark (Some b) ns) n e =
    elim (chosen (length ns == length b) _ _ _ e) [ inl good ↦ (b, ns, spaced refl, is_byte _ _ good.0) | inr bad ↦ (let k = bad.1 in cc) ]
taken-brace (End b ns) n e = (cc)

more : (b : Option (List ℕ)) (ns : List ℕ) (n : State) → comma b ns ≡ Ok n → length ns < most b
more None ns n e =
    elim (chosen (nat_lt (length ns) MAX_DIAMETER) _ _ _ e) [ inl good ↦ is_less _ _ good.0 | inr bad ↦ (let k = bad.1 in cc) ]
more (Some b) ns n e =
    elim (chosen (nat_lt (length ns) (length b)) _ _ _ e) [ inl good ↦ is_less _ _ good.0 | inr bad ↦ (let k = bad.1 in cc) ]

taken-comma : (s n : State) → step s 44 ≡ Ok n → (b : Option (List ℕ)) × (ns : List ℕ) × IsAfter s b ns × (length ns < most b)
taken-comma (Brace b ns) n e = (cc)
taken-comma (Number b ns) n e = (cc)
taken-comma (Digit b ns value) n e = (b, ns ++ value ∷ [], close ns value refl refl, more b (ns ++ value ∷ []) n e)
taken-comma (Mark b ns) n e = (b, ns, spaced refl, more b ns n e)
taken-comma (End b ns) n e = (cc)

-- ---- the kind of a refused byte, by the grammar
large : (before : List ℕ) (b : Option (List ℕ)) (ns : List ℕ) (value c : ℕ) → IsRead before (Digit b ns value) → IsDigit c → MAX_ENTRY < value * 10 + (c - 48)
    → IsLarge before c
large before b ns value c (front, number, whole, due, ran, one) h over =
    record { front = front; number = number; n = value; whole = whole; due = number_due front b ns ran; is = one; digit = h; past = over }

long : (before : List ℕ) (s : State) (ns : List ℕ) → run start before ≡ Ok s → IsAfter s None ns → MAX_DIAMETER ≤ length ns → IsLong before 44
long before s ns ran after h =
    let fine = (reads before s ran).0 in
    let list : IsSound (Mark None ns) = after-sound s None ns after fine in
    let next : IsSound (Number (Some ns) []) = sound (Mark None ns) 59 (Number (Some ns) []) list refl in
    let v = viable (Number (Some ns) []) next in
    let taken : step s 59 ≡ Ok (Number (Some ns) []) = after-step s None ns 59 after refl in
    let whole : run start (before ++ 59 ∷ v.rest) ≡ Ok (End (Some v.b) v.c) =
    run-after start s before (59 ∷ v.rest) ran ∙ (run-step s (Number (Some ns) []) 59 v.rest taken ∙ v.ends) in
    let same : Some v.b ≡ Some ns = keeps ns (Number (Some ns) []) v.rest (End (Some v.b) v.c) refl v.ends in
    let list_same : v.b ≡ ns = cc in
    let short : length ns ≤ MAX_DIAMETER = list.3 in
    (refl, v.rest, record { b = v.b; c = v.c }, array-read (before ++ 59 ∷ v.rest) v.b v.c whole, ap length list_same ∙ omega arith)

enough-lengths : (before : List ℕ) (s : State) (b ns : List ℕ) → run start before ≡ Ok s → IsAfter s (Some b) ns → length b ≤ length ns → Begins (before ++ 125 ∷ [])
enough-lengths before s b ns ran after h =
    let list = after-sound s (Some b) ns after (reads before s ran).0 in
    let same : length ns ≡ length b = omega (arith, h, list.3) in
    goes_on before s 125 (End (Some b) ns) ran (after-step s (Some b) ns 125 after refl ∙ step-brace b ns same)

contains-between : (x y : List ℕ) (c : ℕ) → Contains (x ++ c ∷ y) c
contains-between x y c = Contains-append_right x (c ∷ y) c (0, omega arith, refl)

fewer-lengths : (before : List ℕ) (s : State) (b ns : List ℕ) → run start before ≡ Ok s → IsAfter s (Some b) ns → (length ns ≡ length b → ⊥)
    → Contains before 59 × Begins (before ++ 44 ∷ [])
fewer-lengths before s b ns ran after h =
    let all = reads before s ran in
    let list = after-sound s (Some b) ns after all.0 in
    let read : IsRead before (Mark (Some b) ns) = after-read before s (Some b) ns after all.1 in
    let (t, (i, text, whole, first), numbers) = read in
    let split : before ≡ (spaces i ++ 123 ∷ text) ++ 59 ∷ t = whole ∙ sym (append_assoc (spaces i) (123 ∷ text) (59 ∷ t)) in
    let less : length ns < length b = omega (arith, h, list.3) in (
      subst (λ l. Contains l 59) (sym split) (contains-between (spaces i ++ 123 ∷ text) t 59),
      goes_on before s 44 (Number (Some b) ns) ran (after-step s (Some b) ns 44 after refl ∙ step-comma (Some b) ns less),
    )

-- ---- the byte that the grammar says is refused so
zero-refused : (before : List ℕ) (c : ℕ) → IsZero before c → (s : State) × (run start before ≡ Ok s) × (step s c ≡ Err Zero)
zero-refused before c (is, due) =
    let (b, ns, ran) = due_number before due in (Number b ns, ran, ap (λ x. step (Number b ns) x) is)

past-step : (b : Option (List ℕ)) (ns : List ℕ) (value c : ℕ) → IsDigit c → MAX_ENTRY < value * 10 + (c - 48) → step (Digit b ns value) c ≡ Err Large
past-step b ns value c h over = let past : nat_lt MAX_ENTRY (value * 10 + (c - 48)) ≡ true = grind (arith, nat_tests, over) in rw (digit_test c h) (rw past refl)

large-refused : (before : List ℕ) (c : ℕ) → IsLarge before c → (s : State) × (run start before ≡ Ok s) × (step s c ≡ Err Large)
large-refused before c h =
    let (b, ns, ran) = due_number h.front h.due in
    let at : run start (h.front ++ h.number) ≡ Ok (Digit b ns h.n) =
    run-after start (Number b ns) h.front h.number ran ∙ (ap (λ l. run (Number b ns) l) (sym (append-nil h.number)) ∙ run-number b ns h.n h.number [] h.is) in
    (Digit b ns h.n, ap (λ l. run start l) h.whole ∙ at, past-step b ns h.n c h.digit h.past)

long-refused : (before : List ℕ) (c : ℕ) → IsLong before c → (s : State) × (run start before ≡ Ok s) × (step s c ≡ Err Long)
long-refused before c (is, rest, a, text, many) =
    let here = first_part start before (59 ∷ rest) (End (Some a.b) a.c) (takes (before ++ 59 ∷ rest) a text) in
    let one = first_step here.0 59 rest (End (Some a.b) a.c) here.2 in
    let taken = taken-semicolon here.0 one.0 one.1 in
    let kept : Some a.b ≡ Some taken.0 = keeps taken.0 one.0 rest (End (Some a.b) a.c) (ap first_of taken.2) one.2 in
    let list_same : a.b ≡ taken.0 = cc in
    let full : nat_lt (length taken.0) MAX_DIAMETER ≡ false = let n : length taken.0 ≡ MAX_DIAMETER = ap length (sym list_same) ∙ many in rw n refl in
    (here.0, here.1, ap (λ x. step here.0 x) is ∙ (after-step here.0 None taken.0 44 taken.1 refl ∙ rw full refl))

first_complete : (before : List ℕ) (s : State) → run start before ≡ Ok s → Contains before 59 → (b : List ℕ) × (first_of s ≡ Some b)
first_complete before s ran (k, less, is) =
    let x = take k before in
    let y = drop (suc k) before in
    let split : before ≡ x ++ 59 ∷ y = sym (take-append-drop k before) ∙ ap (λ l. x ++ l) (drop-cons before k 59 less ∙ ap (λ c. c ∷ y) is) in
    let here = first_part start x (59 ∷ y) s (ap (λ l. run start l) (sym split) ∙ ran) in
    let one = first_step here.0 59 y s here.2 in
    let taken = taken-semicolon here.0 one.0 one.1 in
    (taken.0, keeps taken.0 one.0 y s (ap first_of taken.2) one.2)

enough-step : (b ns : List ℕ) → length ns ≡ length b → comma (Some b) ns ≡ Err Lengths
enough-step b ns h = let no : nat_lt (length ns) (length b) ≡ false = grind (arith, nat_tests) in rw no refl

fewer-step : (b ns : List ℕ) → length ns < length b → brace (Some b) ns ≡ Err Lengths
fewer-step b ns h = let no : (length ns == length b) ≡ false = grind (arith, nat_tests) in rw no refl

lengths-refused : (before : List ℕ) (c : ℕ) → IsLengths before c → (s : State) × (run start before ≡ Ok s) × (step s c ≡ Err Lengths)
lengths-refused before c (inl (is, h)) =
    let all = began (before ++ 125 ∷ []) h in
    let here = first_part start before (125 ∷ []) all.0 all.1 in
    let one = first_step here.0 125 [] all.0 here.2 in
    let taken = taken-brace here.0 one.0 one.1 in
    (here.0, here.1, ap (λ x. step here.0 x) is ∙ (after-step here.0 (Some taken.0) taken.1 44 taken.2 refl ∙ enough-step taken.0 taken.1 taken.3))
lengths-refused before c (inr (is, semicolon_in, h)) =
    let all = began (before ++ 44 ∷ []) h in
    let here = first_part start before (44 ∷ []) all.0 all.1 in
    let one = first_step here.0 44 [] all.0 here.2 in
    let taken = taken-comma here.0 one.0 one.1 in
    let two = first_complete before here.0 here.1 semicolon_in in
    let first : taken.0 ≡ Some two.0 = sym (after-first here.0 taken.0 taken.1 taken.2) ∙ two.1 in
    let after : IsAfter here.0 (Some two.0) taken.1 = subst (λ o. IsAfter here.0 o taken.1) first taken.2 in
    let less : length taken.1 < length two.0 = subst (λ o. length taken.1 < most o) first taken.3 in
    (here.0, here.1, ap (λ x. step here.0 x) is ∙ (after-step here.0 (Some two.0) taken.1 125 after refl ∙ fewer-step two.0 taken.1 less))

-- ---- both
one_kind : (before : List ℕ) (s t : State) (c : ℕ) (kind second : ArrayKind) → run start before ≡ Ok s → step s c ≡ Err kind → run start before ≡ Ok t → step t c ≡ Err second
    → kind ≡ second
one_kind before s t c kind second ran e ran' e' =
    let same : s ≡ t = cc in
    let k : step s c ≡ Err second = ap (λ x. step x c) same ∙ e' in cc

syntax : (before : List ℕ) (s : State) (c : ℕ) → run start before ≡ Ok s → step s c ≡ Err Syntax → IsKind before c Syntax
syntax before s c ran e = (
  λ h. (let w = zero-refused before c h in let k = one_kind before s w.0 c Syntax Zero ran e w.1 w.2 in cc),
  λ h. (let w = large-refused before c h in let k = one_kind before s w.0 c Syntax Large ran e w.1 w.2 in cc),
  λ h. (let w = long-refused before c h in let k = one_kind before s w.0 c Syntax Long ran e w.1 w.2 in cc),
  λ h. (let w = lengths-refused before c h in let k = one_kind before s w.0 c Syntax Lengths ran e w.1 w.2 in cc),
)

pub kind_is : (before : List ℕ) (s : State) (c : ℕ) (kind : ArrayKind) → run start before ≡ Ok s → step s c ≡ Err kind → IsKind before c kind
kind_is before s c kind ran e =
    elim (refuses s c kind e) [
      | zero_digit b ns at is k ↦ rw k (is, number_due before b ns (ran ∙ ap (λ x. Ok x) at))
      | past b ns value at h over k ↦ rw k (large before b ns value c (subst (IsRead before) at (reads before s ran).1) h over)
      | full ns after is many k ↦ rw (k, is) (long before s ns ran after many)
      | enough b ns after is h k ↦ rw k (inl (is, enough-lengths before s b ns ran after h))
      | fewer b ns after is h k ↦ rw k (let both = fewer-lengths before s b ns ran after h in inr (is, both.0, both.1))
      | other k ↦ rw k (syntax before s c ran (e ∙ ap (λ x. Err x) k))
    ]

-- a byte that is refused with one kind, and has a kind by the grammar
pub kind_same : (before : List ℕ) (s : State) (c : ℕ) (kind refused : ArrayKind) → run start before ≡ Ok s → step s c ≡ Err refused → IsKind before c kind → refused ≡ kind
kind_same before s c Zero refused ran e h = let w = zero-refused before c h in one_kind before s w.0 c refused Zero ran e w.1 w.2
kind_same before s c Large refused ran e h = let w = large-refused before c h in one_kind before s w.0 c refused Large ran e w.1 w.2
kind_same before s c Long refused ran e h = let w = long-refused before c h in one_kind before s w.0 c refused Long ran e w.1 w.2
kind_same before s c Lengths refused ran e h = let w = lengths-refused before c h in one_kind before s w.0 c refused Lengths ran e w.1 w.2
kind_same before s c Syntax Zero ran e h = absurd (h.0 (kind_is before s c Zero ran e))
kind_same before s c Syntax Large ran e h = absurd (h.1 (kind_is before s c Large ran e))
kind_same before s c Syntax Long ran e h = absurd (h.2 (kind_is before s c Long ran e))
kind_same before s c Syntax Lengths ran e h = absurd (h.3 (kind_is before s c Lengths ran e))
kind_same before s c Syntax Syntax ran e h = refl
