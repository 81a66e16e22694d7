-- The bytes that begin an array text are those that a reader takes.
use Rattle.std.proofs.Common.{◌≡◌, ℕ, zero, suc, ◌+◌, ◌-◌, ◌≤◌, ◌<◌, List, [], ◌∷◌, ◌++◌, length, None, Some, Ok, Err, refl, sym, ap, subst, ◌∙◌, arith, length-append}
use Rattle.std.specs.Prelude.{Option}
use Rattle.drg_array.specs.Text.{IsArrayText}
use Rattle.drg_array.specs.Faults.{Begins, NumberIsDue}
use Rattle.drg_array.specs.declared.fault.ArrayKind.{ArrayKind}
use Rattle.drg_array.specs.Reading.{State, Brace, Number, Digit, Mark, End, start, step, most, IsSound}
use Rattle.drg_array.proofs.Steps.{Marks, a_space, a_comma, a_semicolon, a_brace, before_it, it, before_number, first_digit, one_more, no_more, marks, opens, numbers, digits, ends}
use Rattle.drg_array.proofs.Takes.{run, run-after, run-step, step-number, step-comma, step-brace, takes}
use Rattle.drg_array.proofs.Prefixes.{reads, first_step, first_part}

-- ---- each state can be completed
pub record IsViable (s : State) : Type 0 where
  pub rest : List ℕ
  pub b : List ℕ
  pub c : List ℕ
  pub ends : run s rest ≡ Ok (End (Some b) c)

viable-before : (s : State) (c : ℕ) (n : State) → step s c ≡ Ok n → IsViable n → IsViable s
viable-before s c n e v = record { rest = c ∷ v.rest; b = v.b; c = v.c; ends = run-step s n c v.rest e ∙ v.ends }

-- a number 1 and a space
viable-number : (b : Option (List ℕ)) (ns : List ℕ) → IsViable (Mark b (ns ++ 1 ∷ [])) → IsViable (Number b ns)
viable-number b ns v =
    viable-before (Number b ns) 49 (Digit b ns 1) (step-number b ns 49 (omega arith) (omega arith))
    (viable-before (Digit b ns 1) 32 (Mark b (ns ++ 1 ∷ [])) refl v)

viable-second : (more : ℕ) (b ns : List ℕ) → length ns + more ≡ length b → IsViable (Mark (Some b) ns)
viable-second zero b ns h = record { rest = 125 ∷ []; b = b; c = ns; ends = run-step (Mark (Some b) ns) (End (Some b) ns) 125 [] (step-brace b ns (omega arith)) }
viable-second (suc more) b ns h =
    viable-before (Mark (Some b) ns) 44 (Number (Some b) ns) (step-comma (Some b) ns (omega arith))
    (viable-number (Some b) ns (viable-second more b (ns ++ 1 ∷ []) (simp length-append (omega arith))))

viable-mark : (b : Option (List ℕ)) (ns : List ℕ) → 1 ≤ length ns → length ns ≤ most b → IsViable (Mark b ns)
viable-mark None ns some short =
    viable-before (Mark None ns) 59 (Number (Some ns) []) refl
    (viable-number (Some ns) [] (viable-second (length ns - 1) ns (1 ∷ []) (omega arith)))
viable-mark (Some b) ns some short = viable-second (length b - length ns) b ns (omega arith)

viable-due : (b : Option (List ℕ)) (ns : List ℕ) → length ns < most b → IsViable (Number b ns)
viable-due b ns less = viable-number b ns (viable-mark b (ns ++ 1 ∷ []) (simp length-append (omega arith)) (simp length-append (omega arith)))

pub viable : (s : State) → IsSound s → IsViable s
viable (Brace b ns) h = rw (h.0, h.1) (viable-before start 123 (Number None []) refl (viable-due None [] (omega arith)))
viable (Number b ns) h = viable-due b ns h.2
viable (Digit b ns value) h =
    viable-before (Digit b ns value) 32 (Mark b (ns ++ value ∷ [])) refl
    (viable-mark b (ns ++ value ∷ []) (simp length-append (omega arith)) (simp length-append (omega (arith, h.2))))
viable (Mark b ns) h = viable-mark b ns h.2 h.3
viable (End None ns) h = absurd h
viable (End (Some b) ns) h = record { rest = []; b = b; c = ns; ends = refl }

-- ---- what begins an array text
pub array-read : (text b c : List ℕ) → run start text ≡ Ok (End (Some b) c) → IsArrayText text (record { b = b; c = c })
array-read text b c e = (reads text (End (Some b) c) e).1

pub begins : (before : List ℕ) (s : State) → run start before ≡ Ok s → Begins before
begins before s e =
    let v = viable s (reads before s e).0 in
    (v.rest, record { b = v.b; c = v.c }, array-read (before ++ v.rest) v.b v.c (run-after start s before v.rest e ∙ v.ends))

pub began : (before : List ℕ) → Begins before → (s : State) × (run start before ≡ Ok s)
began before (rest, a, text) = let one = first_part start before rest (End (Some a.b) a.c) (takes (before ++ rest) a text) in (one.0, one.1)

-- the next byte goes on where the reader takes it
pub goes_on : (before : List ℕ) (s : State) (c : ℕ) (n : State) → run start before ≡ Ok s → step s c ≡ Ok n → Begins (before ++ c ∷ [])
goes_on before s c n ran e = begins (before ++ c ∷ []) n (run-after start s before (c ∷ []) ran ∙ run-step s n c [] e)

pub took : (before : List ℕ) (s : State) (c : ℕ) → run start before ≡ Ok s → Begins (before ++ c ∷ []) → (n : State) × (step s c ≡ Ok n)
took before s c ran h =
    let all = began (before ++ c ∷ []) h in
    let one = first_step s c [] all.0 (sym (run-after start s before (c ∷ []) ran) ∙ all.1) in
    (one.0, one.1)

pub stops : (before : List ℕ) (s : State) (c : ℕ) (kind : ArrayKind) → run start before ≡ Ok s → step s c ≡ Err kind → Begins (before ++ c ∷ []) → ⊥
stops before s c kind ran e h = let one = took before s c ran h in let k = one.1 in cc

-- ---- where a number is due
pub number_due : (before : List ℕ) (b : Option (List ℕ)) (ns : List ℕ) → run start before ≡ Ok (Number b ns) → NumberIsDue before
number_due before b ns ran = begins (before ++ 32 ∷ 49 ∷ []) (Digit b ns 1) (run-after start (Number b ns) before (32 ∷ 49 ∷ []) ran)

-- only where a number is due a space and a 1 can come
is_number : (s n last : State) → step s 32 ≡ Ok n → step n 49 ≡ Ok last → (b : Option (List ℕ)) × (ns : List ℕ) × (s ≡ Number b ns)
is_number (Brace b ns) n last e k =
    let same : n ≡ Brace b ns = cc in
    let bad : step (Brace b ns) 49 ≡ Ok last = subst (λ x. step x 49 ≡ Ok last) same k in cc
is_number (Number b ns) n last e k = (b, ns, refl)
is_number (Digit b ns value) n last e k =
    let same : n ≡ Mark b (ns ++ value ∷ []) = cc in
    let bad : step (Mark b (ns ++ value ∷ [])) 49 ≡ Ok last = subst (λ x. step x 49 ≡ Ok last) same k in cc
is_number (Mark b ns) n last e k =
    let same : n ≡ Mark b ns = cc in
    let bad : step (Mark b ns) 49 ≡ Ok last = subst (λ x. step x 49 ≡ Ok last) same k in cc
is_number (End b ns) n last e k =
    let same : n ≡ End b ns = cc in
    let bad : step (End b ns) 49 ≡ Ok last = subst (λ x. step x 49 ≡ Ok last) same k in cc

pub due_number : (before : List ℕ) → NumberIsDue before → (b : Option (List ℕ)) × (ns : List ℕ) × (run start before ≡ Ok (Number b ns))
due_number before h =
    let all = began (before ++ 32 ∷ 49 ∷ []) h in
    let here = first_part start before (32 ∷ 49 ∷ []) all.0 all.1 in
    let one = first_step here.0 32 (49 ∷ []) all.0 here.2 in
    let two = first_step one.0 49 [] all.0 one.2 in
    let is = is_number here.0 one.0 two.0 one.1 two.1 in
    (is.0, is.1, subst (λ x. run start before ≡ Ok x) {y = Number is.0 is.1} is.2 here.1)

-- ---- the first list stays once it is complete
abbrev pub first_of : State → Option (List ℕ)
first_of (Brace b ns) = b
first_of (Number b ns) = b
first_of (Digit b ns value) = b
first_of (Mark b ns) = b
first_of (End b ns) = b

keeps-marks : (front : List ℕ) (b : Option (List ℕ)) (ns : List ℕ) (c : ℕ) (n : State) → b ≡ Some front → Marks b ns c n → first_of n ≡ Some front
keeps-marks front b ns c n h (a_space k e) = ap first_of e ∙ h
keeps-marks front b ns c n h (a_comma k less e) = ap first_of e ∙ h
keeps-marks front b ns c n h (a_semicolon k none e) = (cc)
keeps-marks front b ns c n h (a_brace k other is same e) = ap first_of e ∙ h

keeps-step : (front : List ℕ) (s : State) (c : ℕ) (n : State) → first_of s ≡ Some front → step s c ≡ Ok n → first_of n ≡ Some front
keeps-step front (Brace b ns) c n h e =
    elim (opens b ns c n e) [ before_it k is ↦ ap first_of is ∙ h | it k is ↦ ap first_of is ∙ h ]
keeps-step front (Number b ns) c n h e =
    elim (numbers b ns c n e) [ before_number k is ↦ ap first_of is ∙ h | first_digit low high is ↦ ap first_of is ∙ h ]
keeps-step front (Digit b ns value) c n h e =
    elim (digits b ns value c n e) [ one_more k small is ↦ ap first_of is ∙ h | no_more m ↦ keeps-marks front b (ns ++ value ∷ []) c n h m ]
keeps-step front (Mark b ns) c n h e = keeps-marks front b ns c n h (marks b ns c n e)
keeps-step front (End b ns) c n h e = ap first_of (ends b ns c n e).1 ∙ h

pub keeps : (front : List ℕ) (s : State) (cs : List ℕ) (last : State) → first_of s ≡ Some front → run s cs ≡ Ok last → first_of last ≡ Some front
keeps front s [] last h e = let same : s ≡ last = cc in subst (λ x. first_of x ≡ Some front) same h
keeps front s (c ∷ cs) last h e =
    let one = first_step s c cs last e in keeps front one.0 cs last (keeps-step front s c one.0 h one.1) one.2
