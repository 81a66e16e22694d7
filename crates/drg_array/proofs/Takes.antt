-- What is in the grammar is read.
use Rattle.std.proofs.Common.{◌≡◌, ℕ, zero, suc, ◌+◌, ◌-◌, ◌*◌, ◌≤◌, ◌<◌, true, false, List, [], ◌∷◌, ◌++◌, length, None, Some, Ok, Err, refl, sym, ap, ◌∙◌, arith, append_assoc, append-nil, length-append}
use Rattle.std.specs.Prelude.{Option, nat_lt, ◌==◌}
use Rattle.std.proofs.lemmas.Bool.Decides.{nat_tests}
use Rattle.drg_array.specs.Entries.{Entries}
use Rattle.drg_array.specs.Text.{spaces, IsDigit, IsNumberFrom, IsNumber, AreMore, AreNumbers, IsArrayText}
use Rattle.drg_array.specs.declared.limits.TheConstants.{MAX_DIAMETER, MAX_ENTRY}
use Rattle.drg_array.specs.Reading.{State, start, Number, Digit, Mark, End, Step, is_digit, step, most, follow}
use Rattle.drg_array.proofs.Steps.{digit_test}

-- where the bytes take the reader
abbrev pub run : State → List ℕ → Step
run s [] = Ok s
run s (c ∷ cs) = follow (step s c) (λ next. run next cs) (λ kind. Err kind)

abbrev pub then_run : Step → List ℕ → Step
then_run r cs = follow r (λ next. run next cs) (λ kind. Err kind)

along : (r : Step) (x y : List ℕ) → ((n : State) → run n (x ++ y) ≡ then_run (run n x) y) → then_run r (x ++ y) ≡ then_run (then_run r x) y
along (Ok n) x y ih = ih n
along (Err kind) x y ih = refl

pub run-append : (s : State) (x y : List ℕ) → run s (x ++ y) ≡ then_run (run s x) y
run-append s [] y = refl
run-append s (c ∷ cs) y = along (step s c) cs y (λ n. run-append n cs y)

pub run-after : (s n : State) (x y : List ℕ) → run s x ≡ Ok n → run s (x ++ y) ≡ run n y
run-after s n x y e = run-append s x y ∙ ap (λ r. then_run r y) e

pub run-step : (s n : State) (c : ℕ) (cs : List ℕ) → step s c ≡ Ok n → run s (c ∷ cs) ≡ run n cs
run-step s n c cs e = ap (λ r. then_run r cs) e

-- ---- spaces, numbers, lists
run-spaces : (s : State) → step s 32 ≡ Ok s → (i : ℕ) (t : List ℕ) → run s (spaces i ++ t) ≡ run s t
run-spaces s e zero t = refl
run-spaces s e (suc i) t = run-step s s 32 (spaces i ++ t) e ∙ run-spaces s e i t

grows : (value n : ℕ) (cs : List ℕ) → IsNumberFrom value cs n → value ≤ n
grows value n [] h = omega (arith, h)
grows value n (c ∷ cs) h = omega (arith, grows (value * 10 + (c - 48)) n cs h.1)

not_past : (n : ℕ) → n ≤ MAX_ENTRY → nat_lt MAX_ENTRY n ≡ false
not_past n h = grind (arith, nat_tests, h)

step-digit : (b : Option (List ℕ)) (ns : List ℕ) (value c : ℕ) → IsDigit c → value * 10 + (c - 48) ≤ MAX_ENTRY
    → step (Digit b ns value) c ≡ Ok (Digit b ns (value * 10 + (c - 48)))
step-digit b ns value c h small = rw (digit_test c h) (rw (not_past _ small) refl)

run-digits : (b : Option (List ℕ)) (ns : List ℕ) (value n : ℕ) (cs t : List ℕ) → IsNumberFrom value cs n → n ≤ MAX_ENTRY
    → run (Digit b ns value) (cs ++ t) ≡ run (Digit b ns n) t
run-digits b ns value n [] t h small = rw h refl
run-digits b ns value n (c ∷ cs) t h small =
    let least : value * 10 + (c - 48) ≤ n = grows (value * 10 + (c - 48)) n cs h.1 in
    run-step (Digit b ns value) (Digit b ns (value * 10 + (c - 48))) c (cs ++ t) (step-digit b ns value c h.0 (omega arith)) ∙ run-digits b ns (value * 10 + (c - 48)) n cs t h.1 small

no_space : (c : ℕ) → 49 ≤ c → (c == 32) ≡ false
no_space c h = grind (arith, nat_tests, h)

no_zero : (c : ℕ) → 49 ≤ c → (c == 48) ≡ false
no_zero c h = grind (arith, nat_tests, h)

pub step-number : (b : Option (List ℕ)) (ns : List ℕ) (c : ℕ) → 49 ≤ c → c ≤ 57 → step (Number b ns) c ≡ Ok (Digit b ns (c - 48))
step-number b ns c low high = rw (no_space c low) (rw (no_zero c low) (rw (digit_test c (omega arith, high)) refl))

pub run-number : (b : Option (List ℕ)) (ns : List ℕ) (n : ℕ) (cs t : List ℕ) → IsNumber cs n → run (Number b ns) (cs ++ t) ≡ run (Digit b ns n) t
run-number b ns n [] t h = absurd h
run-number b ns n (c ∷ cs) t h = run-step (Number b ns) (Digit b ns (c - 48)) c (cs ++ t) (step-number b ns c h.0 h.1) ∙ run-digits b ns (c - 48) n cs t h.3 h.2

-- what follows a number ends it
pub run-ends : (b : Option (List ℕ)) (ns : List ℕ) (n c : ℕ) (t : List ℕ) → is_digit c ≡ false → run (Digit b ns n) (c ∷ t) ≡ run (Mark b (ns ++ n ∷ [])) (c ∷ t)
run-ends b ns n c t h = rw h refl

run-done : (b : Option (List ℕ)) (ms : List ℕ) (n : ℕ) (more ns : List ℕ) (stop : ℕ) (t : List ℕ) → AreMore more ns → is_digit stop ≡ false
    → run (Digit b ms n) (more ++ stop ∷ t) ≡ run (Mark b (ms ++ n ∷ [])) (more ++ stop ∷ t)
run-done b ms n more [] stop t (zero, e) h = rw e (run-ends b ms n stop t h)
run-done b ms n more [] stop t (suc i, e) h = rw e (run-ends b ms n 32 (spaces i ++ stop ∷ t) refl)
run-done b ms n more (k ∷ ks) stop t (zero, j, number, rest, e, one, others) h =
    rw e (run-ends b ms n 44 ((spaces j ++ (number ++ rest)) ++ stop ∷ t) refl)
run-done b ms n more (k ∷ ks) stop t (suc i, j, number, rest, e, one, others) h =
    rw e (run-ends b ms n 32 ((spaces i ++ 44 ∷ (spaces j ++ (number ++ rest))) ++ stop ∷ t) refl)

less_test : (m n : ℕ) → m < n → nat_lt m n ≡ true
less_test m n h = grind (arith, nat_tests, h)

pub step-comma : (b : Option (List ℕ)) (ns : List ℕ) → length ns < most b → step (Mark b ns) 44 ≡ Ok (Number b ns)
step-comma None ns h = rw (less_test (length ns) MAX_DIAMETER h) refl
step-comma (Some b) ns h = rw (less_test (length ns) (length b) h) refl

pub run-more : (b : Option (List ℕ)) (ms more ns : List ℕ) (stop : ℕ) (t : List ℕ) → AreMore more ns → length ms + length ns ≤ most b → is_digit stop ≡ false
    → run (Mark b ms) (more ++ stop ∷ t) ≡ run (Mark b (ms ++ ns)) (stop ∷ t)
run-more b ms more [] stop t (i, e) short h =
    rw (e, append-nil ms) (run-spaces (Mark b ms) refl i (stop ∷ t))
run-more b ms more (n ∷ ns) stop t (i, j, number, rest, e, one, others) short h =
    let tail : List ℕ = rest ++ stop ∷ t in
    let whole : more ++ stop ∷ t ≡ spaces i ++ 44 ∷ (spaces j ++ (number ++ tail)) = rw e (simp append_assoc) in
    ap (λ l. run (Mark b ms) l) whole
    ∙ run-spaces (Mark b ms) refl i (44 ∷ (spaces j ++ (number ++ tail)))
    ∙ run-step (Mark b ms) (Number b ms) 44 (spaces j ++ (number ++ tail)) (step-comma b ms (omega arith))
    ∙ run-spaces (Number b ms) refl j (number ++ tail)
    ∙ run-number b ms n number tail one
    ∙ run-done b ms n rest ns stop t others h
    ∙ run-more b (ms ++ n ∷ []) rest ns stop t others (simp length-append (omega arith)) h
    ∙ ap (λ l. run (Mark b l) (stop ∷ t)) (append_assoc ms (n ∷ []) ns)

pub run-numbers : (b : Option (List ℕ)) (text ns : List ℕ) (stop : ℕ) (t : List ℕ) → AreNumbers text ns → length ns ≤ most b → is_digit stop ≡ false
    → run (Number b []) (text ++ stop ∷ t) ≡ run (Mark b ns) (stop ∷ t)
run-numbers b text [] stop t a short h = absurd a
run-numbers b text (n ∷ ns) stop t (i, number, rest, e, one, others) short h =
    let tail : List ℕ = rest ++ stop ∷ t in
    let whole : text ++ stop ∷ t ≡ spaces i ++ (number ++ tail) = rw e (simp append_assoc) in
    ap (λ l. run (Number b []) l) whole
    ∙ run-spaces (Number b []) refl i (number ++ tail)
    ∙ run-number b [] n number tail one
    ∙ run-done b [] n rest ns stop t others h
    ∙ run-more b (n ∷ []) rest ns stop t others (omega arith) h

same_test : (m n : ℕ) → m ≡ n → (m == n) ≡ true
same_test m n h = grind (arith, nat_tests, h)

pub step-brace : (b c : List ℕ) → length c ≡ length b → step (Mark (Some b) c) 125 ≡ Ok (End (Some b) c)
step-brace b c h = rw (same_test (length c) (length b) h) refl

pub takes : (text : List ℕ) (a : Entries) → IsArrayText text a → run start text ≡ Ok (End (Some a.b) a.c)
takes text a t =
    ap (λ l. run start l) t.whole
    ∙ run-spaces start refl t.before _
    ∙ run-numbers None t.text_b a.b 59 (t.text_c ++ 125 ∷ spaces t.after) t.numbers_b t.array.short refl
    ∙ run-step (Mark None a.b) (Number (Some a.b) []) 59 (t.text_c ++ 125 ∷ spaces t.after) refl
    ∙ run-numbers (Some a.b) t.text_c a.c 125 (spaces t.after) t.numbers_c (omega (arith, t.array.same_length)) refl
    ∙ run-step (Mark (Some a.b) a.c) (End (Some a.b) a.c) 125 (spaces t.after) (step-brace a.b a.c (sym t.array.same_length))
    ∙ ap (λ l. run (End (Some a.b) a.c) l) (sym (append-nil (spaces t.after)))
    ∙ run-spaces (End (Some a.b) a.c) refl t.after []
