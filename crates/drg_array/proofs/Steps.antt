-- Which bytes a reader takes where it stands, and which it refuses.
use Rattle.std.proofs.Common.{◌≡◌, ℕ, ◌+◌, ◌-◌, ◌*◌, ◌≤◌, ◌<◌, Bool, true, false, ◌⊎◌, inl, inr, List, [], ◌∷◌, ◌++◌, length, None, Some, Ok, refl, sym, ap, ap₂, subst, ◌∙◌, arith, length-append}
use Rattle.std.specs.Prelude.{Option, cond, nat_lt, ◌==◌}
use Rattle.std.specs.List.{AllByRecursion}
use Rattle.std.proofs.lemmas.Bool.Decides.{nat_tests}
use Rattle.drg_array.specs.Entries.{IsEntry}
use Rattle.drg_array.specs.Text.{IsDigit}
use Rattle.drg_array.specs.declared.limits.TheConstants.{MAX_DIAMETER, MAX_ENTRY}
use Rattle.drg_array.specs.Reading.{State, Brace, Number, Digit, Mark, End, is_digit, comma, semicolon, brace, mark, step, most, IsFirstList, IsSound}

-- which way a test went
pub chosen : {A : Type 0} (b : Bool) (x y z : A) → cond b x y ≡ z → ((b ≡ true) × (x ≡ z)) ⊎ ((b ≡ false) × (y ≡ z))
chosen true x y z e = inl (refl, e)
chosen false x y z e = inr (refl, e)

pub is_byte : (c n : ℕ) → (c == n) ≡ true → c ≡ n
is_byte c n e = grind (arith, nat_tests)

pub in_digits : (c : ℕ) → is_digit c ≡ true → IsDigit c
in_digits c e = grind (arith, nat_tests)

pub digit_test : (c : ℕ) → IsDigit c → is_digit c ≡ true
digit_test c h = grind (arith, nat_tests, h.0, h.1)

-- ---- a byte that is taken after a number
pub data Marks (b : Option (List ℕ)) (ns : List ℕ) (c : ℕ) (s : State) : Type 0 where
  a_space : c ≡ 32 → s ≡ Mark b ns → Marks b ns c s
  a_comma : c ≡ 44 → length ns < most b → s ≡ Number b ns → Marks b ns c s
  a_semicolon : c ≡ 59 → b ≡ None → s ≡ Number (Some ns) [] → Marks b ns c s
  a_brace : c ≡ 125 → (front : List ℕ) → b ≡ Some front → length ns ≡ length front → s ≡ End b ns → Marks b ns c s

commas : (b : Option (List ℕ)) (ns : List ℕ) (s : State) → comma b ns ≡ Ok s → (length ns < most b) × (s ≡ Number b ns)
commas None ns s e =
    elim (chosen (nat_lt (length ns) MAX_DIAMETER) _ _ _ e) [
      | inl good ↦ (let h = good.0 in let k = good.1 in (grind (arith, nat_tests), cc))
      | inr bad ↦ (let h = bad.1 in cc)
    ]
commas (Some b) ns s e =
    elim (chosen (nat_lt (length ns) (length b)) _ _ _ e) [
      | inl good ↦ (let h = good.0 in let k = good.1 in (grind (arith, nat_tests), cc))
      | inr bad ↦ (let h = bad.1 in cc)
    ]

semicolons : (b : Option (List ℕ)) (ns : List ℕ) (s : State) → semicolon b ns ≡ Ok s → (b ≡ None) × (s ≡ Number (Some ns) [])
semicolons None ns s e = (refl, cc)
semicolons (Some b) ns s e = (cc)

braces : (b : Option (List ℕ)) (ns : List ℕ) (s : State) → brace b ns ≡ Ok s
    → (front : List ℕ) × (b ≡ Some front) × (length ns ≡ length front) × (s ≡ End b ns)
braces None ns s e = (cc)
braces (Some b) ns s e =
    elim (chosen (length ns == length b) _ _ _ e) [
      | inl good ↦ (let h = good.0 in let k = good.1 in (b, refl, is_byte (length ns) (length b) h, cc))
      | inr bad ↦ (let h = bad.1 in cc)
    ]

pub marks : (b : Option (List ℕ)) (ns : List ℕ) (c : ℕ) (s : State) → mark b ns c ≡ Ok s → Marks b ns c s
marks b ns c s e =
    elim (chosen (c == 32) _ _ _ e) [
      | inl good ↦ (let k = good.1 in a_space (is_byte c 32 good.0) (cc))
      | inr n1 ↦ (elim (chosen (c == 44) _ _ _ n1.1) [
        | inl good ↦ (let k = commas b ns s good.1 in a_comma (is_byte c 44 good.0) k.0 k.1)
        | inr n2 ↦ (elim (chosen (c == 59) _ _ _ n2.1) [
          | inl good ↦ (let k = semicolons b ns s good.1 in a_semicolon (is_byte c 59 good.0) k.0 k.1)
          | inr n3 ↦ (elim (chosen (c == 125) _ _ _ n3.1) [
            | inl good ↦ (let k = braces b ns s good.1 in a_brace (is_byte c 125 good.0) k.0 k.1 k.2 k.3)
            | inr n4 ↦ (let k = n4.1 in cc)
          ])
        ])
      ])
    ]

-- ---- a byte that is taken elsewhere
pub data Opens (b : Option (List ℕ)) (ns : List ℕ) (c : ℕ) (s : State) : Type 0 where
  before_it : c ≡ 32 → s ≡ Brace b ns → Opens b ns c s
  it : c ≡ 123 → s ≡ Number b ns → Opens b ns c s

pub data Numbers (b : Option (List ℕ)) (ns : List ℕ) (c : ℕ) (s : State) : Type 0 where
  before_number : c ≡ 32 → s ≡ Number b ns → Numbers b ns c s
  first_digit : 49 ≤ c → c ≤ 57 → s ≡ Digit b ns (c - 48) → Numbers b ns c s

pub data Digits (b : Option (List ℕ)) (ns : List ℕ) (value c : ℕ) (s : State) : Type 0 where
  one_more : IsDigit c → value * 10 + (c - 48) ≤ MAX_ENTRY → s ≡ Digit b ns (value * 10 + (c - 48)) → Digits b ns value c s
  no_more : Marks b (ns ++ value ∷ []) c s → Digits b ns value c s

pub opens : (b : Option (List ℕ)) (ns : List ℕ) (c : ℕ) (s : State) → step (Brace b ns) c ≡ Ok s → Opens b ns c s
opens b ns c s e =
    elim (chosen (c == 32) _ _ _ e) [
      | inl good ↦ (let k = good.1 in before_it (is_byte c 32 good.0) (cc))
      | inr n1 ↦ (elim (chosen (c == 123) _ _ _ n1.1) [
        | inl good ↦ (let k = good.1 in it (is_byte c 123 good.0) (cc))
        | inr bad ↦ (let k = bad.1 in cc)
      ])
    ]

first_digit_range : (c : ℕ) → (c == 48) ≡ false → is_digit c ≡ true → (49 ≤ c) × (c ≤ 57)
first_digit_range c h k = grind (arith, nat_tests)

pub numbers : (b : Option (List ℕ)) (ns : List ℕ) (c : ℕ) (s : State) → step (Number b ns) c ≡ Ok s → Numbers b ns c s
numbers b ns c s e =
    elim (chosen (c == 32) _ _ _ e) [
      | inl good ↦ (let k = good.1 in before_number (is_byte c 32 good.0) (cc))
      | inr n1 ↦ (elim (chosen (c == 48) _ _ _ n1.1) [
        | inl bad ↦ (let k = bad.1 in cc)
        | inr n2 ↦ (elim (chosen (is_digit c) _ _ _ n2.1) [
          | inl good ↦ (let range = first_digit_range c n2.0 good.0 in let k = good.1 in first_digit range.0 range.1 (cc))
          | inr bad ↦ (let k = bad.1 in cc)
        ])
      ])
    ]

small_number : (n : ℕ) → nat_lt MAX_ENTRY n ≡ false → n ≤ MAX_ENTRY
small_number n h = grind (arith, nat_tests)

pub digits : (b : Option (List ℕ)) (ns : List ℕ) (value c : ℕ) (s : State) → step (Digit b ns value) c ≡ Ok s → Digits b ns value c s
digits b ns value c s e =
    elim (chosen (is_digit c) _ _ _ e) [
      | inl more ↦ (elim (chosen (nat_lt MAX_ENTRY (value * 10 + (c - 48))) _ _ _ more.1) [
        | inl bad ↦ (let k = bad.1 in cc)
        | inr good ↦ (let k = good.1 in one_more (in_digits c more.0) (small_number _ good.0) (cc))
      ])
      | inr done ↦ no_more (marks b (ns ++ value ∷ []) c s done.1)
    ]

pub ends : (b : Option (List ℕ)) (ns : List ℕ) (c : ℕ) (s : State) → step (End b ns) c ≡ Ok s → (c ≡ 32) × (s ≡ End b ns)
ends b ns c s e =
    elim (chosen (c == 32) _ _ _ e) [
      | inl good ↦ (let k = good.1 in (is_byte c 32 good.0, cc))
      | inr bad ↦ (let k = bad.1 in cc)
    ]

-- ---- soundness is kept
entries-push : (ns : List ℕ) (n : ℕ) → AllByRecursion IsEntry ns → IsEntry n → AllByRecursion IsEntry (ns ++ n ∷ [])
entries-push [] n h k = (k, tt)
entries-push (m ∷ ms) n h k = (h.0, entries-push ms n h.1 k)

sound-marks : (b : Option (List ℕ)) (ns : List ℕ) (c : ℕ) (s : State) → IsFirstList b → AllByRecursion IsEntry ns → 1 ≤ length ns → length ns ≤ most b
    → Marks b ns c s → IsSound s
sound-marks b ns c s first entries some short (a_space h e) = subst IsSound (sym e) (first, entries, some, short)
sound-marks b ns c s first entries some short (a_comma h less e) = subst IsSound (sym e) (first, entries, less)
sound-marks None ns c s first entries some short (a_semicolon h none e) = subst IsSound (sym e) ((some, short, entries), tt, some)
sound-marks (Some b) ns c s first entries some short (a_semicolon h none e) = (cc)
sound-marks None ns c s first entries some short (a_brace h front is same e) = (cc)
sound-marks (Some b) ns c s first entries some short (a_brace h front is same e) =
    let eq : front ≡ b = cc in
    subst IsSound (sym e) (record { same_length = sym (same ∙ ap length eq); some = first.0; short = first.1; entries_b = first.2; entries_c = entries })

pub sound : (s : State) (c : ℕ) (next : State) → IsSound s → step s c ≡ Ok next → IsSound next
sound (Brace b ns) c next h e =
    elim (opens b ns c next e) [
      | before_it k is ↦ subst IsSound (sym is) h
      | it k is ↦ subst IsSound (sym (is ∙ ap₂ (λ l m. Number l m) h.0 h.1)) (tt, tt, omega arith)
    ]
sound (Number b ns) c next h e =
    elim (numbers b ns c next e) [
      | before_number k is ↦ subst IsSound (sym is) h
      | first_digit low high is ↦ subst IsSound (sym is) (h.0, h.1, h.2, (omega arith, omega arith))
    ]
sound (Digit b ns value) c next h e =
    elim (digits b ns value c next e) [
      | one_more k small is ↦ subst IsSound (sym is) (h.0, h.1, h.2, (omega (arith, h.3.0), small))
      | no_more m ↦ (sound-marks b (ns ++ value ∷ []) c next h.0 (entries-push ns value h.1 h.3) (simp length-append (omega arith)) (simp length-append (omega (arith, h.2))) m)
    ]
sound (Mark b ns) c next h e = sound-marks b ns c next h.0 h.1 h.2 h.3 (marks b ns c next e)
sound (End b ns) c next h e = let k = ends b ns c next e in subst IsSound (sym k.1) h
