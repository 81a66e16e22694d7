-- What was read is in the grammar of whole numbers, and what is in the grammar is read.
use Rattle.std.proofs.Common.{◌≡◌, ℕ, zero, suc, ◌+◌, ◌-◌, ◌*◌, ◌≤◌, ◌<◌, true, false, inl, inr, List, [], ◌∷◌, ◌++◌, length, None, Some, refl, sym, ap, subst, ◌∙◌, arith, ℤ, pos, negsuc, length-append}
use Rattle.std.specs.Prelude.{Option, nat_lt, ◌==◌, ◌&&◌}
use Rattle.std.proofs.lemmas.Bool.Decides.{nat_tests}
use Rattle.drg_array.specs.Text.{IsDigit, IsNumberFrom}
use Rattle.drg_derivation.specs.Integers.{greatest, IsPositiveText, IsIntegerText, AreIntegers}
use Rattle.drg_derivation.specs.Reading.{is_digit, digits_from, positive_at, integer_at, after_byte, spaced_at, integers_at, integers_of, negative, ◌>>=◌}
use Rattle.drg_derivation.proofs.OptionLaws.{chosen, same_some, bound}

digit_range : (c : ℕ) → is_digit c ≡ true → IsDigit c
digit_range c e = grind (arith, nat_tests)

under : (n : ℕ) → nat_lt greatest n ≡ false → n ≤ greatest
under n e = grind (arith, nat_tests)

pub digits_from-takes : (v : ℕ) (cs : List ℕ) (n : ℕ) (rest : List ℕ) → v ≤ greatest → digits_from v cs ≡ Some (n, rest)
    → (text : List ℕ) × (cs ≡ text ++ rest) × IsNumberFrom v text n × (v ≤ n) × (n ≤ greatest)
digits_from-takes v [] n rest small e =
    let same = ap (λ (p : ℕ × List ℕ). p.0) (same_some _ _ e) in
    let none = ap (λ (p : ℕ × List ℕ). p.1) (same_some _ _ e) in ([], none, sym same, omega (arith, same), omega (arith, same))
digits_from-takes v (c ∷ cs) n rest small e =
    elim (chosen (is_digit c) _ _ _ e) [
      | inl good ↦ (elim (chosen (nat_lt greatest (v * 10 + (c - 48))) _ _ _ good.1) [
        | inl over ↦ (let none = over.1 in cc)
        | inr fits ↦ (let t = digits_from-takes (v * 10 + (c - 48)) cs n rest (under _ fits.0) fits.1 in
            (c ∷ t.0, ap (λ l. c ∷ l) t.1, (digit_range c good.0, t.2), omega (arith, t.3), t.4))
      ])
      | inr bad ↦ (let same = ap (λ (p : ℕ × List ℕ). p.0) (same_some _ _ bad.1) in
          let whole = ap (λ (p : ℕ × List ℕ). p.1) (same_some _ _ bad.1) in ([], whole, sym same, omega (arith, same), omega (arith, same)))
    ]

-- what was read at the front
pub record TakesPositive (bytes text rest : List ℕ) (n : ℕ) : Type 0 where
  pub whole : bytes ≡ text ++ rest
  pub number : IsPositiveText text n
  pub some : 1 ≤ n
  pub short : n ≤ greatest
  pub less : length rest < length bytes

positive-test : (c : ℕ) → (is_digit c && nat_lt 48 c) ≡ true → (49 ≤ c) × (c ≤ 57)
positive-test c e = grind (arith, nat_tests)

shorter : (bytes text rest : List ℕ) (c : ℕ) → bytes ≡ (c ∷ text) ++ rest → length rest < length bytes
shorter bytes text rest c e = rw e (omega (arith, length-append text rest))

pub positive_at-takes : (bytes : List ℕ) (n : ℕ) (rest : List ℕ) → positive_at bytes ≡ Some (n, rest) → (text : List ℕ) × TakesPositive bytes text rest n
unfolding positive_at
positive_at-takes [] n rest e = (let h = e in cc)
positive_at-takes (c ∷ cs) n rest e =
    elim (chosen (is_digit c && nat_lt 48 c) _ _ _ e) [
      | inl good ↦ (let range = positive-test c good.0 in
          let small : c - 48 ≤ greatest = omega arith in
          let t = digits_from-takes (c - 48) cs n rest small good.1 in
          let whole : c ∷ cs ≡ (c ∷ t.0) ++ rest = ap (λ l. c ∷ l) t.1 in
          (c ∷ t.0, record { whole = whole; number = (range.0, range.1, t.4, t.2); some = omega (arith, t.3); short = t.4; less = shorter _ t.0 rest c whole }))
      | inr bad ↦ (let h = bad.1 in cc)
    ]

negative-text : (digits : List ℕ) (n : ℕ) → 1 ≤ n → IsPositiveText digits n → IsIntegerText (45 ∷ digits) (negative n)
negative-text digits zero some p = absurd (omega (arith, some))
negative-text digits (suc n) some p = (digits, refl, p)

positive-text : (digits : List ℕ) (n : ℕ) → 1 ≤ n → IsPositiveText digits n → IsIntegerText digits (pos n)
positive-text digits zero some p = absurd (omega (arith, some))
positive-text digits (suc n) some p = p

pub record TakesInteger (bytes text rest : List ℕ) (z : ℤ) : Type 0 where
  pub whole : bytes ≡ text ++ rest
  pub number : IsIntegerText text z
  pub less : length rest < length bytes

pub integer_at-takes : (bytes : List ℕ) (z : ℤ) (rest : List ℕ) → integer_at bytes ≡ Some (z, rest) → (text : List ℕ) × TakesInteger bytes text rest z
unfolding integer_at
integer_at-takes [] z rest e = (let h = e in cc)
integer_at-takes (c ∷ cs) z rest e =
    elim (chosen (c == 48) _ _ _ e) [
      | inl naught ↦ (let byte : c ≡ 48 = grind (arith, nat_tests) in
          let t : TakesInteger (c ∷ cs) (48 ∷ []) cs (pos 0) = record { whole = rw byte refl; number = refl; less = omega arith } in
          (48 ∷ [], subst (λ (p : ℤ × List ℕ). TakesInteger (c ∷ cs) (48 ∷ []) p.1 p.0) (same_some _ _ naught.1) t))
      | inr other ↦ (elim (chosen (c == 45) _ _ _ other.1) [
        | inl minus ↦ (let byte : c ≡ 45 = grind (arith, nat_tests) in
            let b = bound (positive_at cs) _ _ minus.1 in
            let p = positive_at-takes cs b.0.0 b.0.1 b.1 in
            let t : TakesInteger (c ∷ cs) (45 ∷ p.0) b.0.1 (negative b.0.0) =
            record { whole = rw byte (ap (λ l. 45 ∷ l) p.1.whole); number = negative-text p.0 b.0.0 p.1.some p.1.number; less = omega (arith, p.1.less) } in
            (45 ∷ p.0, subst (λ (q : ℤ × List ℕ). TakesInteger (c ∷ cs) (45 ∷ p.0) q.1 q.0) (same_some _ _ b.2) t))
        | inr plain ↦ (let b = bound (positive_at (c ∷ cs)) _ _ plain.1 in
            let p = positive_at-takes (c ∷ cs) b.0.0 b.0.1 b.1 in
            let t : TakesInteger (c ∷ cs) p.0 b.0.1 (pos b.0.0) =
            record { whole = p.1.whole; number = positive-text p.0 b.0.0 p.1.some p.1.number; less = p.1.less } in
            (p.0, subst (λ (q : ℤ × List ℕ). TakesInteger (c ∷ cs) p.0 q.1 q.0) (same_some _ _ b.2) t))
      ])
    ]

pub after_byte-is : (byte : ℕ) (bytes rest : List ℕ) → after_byte byte bytes ≡ Some rest → bytes ≡ byte ∷ rest
after_byte-is byte [] rest e = (let h = e in cc)
after_byte-is byte (c ∷ cs) rest e =
    elim (chosen (c == byte) _ _ _ e) [
      | inl good ↦ (let same : c ≡ byte = grind (arith, nat_tests) in
          let whole = same_some _ _ good.1 in cc)
      | inr bad ↦ (let none = bad.1 in cc)
    ]

pub after_byte-same : (byte : ℕ) (rest : List ℕ) → after_byte byte (byte ∷ rest) ≡ Some rest
after_byte-same byte rest = let same : (byte == byte) ≡ true = grind (arith, nat_tests) in rw same refl

pub record TakesSpaced (bytes text rest : List ℕ) (z : ℤ) : Type 0 where
  pub whole : bytes ≡ 32 ∷ (text ++ rest)
  pub number : IsIntegerText text z
  pub less : length rest < length bytes

pub spaced_at-takes : (bytes : List ℕ) (z : ℤ) (rest : List ℕ) → spaced_at bytes ≡ Some (z, rest) → (text : List ℕ) × TakesSpaced bytes text rest z
unfolding spaced_at
spaced_at-takes bytes z rest e =
    let b = bound (after_byte 32 bytes) integer_at (z, rest) e in
    let t = integer_at-takes b.0 z rest b.2 in
    let front = after_byte-is 32 bytes b.0 b.1 in
    (t.0, record { whole = front ∙ ap (λ l. 32 ∷ l) t.1.whole; number = t.1.number; less = omega (arith, t.1.less, ap length front) })

pub spaced_at-less : (bytes : List ℕ) (x : ℤ × List ℕ) → spaced_at bytes ≡ Some x → length x.1 < length bytes
spaced_at-less bytes x e = (spaced_at-takes bytes x.0 x.1 e).1.less

-- room enough is room enough
pub integers_at-room : (m n : ℕ) (text : List ℕ) → length text ≤ m → length text ≤ n → integers_at m text ≡ integers_at n text
unfolding integers_at
integers_at-room zero zero text a b = refl
integers_at-room zero (suc n) [] a b = refl
integers_at-room zero (suc n) (c ∷ cs) a b = absurd (omega (arith, a))
integers_at-room (suc m) zero [] a b = refl
integers_at-room (suc m) zero (c ∷ cs) a b = absurd (omega (arith, b))
integers_at-room (suc m) (suc n) [] a b = refl
integers_at-room (suc m) (suc n) (c ∷ cs) a b =
    each (spaced_at (c ∷ cs)) (λ x e. let less = spaced_at-less (c ∷ cs) x e in
    integers_at-room m n x.1 (omega arith) (omega arith))
  where
    each : (o : Option (ℤ × List ℕ)) → ((x : ℤ × List ℕ) → o ≡ Some x → integers_at m x.1 ≡ integers_at n x.1)
        → (o >>= λ x. integers_at m x.1 >>= λ zs. Some (x.0 ∷ zs)) ≡ (o >>= λ x. integers_at n x.1 >>= λ zs. Some (x.0 ∷ zs))
    each None h = refl
    each (Some x) h = rw (h x refl) refl

-- no digit follows
abbrev pub Ends : List ℕ → Type 0
Ends [] = Unit {0}
Ends (c ∷ cs) = is_digit c ≡ false

from-le : (v : ℕ) (text : List ℕ) (n : ℕ) → IsNumberFrom v text n → v ≤ n
from-le v [] n e = omega (arith, e)
from-le v (c ∷ cs) n (digit, more) = omega (arith, from-le (v * 10 + (c - 48)) cs n more)

is_digit-true : (c : ℕ) → IsDigit c → is_digit c ≡ true
is_digit-true c d = grind (arith, nat_tests)

not_over : (n m : ℕ) → n ≤ m → m ≤ greatest → nat_lt greatest n ≡ false
not_over n m a b = grind (arith, nat_tests)

digits_from-again : (v : ℕ) (text rest : List ℕ) (n : ℕ) → IsNumberFrom v text n → n ≤ greatest → Ends rest
    → digits_from v (text ++ rest) ≡ Some (n, rest)
digits_from-again v [] [] n e small ends = rw e refl
digits_from-again v [] (c ∷ cs) n e small ends = rw (ends, e) refl
digits_from-again v (c ∷ cs) rest n (digit, more) small ends =
    let value = v * 10 + (c - 48) in
    let under = not_over value n (from-le value cs n more) small in
    rw (is_digit-true c digit, under) (digits_from-again value cs rest n more small ends)

positive_at-again : (text rest : List ℕ) (n : ℕ) → IsPositiveText text n → Ends rest → positive_at (text ++ rest) ≡ Some (n, rest)
unfolding positive_at
positive_at-again [] rest n e ends = absurd e
positive_at-again (c ∷ cs) rest n (low, high, small, more) ends =
    let test : (is_digit c && nat_lt 48 c) ≡ true = grind (arith, nat_tests) in
    rw test (digits_from-again (c - 48) cs rest n more small ends)

-- a text that begins with a digit from 1 to 9 has neither a naught nor a sign in front
plain-again : (text rest : List ℕ) (n : ℕ) → IsPositiveText text n → Ends rest → integer_at (text ++ rest) ≡ Some (pos n, rest)
unfolding integer_at
plain-again [] rest n e ends = absurd e
plain-again (c ∷ cs) rest n (low, high, small, more) ends =
    let naught : (c == 48) ≡ false = grind (arith, nat_tests) in
    let minus : (c == 45) ≡ false = grind (arith, nat_tests) in
    rw (naught, minus, positive_at-again (c ∷ cs) rest n (low, high, small, more) ends) refl

pub integer_at-again : (text rest : List ℕ) (z : ℤ) → IsIntegerText text z → Ends rest → integer_at (text ++ rest) ≡ Some (z, rest)
unfolding integer_at
integer_at-again text rest (pos zero) e ends = rw e refl
integer_at-again text rest (pos (suc n)) e ends = plain-again text rest (suc n) e ends
integer_at-again text rest (negsuc n) (digits, whole, e) ends = rw whole (rw (positive_at-again digits rest (suc n) e ends) refl)

spaced_at-again : (text rest : List ℕ) (z : ℤ) → IsIntegerText text z → Ends rest → spaced_at (32 ∷ (text ++ rest)) ≡ Some (z, rest)
unfolding spaced_at
spaced_at-again text rest z e ends = integer_at-again text rest z e ends

ends-numbers : (text : List ℕ) (zs : List ℤ) → AreIntegers text zs → Ends text
ends-numbers text [] e = rw e tt
ends-numbers text (z ∷ zs) (first, rest, whole, number, more) = rw whole refl

-- with room enough the numbers of a text are read
integers_at-again : (room : ℕ) (text : List ℕ) (zs : List ℤ) → AreIntegers text zs → length text ≤ room → integers_at room text ≡ Some zs
unfolding integers_at
integers_at-again zero text [] e short = rw e refl
integers_at-again (suc room) text [] e short = rw e refl
integers_at-again zero text (z ∷ zs) (first, rest, whole, number, more) short =
    absurd (omega (arith, short, ap length whole))
integers_at-again (suc room) text (z ∷ zs) (first, rest, whole, number, more) short =
    let len : length text ≡ suc (length (first ++ rest)) = ap length whole in
    let sum = length-append first rest in
    let others = integers_at-again room rest zs more (omega (arith, len, sum)) in
    rw whole (rw (spaced_at-again first rest z number (ends-numbers rest zs more)) (rw others refl))

pub integers_of-again : (text : List ℕ) (zs : List ℤ) → AreIntegers text zs → integers_of text ≡ Some zs
unfolding integers_of
integers_of-again text zs e = integers_at-again (length text) text zs e (omega arith)

integers_at-takes : (room : ℕ) (text : List ℕ) (zs : List ℤ) → integers_at room text ≡ Some zs → AreIntegers text zs
unfolding integers_at
integers_at-takes zero [] zs e = subst (AreIntegers []) (same_some [] zs e) refl
integers_at-takes (suc room) [] zs e = subst (AreIntegers []) (same_some [] zs e) refl
integers_at-takes zero (c ∷ cs) zs e = (let none = e in cc)
integers_at-takes (suc room) (c ∷ cs) zs e =
    let one = bound (spaced_at (c ∷ cs)) _ _ e in
    let others = bound (integers_at room one.0.1) _ _ one.2 in
    let t = spaced_at-takes (c ∷ cs) one.0.0 one.0.1 one.1 in
    let all : AreIntegers (c ∷ cs) (one.0.0 ∷ others.0) = (t.0, one.0.1, t.1.whole, t.1.number, integers_at-takes room one.0.1 others.0 others.1) in
    subst (AreIntegers (c ∷ cs)) (same_some _ zs others.2) all

pub integers_of-takes : (text : List ℕ) (zs : List ℤ) → integers_of text ≡ Some zs → AreIntegers text zs
unfolding integers_of
integers_of-takes text zs e = integers_at-takes (length text) text zs e
