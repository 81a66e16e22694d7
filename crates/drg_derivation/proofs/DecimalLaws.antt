-- A number has one text, the decimal one.
use Rattle.std.proofs.Common.{◌≡◌, ℕ, zero, suc, ◌+◌, ◌-◌, ◌*◌, ◌/◌, ◌%◌, ◌^◌, ◌≤◌, ◌<◌, List, [], ◌∷◌, ◌++◌, refl, sym, ap, subst, ◌∙◌, arith, append_assoc, append-nil, ℤ, pos, negsuc}
use Rattle.std.specs.Prelude.{decimal}
use Rattle.std.specs.List.{AllByRecursion}
use Rattle.std.specs.Fmt.{signed_decimal}
use Rattle.std.proofs.lemmas.Fmt.{decimal_digit, decimal_step_wide, decimal_by_steps_wide}
use Rattle.drg_array.specs.Text.{IsDigit, IsNumberFrom}
use Rattle.drg_derivation.specs.Integers.{greatest, IsPositiveText, IsIntegerText, AreIntegers, IsShort, integers_text}

below-wide : (n : ℕ) → n ≤ greatest → n < 10 ^ 64
below-wide n h = omega (arith, h)

from-below : (v : ℕ) (text : List ℕ) (n : ℕ) → IsNumberFrom v text n → v ≤ n
from-below v [] n e = omega (arith, e)
from-below v (c ∷ cs) n (digit, more) = omega (arith, from-below (v * 10 + (c - 48)) cs n more)

-- one more digit
decimal-push : (v c : ℕ) → 1 ≤ v → IsDigit c → v * 10 + (c - 48) ≤ greatest → decimal (v * 10 + (c - 48)) ≡ decimal v ++ c ∷ []
decimal-push v c some digit small =
    let front : (v * 10 + (c - 48)) / 10 ≡ v = omega arith in
    let last : 48 + (v * 10 + (c - 48)) % 10 ≡ c = omega arith in
    decimal_step_wide (v * 10 + (c - 48)) (omega arith) (below-wide _ small) ∙ rw (front, last) refl

decimal-from : (v : ℕ) (text : List ℕ) (n : ℕ) → 1 ≤ v → n ≤ greatest → IsNumberFrom v text n → decimal n ≡ decimal v ++ text
decimal-from v [] n some small e = rw e (sym (append-nil (decimal v)))
decimal-from v (c ∷ cs) n some small (digit, more) =
    let value = v * 10 + (c - 48) in
    let under : value ≤ greatest = omega (arith, from-below value cs n more, small) in
    decimal-from value cs n (omega arith) small more
    ∙ (ap (λ l. l ++ cs) (decimal-push v c some digit under) ∙ append_assoc (decimal v) (c ∷ []) cs)

positive-decimal : (text : List ℕ) (n : ℕ) → IsPositiveText text n → text ≡ decimal n
positive-decimal [] n h = absurd h
positive-decimal (c ∷ cs) n (low, high, small, more) =
    let byte : 48 + (c - 48) ≡ c = omega arith in
    let one : decimal (c - 48) ≡ c ∷ [] = decimal_digit (c - 48) (omega arith) ∙ ap (λ b. b ∷ []) byte in
    sym (decimal-from (c - 48) cs n (omega arith) small more ∙ ap (λ l. l ++ cs) one)

-- the text of a number is its decimal text
pub integer-decimal : (text : List ℕ) (z : ℤ) → IsIntegerText text z → text ≡ signed_decimal z
integer-decimal text (pos zero) h = h ∙ sym (decimal_digit 0 (omega arith))
integer-decimal text (pos (suc n)) h = positive-decimal text (suc n) h
integer-decimal text (negsuc n) (digits, whole, h) = whole ∙ ap (λ l. 45 ∷ l) (positive-decimal digits (suc n) h)

pub integers-decimal : (text : List ℕ) (zs : List ℤ) → AreIntegers text zs → text ≡ integers_text zs
integers-decimal text [] h = h
integers-decimal text (z ∷ zs) (first, rest, whole, number, more) =
    whole ∙ (ap (λ l. 32 ∷ (l ++ rest)) (integer-decimal first z number) ∙ ap (λ l. 32 ∷ (signed_decimal z ++ l)) (integers-decimal rest zs more))

from-push : (v : ℕ) (text : List ℕ) (n c : ℕ) → IsNumberFrom v text n → IsDigit c → IsNumberFrom v (text ++ c ∷ []) (n * 10 + (c - 48))
from-push v [] n c h digit = (digit, rw h refl)
from-push v (b ∷ text) n c (first, more) digit = (first, from-push (v * 10 + (b - 48)) text n c more digit)

-- digits that don't begin with 0 and make the number
abbrev pub IsDigits : ℕ → List ℕ → Type 0
IsDigits n [] = ⊥
IsDigits n (c ∷ cs) = (49 ≤ c) × (c ≤ 57) × IsNumberFrom (c - 48) cs n

digits-push : (n c : ℕ) (ds : List ℕ) → IsDigits n ds → IsDigit c → IsDigits (n * 10 + (c - 48)) (ds ++ c ∷ [])
digits-push n c [] h digit = absurd h
digits-push n c (d ∷ ds) (low, high, more) digit = (low, high, from-push (d - 48) ds n c more digit)

decimal-digits : (n : ℕ) → n < 10 ^ 64 → 1 ≤ n → IsDigits n (decimal n)
decimal-digits n = decimal_by_steps_wide (λ m ds. 1 ≤ m → IsDigits m ds) one more n
  where
    one : (m : ℕ) → m < 10 → 1 ≤ m → IsDigits m ((48 + m) ∷ [])
    one m small some = (omega arith, omega arith, omega arith)

    more : (m : ℕ) (ds : List ℕ) → 10 ≤ m → (1 ≤ m / 10 → IsDigits (m / 10) ds) → 1 ≤ m → IsDigits m (ds ++ (48 + m % 10) ∷ [])
    more m ds large front some =
        let whole : (m / 10) * 10 + (48 + m % 10 - 48) ≡ m = omega arith in
        subst (λ (k : ℕ). IsDigits k (ds ++ (48 + m % 10) ∷ [])) whole
        (digits-push (m / 10) (48 + m % 10) ds (front (omega arith)) (omega arith, omega arith))

positive-again : (text : List ℕ) (n : ℕ) → n ≤ greatest → IsDigits n text → IsPositiveText text n
positive-again [] n small h = absurd h
positive-again (c ∷ cs) n small (low, high, more) = (low, high, small, more)

decimal-positive : (n : ℕ) → 1 ≤ n → n ≤ greatest → IsPositiveText (decimal n) n
decimal-positive n some small = positive-again (decimal n) n small (decimal-digits n (below-wide n small) some)

pub decimal-integer : (z : ℤ) → IsShort z → IsIntegerText (signed_decimal z) z
decimal-integer (pos zero) h = decimal_digit 0 (omega arith)
decimal-integer (pos (suc n)) h = decimal-positive (suc n) (omega arith) h
decimal-integer (negsuc n) h = (decimal (suc n), refl, decimal-positive (suc n) (omega arith) h)

pub decimal-integers : (zs : List ℤ) → AllByRecursion IsShort zs → AreIntegers (integers_text zs) zs
decimal-integers [] h = refl
decimal-integers (z ∷ zs) h = (signed_decimal z, integers_text zs, refl, decimal-integer z h.0, decimal-integers zs h.1)
