-- Whole numbers as a derivation writes them: `0`, or digits that don't begin with 0, or `-` and such digits.
use Rattle.std.specs.Prelude.{◌≡◌, ℕ, zero, suc, ◌≤◌, ◌-◌, ℤ, pos, negsuc, List, [], ◌∷◌, ◌++◌, unsigned_abs}
use Rattle.std.specs.Fmt.{signed_decimal}
use Rattle.drg_array.specs.Text.{IsNumberFrom}

-- 2^127 - 1, the greatest magnitude of a number
abbrev pub greatest : ℕ
greatest = 170141183460469231731687303715884105727

-- a digit from 1 to 9 and then digits, that make a number of at most 2^127 - 1
abbrev pub IsPositiveText : List ℕ → ℕ → Type 0
IsPositiveText [] n = ⊥
IsPositiveText (c ∷ cs) n = (49 ≤ c) × (c ≤ 57) × (n ≤ greatest) × IsNumberFrom (c - 48) cs n

abbrev pub IsIntegerText : List ℕ → ℤ → Type 0
IsIntegerText text (pos zero) = text ≡ 48 ∷ []
IsIntegerText text (pos (suc n)) = IsPositiveText text (suc n)
IsIntegerText text (negsuc n) = (digits : List ℕ) × (text ≡ 45 ∷ digits) × IsPositiveText digits (suc n)

-- numbers, with exactly one space before each
abbrev pub AreIntegers : List ℕ → List ℤ → Type 0
AreIntegers text [] = text ≡ []
AreIntegers text (z ∷ zs) =
    (first : List ℕ) × (rest : List ℕ) × (text ≡ 32 ∷ (first ++ rest)) × IsIntegerText first z × AreIntegers rest zs

-- a number that can be written
abbrev pub IsShort : ℤ → Type 0
IsShort z = unsigned_abs z ≤ greatest

-- the numbers as they are written
abbrev pub integers_text : List ℤ → List ℕ
integers_text [] = []
integers_text (z ∷ zs) = 32 ∷ (signed_decimal z ++ integers_text zs)
