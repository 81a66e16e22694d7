-- The grammar of array texts: S { S number (S , S number)* S ; S number (S , S number)* S } S, where S is any number of spaces.
use Rattle.std.specs.Prelude.{◌≡◌, ℕ, zero, suc, ◌≤◌, ◌+◌, ◌-◌, ◌*◌, List, [], ◌∷◌, ◌++◌, decimal}
use Rattle.drg_array.specs.Entries.{Entries, IsArray}
use Rattle.drg_array.specs.declared.limits.TheConstants.{MAX_ENTRY}

abbrev pub spaces : ℕ → List ℕ
spaces zero = []
spaces (suc n) = 32 ∷ spaces n

abbrev pub IsDigit : ℕ → Type 0
IsDigit c = (48 ≤ c) × (c ≤ 57)

-- digits that carry a number on
abbrev pub IsNumberFrom : ℕ → List ℕ → ℕ → Type 0
IsNumberFrom value [] n = n ≡ value
IsNumberFrom value (c ∷ cs) n = IsDigit c × IsNumberFrom (value * 10 + (c - 48)) cs n

-- one or more digits, the first of which isn't 0, that make a number of at most MAX_ENTRY
abbrev pub IsNumber : List ℕ → ℕ → Type 0
IsNumber [] n = ⊥
IsNumber (c ∷ cs) n = (49 ≤ c) × (c ≤ 57) × (n ≤ MAX_ENTRY) × IsNumberFrom (c - 48) cs n

-- a comma before each number, then spaces
abbrev pub AreMore : List ℕ → List ℕ → Type 0
AreMore text [] = (i : ℕ) × (text ≡ spaces i)
AreMore text (n ∷ ns) =
    (i j : ℕ) × (number rest : List ℕ) × (text ≡ spaces i ++ 44 ∷ (spaces j ++ (number ++ rest))) × IsNumber number n × AreMore rest ns

-- one or more numbers with a comma between two, and spaces around each
abbrev pub AreNumbers : List ℕ → List ℕ → Type 0
AreNumbers text [] = ⊥
AreNumbers text (n ∷ ns) = (i : ℕ) × (number rest : List ℕ) × (text ≡ spaces i ++ (number ++ rest)) × IsNumber number n × AreMore rest ns

-- the text of the array with these entries
pub record IsArrayText (text : List ℕ) (a : Entries) : Type 0 where
  pub before : ℕ
  pub text_b : List ℕ
  pub text_c : List ℕ
  pub after : ℕ
  pub whole : text ≡ spaces before ++ 123 ∷ (text_b ++ 59 ∷ (text_c ++ 125 ∷ spaces after))
  pub numbers_b : AreNumbers text_b a.b
  pub numbers_c : AreNumbers text_c a.c
  pub array : IsArray a

-- the numbers, with a comma between two
abbrev pub numbers_text : List ℕ → List ℕ
numbers_text [] = []
numbers_text (n ∷ []) = decimal n
numbers_text (n ∷ m ∷ ns) = decimal n ++ 44 ∷ numbers_text (m ∷ ns)

-- the canonical text, without spaces
abbrev pub array_text : Entries → List ℕ
array_text a = 123 ∷ (numbers_text a.b ++ 59 ∷ (numbers_text a.c ++ 125 ∷ []))
