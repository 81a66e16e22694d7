-- Reading whole numbers from left to right.
use Rattle.std.specs.Prelude.{◌≡◌, ℕ, zero, suc, ◌+◌, ◌-◌, ◌*◌, nat_lt, nat_le, Bool, ◌&&◌, ◌==◌, if◌then◌else◌, ℤ, pos, negsuc, List, [], ◌∷◌, length, Option, None, Some, unwrap_or}
use Rattle.std.specs.Option.{option_map}
use Rattle.std.specs.Borrow.{Bor}
use Rattle.drg_derivation.specs.Integers.{greatest}

infixl 10 ◌>>=◌
abbrev pub ◌>>=◌ : {A B : Type 0} → Option A → (A → Option B) → Option B
None >>= f = None
(Some x) >>= f = f x

abbrev pub is_digit : ℕ → Bool
is_digit c = nat_le 48 c && nat_le c 57

-- the digits at the front carry this number on
abbrev pub digits_from : ℕ → List ℕ → Option (ℕ × List ℕ)
digits_from value [] = Some (value, [])
digits_from value (c ∷ cs) =
    if is_digit c
    then if nat_lt greatest (value * 10 + (c - 48)) then None else digits_from (value * 10 + (c - 48)) cs
    else Some (value, c ∷ cs)

unfoldable pub positive_at : List ℕ → Option (ℕ × List ℕ)
positive_at [] = None
positive_at (c ∷ cs) = if is_digit c && nat_lt 48 c then digits_from (c - 48) cs else None

abbrev pub negative : ℕ → ℤ
negative zero = pos zero
negative (suc n) = negsuc n

-- the number at the front, and what follows it
unfoldable pub integer_at : List ℕ → Option (ℤ × List ℕ)
integer_at [] = None
integer_at (c ∷ cs) =
    if c == 48 then Some (pos 0, cs)
    else if c == 45 then positive_at cs >>= (λ x. Some (negative x.0, x.1))
    else positive_at (c ∷ cs) >>= (λ x. Some (pos x.0, x.1))

-- what follows a byte at the front
abbrev pub after_byte : ℕ → List ℕ → Option (List ℕ)
after_byte byte [] = None
after_byte byte (c ∷ cs) = if c == byte then Some cs else None

-- the number after a space at the front, and what follows it
unfoldable pub spaced_at : List ℕ → Option (ℤ × List ℕ)
spaced_at bytes = after_byte 32 bytes >>= integer_at

-- up to so many numbers, each after a space, and nothing else
unfoldable pub integers_at : ℕ → List ℕ → Option (List ℤ)
integers_at room [] = Some []
integers_at zero (c ∷ cs) = None
integers_at (suc room) (c ∷ cs) = spaced_at (c ∷ cs) >>= λ x. integers_at room x.1 >>= λ zs. Some (x.0 ∷ zs)

-- the numbers of a text that has nothing else
unfoldable pub integers_of : List ℕ → Option (List ℤ)
integers_of text = integers_at (length text) text

-- what the readers return, without where it lies
abbrev pub seen : {A : Type 0} → Option (A × Bor (List ℕ)) → Option (A × List ℕ)
seen found = option_map (λ x. (x.0, x.1.now)) found

-- the numbers of a text, or none where it isn't one of numbers
abbrev pub integers_in : List ℕ → List ℤ
integers_in text = unwrap_or (integers_of text) []

-- the text has nothing but numbers
abbrev pub AreRead : List ℕ → Type 0
AreRead text = integers_of text ≡ Some (integers_in text)

-- the text has nothing but so many numbers
pub record IsCounted (text : List ℕ) (count : ℕ) : Type 0 where
  pub read : AreRead text
  pub counted : count ≡ length (integers_in text)
