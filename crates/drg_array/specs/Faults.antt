-- The place and the kind of what is wrong with an array text, by its grammar alone.
use Rattle.std.specs.Prelude.{◌≡◌, ℕ, ◌+◌, ◌-◌, ◌*◌, ◌<◌, ◌⊎◌, List, [], ◌∷◌, ◌++◌, length, Contains}
use Rattle.drg_array.specs.Entries.{Entries, diameter}
use Rattle.drg_array.specs.Text.{IsDigit, IsNumber, IsArrayText}
use Rattle.drg_array.specs.declared.limits.TheConstants.{MAX_DIAMETER, MAX_ENTRY}
use Rattle.drg_array.specs.declared.fault.ArrayFault.{ArrayFault}
use Rattle.drg_array.specs.declared.fault.ArrayKind.{ArrayKind}
use Rattle.drg_array.specs.declared.fault.ArrayKind.TheVariants.{Syntax, Zero, Large, Lengths, Long}

-- some array text begins with these bytes
abbrev pub Begins : List ℕ → Type 0
Begins bytes = (rest : List ℕ) × (a : Entries) × IsArrayText (bytes ++ rest) a

-- a space and the number 1 can come next: so a number begins here
abbrev pub NumberIsDue : List ℕ → Type 0
NumberIsDue before = Begins (before ++ 32 ∷ 49 ∷ [])

-- a 0 where a number begins
abbrev pub IsZero : List ℕ → ℕ → Type 0
IsZero before byte = (byte ≡ 48) × NumberIsDue before

-- a digit that takes a number past MAX_ENTRY
pub record IsLarge (before : List ℕ) (byte : ℕ) : Type 0 where
  pub front : List ℕ
  pub number : List ℕ
  pub n : ℕ
  pub whole : before ≡ front ++ number
  pub due : NumberIsDue front
  pub is : IsNumber number n
  pub digit : IsDigit byte
  pub past : MAX_ENTRY < n * 10 + (byte - 48)

-- a comma where a semicolon can come, after MAX_DIAMETER numbers
abbrev pub IsLong : List ℕ → ℕ → Type 0
IsLong before byte = (byte ≡ 44) × (rest : List ℕ) × (a : Entries) × IsArrayText (before ++ 59 ∷ rest) a × (diameter a ≡ MAX_DIAMETER)

-- a comma where the closing brace can come, as there are as many numbers as before the semicolon;
-- or a closing brace after the semicolon where a comma can come, as there are fewer
abbrev pub IsLengths : List ℕ → ℕ → Type 0
IsLengths before byte = ((byte ≡ 44) × Begins (before ++ 125 ∷ [])) ⊎ ((byte ≡ 125) × Contains before 59 × Begins (before ++ 44 ∷ []))

-- the kind of the fault at a byte after these
abbrev pub IsKind : List ℕ → ℕ → ArrayKind → Type 0
IsKind before byte Zero = IsZero before byte
IsKind before byte Large = IsLarge before byte
IsKind before byte Long = IsLong before byte
IsKind before byte Lengths = IsLengths before byte
IsKind before byte Syntax =
    (IsZero before byte → ⊥) × (IsLarge before byte → ⊥) × (IsLong before byte → ⊥) × (IsLengths before byte → ⊥)

-- the first byte such that no array text begins with the bytes up to and with it
pub record IsFaultAtByte (bytes : List ℕ) (fault : ArrayFault) : Type 0 where
  pub before : List ℕ
  pub byte : ℕ
  pub after : List ℕ
  pub whole : bytes ≡ before ++ byte ∷ after
  pub begins : Begins before
  pub ends : Begins (before ++ byte ∷ []) → ⊥
  pub at : fault.at ≡ length before + 1
  pub kind : IsKind before byte fault.kind

-- all bytes begin an array text, but aren't one: the fault is just past the last byte
pub record IsFaultAtEnd (bytes : List ℕ) (fault : ArrayFault) : Type 0 where
  pub begins : Begins bytes
  pub short : (a : Entries) → IsArrayText bytes a → ⊥
  pub at : fault.at ≡ length bytes + 1
  pub kind : fault.kind ≡ Syntax

abbrev pub IsFault : List ℕ → ArrayFault → Type 0
IsFault bytes fault = IsFaultAtByte bytes fault ⊎ IsFaultAtEnd bytes fault
