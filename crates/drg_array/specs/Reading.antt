-- Reading an array text byte by byte: where the reader stands, and where the next byte takes it.
use Rattle.std.specs.Prelude.{◌≡◌, ℕ, ◌≤◌, ◌<◌, ⊤, ◌+◌, ◌-◌, ◌*◌, nat_lt, nat_le, Bool, ◌&&◌, ◌==◌, if◌then◌else◌, List, [], ◌∷◌, ◌++◌, length, Option, None, Some, Result, Ok, Err}
use Rattle.std.specs.List.{AllByRecursion}
use Rattle.drg_array.specs.Entries.{Entries, IsEntry, IsArray}
use Rattle.drg_array.specs.declared.limits.TheConstants.{MAX_DIAMETER, MAX_ENTRY}
use Rattle.drg_array.specs.declared.fault.ArrayFault.{ArrayFault}
use Rattle.drg_array.specs.declared.fault.ArrayKind.{ArrayKind}
use Rattle.drg_array.specs.declared.fault.ArrayKind.TheVariants.{Syntax, Zero, Large, Lengths, Long}

-- The list before the semicolon is there once it is complete; the other list is the one in hand.
pub data State : Type 0 where
  -- the opening brace is due
  Brace : Option (List ℕ) → List ℕ → State
  -- a number is due
  Number : Option (List ℕ) → List ℕ → State
  -- a number of this value has begun
  Digit : Option (List ℕ) → List ℕ → ℕ → State
  -- a comma or the end of the list is due
  Mark : Option (List ℕ) → List ℕ → State
  -- nothing is due: the array is complete
  End : Option (List ℕ) → List ℕ → State

abbrev pub start : State
start = Brace None []

abbrev pub Step : Type 0
Step = Result State ArrayKind

abbrev pub is_digit : ℕ → Bool
is_digit c = nat_le 48 c && nat_le c 57

-- a comma, in the first list or in the second
abbrev pub comma : Option (List ℕ) → List ℕ → Step
comma None ns = if nat_lt (length ns) MAX_DIAMETER then Ok (Number None ns) else Err Long
comma (Some b) ns = if nat_lt (length ns) (length b) then Ok (Number (Some b) ns) else Err Lengths

abbrev pub semicolon : Option (List ℕ) → List ℕ → Step
semicolon None ns = Ok (Number (Some ns) [])
semicolon (Some b) ns = Err Syntax

abbrev pub brace : Option (List ℕ) → List ℕ → Step
brace None ns = Err Syntax
brace (Some b) ns = if length ns == length b then Ok (End (Some b) ns) else Err Lengths

-- a byte after a number
abbrev pub mark : Option (List ℕ) → List ℕ → ℕ → Step
mark b ns c =
    if c == 32 then Ok (Mark b ns)
    else if c == 44 then comma b ns
    else if c == 59 then semicolon b ns
    else if c == 125 then brace b ns
    else Err Syntax

-- a further digit
abbrev pub digit : Option (List ℕ) → List ℕ → ℕ → Step
digit b ns value = if nat_lt MAX_ENTRY value then Err Large else Ok (Digit b ns value)

abbrev pub step : State → ℕ → Step
step (Brace b ns) c = if c == 32 then Ok (Brace b ns) else if c == 123 then Ok (Number b ns) else Err Syntax
step (Number b ns) c =
    if c == 32 then Ok (Number b ns)
    else if c == 48 then Err Zero
    else if is_digit c then Ok (Digit b ns (c - 48))
    else Err Syntax
step (Digit b ns value) c = if is_digit c then digit b ns (value * 10 + (c - 48)) else mark b (ns ++ value ∷ []) c
step (Mark b ns) c = mark b ns c
step (End b ns) c = if c == 32 then Ok (End b ns) else Err Syntax

abbrev pub complete : State → Option Entries
complete (Brace b ns) = None
complete (Number b ns) = None
complete (Digit b ns value) = None
complete (Mark b ns) = None
complete (End None ns) = None
complete (End (Some b) ns) = Some (record { b = b; c = ns })

-- the bytes are at an end, and the place just past them is this
abbrev pub at_end : ℕ → Option Entries → Result Entries ArrayFault
at_end at None = Err (record { at = at; kind = Syntax })
at_end at (Some a) = Ok a

abbrev pub follow : {A : Type 0} → Step → (State → A) → (ArrayKind → A) → A
follow (Ok s) go stop = go s
follow (Err kind) go stop = stop kind

-- the array of the text, or the first byte that the reader can't take, where the first byte has this place
abbrev pub reading : ℕ → State → List ℕ → Result Entries ArrayFault
reading at s [] = at_end at (complete s)
reading at s (c ∷ cs) = follow (step s c) (λ next. reading (at + 1) next cs) (λ kind. Err (record { at = at; kind = kind }))

-- the most numbers that the list in hand can have
abbrev pub most : Option (List ℕ) → ℕ
most None = MAX_DIAMETER
most (Some b) = length b

-- the complete first list has 1 to MAX_DIAMETER entries
abbrev pub IsFirstList : Option (List ℕ) → Type 0
IsFirstList None = ⊤
IsFirstList (Some b) = (1 ≤ length b) × (length b ≤ MAX_DIAMETER) × AllByRecursion IsEntry b

-- what holds wherever the reader stands
abbrev pub IsSound : State → Type 0
IsSound (Brace b ns) = (b ≡ None) × (ns ≡ [])
IsSound (Number b ns) = IsFirstList b × AllByRecursion IsEntry ns × (length ns < most b)
IsSound (Digit b ns value) = IsFirstList b × AllByRecursion IsEntry ns × (length ns < most b) × IsEntry value
IsSound (Mark b ns) = IsFirstList b × AllByRecursion IsEntry ns × (1 ≤ length ns) × (length ns ≤ most b)
IsSound (End None ns) = ⊥
IsSound (End (Some b) ns) = IsArray (record { b = b; c = ns })
