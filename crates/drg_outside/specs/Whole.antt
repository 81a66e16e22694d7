-- What reading all bytes and writing a whole piece do to the known bytes.
use Rattle.std.specs.Prelude.{◌≡◌, ◌≢◌, ℕ, ◌<◌, ◌≤◌, ◌↔◌, List, Option, Result, Err, IfSome, IsErrOf, Vec, length, take}
use Rattle.std.specs.Io.KnownBytes.{Appends, Consumes, IsAtEnd}
use Rattle.std.specs.declared.alloc.Global.{Global}
use Rattle.drg_outside.specs.declared.whole.ReadAllFault.{ReadAllFault}
use Rattle.drg_outside.specs.declared.whole.ReadAllFault.TheVariants.{Read, TooLong, Memory}

-- a prefix of the piece, shorter than it, was appended
abbrev pub AppendsPart : Option (List ℕ) → Option (List ℕ) → List ℕ → Type 0
AppendsPart old new piece = (n : ℕ) × (n < length piece) × Appends old new (take n piece)

-- these bytes were all that were left, and now nothing is
abbrev pub TakesAll : Option (List ℕ) → Option (List ℕ) → List ℕ → Type 0
TakesAll old new bytes = Consumes old new bytes × IsAtEnd new

-- so many bytes were taken
abbrev pub TakesCount : Option (List ℕ) → Option (List ℕ) → ℕ → Type 0
TakesCount old new n = (bytes : List ℕ) × Consumes old new bytes × (length bytes ≡ n)

-- at most so many bytes were taken
abbrev pub TakesAtMost : Option (List ℕ) → Option (List ℕ) → ℕ → Type 0
TakesAtMost old new n = (bytes : List ℕ) × Consumes old new bytes × (length bytes ≤ n)

-- Where the bytes that were left are told, no read failed and memory sufficed: the answer is TooLong exactly where more
-- than `limit` bytes were left.
abbrev pub IsTooLongExactly : Option (List ℕ) → ℕ → Result (Vec ℕ Global) ReadAllFault → Type 0
IsTooLongExactly left limit result =
    IfSome left (λ bytes. result ≢ Err Read → result ≢ Err Memory → (IsErrOf result TooLong ↔ (limit < length bytes)))
