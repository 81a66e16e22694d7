-- Reading the version, the array and the claim of a derivation.
use Rattle.std.specs.Prelude.{◌+◌, ◌*◌, length, ℕ, nat_le, Bool, true, ◌&&◌, ◌==◌, if◌then◌else◌, ℤ, pos, negsuc, List, [], ◌∷◌, ◌++◌, take, drop, Option, None, Some}
use Rattle.drg_array.specs.Claims.{claim_of}
use Rattle.drg_array.specs.Entries.{Entries}
use Rattle.drg_array.specs.declared.claim_name.ClaimName.{ClaimName}
use Rattle.drg_array.specs.declared.claim.Claim.{Claim}
use Rattle.drg_array.specs.declared.limits.TheConstants.{MAX_DIAMETER, MAX_ENTRY, MAX_INDICES}
use Rattle.drg_derivation.specs.Shapes.{first_of}
use Rattle.drg_derivation.specs.Words.{Written}
use Rattle.drg_derivation.specs.Reading.{◌>>=◌}
use Rattle.drg_derivation.specs.declared.word.Word.{Word}
use Rattle.drg_derivation.specs.declared.word.Word.TheVariants as word

-- the number, where it is from 0 to the limit
abbrev pub natural : ℕ → ℤ → Option ℕ
natural limit (pos n) = if nat_le n limit then Some n else None
natural limit (negsuc n) = None

-- the numbers, where each is from 0 to the limit
abbrev pub naturals : ℕ → List ℤ → Option (List ℕ)
naturals limit [] = Some []
naturals limit (z ∷ zs) = natural limit z >>= λ n. naturals limit zs >>= λ ns. Some (n ∷ ns)

-- with these numbers in front
abbrev pub naturals_after : List ℕ → Option (List ℕ) → Option (List ℕ)
naturals_after front found = found >>= λ ns. Some (front ++ ns)

-- ---- the version
abbrev pub version_named : ℤ → Option ℕ
version_named z = natural 255 z >>= λ version. if nat_le 1 version && nat_le version 1 then Some version else None

abbrev pub version_with : Word → List ℤ → Option ℕ
version_with word.Drg numbers = if length numbers == 1 then version_named (first_of numbers) else None
version_with _ numbers = None

unfoldable pub version_read : Written → Option ℕ
version_read line = version_with line.word line.numbers

-- ---- the array
abbrev pub are_entries : List ℕ → Bool
are_entries [] = true
are_entries (n ∷ ns) = (nat_le 1 n && nat_le n MAX_ENTRY) && are_entries ns

-- the array of these entries
abbrev pub array_made : List ℕ → List ℕ → Option Entries
array_made b c =
    if ((length b == length c) && (nat_le 1 (length b) && nat_le (length b) MAX_DIAMETER)) && (are_entries b && are_entries c)
    then Some (record { b = b; c = c })
    else None

-- the array of a diameter and entries, all in one list
unfoldable pub array_from : List ℕ → Option Entries
array_from [] = None
array_from (d ∷ ns) = if length ns == 2 * d then array_made (take d ns) (drop d ns) else None

abbrev pub array_with : Word → List ℤ → Option Entries
array_with word.Array numbers = if nat_le (length numbers) (2 * MAX_DIAMETER + 1) then naturals 65535 numbers >>= array_from else None
array_with _ numbers = None

unfoldable pub array_read : Written → Option Entries
array_read line = array_with line.word line.numbers

-- ---- the claim
abbrev pub claim_with : Word → Option ClaimName → List ℤ → Option Claim
claim_with word.Claim name numbers =
    name >>= λ known. if nat_le (length numbers) MAX_INDICES then naturals 255 numbers >>= claim_of known else None
claim_with _ name numbers = None

unfoldable pub claim_read : Written → Option Claim
claim_read line = claim_with line.word line.name line.numbers
