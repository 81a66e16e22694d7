-- Reading the line of a place from its words and numbers.
use Rattle.std.specs.Prelude.{ℕ, Bool, ◌&&◌, ◌==◌, nat_le, if◌then◌else◌, ◌+◌, ◌-◌, ◌*◌, ℤ, pos, negsuc, List, length, Option, None, Some}
use Rattle.drg_array.specs.Entries.{diameter}
use Rattle.drg_derivation.specs.Header.{version_read, array_read, claim_read}
use Rattle.drg_derivation.specs.Lines.{line_made}
use Rattle.drg_derivation.specs.Reading.{◌>>=◌}
use Rattle.drg_derivation.specs.Shapes.{Form, form_of, first_of, first_context, context_after}
use Rattle.drg_derivation.specs.Words.{Written}
use Rattle.drg_derivation.specs.declared.context.Context.{Context}
use Rattle.drg_derivation.specs.declared.kind.Kind.{Kind}
use Rattle.drg_derivation.specs.declared.kind.Tail.{Tail}
use Rattle.drg_derivation.specs.declared.kind.Tail.TheVariants.{Nothing, Sizes, Row, FieldNumber, FieldRow, Pairs}
use Rattle.drg_derivation.specs.declared.place.Place.{Place}
use Rattle.drg_derivation.specs.declared.place.Place.TheVariants as place
use Rattle.drg_derivation.specs.declared.view.LineView.{LineView}
use Rattle.drg_derivation.specs.declared.view.LineView.TheVariants.{Version, Array, Claim, Evidence, End}
use Rattle.drg_derivation.specs.declared.word.Word.{Word}
use Rattle.drg_derivation.specs.declared.word.Word.TheVariants as word

abbrev pub are_twice : ℤ → ℕ → Bool
are_twice (pos m) count = nat_le 1 m && (count == 2 * m)
are_twice (negsuc m) count = nat_le 1 0

abbrev pub has_tail : Context → Tail → ℤ → ℕ → Bool
has_tail context Nothing first count = count == 0
has_tail context Sizes first count = nat_le 1 count && nat_le count (context.d + 1)
has_tail context Row first count = count == context.d + 1
has_tail context FieldNumber first count = count == context.width
has_tail context FieldRow first count = count == context.width * (context.d + 1)
has_tail context Pairs first count = are_twice first count

-- a line of this form may have so many numbers, the first of which is this one
abbrev pub suits : Context → Form → ℤ → ℕ → Bool
suits context form first count =
    (nat_le form.since context.version && nat_le form.leading count) && has_tail context form.tail first (count - form.leading)

abbrev pub evidence_of : Context → Kind → List ℤ → Option (LineView × Place)
evidence_of context kind numbers =
    if suits context (form_of kind) (first_of numbers) (length numbers)
    then Some (Evidence (line_made kind numbers), place.Evidence (context_after context kind (first_of numbers)))
    else None

-- an evidence line or the last line, and the place after it
abbrev pub evidence_with : Context → Word → List ℤ → Option (LineView × Place)
evidence_with context (word.Evidence kind) numbers = evidence_of context kind numbers
evidence_with context word.End numbers = if length numbers == 0 then Some (End, place.After) else None
evidence_with context word.Drg numbers = None
evidence_with context word.Array numbers = None
evidence_with context word.Claim numbers = None

unfoldable pub evidence_read : Context → Written → Option (LineView × Place)
evidence_read context line = evidence_with context line.word line.numbers

-- the line at this place, and the place after it
unfoldable pub line_read : Place → Written → Option (LineView × Place)
line_read place.Version line = version_read line >>= λ version. Some (Version version, place.Array version)
line_read (place.Array version) line = array_read line >>= λ array. Some (Array array, place.Claim (first_context version (diameter array)))
line_read (place.Claim context) line = claim_read line >>= λ claim. Some (Claim claim, place.Evidence context)
line_read (place.Evidence context) line = evidence_read context line
line_read place.After line = None
