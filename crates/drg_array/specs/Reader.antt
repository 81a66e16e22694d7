-- Where a reader of array texts stands.
use Rattle.std.specs.Prelude.{ℕ, List, Option, None, Some}
use Rattle.arrayvec.specs.ArrayVec.{ArrayVec}
use Rattle.drg_array.specs.Reading as at
use Rattle.drg_array.specs.declared.reading.Reader.{Reader}
use Rattle.drg_array.specs.declared.reading.Next.{Next}
use Rattle.drg_array.specs.declared.reading.Next.TheVariants.{Brace, Number, Digit, Mark, End}

abbrev pub list_of : Option (ArrayVec ℕ) → Option (List ℕ)
list_of None = None
list_of (Some b) = Some b.items

-- the state of a reader with these lists, for which this comes next
abbrev pub standing : Option (List ℕ) → List ℕ → Next → at.State
standing b ns Brace = at.Brace b ns
standing b ns Number = at.Number b ns
standing b ns (Digit value) = at.Digit b ns value
standing b ns Mark = at.Mark b ns
standing b ns End = at.End b ns

abbrev pub state_of : Reader → at.State
state_of r = standing (list_of r.b) r.numbers.items r.next
