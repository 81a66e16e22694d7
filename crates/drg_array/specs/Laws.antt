-- Laws of the grammars of array texts and of lists of tests.
use Rattle.std.specs.Prelude.{◌≡◌, ℕ, List, ◌⊎◌}
use Rattle.drg_array.specs.Entries.{Entries, IsArray}
use Rattle.drg_array.specs.Text.{IsArrayText, array_text}
use Rattle.drg_array.specs.Faults.{IsFault}
use Rattle.drg_array.specs.TestLists.{IsTestList}
use Rattle.drg_array.specs.declared.fault.ArrayFault.{ArrayFault}
use Rattle.drg_array.specs.declared.test.Test.{Test}

abbrev pub OneArray : Type 0
OneArray = (text : List ℕ) (a b : Entries) → IsArrayText text a → IsArrayText text b → a ≡ b

abbrev pub OneFault : Type 0
OneFault = (text : List ℕ) (f g : ArrayFault) → IsFault text f → IsFault text g → f ≡ g

abbrev pub ArrayOrFault : Type 0
ArrayOrFault = (text : List ℕ) → ((a : Entries) × IsArrayText text a) ⊎ ((f : ArrayFault) × IsFault text f)

abbrev pub NotBoth : Type 0
NotBoth = (text : List ℕ) (a : Entries) (f : ArrayFault) → IsArrayText text a → IsFault text f → ⊥

-- the canonical text is an array text of the array
abbrev pub CanonicalIsText : Type 0
CanonicalIsText = (a : Entries) → IsArray a → IsArrayText (array_text a) a

-- a text is that of one list of tests
abbrev pub OneTestList : Type 0
OneTestList = (text : List ℕ) (tests others : List Test) → IsTestList text tests → IsTestList text others → tests ≡ others
