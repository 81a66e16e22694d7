-- The input of a command: the bytes of its file, how many they may be, and why they can't be had.
use Rattle.std.specs.Prelude.{◌≡◌, ℕ, ◌<◌, ◌≤◌, ◌⊎◌, List, [], length, Option, None, Some, Result, Ok, Err, IsErrOf, Vec, ⊤}
use Rattle.std.specs.declared.alloc.Global.{Global}
use Rattle.drg_outside.specs.Causes.{Rose}
use Rattle.drg_outside.specs.Files.{File, IsMissing, content_of}
use Rattle.drg_program.specs.declared.output.EarlyRefusal.{EarlyRefusal}
use Rattle.drg_program.specs.declared.output.EarlyRefusal.TheVariants.{BadInput, TooLong, OpenFault, ReadFault, Memory}

-- the most bytes that an input may have: 64 MiB
abbrev pub input_limit : ℕ
input_limit = 67108864

abbrev pub IsWithinLimit : List ℕ → Type 0
IsWithinLimit bytes = length bytes ≤ input_limit

abbrev pub IsTooLong : List ℕ → Type 0
IsTooLong bytes = input_limit < length bytes

-- the files are told, and the first one of this name has these bytes
abbrev pub IsTold : Option (List File) → List ℕ → List ℕ → Type 0
IsTold None name bytes = ⊥
IsTold (Some files) name bytes = content_of name files ≡ Some bytes

-- these are the bytes of the file, where they are told
abbrev pub AreBytesOf : Option (List File) → List ℕ → List ℕ → Type 0
AreBytesOf files name bytes = (told : List ℕ) → IsTold files name told → bytes ≡ told

-- these are the bytes of the input: those of the file, where they are told, and none where no file is read
abbrev pub AreInputOf : Option (List File) → Option (List ℕ) → List ℕ → Type 0
AreInputOf files None bytes = bytes ≡ []
AreInputOf files (Some name) bytes = AreBytesOf files name bytes

-- these are the bytes of the input, and they are told
abbrev pub IsToldInput : Option (List File) → Option (List ℕ) → List ℕ → Type 0
IsToldInput files None bytes = bytes ≡ []
IsToldInput files (Some name) bytes = IsTold files name bytes

-- a file is read, the files are told, and it isn't there
abbrev pub IsFileMissing : Option (List File) → Option (List ℕ) → Type 0
IsFileMissing files None = ⊥
IsFileMissing files (Some name) = IsMissing files name

-- what reading the whole file gives: its bytes within the limit, or why not
abbrev pub ReadsAll : List ℕ → Result (Vec ℕ Global) EarlyRefusal → Type 0
ReadsAll bytes (Ok input) = (input.items ≡ bytes) × IsWithinLimit bytes
ReadsAll bytes (Err (BadInput line at)) = ⊥
ReadsAll bytes (Err TooLong) = IsTooLong bytes
ReadsAll bytes (Err refusal) = ⊤

-- Each fault has its cause, and no count of faults falls. A told file that isn't there can't be opened, unless want of memory
-- comes first.
pub record HasCauses {T : Type 0} (file : Option (List ℕ)) (files : Option (List File))
    (open_before open_now read_before read_now : ℕ) (result : Result T EarlyRefusal) : Type 0 where
  pub open_fault : IsErrOf result OpenFault → Rose open_before open_now ⊎ IsFileMissing files file
  pub missing : IsFileMissing files file → IsErrOf result OpenFault ⊎ IsErrOf result Memory
  pub read_fault : IsErrOf result ReadFault → Rose read_before read_now
  pub later_open : open_before ≤ open_now
  pub later_read : read_before ≤ read_now
