-- Inputs and a sink that stand in memory: what contracts see of them, and which of their calls fail.
use Rattle.std.specs.Prelude.{ℕ, zero, suc, ◌-◌, ◌==◌, ◌&&◌, ◌||◌, nat_lt, Bool, min, List, [], ◌∷◌, length, Option, None, Some, is_none, drop, map, Vec, string_bytes}
use Rattle.std.specs.List.{list_any}
use Rattle.std.specs.declared.alloc.Global.{Global}
use Rattle.std.specs.declared.string.String.{String}
use Rattle.drg_outside.specs.Causes.{next_count}
use Rattle.drg_outside.specs.Files.{File, content_of}

-- the content of the file in this place
abbrev pub content_at : List File → ℕ → List ℕ
content_at [] place = []
content_at (file ∷ files) zero = file.content
content_at (file ∷ files) (suc place) = content_at files place

-- what is left of the open file, given its place and how many of its bytes were read
abbrev pub rest_of : List File → Option (ℕ × ℕ) → List ℕ
rest_of files None = []
rest_of files (Some opened) = drop opened.1 (content_at files opened.0)

-- a pair of a name and bytes, as a file
abbrev pub file_of : String Global × Vec ℕ Global → File
file_of entry = record { name = string_bytes entry.0; content = entry.1.items }

abbrev pub files_of : List (String Global × Vec ℕ Global) → List File
files_of entries = map file_of entries

-- Inputs in memory. `left` is what is left of the open file, `most` the most bytes that one read gives, `fails` the
-- numbers of the calls that fail, and `calls` how many calls of open and read there were.
pub record MemoryFiles : Type 0 where
  pub files : List File
  pub left : List ℕ
  pub most : ℕ
  pub fails : List ℕ
  pub calls : ℕ
  pub open_faults : ℕ
  pub read_faults : ℕ

-- A sink in memory with room for `room` bytes. `most` is the most bytes that one write takes, `fails` the numbers of
-- the writes that fail, and `calls` how many writes there were.
pub record MemoryBytes : Type 0 where
  pub bytes : List ℕ
  pub room : ℕ
  pub most : ℕ
  pub fails : List ℕ
  pub calls : ℕ
  pub faults : ℕ

-- whether the call after so many calls stands among those that fail; they are numbered from 1
abbrev pub is_chosen : List ℕ → ℕ → Bool
is_chosen fails calls = list_any (λ number. number == next_count calls) fails

-- whether the next open fails: its number is one of those that fail, or no file has the name
abbrev pub open_fails : MemoryFiles → List ℕ → Bool
open_fails inputs name = is_chosen inputs.fails inputs.calls || is_none (content_of name inputs.files)

-- whether the next read fails
abbrev pub read_fails : MemoryFiles → Bool
read_fails inputs = is_chosen inputs.fails inputs.calls

-- how many bytes a read gives into a buffer of this length: the lesser of `most`, the buffer and what is left
abbrev pub read_count : MemoryFiles → ℕ → ℕ
read_count inputs room = min inputs.most (min room (length inputs.left))

-- how many bytes more the sink has room for
abbrev pub room_left : MemoryBytes → ℕ
room_left sink = sink.room - length sink.bytes

-- whether the next write fails: its number is one of those that fail, or the piece isn't empty and the sink is full
abbrev pub write_fails : MemoryBytes → List ℕ → Bool
write_fails sink piece = is_chosen sink.fails sink.calls || (nat_lt 0 (length piece) && room_left sink == 0)

-- how many bytes of the piece a write takes: the lesser of `most`, the piece and the room that is left
abbrev pub write_count : MemoryBytes → List ℕ → ℕ
write_count sink piece = min sink.most (min (length piece) (room_left sink))
