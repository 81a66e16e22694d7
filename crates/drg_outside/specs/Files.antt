-- Named files, and what opening one of them does to the bytes that are left.
use Rattle.std.specs.Prelude.{◌≡◌, ℕ, ◌≤◌, ◌⊎◌, List, [], ◌∷◌, Option, None, Some, if◌then◌else◌, Result, OnErr, MatchResult, ⊤}
use Rattle.std.specs.Str.{bytes_eq}
use Rattle.drg_outside.specs.Causes.{Rose}

-- a file by its name and its bytes
pub record File : Type 0 where
  pub name : List ℕ
  pub content : List ℕ

-- the bytes of the first file of this name, where there is one
abbrev pub content_of : List ℕ → List File → Option (List ℕ)
content_of name [] = None
content_of name (file ∷ files) = if bytes_eq file.name name then Some file.content else content_of name files

-- The names are told, and this one isn't there.
abbrev pub IsMissing : Option (List File) → List ℕ → Type 0
IsMissing None name = ⊥
IsMissing (Some files) name = content_of name files ≡ None

-- Where the files are told: at Ok all bytes of the named file are left, and after a failure none.
abbrev pub Opens : {T E : Type 0} → Option (List File) → Option (List ℕ) → List ℕ → Result T E → Type 0
Opens None left name result = ⊤
Opens (Some files) left name result =
    MatchResult result (λ _. (bytes : List ℕ) × (content_of name files ≡ Some bytes) × (left ≡ Some bytes)) (λ _. left ≡ Some [])

-- The count hasn't fallen. Where the call failed it rose, or the names are told and this one isn't there.
pub record OpenHasCause {T E : Type 0} (before now : ℕ) (files : Option (List File)) (name : List ℕ) (result : Result T E) : Type 0 where
  pub later : before ≤ now
  pub failed : OnErr result (Rose before now ⊎ IsMissing files name)
