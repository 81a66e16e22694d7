-- The bytes of a file, where they are told, and where they are not.
use Rattle.std.proofs.Common.{◌≡◌, ℕ, ◌<◌, ◌+◌, ◌⊎◌, inl, inr, List, [], length, Option, Some, None, Result, Ok, Err, false, refl, sym, ap, subst, ◌∙◌, arith, length-append}
use Rattle.std.proofs.lemmas.Bool.{true≢false}
use Rattle.std.specs.Result.{is_err}
use Rattle.std.specs.Io.KnownBytes.{Consumes}
use Rattle.drg_outside.specs.Files.{File, IsMissing, Opens, content_of}
use Rattle.drg_outside.specs.Whole.{TakesCount}
use Rattle.drg_program.specs.Input.{AreBytesOf, AreInputOf, IsFileMissing, IsTold, IsToldInput}

some-injective : (x y : List ℕ) → Some x ≡ Some y → x ≡ y
some-injective x y e = cc

-- a file has one content
pub same_content : (files : List File) (name bytes : List ℕ) → content_of name files ≡ Some bytes → AreBytesOf (Some files) name bytes
same_content files name bytes is told other = some-injective bytes told (sym is ∙ other)

none≢some : (bytes : List ℕ) → None ≡ Some bytes → ⊥
none≢some bytes e = cc

told_is_there : (files : Option (List File)) (name bytes : List ℕ) → IsTold files name bytes → IsMissing files name → ⊥
told_is_there None name bytes told missing = told
told_is_there (Some files) name bytes told missing = none≢some bytes (sym missing ∙ told)

-- an input that is told isn't missing, so the other cause holds
pub input_is_there : (files : Option (List File)) (file : Option (List ℕ)) (bytes : List ℕ) (P : Type 0) → IsToldInput files file bytes → (P → ⊥)
    → P ⊎ IsFileMissing files file → ⊥
input_is_there files file bytes P told never (inl cause) = never cause
input_is_there files None bytes P told never (inr missing) = missing
input_is_there files (Some name) bytes P told never (inr missing) = told_is_there files name bytes told missing

-- the bytes of an input that is told are these
pub same_input : (files : Option (List File)) (file : Option (List ℕ)) (bytes told : List ℕ) → AreInputOf files file bytes → IsToldInput files file told
    → bytes ≡ told
same_input files None bytes told are is = are ∙ sym is
same_input files (Some name) bytes told are is = are told is

-- there are bytes that the file has if it is told
pub some_bytes : (files : Option (List File)) (name : List ℕ) → (bytes : List ℕ) × AreBytesOf files name bytes
some_bytes None name = ([], λ told is. absurd is)
some_bytes (Some files) name = found (content_of name files) refl where
  found : (content : Option (List ℕ)) → content_of name files ≡ content → (bytes : List ℕ) × AreBytesOf (Some files) name bytes
  found None none = ([], λ told is. absurd (none≢some told (sym none ∙ is)))
  found (Some bytes) is = (bytes, same_content files name bytes is)

-- and bytes that are the input
pub some_input : (files : Option (List File)) (file : Option (List ℕ)) → (bytes : List ℕ) × AreInputOf files file bytes
some_input files None = ([], refl)
some_input files (Some name) = some_bytes files name

longer : (bytes taken : List ℕ) (new : Option (List ℕ)) (limit : ℕ) → Consumes (Some bytes) new taken → length taken ≡ limit + 1 → limit < length bytes
longer bytes taken None limit consumed sized = absurd consumed
longer bytes taken (Some rest) limit consumed sized =
    let same : length bytes ≡ length taken + length rest = ap length consumed ∙ length-append taken rest in
    omega arith

-- from an opened file more bytes than the limit were taken
pub long_input : {T E : Type 0} (files : Option (List File)) (left new : Option (List ℕ)) (name : List ℕ) (limit : ℕ) (result : Result T E)
    → is_err result ≡ false → Opens files left name result → TakesCount left new (limit + 1)
    → (bytes : List ℕ) × AreBytesOf files name bytes × (limit < length bytes)
long_input None left new name limit result ok opens (taken, consumed, sized) = (taken, λ told is. absurd is, omega (arith, sized))
long_input (Some files) left new name limit (Err e) ok opens taken = absurd (true≢false ok)
long_input (Some files) left new name limit (Ok x) ok (bytes, is, held) (taken, consumed, sized) =
    (bytes, same_content files name bytes is, longer bytes taken new limit (subst (λ (known : Option (List ℕ)). Consumes known new taken) held consumed) sized)
