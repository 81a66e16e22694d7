-- What is cut off while a text is read.
use Rattle.std.specs.Prelude.{◌≢◌, ℕ, List}
use Rattle.std.specs.List.{AllByRecursion}

-- No byte of the text is this one.
abbrev pub HasNone : ℕ → List ℕ → Type 0
HasNone byte text = AllByRecursion (λ c. c ≢ byte) text
