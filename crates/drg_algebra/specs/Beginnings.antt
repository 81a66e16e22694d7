-- What stands where a text isn't appended whole.
use Rattle.std.specs.Prelude.{◌≡◌, ℕ, List, ◌++◌}

-- a part of the text from its beginning stands behind what was there
pub record BeginsWith (text old new : List ℕ) : Type 0 where
  pub written : List ℕ
  pub rest : List ℕ
  pub whole : text ≡ written ++ rest
  pub now : new ≡ old ++ written
