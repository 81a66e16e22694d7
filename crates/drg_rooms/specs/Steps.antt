-- What is looked at for a line, in its order, and what it comes to.
use Rattle.std.specs.Prelude.{◌≡◌, true, Bool, ⊤, List, [], ◌∷◌, Result, Ok, Err, if◌then◌else◌}
use Rattle.drg_rooms.specs.declared.refusal.Refusal.{Refusal}
use Rattle.drg_rooms.specs.declared.refusal.Refusal.TheVariants.{NotMet, Wide}

pub data Step : Type 0 where
  -- a condition: where it fails, the line isn't met
  Holds : Bool → Step
  -- work numbers: where one of them is out of range, the line is too wide to be judged
  Fits : Bool → Step

-- the first step that fails decides
abbrev pub first_failure : List Step → Result ⊤ Refusal
first_failure [] = Ok tt
first_failure (Holds condition ∷ steps) = if condition then first_failure steps else Err NotMet
first_failure (Fits numbers ∷ steps) = if numbers then first_failure steps else Err Wide

-- each condition holds and each work number is in range
abbrev pub EachHolds : List Step → Type 0
EachHolds [] = ⊤
EachHolds (Holds condition ∷ steps) = (condition ≡ true) × EachHolds steps
EachHolds (Fits numbers ∷ steps) = (numbers ≡ true) × EachHolds steps
