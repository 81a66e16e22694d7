-- Equations kept once, with the places of those that were made, in their order.
use Rattle.std.specs.Prelude.{◌≡◌, ℕ, ◌<◌, ◌≤◌, List, length, map, slice_index_or, All}
use Rattle.drg_linear.specs.Equations.{EquationContent}
use Rattle.drg_rooms.specs.Combinations.{no_equation}

-- the equations at these places
abbrev pub equations_in : List EquationContent → List ℕ → List EquationContent
equations_in distinct places = map (λ i. slice_index_or distinct i no_equation) places

-- each place is that of an equation
abbrev pub AreAmong : List EquationContent → List ℕ → Type 0
AreAmong distinct places = All (λ i. i < length distinct) places

-- the equation stands at this place
pub record StandsIn (distinct : List EquationContent) (place : ℕ) (e : EquationContent) : Type 0 where
  pub within : place < length distinct
  pub is : slice_index_or distinct place no_equation ≡ e

-- what stood at a place still does
pub record KeepsPlaces (old new : List EquationContent) : Type 0 where
  pub within : length old ≤ length new
  pub same :
      (i : ℕ) → i < length old → slice_index_or new i no_equation ≡ slice_index_or old i no_equation
