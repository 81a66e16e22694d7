-- The greatest of the least values that equations leave to each unknown.
use Rattle.std.specs.Prelude.{◌≡◌, ◌≢◌, ◌<◌, ◌≤ℤ◌, ℕ, ℤ, suc, pos, true, int_lt, if◌then◌else◌, List, [], ◌∷◌, length, slice_index_or, slice_set, Option, Some, None, All}
use Rattle.drg_linear.specs.Unknowns.{is_unknown, place}
use Rattle.drg_linear.specs.Equations.{Term, EquationContent, coefficient_of}
use Rattle.drg_linear.specs.Rooms.{RoomBounds}
use Rattle.drg_linear.specs.Values.{least_value, greatest_value}
use Rattle.drg_rooms.specs.Combinations.{equation_at}
use Rattle.drg_solver.specs.declared.closing.Bound.{Bound}

-- by the places of the unknowns
abbrev pub Table : Type 0
Table = List (Option Bound)

-- the greater one of what stands and a new value
abbrev pub greater : Option Bound → Bound → Option Bound
greater None v = Some v
greater (Some w) v = if int_lt w.number v.number then Some v else Some w

abbrev pub with_value : Table → ℕ → Bound → Table
with_value table k v = slice_set table k (greater (slice_index_or table k None) v)

-- what equation n leaves to the unknown of a term
abbrev pub least_of : ℕ → RoomBounds → EquationContent → ℕ → Term → Bound
least_of d room e n t =
    record { unknown = t.0; number = least_value d room t.0 e; equation = n }

abbrev pub with_terms : ℕ → RoomBounds → EquationContent → ℕ → Table → List Term → Table
with_terms d room e n table [] = table
with_terms d room e n table (t ∷ ts) =
    with_terms d room e n (with_value table (place d t.0) (least_of d room e n t)) ts

-- the equations have the numbers from n on
abbrev pub with_equations : ℕ → RoomBounds → ℕ → Table → List EquationContent → Table
with_equations d room n table [] = table
with_equations d room n table (e ∷ es) =
    with_equations d room (suc n) (with_terms d room e n table e.terms) es

-- a value at a place is what its equation leaves to the unknown of this place
pub record IsLeft (d : ℕ) (room : RoomBounds) (equations : List EquationContent) (k : ℕ)
    (v : Bound) : Type 0 where
  pub within : v.equation < length equations
  pub unknown : is_unknown d v.unknown ≡ true
  pub place : place d v.unknown ≡ k
  pub term : coefficient_of v.unknown (equation_at equations (pos v.equation)).terms ≢ pos 0
  pub number : v.number ≡ least_value d room v.unknown (equation_at equations (pos v.equation))

abbrev pub AreLeft : ℕ → RoomBounds → List EquationContent → Table → Type 0
AreLeft d room equations table =
    (k : ℕ) (v : Bound) → slice_index_or table k None ≡ Some v → IsLeft d room equations k v

-- the value at a place, if one stands there, is no greater than z
abbrev pub IsBelow : Table → ℕ → ℤ → Type 0
IsBelow table k z = (v : Bound) → slice_index_or table k None ≡ Some v → v.number ≤ℤ z

-- no value that an equation leaves at most is below the one in the table
abbrev pub NoneCrosses : ℕ → RoomBounds → Table → EquationContent → Type 0
NoneCrosses d room table e =
    All (λ t. IsBelow table (place d t.0) (greatest_value d room t.0 e)) e.terms
