-- The counting system of a type of triples: its room, and its equations with their names
-- (Vidali 2018).
use Rattle.std.specs.Prelude.{◌≡◌, ℕ, zero, suc, ◌*◌, ◌≤◌, ℤ, pos, unsigned_abs, Bool, List, [], ◌∷◌, ◌++◌, map}
use Rattle.std.specs.List.{range_with_len}
use Rattle.drg_whole.specs.Sums.{sum_fits_from}
use Rattle.drg_intersection.specs.Numbers.{Numbers}
use Rattle.drg_linear.specs.declared.triple.TripleType.{TripleType}
use Rattle.drg_linear.specs.declared.triple.Vertex.{Vertex}
use Rattle.drg_linear.specs.declared.triple.Vertex.TheVariants.{First, Second, Third}
use Rattle.drg_linear.specs.declared.system.EquationName.{EquationName}
use Rattle.drg_linear.specs.declared.system.EquationName.TheVariants.{Eq}
use Rattle.drg_linear.specs.Equations.{EquationContent}
use Rattle.drg_linear.specs.Rooms.{RoomBounds, RoomContent}
use Rattle.drg_linear.specs.Systems.{SystemContent}
use Rattle.drg_linear.specs.Triples.{unknown_over, counting_equation, high_bound}
use Rattle.drg_triple_numbers.specs.Places.{unknown_at}
use Rattle.drg_triples.specs.LiveTypes.{number_in}
use Rattle.drg_triples.specs.declared.counted.Counted.{Counted}

-- ---- The room

-- each unknown is from 0 to its high bound
abbrev pub starting_bounds : ℕ → (ℕ → ℕ → ℕ → ℤ) → TripleType → RoomBounds
starting_bounds d p ty =
    map (λ k. (pos 0, high_bound p ty (unknown_at d k))) (range_with_len 0 (d * d * d))

abbrev pub starting_room : Numbers → TripleType → RoomContent
starting_room numbers ty =
    record { d = numbers.d; bounds = starting_bounds numbers.d (number_in numbers) ty }

-- ---- The equations

-- 1, 2 and 3 stand for the vertices u, v and w
abbrev pub number_of_vertex : Vertex → ℕ
number_of_vertex First = 1
number_of_vertex Second = 2
number_of_vertex Third = 3

abbrev pub name_of : Counted → EquationName
name_of c = Eq (number_of_vertex c.vertex) c.x c.y

abbrev pub equation_of : Numbers → TripleType → Counted → EquationContent
equation_of numbers ty c = counting_equation numbers.d (number_in numbers) ty c.vertex c.x c.y

-- the lists of 1 to n, one after the other
abbrev pub up_to : {A : Type 0} → (ℕ → List A) → ℕ → List A
up_to lists zero = []
up_to lists (suc n) = up_to lists n ++ lists (suc n)

-- what is counted for a vertex at distance x from one other vertex and y from the last: y from 1 to d
abbrev pub counted_with : ℕ → Vertex → ℕ → List Counted
counted_with d vertex x = up_to (λ y. record { vertex = vertex; x = x; y = y } ∷ []) d

-- for x from 1 to d
abbrev pub counted_at : ℕ → Vertex → List Counted
counted_at d vertex = up_to (counted_with d vertex) d

-- for the vertices u, v and w
abbrev pub counted_of : ℕ → List Counted
counted_of d = counted_at d First ++ (counted_at d Second ++ counted_at d Third)

-- both distances are from 1 to d
pub record IsCounted (d : ℕ) (c : Counted) : Type 0 where
  pub x_low : 1 ≤ c.x
  pub x_high : c.x ≤ d
  pub y_low : 1 ≤ c.y
  pub y_high : c.y ≤ d

-- a system with the equations of some counts at its end
abbrev pub extended : Numbers → TripleType → SystemContent → List Counted → SystemContent
extended numbers ty system counted =
    record system {
      names = system.names ++ map name_of counted;
      equations = system.equations ++ map (equation_of numbers ty) counted;
    }

-- the counting system: the room, and all equations in their order
abbrev pub counting_system : Numbers → TripleType → SystemContent
counting_system numbers ty =
    record {
      room = starting_room numbers ty;
      names = map name_of (counted_of numbers.d);
      equations = map (equation_of numbers ty) (counted_of numbers.d);
    }

-- ---- When an equation fits

-- the high bounds of the unknowns in an equation
abbrev pub high_bounds : Numbers → TripleType → Counted → List ℤ
high_bounds numbers ty c =
    map (λ q. high_bound (number_in numbers) ty (unknown_over c.vertex c.x c.y q)) (range_with_len 1 numbers.d)

-- these, then the magnitude of the right side
abbrev pub work_numbers : Numbers → TripleType → Counted → List ℤ
work_numbers numbers ty c =
    high_bounds numbers ty c ++ pos (unsigned_abs (equation_of numbers ty c).right) ∷ []

-- each of these, and each sum on the way, is in range
abbrev pub equation_fits : Numbers → TripleType → Counted → Bool
equation_fits numbers ty c = sum_fits_from (pos 0) (work_numbers numbers ty c)
