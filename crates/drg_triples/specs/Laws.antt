-- Laws of counting systems: what their solutions are, when their equations fit, and what they say of
-- graphs (Vidali 2018).
use Rattle.std.specs.Prelude.{◌≡◌, ◌≢◌, ◌↔◌, ℕ, ℤ, ◌*◌, ◌≤◌, pos, true, Contains}
use Rattle.drg_array.specs.Entries.{Entries, IsArray}
use Rattle.drg_graph.specs.Graph.{Graph, IsDistanceRegular, NoGraph}
use Rattle.drg_intersection.specs.Numbers.{Numbers, AreNumbersOf}
use Rattle.drg_linear.specs.declared.triple.TripleType.{TripleType}
use Rattle.drg_linear.specs.Rooms.{IsSolution}
use Rattle.drg_linear.specs.Systems.{FitsOver}
use Rattle.drg_linear.specs.Triples.{IsTripleSolution}
use Rattle.drg_triple_numbers.specs.TripleNumbers.{AreApart, Triple, numbers_at}
use Rattle.drg_triples.specs.declared.counted.Counted.{Counted}
use Rattle.drg_triples.specs.declared.fault.TripleFault.{TripleFault}
use Rattle.drg_triples.specs.declared.fault.TripleFault.TheVariants.{Memory}
use Rattle.drg_triples.specs.LiveTypes.{number_in, IsLiveType}
use Rattle.drg_triples.specs.Counting.{starting_room, counted_of, IsCounted, equation_of, counting_system}
use Rattle.drg_triples.specs.Faults.{Fits, AllFit, IsFault}

-- numbers solve the counting system of a type
abbrev pub SolvesCounting : Numbers → TripleType → (ℕ → ℤ) → Type 0
SolvesCounting numbers ty x =
    let system = counting_system numbers ty in
    IsSolution system.room.d system.room.bounds system.equations x

-- The solutions of a counting system are those of the counting equations within the high bounds, with 0
-- at each place that is no unknown's.
abbrev pub SystemHasTheSolutions : Type 0
SystemHasTheSolutions =
    (numbers : Numbers) (ty : TripleType) (x : ℕ → ℤ)
    → SolvesCounting numbers ty x
    ↔ (IsTripleSolution numbers.d (number_in numbers) ty x
    × ((k : ℕ) → numbers.d * numbers.d * numbers.d ≤ k → x k ≡ pos 0))

-- There is one equation for each vertex and each two distances from 1 to d.
abbrev pub EquationsAreAll : Type 0
EquationsAreAll = (d : ℕ) (c : Counted) → Contains (counted_of d) c ↔ IsCounted d c

-- An equation fits exactly where it fits over the room.
abbrev pub FitsMeansFitsOver : Type 0
FitsMeansFitsOver =
    (numbers : Numbers) (ty : TripleType) (c : Counted) → IsCounted numbers.d c
    → Fits numbers ty c ↔ FitsOver (starting_room numbers ty) (equation_of numbers ty c)

-- Apart from want of memory a counting system has one fault at most, and none where all its equations
-- fit.
abbrev pub OneFault : Type 0
OneFault =
    (numbers : Numbers) (ty : TripleType) (f g : TripleFault) → f ≢ Memory → g ≢ Memory
    → IsFault numbers ty f → IsFault numbers ty g → f ≡ g

abbrev pub NoFaultWhereAllFit : Type 0
NoFaultWhereAllFit =
    (numbers : Numbers) (ty : TripleType) (f : TripleFault) → f ≢ Memory
    → AllFit numbers ty (counted_of numbers.d) → IsFault numbers ty f → ⊥

-- A graph with these numbers has three vertices of each live type.
abbrev pub LiveTypesOccur : Type 0
LiveTypesOccur =
    (g : Graph) (a : Entries) (numbers : Numbers) (ty : TripleType)
    → IsArray a → IsDistanceRegular g a → AreNumbersOf a numbers → IsLiveType numbers ty → Triple g ty

-- Their triple intersection numbers solve its counting system.
abbrev pub TriplesSolveSystems : Type 0
TriplesSolveSystems =
    (g : Graph) (a : Entries) (numbers : Numbers) (ty : TripleType) (u v w : ℕ)
    → IsArray a → IsDistanceRegular g a → AreNumbersOf a numbers → IsLiveType numbers ty → AreApart g ty u v w
    → SolvesCounting numbers ty (numbers_at g numbers.d u v w)

-- So an array with a live type whose counting system has no solution has no graph.
abbrev pub NoSolutionNoGraph : Type 0
NoSolutionNoGraph =
    (a : Entries) (numbers : Numbers) (ty : TripleType)
    → IsArray a → AreNumbersOf a numbers → IsLiveType numbers ty
    → ((x : ℕ → ℤ) → SolvesCounting numbers ty x → ⊥)
    → NoGraph a
