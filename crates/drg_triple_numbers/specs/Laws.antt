-- What a graph of an array has for each type of triples (Vidali 2018).
use Rattle.std.specs.Prelude.{◌≡◌, ℕ, ℤ, true}
use Rattle.drg_array.specs.Entries.{Entries, IsArray, diameter}
use Rattle.drg_graph.specs.Graph.{Graph, IsDistanceRegular, NoGraph}
use Rattle.drg_linear.specs.declared.unknown.Unknown.{Unknown}
use Rattle.drg_linear.specs.declared.triple.TripleType.{TripleType}
use Rattle.drg_linear.specs.Unknowns.{is_unknown, place}
use Rattle.drg_linear.specs.Triples.{IsTripleSolution}
use Rattle.drg_triple_numbers.specs.TripleNumbers.{AreApart, Triple, number_of, numbers_at, IsWithin, AreNumbers, IsLive}

-- the number at the place of an unknown is the count that it stands for
abbrev pub NumbersStandAtPlaces : Type 0
NumbersStandAtPlaces =
    (g : Graph) (d u v w : ℕ) (n : Unknown)
    → is_unknown d n ≡ true → numbers_at g d u v w (place d n) ≡ number_of g u v w n

-- three vertices of a live type exist
abbrev pub TriplesExist : Type 0
TriplesExist =
    (g : Graph) (a : Entries) (p : ℕ → ℕ → ℕ → ℤ) (ty : TripleType)
    → IsArray a → IsDistanceRegular g a → IsWithin a ty → AreNumbers a p ty → IsLive p ty
    → Triple g ty

-- and the numbers of any three of the type solve its counting equations
abbrev pub NumbersAreSolution : Type 0
NumbersAreSolution =
    (g : Graph) (a : Entries) (p : ℕ → ℕ → ℕ → ℤ) (ty : TripleType) (u v w : ℕ)
    → IsArray a → IsDistanceRegular g a → IsWithin a ty → AreNumbers a p ty → AreApart g ty u v w
    → IsTripleSolution (diameter a) p ty (numbers_at g (diameter a) u v w)

-- so an array with a live type without a solution has no graph
abbrev pub NoSolutionNoGraph : Type 0
NoSolutionNoGraph =
    (a : Entries) (p : ℕ → ℕ → ℕ → ℤ) (ty : TripleType)
    → IsArray a → IsWithin a ty → AreNumbers a p ty → IsLive p ty
    → ((x : ℕ → ℤ) → IsTripleSolution (diameter a) p ty x → ⊥)
    → NoGraph a
