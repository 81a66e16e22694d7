-- The system of triple intersection numbers of a claim's type, and what an `eq` line asks.
use Rattle.std.specs.Prelude.{ℕ, ℤ, pos, ◌*◌, int_lt, unsigned_abs, Bool, false, ◌&&◌, if◌then◌else◌, List, [], ◌∷◌, ◌++◌, map, Option, Some, None}
use Rattle.std.specs.List.{range_with_len}
use Rattle.std.specs.Ordering.{int_eq}
use Rattle.drg_array.specs.Entries.{Entries, diameter}
use Rattle.drg_array.specs.declared.claim.Claim.{Claim}
use Rattle.drg_array.specs.declared.claim.Claim.TheVariants.{Triple}
use Rattle.drg_linear.specs.declared.triple.TripleType.{TripleType}
use Rattle.drg_linear.specs.declared.triple.Vertex.{Vertex}
use Rattle.drg_linear.specs.declared.triple.Vertex.TheVariants.{First, Second, Third}
use Rattle.drg_linear.specs.Equations.{EquationContent}
use Rattle.drg_linear.specs.Rooms.{RoomBounds}
use Rattle.drg_linear.specs.Triples.{counting_equation, high_bound}
use Rattle.drg_triple_numbers.specs.Places.{unknown_at}
use Rattle.drg_rooms.specs.Content.{BranchesContent}
use Rattle.drg_whole.specs.Range.{in_range}
use Rattle.drg_replay.specs.Steps.{Step, Holds, Fits}
use Rattle.drg_replay.specs.Indices.{is_index}
use Rattle.drg_replay.specs.Rows.{rows_at, row_stands, entry}

-- the type of triples of which a claim speaks
abbrev pub type_of : Claim → Option TripleType
type_of (Triple u v w) = Some (record { u = u; v = v; w = w })
type_of _ = None

-- p^h_ij as the rows state it
abbrev pub number : List (List (List ℤ)) → ℕ → ℕ → ℕ → ℤ
number rows h i j = entry h (rows_at rows h) i j

-- all rows of h stand
abbrev pub all_rows_stand : Entries → List (List (List ℤ)) → ℕ → Bool
all_rows_stand a rows h = row_stands (rows_at rows h) (diameter a)

-- ---- The system

-- each unknown is from 0 to its high bound
abbrev pub starting_room : ℕ → List (List (List ℤ)) → TripleType → RoomBounds
starting_room d rows ty =
    map (λ k. (pos 0, high_bound (number rows) ty (unknown_at d k))) (range_with_len 0 (d * d * d))

-- one open branch, and no equation
abbrev pub system_at_start : ℕ → List (List (List ℤ)) → TripleType → BranchesContent
system_at_start d rows ty =
    record { d = d; equations = []; branches = starting_room d rows ty ∷ [] }

-- the system that stands, or else the one in which no equation is made
abbrev pub system_of : Option BranchesContent → BranchesContent → BranchesContent
system_of None start = start
system_of (Some b) start = b

-- one more equation
abbrev pub with_equation : BranchesContent → EquationContent → BranchesContent
with_equation b e = record b { equations = b.equations ++ e ∷ [] }

-- ---- The `eq` line

-- 1, 2 and 3 stand for the vertices u, v and w
abbrev pub vertex_of : ℤ → Vertex
vertex_of n =
    if int_eq n (pos 1) then First else (if int_eq n (pos 2) then Second else Third)

-- the sum over the distances from the vertex, with distances x and y from the two others
abbrev pub equation_of : ℕ → List (List (List ℤ)) → TripleType → ℤ → ℤ → ℤ → EquationContent
equation_of d rows ty n x y =
    counting_equation d (number rows) ty (vertex_of n) (unsigned_abs x) (unsigned_abs y)

-- what a line asks that needs a type of triples; no such line is met without one
abbrev pub for_type : Option TripleType → (TripleType → List Step) → List Step
for_type None steps = Holds false ∷ []
for_type (Some ty) steps = steps ty

-- all rows of U, V and W stand, and p^W_VU > 0
abbrev pub is_live : Entries → List (List (List ℤ)) → TripleType → Bool
is_live a rows ty =
    all_rows_stand a rows ty.u && all_rows_stand a rows ty.v && all_rows_stand a rows ty.w
    && int_lt (pos 0) (number rows ty.w ty.v ty.u)

-- the type is live, and the numbers are in their ranges; the right side is one difference
abbrev pub eq_steps
    : Entries → List (List (List ℤ)) → TripleType → ℤ → ℤ → ℤ → List Step
eq_steps a rows ty n x y =
    Holds (is_live a rows ty)
    ∷ Holds (is_index 1 n 3)
    ∷ Holds (is_index 1 x (diameter a))
    ∷ Holds (is_index 1 y (diameter a))
    ∷ Fits (in_range (equation_of (diameter a) rows ty n x y).right)
    ∷ []
