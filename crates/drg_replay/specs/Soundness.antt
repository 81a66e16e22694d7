-- What an accepted derivation, and each met line of it, says of graphs.
use Rattle.std.specs.Prelude.{◌≡◌, ℕ, ◌≤◌, ◌<◌, pos, length, true, IsTrue, List, Ok}
use Rattle.drg_array.specs.Entries.{Entries, IsArray, diameter}
use Rattle.drg_array.specs.declared.claim.Claim.{Claim}
use Rattle.drg_array.specs.declared.claim.Class.TheVariants.{Counting}
use Rattle.drg_derivation.specs.Content.{Content}
use Rattle.drg_derivation.specs.declared.line.Line.{Line}
use Rattle.drg_graph.specs.Graph.{Graph, is_vertex, sphere, pairs_at, HasDistance, IsDistanceRegular, NoGraph}
use Rattle.drg_replay.specs.Known.{KnownContent}
use Rattle.drg_replay.specs.Sizes.{size_at, values_of}
use Rattle.drg_replay.specs.Rows.{rows_at, entry}
use Rattle.drg_replay.specs.Rooms.{are_closed}
use Rattle.drg_replay.specs.Lines.{known_of}
use Rattle.drg_replay.specs.Answers.{AllAreMet, answer_of}

-- a derivation that is accepted by counting rules alone excludes every graph
abbrev pub GraphLaw : Type 0
GraphLaw = (δ : Content) → IsArray δ.array → answer_of δ ≡ Ok Counting → NoGraph δ.array

-- lines that are met and close all rooms of the claim's type exclude every graph
abbrev pub ClosedRoomsLaw : Type 0
ClosedRoomsLaw =
    (a : Entries) (claim : Claim) (lines : List Line) → IsArray a → AllAreMet a claim lines
    → are_closed (known_of a claim lines).rooms ≡ true → NoGraph a

-- the stated sizes are the counts at each vertex of the graph
abbrev pub SizesAreCounts : Graph → KnownContent → Type 0
SizesAreCounts g k =
    (x i : ℕ) → IsTrue (is_vertex g x) → i < length (values_of k.counts.sizes)
    → size_at k.counts.sizes i ≡ pos (sphere g i x)

-- the stated rows of each h are the counts for each two vertices of the graph at distance h
abbrev pub RowsAreCounts : Graph → KnownContent → Type 0
RowsAreCounts g k =
    (h x y i j : ℕ) → HasDistance g h x y
    → i ≤ length (rows_at k.counts.rows h) → j ≤ diameter k.array
    → entry h (rows_at k.counts.rows h) i j ≡ pos (pairs_at g i j x y)

-- a met `k` line states the counts in every graph of the array
abbrev pub MetSizesLaw : Type 0
MetSizesLaw =
    (g : Graph) (a : Entries) (claim : Claim) (lines : List Line)
    → IsArray a → IsDistanceRegular g a → AllAreMet a claim lines
    → SizesAreCounts g (known_of a claim lines)

-- and so do met `p` lines
abbrev pub MetRowsLaw : Type 0
MetRowsLaw =
    (g : Graph) (a : Entries) (claim : Claim) (lines : List Line)
    → IsArray a → IsDistanceRegular g a → AllAreMet a claim lines
    → RowsAreCounts g (known_of a claim lines)
