-- The leaves that wait, the next one first, and what is known of them in the middle of a search.
use Rattle.std.specs.Prelude.{◌≡◌, ◌⊎◌, ◌+◌, ◌<◌, ◌≤◌, ℕ, ℤ, ⊤, List, [], ◌∷◌, ◌++◌, length}
use Rattle.drg_linear.specs.declared.system.Branching.{Branching}
use Rattle.drg_linear.specs.declared.unknown.Unknown.{Unknown}
use Rattle.drg_linear.specs.Unknowns.{place}
use Rattle.drg_linear.specs.Rooms.{RoomContent, RoomBounds, slack}
use Rattle.drg_linear.specs.Splits.{side_up_to, side_above, leaf_at, leaves_from, EachIsLive, HoldsSolutionAt}
use Rattle.drg_linear.specs.Systems.{SystemContent}
use Rattle.drg_solver.specs.Parts.{IsPart}
use Rattle.drg_solver.specs.declared.leaf.Leaf.{Leaf}

-- ---- The division of a leaf

-- a room with other bounds
abbrev pub with_bounds : RoomContent → RoomBounds → RoomContent
with_bounds room bounds = record { d = room.d; bounds = bounds }

-- the leaf's side up to v, in its place, and its side above v, in a new place
abbrev pub lower : Leaf → Unknown → ℤ → Leaf
lower leaf u v =
    record {
      place = leaf.place;
      room = with_bounds leaf.room (side_up_to leaf.room.bounds (place leaf.room.d u) v);
    }

abbrev pub upper : ℕ → Leaf → Unknown → ℤ → Leaf
upper last leaf u v =
    record {
      place = last;
      room = with_bounds leaf.room (side_above leaf.room.bounds (place leaf.room.d u) v);
    }

abbrev pub split_of : Leaf → Unknown → ℤ → Branching
split_of leaf u v = record { leaf = leaf.place; unknown = u; at = v }

-- the split comes to the end of the splits, and the two sides to the end of what waits
pub record IsDivision (leaf : Leaf) (u : Unknown) (v : ℤ) (splits splits_after : List Branching)
    (waiting waiting_after : List Leaf) : Type 0 where
  pub listed : splits_after ≡ splits ++ split_of leaf u v ∷ []
  pub sides :
      waiting_after ≡ (waiting ++ upper (1 + length splits) leaf u v ∷ []) ++ lower leaf u v ∷ []

-- ---- The middle of a search

-- a leaf that waits has the place k
abbrev pub IsHeld : ℕ → List Leaf → Type 0
IsHeld k [] = ⊥
IsHeld k (w ∷ waiting) = (w.place ≡ k) ⊎ IsHeld k waiting

-- the leaf stands in its place, and is a room within the whole one
pub record IsInPlace (whole : RoomContent) (leaves : List RoomBounds) (w : Leaf) : Type 0 where
  pub within : w.place < length leaves
  pub there : leaf_at leaves w.place ≡ w.room.bounds
  pub part : IsPart whole w.room

abbrev pub AreInPlace : RoomContent → List RoomBounds → List Leaf → Type 0
AreInPlace whole leaves [] = ⊤
AreInPlace whole leaves (w ∷ waiting) =
    IsInPlace whole leaves w × AreInPlace whole leaves waiting

-- no two leaves that wait have one place
abbrev pub AreApart : List Leaf → Type 0
AreApart [] = ⊤
AreApart (w ∷ waiting) = (IsHeld w.place waiting → ⊥) × AreApart waiting

-- below each leaf that waits are no more than its room lost of n, the slack of the whole room
abbrev pub AreDeep : ℕ → List Leaf → Type 0
AreDeep n [] = ⊤
AreDeep n (w ∷ waiting) = (length waiting + slack w.room.bounds ≤ n) × AreDeep n waiting

-- the leaves of a system after splits
abbrev pub leaves_after : SystemContent → List Branching → List RoomBounds
leaves_after s splits = leaves_from s.room.d (s.room.bounds ∷ []) splits

-- the leaves that wait, the next one first, after live splits: no other leaf holds a solution
pub record IsUnderWay (s : SystemContent) (splits : List Branching) (waiting : List Leaf)
    : Type 0 where
  pub each : EachIsLive s.room.d s.equations (s.room.bounds ∷ []) splits
  pub in_place : AreInPlace s.room (leaves_after s splits) waiting
  pub apart : AreApart waiting
  pub deep : AreDeep (slack s.room.bounds) waiting
  pub found :
      (k : ℕ) → HoldsSolutionAt s.room.d s.equations (leaves_after s splits) k → IsHeld k waiting
