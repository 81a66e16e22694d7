-- Splits of the leaves of a room, in their order, and when they are live.
use Rattle.std.specs.Prelude.{ℕ, ℤ, pos, ◌+◌, ◌+ℤ◌, ◌<◌, ◌≤◌, ◌≤ℤ◌, ◌<ℤ◌, ⊤, List, [], ◌∷◌, ◌++◌, length, nat_eq, slice_index_or, slice_set, All, ◌≡◌, true}
use Rattle.std.specs.List.{IsDistinct}
use Rattle.drg_linear.specs.declared.system.Branching.{Branching}
use Rattle.drg_linear.specs.Unknowns.{is_unknown, place}
use Rattle.drg_linear.specs.Equations.{EquationContent}
use Rattle.drg_linear.specs.Rooms.{RoomBounds, bounds_at, IsSolution, slack}
use Rattle.drg_linear.specs.Closing.{ClosesInOneStep}

-- low <= v < high at a place
pub record Divides (room : RoomBounds) (y : ℕ) (v : ℤ) : Type 0 where
  pub low : (bounds_at room y).0 ≤ℤ v
  pub high : v <ℤ (bounds_at room y).1

-- the side with the values up to v, and the one with those above v
abbrev pub side_up_to : RoomBounds → ℕ → ℤ → RoomBounds
side_up_to room y v = slice_set room y ((bounds_at room y).0, v)

abbrev pub side_above : RoomBounds → ℕ → ℤ → RoomBounds
side_above room y v = slice_set room y (v +ℤ pos 1, (bounds_at room y).1)

abbrev pub leaf_at : List RoomBounds → ℕ → RoomBounds
leaf_at leaves k = slice_index_or leaves k []

-- the leaves after a split: one side in the place of the leaf, and the other at the end
abbrev pub divided : ℕ → List RoomBounds → Branching → List RoomBounds
divided d leaves s =
    let leaf = leaf_at leaves s.leaf in
    slice_set leaves s.leaf (side_up_to leaf (place d s.unknown) s.at)
    ++ side_above leaf (place d s.unknown) s.at ∷ []

-- the leaves after splits, from given leaves on
abbrev pub leaves_from : ℕ → List RoomBounds → List Branching → List RoomBounds
leaves_from d leaves [] = leaves
leaves_from d leaves (s ∷ splits) = leaves_from d (divided d leaves s) splits

-- a split of a leaf that doesn't close in one step, into two sides that aren't empty
pub record IsLive (d : ℕ) (equations : List EquationContent) (leaves : List RoomBounds)
    (s : Branching) : Type 0 where
  pub leaf : s.leaf < length leaves
  pub unknown : is_unknown d s.unknown ≡ true
  pub sides : Divides (leaf_at leaves s.leaf) (place d s.unknown) s.at
  pub unclosed : ClosesInOneStep d (leaf_at leaves s.leaf) equations → ⊥

-- each split is live for the leaves that the splits before it leave
abbrev pub EachIsLive : ℕ → List EquationContent → List RoomBounds → List Branching → Type 0
EachIsLive d equations leaves [] = ⊤
EachIsLive d equations leaves (s ∷ splits) =
    IsLive d equations leaves s × EachIsLive d equations (divided d leaves s) splits

-- no more than n places have the property: places that all have it, and differ, are at most n
abbrev pub AtMost : ℕ → (ℕ → Type 0) → Type 0
AtMost n P = (places : List ℕ) → IsDistinct nat_eq places → All P places → length places ≤ n

-- in place k stands a leaf that holds a solution
abbrev pub HoldsSolutionAt : ℕ → List EquationContent → List RoomBounds → ℕ → Type 0
HoldsSolutionAt d equations leaves k =
    (k < length leaves) × (x : ℕ → ℤ) × IsSolution d (leaf_at leaves k) equations x

-- Splits of a room are live where each is, and few of the leaves at the end hold a solution: at most
-- one more than the sum of high - low over the room.
pub record AreLive (d : ℕ) (equations : List EquationContent) (room : RoomBounds)
    (splits : List Branching) : Type 0 where
  pub each : EachIsLive d equations (room ∷ []) splits
  pub few :
      AtMost (1 + slack room) (HoldsSolutionAt d equations (leaves_from d (room ∷ []) splits))
