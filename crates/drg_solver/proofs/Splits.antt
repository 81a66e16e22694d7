-- The leaves after splits.
use Rattle.std.proofs.Common.{◌≡◌, ℕ, ◌+◌, ◌≤◌, List, [], ◌∷◌, ◌++◌, length, set, refl, ap, ◌∙◌, arith}
use Rattle.std.specs.List.{sum_by}
use Rattle.std.proofs.lemmas.List.{length-set, length_push}
use Rattle.std.proofs.lemmas.List.Sums.{sum_by-set, sum_by_push, sum_by-cons}
use Rattle.drg_linear.specs.declared.system.Branching.{Branching}
use Rattle.drg_linear.specs.Unknowns.{place}
use Rattle.drg_linear.specs.Equations.{EquationContent}
use Rattle.drg_linear.specs.Rooms.{RoomBounds, points}
use Rattle.drg_linear.specs.Splits.{side_up_to, side_above, leaf_at, divided, leaves_from, IsLive, EachIsLive}
use Rattle.drg_linear.proofs.Points.{points_some}
use Rattle.drg_solver.proofs.Rooms.{points_add_up}

pub length_divided : (d : ℕ) (leaves : List RoomBounds) (s : Branching) → length (divided d leaves s) ≡ length leaves + 1
length_divided d leaves s =
    let leaf = leaf_at leaves s.leaf in
    length_push (set leaves s.leaf (side_up_to leaf (place d s.unknown) s.at)) (side_above leaf (place d s.unknown) s.at)
    ∙ ap (λ n. n + 1) (length-set leaves s.leaf (side_up_to leaf (place d s.unknown) s.at))

pub length_leaves : (d : ℕ) (leaves : List RoomBounds) (splits : List Branching) → length (leaves_from d leaves splits) ≡ length leaves + length splits
length_leaves d leaves [] = omega arith
length_leaves d leaves (s ∷ splits) =
    let one = length_divided d leaves s in
    let rest = length_leaves d (divided d leaves s) splits in omega (arith, one, rest)

-- ---- points
points_divided : (d : ℕ) (equations : List EquationContent) (leaves : List RoomBounds) (s : Branching) → IsLive d equations leaves s → sum_by points (divided d leaves s) ≡ sum_by points leaves
points_divided d equations leaves s h =
    let room = leaf_at leaves s.leaf in
    let up = side_up_to room (place d s.unknown) s.at in
    let above = side_above room (place d s.unknown) s.at in
    let one = sum_by_push points (set leaves s.leaf up) above in
    let two = sum_by-set points leaves s.leaf up [] h.leaf in
    let three = points_add_up room (place d s.unknown) s.at h.sides.low h.sides.high in
    one ∙ omega (arith, two, three)

points_leaves : (d : ℕ) (equations : List EquationContent) (leaves : List RoomBounds) (splits : List Branching) → EachIsLive d equations leaves splits → sum_by points (leaves_from d leaves splits) ≡ sum_by points leaves
points_leaves d equations leaves [] h = refl
points_leaves d equations leaves (s ∷ splits) h =
    points_leaves d equations (divided d leaves s) splits h.1 ∙ points_divided d equations leaves s h.0

length_below_points : (leaves : List RoomBounds) → length leaves ≤ sum_by points leaves
length_below_points [] = omega arith
length_below_points (room ∷ leaves) =
    let one = sum_by-cons points room leaves in
    let some = points_some room in
    let rest = length_below_points leaves in omega (arith, one, some, rest)

-- there are fewer splits than points
pub splits_below_points : (d : ℕ) (equations : List EquationContent) (room : RoomBounds) (splits : List Branching) → EachIsLive d equations (room ∷ []) splits → 1 + length splits ≤ points room
splits_below_points d equations room splits h =
    let count = length_leaves d (room ∷ []) splits in
    let whole = points_leaves d equations (room ∷ []) splits h in
    let one = sum_by-cons points room [] in
    let below = length_below_points (leaves_from d (room ∷ []) splits) in
    omega (arith, count, whole, one, below)

-- ---- one more split at the end
pub leaves_push : (d : ℕ) (leaves : List RoomBounds) (splits : List Branching) (s : Branching) → leaves_from d leaves (splits ++ s ∷ []) ≡ divided d (leaves_from d leaves splits) s
leaves_push d leaves [] s = refl
leaves_push d leaves (t ∷ splits) s = leaves_push d (divided d leaves t) splits s

pub live_push : (d : ℕ) (equations : List EquationContent) (leaves : List RoomBounds) (splits : List Branching) (s : Branching) → EachIsLive d equations leaves splits
    → IsLive d equations (leaves_from d leaves splits) s → EachIsLive d equations leaves (splits ++ s ∷ [])
live_push d equations leaves [] s a h = (h, tt)
live_push d equations leaves (t ∷ splits) s a h = (a.0, live_push d equations (divided d leaves t) splits s a.1 h)
