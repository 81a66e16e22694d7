-- The two sides of a split.
use Rattle.std.proofs.Common.{◌≡◌, ℕ, zero, suc, ◌+◌, ◌*◌, ◌<◌, ℤ, pos, negsuc, ◌+ℤ◌, ◌-ℤ◌, ◌≤ℤ◌, ◌<ℤ◌, [], ◌∷◌, refl, ap, arith, inl, inr}
use Rattle.std.specs.Prelude.{slice_set, unsigned_abs}
use Rattle.std.proofs.lemmas.Int.{ints}
use Rattle.drg_linear.specs.Rooms.{RoomBounds, RoomContent, Bounds, IsRoom, bounds_at, width, points, slack}
use Rattle.drg_linear.specs.Splits.{Divides, side_up_to, side_above}
use Rattle.drg_linear.proofs.Holding.{low_at}
use Rattle.drg_linear.proofs.RoomChanges.{bounds_set, room_kept}
use Rattle.drg_solver.specs.Parts.{IsPart}
use Rattle.drg_solver.specs.Leaves.{with_bounds}

abs_is : (z : ℤ) → pos 0 ≤ℤ z → pos (unsigned_abs z) ≡ z
abs_is (pos n) h = refl
abs_is (negsuc n) h = absurd (omega (arith, ints))

-- a range of numbers that is cut in two
pub widths_add : (l v h : ℤ) → l ≤ℤ v → v <ℤ h → (width (l, v) + 1) + (width (v +ℤ pos 1, h) + 1) ≡ width (l, h) + 1
widths_add l v h lv vh =
    let whole = abs_is (h -ℤ l) (omega (arith, ints)) in
    let left = abs_is (v -ℤ l) (omega (arith, ints)) in
    let right = abs_is (h -ℤ (v +ℤ pos 1)) (omega (arith, ints)) in
    omega (arith, ints, whole, left, right)

no_range : (v : ℤ) → pos 0 ≤ℤ v → v <ℤ pos 0 → ⊥
no_range v h k = omega (arith, ints)

pub slack_falls : (room : RoomBounds) (y : ℕ) (v : ℤ) → (bounds_at room y).0 ≤ℤ v → v <ℤ (bounds_at room y).1 → (slack (side_up_to room y v) < slack room) × (slack (side_above room y v) < slack room)
slack_falls [] y v l h = absurd (no_range v l h)
slack_falls (b ∷ bs) zero v l h =
    let e = widths_add b.0 v b.1 l h in (omega (arith, e), omega (arith, e))
slack_falls (b ∷ bs) (suc y) v l h =
    let rest = slack_falls bs y v l h in (omega (arith, rest.0), omega (arith, rest.1))

pub points_add_up : (room : RoomBounds) (y : ℕ) (v : ℤ) → (bounds_at room y).0 ≤ℤ v → v <ℤ (bounds_at room y).1 → points (side_up_to room y v) + points (side_above room y v) ≡ points room
points_add_up [] y v l h = absurd (no_range v l h)
points_add_up (b ∷ bs) zero v l h =
    let e = ap (λ n. n * points bs) (widths_add b.0 v b.1 l h) in omega (arith, e)
points_add_up (b ∷ bs) (suc y) v l h =
    let e = ap (λ n. (width b + 1) * n) (points_add_up bs y v l h) in omega (arith, e)

-- ---- sides are rooms within the room
through : (a b c : ℤ) → a ≤ℤ b → b ≤ℤ c → a ≤ℤ c
through a b c h k = omega (arith, ints)

below : (v h : ℤ) → v <ℤ h → v ≤ℤ h
below v h l = omega (arith, ints)

next : (v h : ℤ) → v <ℤ h → (v +ℤ pos 1) ≤ℤ h
next v h l = omega (arith, ints)

more : (l v : ℤ) → l ≤ℤ v → l ≤ℤ (v +ℤ pos 1)
more l v h = omega (arith, ints)

part_set : (whole room : RoomContent) (y : ℕ) (b : Bounds) → IsPart whole room → IsRoom (with_bounds room (slice_set room.bounds y b)) → (bounds_at room.bounds y).0 ≤ℤ b.0 → b.1 ≤ℤ (bounds_at room.bounds y).1 → IsPart whole (with_bounds room (slice_set room.bounds y b))
part_set whole room y b p r l h = record {
  is_room = r;
  d = p.d;
  low = λ k. elim (bounds_set room.bounds y k b) [
    | inl e ↦ rw e (p.low k)
    | inr q ↦ rw q.1 (rw q.0 (through (bounds_at whole.bounds y).0 (bounds_at room.bounds y).0 b.0 (p.low y) l))
  ];
  high = λ k. elim (bounds_set room.bounds y k b) [
    | inl e ↦ rw e (p.high k)
    | inr q ↦ rw q.1 (rw q.0 (through b.1 (bounds_at room.bounds y).1 (bounds_at whole.bounds y).1 h (p.high y)))
  ];
}

equal : (a b : ℤ) → a ≡ b → a ≤ℤ b
equal a b e = omega (arith, ints)

pub up_to_is_part : (whole room : RoomContent) (y : ℕ) (v : ℤ) → IsPart whole room → Divides room.bounds y v → IsPart whole (with_bounds room (side_up_to room.bounds y v))
up_to_is_part whole room y v p d =
    let r = p.is_room in
    part_set whole room y ((bounds_at room.bounds y).0, v) p (room_kept room y ((bounds_at room.bounds y).0, v) r (low_at room.bounds y r.ordered) d.low)
    (equal (bounds_at room.bounds y).0 (bounds_at room.bounds y).0 refl) (below v (bounds_at room.bounds y).1 d.high)

pub above_is_part : (whole room : RoomContent) (y : ℕ) (v : ℤ) → IsPart whole room → Divides room.bounds y v → IsPart whole (with_bounds room (side_above room.bounds y v))
above_is_part whole room y v p d =
    let r = p.is_room in
    let low = more (bounds_at room.bounds y).0 v d.low in
    part_set whole room y (v +ℤ pos 1, (bounds_at room.bounds y).1) p
    (room_kept room y (v +ℤ pos 1, (bounds_at room.bounds y).1) r (through (pos 0) (bounds_at room.bounds y).0 (v +ℤ pos 1) (low_at room.bounds y r.ordered) low) (next v (bounds_at room.bounds y).1 d.high))
    low (equal (bounds_at room.bounds y).1 (bounds_at room.bounds y).1 refl)

pub whole_is_part : (room : RoomContent) → IsRoom room → IsPart room room
whole_is_part room r = record {
  is_room = r;
  d = refl;
  low = λ k. equal (bounds_at room.bounds k).0 (bounds_at room.bounds k).0 refl;
  high = λ k. equal (bounds_at room.bounds k).1 (bounds_at room.bounds k).1 refl;
}
