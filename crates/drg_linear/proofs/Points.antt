-- The product of the numbers of values, held at a greatest number.
use Rattle.std.proofs.Common.{◌≡◌, ℕ, zero, suc, ◌<◌, ◌≤◌, ◌+◌, ◌*◌, [], ◌∷◌, length, drop, get_or, refl, arith, add-one, inl, inr}
use Rattle.std.specs.Prelude.{min, ◌⊎◌}
use Rattle.std.proofs.Math.Seq.{drop-cons}
use Rattle.std.proofs.Math.Nat.{mul-le-mul_left}
use Rattle.std.proofs.lemmas.List.{drop_all}
use Rattle.drg_linear.specs.Rooms.{RoomBounds, Bounds, points, width}

-- what has been multiplied, times the points of the places from i on
pub record PointsRemain (m : ℕ) (bounds : RoomBounds) (so_far i : ℕ) : Type 0 where
  pub some : 1 ≤ so_far
  pub held : so_far ≤ m
  pub all : min (points bounds) m ≡ min (so_far * points (drop i bounds)) m

turned : (a q p : ℕ) → (a * q) * p ≡ q * (a * p)
turned a q p = omega arith

turned_in : (a n p : ℕ) → a * (n * p) ≡ n * (a * p)
turned_in a n p = omega arith

no_less : (x p : ℕ) → 1 ≤ p → x ≤ x * p
no_less x p h = let k : x * 1 ≤ x * p = mul-le-mul_left x h in omega (arith, k)

some_product : (x p : ℕ) → 1 ≤ x → 1 ≤ p → 1 ≤ x * p
some_product x p h k = let l = no_less x p k in omega (arith, l, h)

le_or : (x m : ℕ) → (x ≤ m) ⊎ (m ≤ x)
le_or zero m = inl (omega arith)
le_or (suc x) zero = inr (omega arith)
le_or (suc x) (suc m) = elim (le_or x m) [ inl l ↦ inl (omega (arith, l)) | inr g ↦ inr (omega (arith, g)) ]

held : (m x p : ℕ) → 1 ≤ p → min (x * p) m ≡ min (min x m * p) m
held m x p h =
    elim (le_or x m) [
      | inl l ↦ (let e : min x m ≡ x = omega (arith, l) in rw e refl)
      | inr g ↦ (let e : min x m ≡ m = omega (arith, g) in
          let f = no_less m p h in
          let k = no_less x p h in
          rw e (omega (arith, f, k, g)))
    ]

pub points_some : (bounds : RoomBounds) → 1 ≤ points bounds
points_some [] = omega arith
points_some (b ∷ bs) = some_product (width b + 1) (points bs) (omega arith) (points_some bs)

stepped : (m a n p : ℕ) → 1 ≤ a → 1 ≤ p → min (a * (n * p)) m ≡ min (min (a * min n m) m * p) m
stepped m a n p ha hp =
    let one = turned_in a n p in
    let two = turned a (min n m) p in
    let three = held m n (a * p) (some_product a p ha hp) in
    let four = held m (a * min n m) p hp in
    rw (one, three, ← two, ← four) refl

from_here : (bounds : RoomBounds) (i : ℕ) (b : Bounds) → i < length bounds → drop i bounds ≡ get_or bounds i b ∷ drop (i + 1) bounds
from_here bounds i b h = rw (add-one, drop-cons bounds i b)

held_some : (m n : ℕ) → 1 ≤ m → 1 ≤ n → 1 ≤ min n m
held_some m n h k = omega (arith, h, k)

at_most : (x m : ℕ) → min x m ≤ m
at_most x m = omega arith

pub points_on : (m : ℕ) (bounds : RoomBounds) (so_far i : ℕ) (b : Bounds) → 1 ≤ m → i < length bounds → PointsRemain m bounds so_far i
    → PointsRemain m bounds (min (so_far * min (width (get_or bounds i b) + 1) m) m) (i + 1)
points_on m bounds so_far i b hm h r =
    let n = width (get_or bounds i b) + 1 in
    record {
      held = at_most (so_far * min n m) m;
      some = held_some m (so_far * min n m) hm (some_product so_far (min n m) r.some (held_some m n hm (omega arith)));
      all = rw (r.all, from_here bounds i b h) (stepped m so_far n (points (drop (i + 1) bounds)) r.some (points_some (drop (i + 1) bounds)));
    }

pub points_all : (m : ℕ) (bounds : RoomBounds) (so_far i : ℕ) → length bounds ≤ i → PointsRemain m bounds so_far i → so_far ≡ min (points bounds) m
points_all m bounds so_far i h r =
    let e : drop i bounds ≡ [] = drop_all i bounds h in
    let a : min (points bounds) m ≡ min (so_far * 1) m = rw e at r.all in
    let k = r.held in
    omega (arith, a, k)
