-- The least and the greatest sum bound the value of terms in a room.
use Rattle.std.proofs.Common.{◌≡◌, ℕ, ◌+◌, ◌≤◌, ◌*◌, ℤ, pos, negsuc, ◌*ℤ◌, ◌+ℤ◌, ◌≤ℤ◌, Bool, true, false, List, [], ◌∷◌, arith, refl}
use Rattle.std.proofs.Math.Nat.{mul-le-mul_left}
use Rattle.std.proofs.lemmas.Int.{ints}
use Rattle.std.specs.Int.Signed.{lt_z}
use borrow.Author.Differences.{up, down}
use Rattle.std.specs.Prelude.{if◌then◌else◌}
use Rattle.drg_whole.specs.Sums.{sum_from}
use Rattle.drg_linear.specs.Unknowns.{place}
use Rattle.drg_linear.specs.Equations.{Term, value_from}
use Rattle.drg_linear.specs.declared.bounds.End.TheVariants.{Least, Greatest}
use Rattle.drg_linear.specs.Rooms.{RoomBounds, InRoom, bounds_at, end_product, end_products}
use Rattle.drg_linear.specs.Laws.{SumsBoundValue}

-- a number times a lower and an upper number
pub times_up : (n : ℕ) (y z : ℤ) → y ≤ℤ z → (pos n *ℤ y) ≤ℤ (pos n *ℤ z)
times_up n y z h =
    let k : n * (up y + down z) ≤ n * (up z + down y) = mul-le-mul_left n (omega (arith, ints)) in
    omega (arith, ints)

pub times_down : (n : ℕ) (y z : ℤ) → y ≤ℤ z → (negsuc n *ℤ z) ≤ℤ (negsuc n *ℤ y)
times_down n y z h =
    let k : (n + 1) * (up y + down z) ≤ (n + 1) * (up z + down y) = mul-le-mul_left (n + 1) (omega (arith, ints)) in
    omega (arith, ints)

times_least : (c low high v : ℤ) (b : Bool) → b ≡ lt_z (pos 0) c → low ≤ℤ v → v ≤ℤ high → (c *ℤ (if b then low else high)) ≤ℤ (c *ℤ v)
times_least (pos n) low high v true e l h = times_up n low v l
times_least (pos n) low high v false e l h = let z : n ≡ 0 = omega (arith, ints) in rw z (omega (arith, ints))
times_least (negsuc n) low high v true e l h = cc
times_least (negsuc n) low high v false e l h = times_down n v high h

times_most : (c low high v : ℤ) (b : Bool) → b ≡ lt_z (pos 0) c → low ≤ℤ v → v ≤ℤ high → (c *ℤ v) ≤ℤ (c *ℤ (if b then high else low))
times_most (pos n) low high v true e l h = times_up n v high h
times_most (pos n) low high v false e l h = let z : n ≡ 0 = omega (arith, ints) in rw z (omega (arith, ints))
times_most (negsuc n) low high v true e l h = cc
times_most (negsuc n) low high v false e l h = times_down n low v l

term_least : (d : ℕ) (x : ℕ → ℤ) (room : RoomBounds) (t : Term) → InRoom x room → end_product d Least room t ≤ℤ (t.1 *ℤ x (place d t.0))
term_least d x room t h = times_least t.1 (bounds_at room (place d t.0)).0 (bounds_at room (place d t.0)).1 (x (place d t.0)) (lt_z (pos 0) t.1) refl (h.low (place d t.0)) (h.high (place d t.0))

term_most : (d : ℕ) (x : ℕ → ℤ) (room : RoomBounds) (t : Term) → InRoom x room → (t.1 *ℤ x (place d t.0)) ≤ℤ end_product d Greatest room t
term_most d x room t h = times_most t.1 (bounds_at room (place d t.0)).0 (bounds_at room (place d t.0)).1 (x (place d t.0)) (lt_z (pos 0) t.1) refl (h.low (place d t.0)) (h.high (place d t.0))

pub sum_least : (d : ℕ) (x : ℕ → ℤ) (room : RoomBounds) (terms : List Term) (s t : ℤ) → InRoom x room → s ≤ℤ t → sum_from s (end_products d Least room terms) ≤ℤ value_from d x t terms
sum_least d x room [] s t h le = le
sum_least d x room (e ∷ es) s t h le =
    let p = term_least d x room e h in
    sum_least d x room es (s +ℤ end_product d Least room e) (t +ℤ (e.1 *ℤ x (place d e.0))) h (omega (arith, ints))

pub sum_most : (d : ℕ) (x : ℕ → ℤ) (room : RoomBounds) (terms : List Term) (s t : ℤ) → InRoom x room → s ≤ℤ t → value_from d x s terms ≤ℤ sum_from t (end_products d Greatest room terms)
sum_most d x room [] s t h le = le
sum_most d x room (e ∷ es) s t h le =
    let p = term_most d x room e h in
    sum_most d x room es (s +ℤ (e.1 *ℤ x (place d e.0))) (t +ℤ end_product d Greatest room e) h (omega (arith, ints))

pub sums_bound_value : SumsBoundValue
sums_bound_value d room x terms h =
    (sum_least d x room terms (pos 0) (pos 0) h (omega (arith, ints)), sum_most d x room terms (pos 0) (pos 0) h (omega (arith, ints)))
