-- The sizes of an array, and its number of vertices, are above 0, whether they are whole or not.
use Rattle.std.proofs.Common.{ℕ, zero, suc, ◌≤◌, arith, inl, pos}
use Rattle.std.specs.Prelude.{◌<ℤ◌}
use Rattle.std.proofs.lemmas.Int.{ints}
use Rattle.drg_algebra.specs.Rational.{rational_numbers}
use Rattle.drg_algebra.specs.Order.{IsAbove}
use Rattle.drg_algebra.proofs.NumberOrder.{rationals_ordered, sign_of_whole, sign_of_ratio}
use Rattle.drg_algebra.proofs.Ordered.{ordered_ring_laws_hold}
use Rattle.drg_array.specs.Entries.{Entries, IsArray, diameter, b_at, c_at}
use Rattle.drg_array.specs.Numbers.{size, vertex_count}
use Rattle.drg_array.proofs.EntryLemmas.{b-positive, c-positive}

some : (n : ℕ) → 1 ≤ n → pos 0 <ℤ pos n
some n h = omega (arith, ints, h)

pub size_above : (a : Entries) → IsArray a → (i : ℕ) → i ≤ diameter a → IsAbove (size a i)
size_above a array zero h = (sign_of_whole (pos 1)).1 (some 1 (omega arith))
size_above a array (suc i) h =
    let before = size_above a array i (omega (arith, h)) in
    let b = (sign_of_whole (pos (b_at a i))).1 (some (b_at a i) (b-positive a i array (omega (arith, h)))) in
    let c = (sign_of_ratio (pos 1) (pos (c_at a (suc i))) (some (c_at a (suc i)) (c-positive a i array h))).1 (some 1 (omega arith)) in
    rationals_ordered.times _ _ c (rationals_ordered.times _ _ before b)

pub count_above : (a : Entries) → IsArray a → IsAbove (vertex_count a)
count_above a array =
    (ordered_ring_laws_hold rational_numbers IsAbove rationals_ordered).sum (diameter a) (size a)
    (size_above a array zero (omega arith))
    (λ j h. inl (size_above a array (suc j) (omega (arith, h))))
