-- Numbers in a room: the terms of an equation that fits stay in range, and loops over places, terms and equations.
use Rattle.std.proofs.Common.{◌≡◌, ℕ, zero, suc, ◌<◌, ◌≤◌, ◌+◌, ◌*◌, ℤ, pos, negsuc, ◌*ℤ◌, ◌+ℤ◌, ◌≤ℤ◌, true, List, [], ◌∷◌, drop, refl, arith}
use Rattle.std.specs.Prelude.{◌&&◌, ◌^◌, map, unsigned_abs}
use Rattle.std.proofs.Math.Nat.{mul-le-mul_left}
use Rattle.std.proofs.lemmas.Int.{ints, unsigned_abs-mul}
use Rattle.std.specs.Int.Signed.{le_z}
use Rattle.drg_algebra.proofs.Tests.{both}
use Rattle.drg_whole.specs.Sums.{sum_fits_from}
use Rattle.drg_whole.proofs.Ranges.{fits}
use Rattle.drg_linear.specs.Unknowns.{place}
use Rattle.drg_linear.specs.Equations.{Term, EquationContent, value_from, MeetsAll}
use Rattle.drg_linear.specs.Assignments.{number_at, term_value, value_at, value_fits}
use Rattle.drg_linear.specs.Rooms.{RoomBounds, RoomContent, IsRoom, InRoom, bounds_at, are_ordered}
use Rattle.drg_linear.specs.Systems.{FitsOver, weight}

-- ---- places
pub record WithinAt (room : RoomBounds) (values : List ℤ) (k : ℕ) : Type 0 where
  pub low : (bounds_at room k).0 ≤ℤ number_at values k
  pub high : number_at values k ≤ℤ (bounds_at room k).1

-- ---- terms
pub record ValueRemains (d : ℕ) (values : List ℤ) (terms : List Term) (so_far : ℤ) (i : ℕ) : Type 0 where
  pub fits : value_fits d values terms ≡ sum_fits_from so_far (map (term_value d values) (drop i terms))
  pub value : value_at d values terms ≡ value_from d (number_at values) so_far (drop i terms)

-- ---- equations
pub record MeetsFrom (d : ℕ) (values : List ℤ) (equations : List EquationContent) (i : ℕ) : Type 0 where
  pub out : MeetsAll d (number_at values) equations → MeetsAll d (number_at values) (drop i equations)
  pub back : MeetsAll d (number_at values) (drop i equations) → MeetsAll d (number_at values) equations

-- ---- what fits over a room fits at numbers in it
pub low_at : (room : RoomBounds) (k : ℕ) → are_ordered room ≡ true → pos 0 ≤ℤ (bounds_at room k).0
low_at [] k h = omega (arith, ints)
low_at (b ∷ bs) zero h =
    let e = (both (le_z (pos 0) b.0) (le_z b.0 b.1) (both (le_z (pos 0) b.0 && le_z b.0 b.1) (are_ordered bs) h).0).0 in
    omega (arith, ints)
low_at (b ∷ bs) (suc k) h = low_at bs k (both (le_z (pos 0) b.0 && le_z b.0 b.1) (are_ordered bs) h).1

abs_at_most : (x high : ℤ) → pos 0 ≤ℤ x → x ≤ℤ high → unsigned_abs x ≤ unsigned_abs high
abs_at_most (pos x) (pos h) l g = omega (arith, ints)
abs_at_most (pos x) (negsuc h) l g = absurd (omega (arith, ints))
abs_at_most (negsuc x) h l g = absurd (omega (arith, ints))

product_at_most : (a x high : ℤ) → pos 0 ≤ℤ x → x ≤ℤ high → unsigned_abs (a *ℤ x) ≤ unsigned_abs a * unsigned_abs high
product_at_most a x high l g = rw (unsigned_abs-mul a x) (mul-le-mul_left (unsigned_abs a) (abs_at_most x high l g))

abs_sum : (x y : ℤ) → unsigned_abs (x +ℤ y) ≤ unsigned_abs x + unsigned_abs y
abs_sum (pos x) (pos y) = omega (arith, ints)
abs_sum (pos x) (negsuc y) = omega (arith, ints)
abs_sum (negsuc x) (pos y) = omega (arith, ints)
abs_sum (negsuc x) (negsuc y) = omega (arith, ints)

in-sum : (m t p s w w' r : ℕ) → p ≤ w → s ≤ t + p → t + (w + w') + r < m → s + w' + r < m
in-sum m t p s w w' r a b c = omega (arith, a, b, c)

in-product : (m t p w w' r : ℕ) → p ≤ w → t + (w + w') + r < m → p < m
in-product m t p w w' r a c = omega (arith, a, c)

in-total : (m s w' r : ℕ) → s + w' + r < m → s < m
in-total m s w' r c = omega (arith, c)

sums_fit : (d : ℕ) (room : RoomBounds) (values : List ℤ) (terms : List Term) (total : ℤ) (r : ℕ) → are_ordered room ≡ true → InRoom (number_at values) room
    → unsigned_abs total + weight d room terms + r < 2 ^ 127 → sum_fits_from total (map (term_value d values) terms) ≡ true
sums_fit d room values [] total r o h w = refl
sums_fit d room values (t ∷ ts) total r o h w =
    let y = place d t.0 in
    let z = number_at values y in
    let l = low_at room y o in
    let lo = h.low y in
    let p = product_at_most t.1 z (bounds_at room y).1 (omega (arith, ints)) (h.high y) in
    let s = abs_sum total (t.1 *ℤ z) in
    let later = in-sum (2 ^ 127) (unsigned_abs total) (unsigned_abs (t.1 *ℤ z)) (unsigned_abs (total +ℤ t.1 *ℤ z)) (unsigned_abs t.1 * unsigned_abs (bounds_at room y).1) (weight d room ts) r p s w in
    rw (
      fits (t.1 *ℤ z) (in-product (2 ^ 127) (unsigned_abs total) (unsigned_abs (t.1 *ℤ z)) (unsigned_abs t.1 * unsigned_abs (bounds_at room y).1) (weight d room ts) r p w),
      fits (total +ℤ t.1 *ℤ z) (in-total (2 ^ 127) (unsigned_abs (total +ℤ t.1 *ℤ z)) (weight d room ts) r later),
    ) (sums_fit d room values ts (total +ℤ t.1 *ℤ z) r o h later)

from_zero : (m w r : ℕ) → w + r < m → unsigned_abs (pos 0) + w + r < m
from_zero m w r h = omega (arith, h)

-- an equation that fits over a room stays in range at numbers in the room
pub holds_in_range : (room : RoomContent) (values : List ℤ) (e : EquationContent) → IsRoom room → InRoom (number_at values) room.bounds → FitsOver room e → value_fits room.d values e.terms ≡ true
holds_in_range room values e r h f =
    sums_fit room.d room.bounds values e.terms (pos 0) (unsigned_abs e.right) r.ordered h (from_zero (2 ^ 127) (weight room.d room.bounds e.terms) (unsigned_abs e.right) f.fits)
