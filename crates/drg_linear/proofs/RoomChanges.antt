-- Rooms whose bounds change at one place.
use Rattle.std.proofs.Common.{◌≡◌, ℕ, zero, suc, ◌<◌, ◌≤◌, ◌+◌, ◌*◌, ℤ, pos, negsuc, ◌≤ℤ◌, true, List, [], ◌∷◌, length, refl, arith, ap, inl, inr}
use Rattle.std.specs.Prelude.{◌⊎◌, ◌&&◌, slice_set, unsigned_abs}
use Rattle.std.specs.Int.Signed.{le_z}
use Rattle.std.proofs.Math.Nat.{mul-le-mul_left}
use Rattle.std.proofs.lemmas.Int.{ints}
use Rattle.drg_algebra.proofs.Tests.{both, and-in}
use Rattle.drg_linear.specs.Unknowns.{place}
use Rattle.drg_linear.specs.Equations.{Term}
use Rattle.drg_linear.specs.Rooms.{RoomBounds, RoomContent, Bounds, IsRoom, bounds_at, are_ordered}
use Rattle.drg_linear.specs.Systems.{SystemContent, IsSystem, weight}
use Rattle.drg_linear.proofs.Holding.{low_at}

pub bounds_set : (room : RoomBounds) (y k : ℕ) (b : Bounds) → (bounds_at (slice_set room y b) k ≡ bounds_at room k) ⊎ ((k ≡ y) × (bounds_at (slice_set room y b) k ≡ b))
bounds_set [] y k b = inl refl
bounds_set (c ∷ room) zero zero b = inr (refl, refl)
bounds_set (c ∷ room) zero (suc k) b = inl refl
bounds_set (c ∷ room) (suc y) zero b = inl refl
bounds_set (c ∷ room) (suc y) (suc k) b = elim (bounds_set room y k b) [ inl e ↦ inl e | inr p ↦ inr (ap suc p.0, p.1) ]

-- ---- a room stays one
set_length : (room : RoomBounds) (y : ℕ) (b : Bounds) → length (slice_set room y b) ≡ length room
set_length [] y b = refl
set_length (c ∷ room) zero b = refl
set_length (c ∷ room) (suc y) b = ap suc (set_length room y b)

in_order : (low high : ℤ) → pos 0 ≤ℤ low → low ≤ℤ high → (le_z (pos 0) low && le_z low high) ≡ true
in_order low high l h = and-in (le_z (pos 0) low) (le_z low high) (yes_le (pos 0) low l) (yes_le low high h)
  where
    yes_le : (x y : ℤ) → x ≤ℤ y → le_z x y ≡ true
    yes_le x y h = grind (arith, ints)

set_ordered : (room : RoomBounds) (y : ℕ) (b : Bounds) → are_ordered room ≡ true → pos 0 ≤ℤ b.0 → b.0 ≤ℤ b.1 → are_ordered (slice_set room y b) ≡ true
set_ordered [] y b h l o = refl
set_ordered (c ∷ room) zero b h l o = and-in (le_z (pos 0) b.0 && le_z b.0 b.1) (are_ordered room) (in_order b.0 b.1 l o) (both (le_z (pos 0) c.0 && le_z c.0 c.1) (are_ordered room) h).1
set_ordered (c ∷ room) (suc y) b h l o =
    let s = both (le_z (pos 0) c.0 && le_z c.0 c.1) (are_ordered room) h in
    and-in (le_z (pos 0) c.0 && le_z c.0 c.1) (are_ordered (slice_set room y b)) s.0 (set_ordered room y b s.1 l o)

pub room_kept : (room : RoomContent) (y : ℕ) (b : Bounds) → IsRoom room → pos 0 ≤ℤ b.0 → b.0 ≤ℤ b.1 → IsRoom (record room { bounds = slice_set room.bounds y b })
room_kept room y b r l o = record {
  d = r.d;
  each = rw (set_length room.bounds y b) r.each;
  ordered = set_ordered room.bounds y b r.ordered l o;
}

-- ---- what fits over a room fits over one within it
pub not_negative : (room : RoomContent) (y : ℕ) (low : ℤ) → IsRoom room → (bounds_at room.bounds y).0 ≤ℤ low → pos 0 ≤ℤ low
not_negative room y low r h = let l = low_at room.bounds y r.ordered in omega (arith, ints)

abs_le : (x y : ℤ) → pos 0 ≤ℤ x → x ≤ℤ y → unsigned_abs x ≤ unsigned_abs y
abs_le (pos x) (pos y) l h = omega (arith, ints)
abs_le (pos x) (negsuc y) l h = absurd (omega (arith, ints))
abs_le (negsuc x) y l h = absurd (omega (arith, ints))

high_set : (room : RoomBounds) (y k : ℕ) (b : Bounds) → unsigned_abs b.1 ≤ unsigned_abs (bounds_at room y).1 → unsigned_abs (bounds_at (slice_set room y b) k).1 ≤ unsigned_abs (bounds_at room k).1
high_set room y k b h =
    elim (bounds_set room y k b) [
      | inl e ↦ rw e (omega arith)
      | inr p ↦ rw p.1 (rw p.0 h)
    ]

two_sums : (x x' w w' : ℕ) → x' ≤ x → w' ≤ w → x' + w' ≤ x + w
two_sums x x' w w' h k = omega (arith, h, k)

weight_set : (d : ℕ) (room : RoomBounds) (y : ℕ) (b : Bounds) (terms : List Term) → unsigned_abs b.1 ≤ unsigned_abs (bounds_at room y).1 → weight d (slice_set room y b) terms ≤ weight d room terms
weight_set d room y b [] h = omega arith
weight_set d room y b (t ∷ ts) h =
    let k = place d t.0 in
    two_sums (unsigned_abs t.1 * unsigned_abs (bounds_at room k).1) (unsigned_abs t.1 * unsigned_abs (bounds_at (slice_set room y b) k).1) (weight d room ts) (weight d (slice_set room y b) ts)
    (mul-le-mul_left (unsigned_abs t.1) (high_set room y k b h)) (weight_set d room y b ts h)

less_weight : (w w' r m : ℕ) → w' ≤ w → w + r < m → w' + r < m
less_weight w w' r m h k = omega (arith, h, k)

pub system_kept : (s : SystemContent) (y : ℕ) (b : Bounds) → IsSystem s → pos 0 ≤ℤ b.0 → b.0 ≤ℤ b.1 → b.1 ≤ℤ (bounds_at s.room.bounds y).1
    → IsSystem (record s { room = record s.room { bounds = slice_set s.room.bounds y b } })
system_kept s y b i l o h = record {
  named = i.named;
  fit = λ k e in_list.
      let f = i.fit k e in_list in
      record {
        unknowns = f.unknowns;
        fits = less_weight _ _ _ _ (weight_set s.room.d s.room.bounds y b _ (abs_le b.1 (bounds_at s.room.bounds y).1 (through b.0 b.1 l o) h)) f.fits;
      };
}
  where
    through : (x y : ℤ) → pos 0 ≤ℤ x → x ≤ℤ y → pos 0 ≤ℤ y
    through x y l o = omega (arith, ints)
