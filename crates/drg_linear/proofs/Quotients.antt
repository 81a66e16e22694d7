-- Quotients by divisors of either sign are rounded as they should be.
use Rattle.std.proofs.Common.{◌≡◌, ℕ, zero, suc, ℤ, pos, negsuc, ◌*ℤ◌, ◌≤ℤ◌, ◌<ℤ◌, arith, refl, Bool, true, false}
use Rattle.std.specs.Prelude.{neg_ℤ, if◌then◌else◌}
use Rattle.std.specs.Int.Signed.{lt_z}
use Rattle.std.proofs.lemmas.Int.{ints}
use Rattle.drg_whole.specs.Division.{floor_of, ceiling_of}
use Rattle.drg_whole.proofs.Floors.{floor_is, ceiling_is}
use Rattle.drg_linear.specs.Rounding.{ceiling, floor}
use Rattle.drg_linear.specs.Laws.{CeilingIsLeast, FloorIsGreatest}

chosen : (n : ℕ) (x y : ℤ) (b : Bool) → b ≡ lt_z (pos 0) (pos (suc n)) → (if b then x else y) ≡ x
chosen n x y true e = refl
chosen n x y false e = absurd (omega (arith, ints))

ceiling_up : (m : ℤ) (n : ℕ) → ceiling m (pos (suc n)) ≡ ceiling_of m (pos (suc n))
unfolding ceiling
ceiling_up m n = chosen n (ceiling_of m (pos (suc n))) (ceiling_of (neg_ℤ m) (negsuc n)) (lt_z (pos 0) (pos (suc n))) refl

ceiling_down : (m : ℤ) (n : ℕ) → ceiling m (negsuc n) ≡ ceiling_of (neg_ℤ m) (pos (suc n))
unfolding ceiling
ceiling_down m n = refl

floor_up : (m : ℤ) (n : ℕ) → floor m (pos (suc n)) ≡ floor_of m (pos (suc n))
unfolding floor
floor_up m n = chosen n (floor_of m (pos (suc n))) (floor_of (neg_ℤ m) (negsuc n)) (lt_z (pos 0) (pos (suc n))) refl

floor_down : (m : ℤ) (n : ℕ) → floor m (negsuc n) ≡ floor_of (neg_ℤ m) (pos (suc n))
unfolding floor
floor_down m n = refl

-- both sides turned
turned_up : (n : ℕ) (m z : ℤ) → (negsuc n *ℤ z) ≤ℤ m → neg_ℤ m ≤ℤ (pos (suc n) *ℤ z)
turned_up n m z h = omega (arith, ints)

turned_down : (n : ℕ) (m z : ℤ) → m ≤ℤ (negsuc n *ℤ z) → (pos (suc n) *ℤ z) ≤ℤ neg_ℤ m
turned_down n m z h = omega (arith, ints)

back_up : (n : ℕ) (m z : ℤ) → neg_ℤ m ≤ℤ (pos (suc n) *ℤ z) → (negsuc n *ℤ z) ≤ℤ m
back_up n m z h = omega (arith, ints)

back_down : (n : ℕ) (m z : ℤ) → (pos (suc n) *ℤ z) ≤ℤ neg_ℤ m → m ≤ℤ (negsuc n *ℤ z)
back_down n m z h = omega (arith, ints)

positive : (n : ℕ) → pos 0 <ℤ pos (suc n)
positive n = omega (arith, ints)

negative : (n : ℕ) → negsuc n <ℤ pos 0
negative n = omega (arith, ints)

not_negative : (n : ℕ) → pos (suc n) <ℤ pos 0 → ⊥
not_negative n h = omega (arith, ints)

not_positive : (n : ℕ) → pos 0 <ℤ negsuc n → ⊥
not_positive n h = omega (arith, ints)

pub ceiling_is_least : CeilingIsLeast
ceiling_is_least m (pos zero) h = absurd (h refl)
ceiling_is_least m (pos (suc n)) h =
    let q = ceiling_is m (pos (suc n)) (positive n) in
    rw (ceiling_up m n) ((λ p. q.above, λ p. absurd (not_negative n p)), λ z b. q.least z (b.0 (positive n)))
ceiling_is_least m (negsuc n) h =
    let q = ceiling_is (neg_ℤ m) (pos (suc n)) (positive n) in
    rw (ceiling_down m n) (
      (λ p. absurd (not_positive n p), λ p. back_up n m (ceiling_of (neg_ℤ m) (pos (suc n))) q.above),
      λ z b. q.least z (turned_up n m z (b.1 (negative n))),
    )

pub floor_is_greatest : FloorIsGreatest
floor_is_greatest m (pos zero) h = absurd (h refl)
floor_is_greatest m (pos (suc n)) h =
    let q = floor_is m (pos (suc n)) (positive n) in
    rw (floor_up m n) ((λ p. q.below, λ p. absurd (not_negative n p)), λ z b. q.greatest z (b.0 (positive n)))
floor_is_greatest m (negsuc n) h =
    let q = floor_is (neg_ℤ m) (pos (suc n)) (positive n) in
    rw (floor_down m n) (
      (λ p. absurd (not_positive n p), λ p. back_down n m (floor_of (neg_ℤ m) (pos (suc n))) q.below),
      λ z b. q.greatest z (turned_down n m z (b.1 (negative n))),
    )
