-- Floors and ceilings.
use Rattle.std.proofs.Common.{◌≡◌, ℕ, zero, suc, ◌%◌, ◌<◌, refl, arith}
use Rattle.std.specs.Prelude.{ℤ, pos, negsuc, neg_ℤ, ◌-◌, ◌+ℤ◌, ◌*ℤ◌, ◌≤ℤ◌, ◌<ℤ◌}
use Rattle.std.proofs.lemmas.Int.{ints, by_lt_z}
use Rattle.drg_algebra.specs.Ring.{one, ◌⊕◌, ◌⊗◌, neg}
use Rattle.drg_algebra.specs.Integer.{integers, ring2, ring3}
use Rattle.drg_whole.specs.Division.{IsFloor, IsCeiling, floor_of, ceiling_of}

not_negative : (m : ℕ) (k : ℤ) → pos 0 ≤ℤ k → pos 0 ≤ℤ (pos m *ℤ k)
not_negative m (pos k) h = omega (arith, ints)
not_negative m (negsuc k) h = absurd (omega (arith, ints))

rest_of : (m : ℕ) (n : ℤ) → 0 < m → (r : ℕ) × (r < m) × (n ≡ pos r +ℤ pos m *ℤ floor_of n (pos m))
rest_of (suc m) (pos n) h = (n % suc m, omega arith, omega (arith, ints))
rest_of (suc m) (negsuc n) h = (suc m - 1 - n % suc m, omega arith, omega (arith, ints))
rest_of zero n h = absurd (omega arith)

floor_is_at : (m : ℕ) (n : ℤ) → 0 < m → IsFloor n (pos m) (floor_of n (pos m))
floor_is_at m n h =
    let (r, small, parts) = rest_of m n h in
    let q = floor_of n (pos m) in
    record {
      below = omega (arith, ints, parts);
      greatest = λ k less. by_lt_z q k
          (λ above.
          let more = k +ℤ neg_ℤ q +ℤ neg_ℤ (pos 1) in
          let some = not_negative m more (omega (arith, ints, above)) in
          let is : pos m *ℤ more ≡ pos m *ℤ k +ℤ neg_ℤ (pos m *ℤ q) +ℤ neg_ℤ (pos m) =
          ring3 integers (λ d k q. d ⊗ (k ⊕ neg q ⊕ neg one)) (λ d k q. d ⊗ k ⊕ neg (d ⊗ q) ⊕ neg d) refl (pos m) k q in
          absurd (omega (arith, ints, parts, some, is, less, small)))
          (λ h. h);
    }

pub floor_is : (n d : ℤ) → pos 0 <ℤ d → IsFloor n d (floor_of n d)
floor_is n (pos m) h = floor_is_at m n (omega (arith, ints))
floor_is n (negsuc m) h = absurd (omega (arith, ints))

pub ceiling_is : (n d : ℤ) → pos 0 <ℤ d → IsCeiling n d (ceiling_of n d)
ceiling_is n d h =
    let f = floor_is (neg_ℤ n) d h in
    let q = floor_of (neg_ℤ n) d in
    let turned : (m : ℤ) → d *ℤ neg_ℤ m ≡ neg_ℤ (d *ℤ m) = λ m. ring2 integers (λ d m. d ⊗ neg m) (λ d m. neg (d ⊗ m)) refl d m in
    let below = f.below in
    record {
      above = omega (arith, ints, turned q, below);
      least = λ m less.
          let at = f.greatest (neg_ℤ m) (omega (arith, ints, turned m, less)) in
          omega (arith, ints, at);
    }
