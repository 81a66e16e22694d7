-- Residues of numbers, of sums and of products.
use Rattle.std.proofs.Common.{◌≡◌, ℕ, zero, suc, ◌+◌, ◌*◌, ◌/◌, ◌%◌, ◌<◌, refl, ap, sym, ◌∙◌, arith, ℤ, pos, negsuc}
use Rattle.std.specs.Prelude.{◌+ℤ◌, ◌*ℤ◌, unsigned_abs}
use Rattle.std.proofs.Math.Nat.{add-mul-mod_self_left}
use Rattle.std.proofs.lemmas.Int.{ints, int_rem_euclid_is}
use Rattle.drg_algebra.specs.Ring.{◌⊕◌, ◌⊗◌}
use Rattle.drg_algebra.specs.Integer.{integers, ring5}
use Rattle.drg_algebra.specs.Sums.{IsMultiple}
use Rattle.drg_whole.specs.Division.{Divides}
use Rattle.drg_whole.specs.Residues.{IsResidue, residue}

-- z differs from r by a multiple of m
pub record Differs (m : ℕ) (z : ℤ) (r : ℕ) : Type 0 where
  pub times : ℤ
  pub is : z ≡ pos r +ℤ pos m *ℤ times

pub of_residue : (m : ℕ) (z : ℤ) → 0 < m → Differs m z (residue m z)
of_residue (suc m) (pos a) h = record { times = pos (a / suc m); is = omega (arith, ints) }
of_residue (suc m) (negsuc a) h = record { times = negsuc (a / suc m); is = omega (arith, ints) }
of_residue zero z h = absurd (omega arith)

to_residue_at : (m r : ℕ) (z q : ℤ) → 0 < m → z ≡ pos r +ℤ pos m *ℤ q → residue m z ≡ r % m
to_residue_at m r z (pos q) h e = rw e (add-mul-mod_self_left r m q)
to_residue_at (suc m) r z (negsuc q) h e = ap unsigned_abs (int_rem_euclid_is z (pos (suc m)) (suc m) (suc q) r h refl (omega (arith, ints)))
to_residue_at zero r z (negsuc q) h e = absurd (omega arith)

to_residue : (m r : ℕ) (z : ℤ) → 0 < m → Differs m z r → residue m z ≡ r % m
to_residue m r z h d = to_residue_at m r z d.times h d.is

sum_differs : (m r s : ℕ) (x y : ℤ) → Differs m x r → Differs m y s → Differs m (x +ℤ y) (r + s)
sum_differs m r s x y d e = record {
  times = d.times +ℤ e.times;
  is = rw (d.is, e.is) (ring5 integers (λ a p b q n. (a ⊕ n ⊗ p) ⊕ (b ⊕ n ⊗ q)) (λ a p b q n. (a ⊕ b) ⊕ n ⊗ (p ⊕ q)) refl (pos r) d.times (pos s) e.times (pos m));
}

product_differs : (m r s : ℕ) (x y : ℤ) → Differs m x r → Differs m y s → Differs m (x *ℤ y) (r * s)
product_differs m r s x y d e = record {
  times = pos r *ℤ e.times +ℤ d.times *ℤ pos s +ℤ pos m *ℤ d.times *ℤ e.times;
  is = rw (d.is, e.is) (ring5 integers (λ a p b q n. (a ⊕ n ⊗ p) ⊗ (b ⊕ n ⊗ q)) (λ a p b q n. a ⊗ b ⊕ n ⊗ (a ⊗ q ⊕ p ⊗ b ⊕ n ⊗ p ⊗ q)) refl (pos r) d.times (pos s) e.times (pos m));
}

pub residue_sum : (m : ℕ) (x y : ℤ) → 0 < m → residue m (x +ℤ y) ≡ (residue m x + residue m y) % m
residue_sum m x y h = to_residue m (residue m x + residue m y) (x +ℤ y) h (sum_differs m _ _ x y (of_residue m x h) (of_residue m y h))

pub residue_product : (m : ℕ) (x y : ℤ) → 0 < m → residue m (x *ℤ y) ≡ (residue m x * residue m y) % m
residue_product m x y h = to_residue m (residue m x * residue m y) (x *ℤ y) h (product_differs m _ _ x y (of_residue m x h) (of_residue m y h))

pub residue_multiple : (m : ℕ) (z : ℤ) → 0 < m → IsMultiple m z → residue m z ≡ 0
residue_multiple m z h (q, e) = to_residue m 0 z h (record { times = q; is = e ∙ omega (arith, ints) }) ∙ omega arith

pub residue_below : (m : ℕ) (z : ℤ) → 0 < m → residue m z < m
residue_below (suc m) (pos a) h = omega arith
residue_below (suc m) (negsuc a) h = omega arith
residue_below zero z h = absurd (omega arith)

pub residue_is : (m : ℕ) (z : ℤ) → 0 < m → IsResidue m z (residue m z)
residue_is m z h = let d = of_residue m z h in record { below = residue_below m z h; times = d.times; is = d.is }

pub divided : (m : ℕ) (z : ℤ) → 0 < m → residue m z ≡ 0 → Divides (pos m) z
divided m z h e = let d = of_residue m z h in let is = d.is in (d.times, omega (arith, ints, is, e))

pub undivided : (m : ℕ) (z : ℤ) → 0 < m → Divides (pos m) z → residue m z ≡ 0
undivided m z h d = residue_multiple m z h (d.0, sym d.1)
