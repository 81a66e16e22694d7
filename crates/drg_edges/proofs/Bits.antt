-- Bits of words, and how many are set.
use Rattle.std.proofs.Common.{◌≡◌, ℕ, zero, suc, ◌+◌, ◌*◌, ◌/◌, ◌%◌, ◌^◌, ◌<◌, refl, sym, ap, ap₂, subst, ◌∙◌, arith, inl, inr}
use Rattle.std.specs.Prelude.{◌==◌, ◌&&◌, ◌||◌, not, ◌⊎◌, bit_and, bit_or, bit_xor}
use Rattle.std.specs.Int.RustNames.{count_ones}
use lib.Count.{ones}
use Rattle.std.specs.Int.{bit_at}
use Rattle.std.proofs.lemmas.Nat.{pow_pos, or_shr, and_shr, xor_shr, or_mod, and_mod, xor_mod, ones_cat, mod-pow-add, mod_below}
use Rattle.drg_algebra.specs.Sums.{bit, count_of, below}
use Rattle.drg_algebra.proofs.Tests.{decided, same-number, differ}

-- a bit is 0 or 1
two : (n : ℕ) → (n % 2 ≡ 0) ⊎ (n % 2 ≡ 1)
two n =
    let small = mod_below n 2 (omega arith) in
    elim (decided (n % 2 == 0)) [
      | inl e ↦ inl (same-number (n % 2) 0 e)
      | inr e ↦ (let apart = differ (n % 2) 0 e in inr (omega (arith, small, apart)))
    ]

-- ---- words taken together bit by bit
module _ (a b k : ℕ) where
  or_bits : bit_at (bit_or a b) k ≡ bit_or (bit_at a k) (bit_at b k)
  or_bits = ap (λ n. n % 2) (or_shr a b k) ∙ or_mod (a / 2 ^ k) (b / 2 ^ k) 1

  and_bits : bit_at (bit_and a b) k ≡ bit_and (bit_at a k) (bit_at b k)
  and_bits = ap (λ n. n % 2) (and_shr a b k) ∙ and_mod (a / 2 ^ k) (b / 2 ^ k) 1

  xor_bits : bit_at (bit_xor a b) k ≡ bit_xor (bit_at a k) (bit_at b k)
  xor_bits = ap (λ n. n % 2) (xor_shr a b k) ∙ xor_mod (a / 2 ^ k) (b / 2 ^ k) 1

-- bits taken together as tests
or_two : (x y : ℕ) → (x ≡ 0) ⊎ (x ≡ 1) → (y ≡ 0) ⊎ (y ≡ 1) → (bit_or x y == 1) ≡ (x == 1 || y == 1)
or_two x y (inl a) (inl b) = subst (λ n. (bit_or n y == 1) ≡ (n == 1 || y == 1)) (sym a) (subst (λ m. (bit_or 0 m == 1) ≡ (0 == 1 || m == 1)) (sym b) refl)
or_two x y (inl a) (inr b) = subst (λ n. (bit_or n y == 1) ≡ (n == 1 || y == 1)) (sym a) (subst (λ m. (bit_or 0 m == 1) ≡ (0 == 1 || m == 1)) (sym b) refl)
or_two x y (inr a) (inl b) = subst (λ n. (bit_or n y == 1) ≡ (n == 1 || y == 1)) (sym a) (subst (λ m. (bit_or 1 m == 1) ≡ (1 == 1 || m == 1)) (sym b) refl)
or_two x y (inr a) (inr b) = subst (λ n. (bit_or n y == 1) ≡ (n == 1 || y == 1)) (sym a) (subst (λ m. (bit_or 1 m == 1) ≡ (1 == 1 || m == 1)) (sym b) refl)

and_two : (x y : ℕ) → (x ≡ 0) ⊎ (x ≡ 1) → (y ≡ 0) ⊎ (y ≡ 1) → (bit_and x y == 1) ≡ (x == 1 && y == 1)
and_two x y (inl a) (inl b) = subst (λ n. (bit_and n y == 1) ≡ (n == 1 && y == 1)) (sym a) (subst (λ m. (bit_and 0 m == 1) ≡ (0 == 1 && m == 1)) (sym b) refl)
and_two x y (inl a) (inr b) = subst (λ n. (bit_and n y == 1) ≡ (n == 1 && y == 1)) (sym a) (subst (λ m. (bit_and 0 m == 1) ≡ (0 == 1 && m == 1)) (sym b) refl)
and_two x y (inr a) (inl b) = subst (λ n. (bit_and n y == 1) ≡ (n == 1 && y == 1)) (sym a) (subst (λ m. (bit_and 1 m == 1) ≡ (1 == 1 && m == 1)) (sym b) refl)
and_two x y (inr a) (inr b) = subst (λ n. (bit_and n y == 1) ≡ (n == 1 && y == 1)) (sym a) (subst (λ m. (bit_and 1 m == 1) ≡ (1 == 1 && m == 1)) (sym b) refl)

pub or-bit : (a b k : ℕ) → (bit_at (bit_or a b) k == 1) ≡ (bit_at a k == 1 || bit_at b k == 1)
or-bit a b k = ap (λ n. n == 1) (or_bits a b k) ∙ or_two (bit_at a k) (bit_at b k) (two (a / 2 ^ k)) (two (b / 2 ^ k))

pub and-bit : (a b k : ℕ) → (bit_at (bit_and a b) k == 1) ≡ (bit_at a k == 1 && bit_at b k == 1)
and-bit a b k = ap (λ n. n == 1) (and_bits a b k) ∙ and_two (bit_at a k) (bit_at b k) (two (a / 2 ^ k)) (two (b / 2 ^ k))

-- the bits of a that aren't bits of b
pub less-bit : (a b k : ℕ) → (bit_at (bit_xor (bit_or a b) b) k == 1) ≡ (bit_at a k == 1 && not (bit_at b k == 1))
less-bit a b k =
    rw (xor_bits (bit_or a b) b k, or_bits a b k) (elim (two (a / 2 ^ k)) [
      | inl x ↦ elim (two (b / 2 ^ k)) [ inl y ↦ rw (x, y) refl | inr y ↦ rw (x, y) refl ]
      | inr x ↦ elim (two (b / 2 ^ k)) [ inl y ↦ rw (x, y) refl | inr y ↦ rw (x, y) refl ]
    ])

-- ---- how many bits are set
bit-is : (n : ℕ) → n % 2 ≡ bit (n % 2 == 1)
bit-is n = elim (two n) [ inl e ↦ rw e refl | inr e ↦ rw e refl ]

ones-bit : (n : ℕ) → count_ones (n % 2) ≡ bit (n % 2 == 1)
unfolding ones
ones-bit n = elim (two n) [ inl e ↦ rw e refl | inr e ↦ rw e refl ]

-- the low m bits
pub count-bits : (n m : ℕ) → count_of (λ k. bit_at n k == 1) (below m) ≡ count_ones (n % 2 ^ m)
unfolding ones
count-bits n zero = let none : n % 2 ^ 0 ≡ 0 = omega arith in rw none refl
count-bits n (suc m) =
    let low : n % 2 ^ m < 2 ^ m = mod_below n (2 ^ m) (pow_pos m) in
    let one : suc m ≡ 1 + m = omega arith in
    let split : n % 2 ^ (1 + m) ≡ (n / 2 ^ m % 2) * 2 ^ m + n % 2 ^ m = mod-pow-add n 1 m in
    let ones : count_ones ((n / 2 ^ m % 2) * 2 ^ m + n % 2 ^ m) ≡ count_ones (n / 2 ^ m % 2) + count_ones (n % 2 ^ m) = ones_cat m (n / 2 ^ m % 2) (n % 2 ^ m) low in
    ap₂ (λ x y. x + y) (sym (ones-bit (n / 2 ^ m))) (count-bits n m) ∙ (sym ones ∙ ap count_ones (sym split ∙ ap (λ j. n % 2 ^ j) (sym one)))
