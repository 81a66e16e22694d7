-- The integers as a commutative ring, and the signs of their products.
pub use Rattle.drg_algebra.specs.Ring.{ring2, ring3, ring4, ring5, ring6, ring7, ring8, ring10, ring12}
use Rattle.std.proofs.Common.{◌≡◌, ℕ, suc, ◌+◌, ◌*◌, ◌<◌, refl, ap, sym, arith, ℤ, pos, negsuc}
use Rattle.std.specs.Prelude.{◌+ℤ◌, ◌*ℤ◌, neg_ℤ, ◌<ℤ◌}
use Rattle.std.proofs.lemmas.Int.{ints}
use native.Mathlib.Nat.{eq_of_mul-eq-mul_right, mul-pos}
use borrow.Author.Differences.{up, down, product_is, sum_is_lem, same_in}
use Rattle.drg_algebra.specs.Ring.{IsRing, CommutativeRing}

times_assoc : (a b c : ℤ) → (a *ℤ b) *ℤ c ≡ a *ℤ (b *ℤ c)
times_assoc a b c =
    let ab = product_is a b in
    let bc = product_is b c in
    let by = λ (k : ℕ) (m n : ℕ) (e : m ≡ n). ap (λ x. x * k) e in
    let left = product_is (a *ℤ b) c in
    let right = product_is a (b *ℤ c) in
    let ups : up ((a *ℤ b) *ℤ c) ≡ up (a *ℤ (b *ℤ c)) =
    omega (arith, by (up c) _ _ ab.0, by (down c) _ _ ab.1, by (up a) _ _ bc.0, by (down a) _ _ bc.1) in
    let downs : down ((a *ℤ b) *ℤ c) ≡ down (a *ℤ (b *ℤ c)) =
    omega (arith, by (down c) _ _ ab.0, by (up c) _ _ ab.1, by (down a) _ _ bc.0, by (up a) _ _ bc.1) in
    same_in _ _ (λ i. ups i + sym downs i)

times_plus : (a b c : ℤ) → a *ℤ (b +ℤ c) ≡ a *ℤ b +ℤ a *ℤ c
times_plus a b c =
    let s = sum_is_lem b c in
    let by = λ (k : ℕ) (m n : ℕ) (e : m ≡ n). ap (λ x. x * k) e in
    let left = product_is a (b +ℤ c) in
    let ab = product_is a b in
    let ac = product_is a c in
    let right = sum_is_lem (a *ℤ b) (a *ℤ c) in
    same_in _ _ (omega (arith, by (up a) _ _ s, by (down a) _ _ s))

-- ---- the laws of a ring
pub integers : IsRing (pos 0) (pos 1) ◌+ℤ◌ ◌*ℤ◌ neg_ℤ
integers = record {
  plus_assoc = λ a b c. omega (arith, ints);
  plus_comm = λ a b. omega (arith, ints);
  plus_nil = λ a. omega (arith, ints);
  plus_minus = λ a. omega (arith, ints);
  times_assoc = times_assoc;
  times_comm = λ a b. omega (arith, ints);
  times_unit = λ a. omega (arith, ints);
  times_plus = times_plus;
}

abbrev pub whole_numbers : CommutativeRing
whole_numbers = record { Of = ℤ; nil = pos 0; unit = pos 1; plus = ◌+ℤ◌; times = ◌*ℤ◌; minus = neg_ℤ; laws = integers }

-- ---- order and products
above_is : (b : ℤ) → pos 0 <ℤ b → (down b ≡ 0) × (0 < up b)
above_is (pos n) h = (refl, omega (arith, ints))
above_is (negsuc n) h = absurd (omega (arith, ints))

-- a positive factor is cancelled
pub cancel_above : (x y d : ℤ) → pos 0 <ℤ d → x *ℤ d ≡ y *ℤ d → x ≡ y
cancel_above x y d h e =
    let (z, p) = above_is d h in
    let px = product_is x d in
    let py = product_is y d in
    let k1 : up (x *ℤ d) + down (y *ℤ d) ≡ up (y *ℤ d) + down (x *ℤ d) = omega (arith, ints) in
    let a1 : up x * down d ≡ 0 = rw z (omega arith) in
    let a2 : down x * down d ≡ 0 = rw z (omega arith) in
    let a3 : up y * down d ≡ 0 = rw z (omega arith) in
    let a4 : down y * down d ≡ 0 = rw z (omega arith) in
    same_in x y (eq_of_mul-eq-mul_right (up d) p (up x + down y) (up y + down x) (omega arith))

-- products of positive numbers are positive
pub above_times : (a b : ℤ) → pos 0 <ℤ a → pos 0 <ℤ b → pos 0 <ℤ (a *ℤ b)
above_times a b h k =
    let (za, pa) = above_is a h in
    let (zb, pb) = above_is b k in
    let p = product_is a b in
    let a1 : up a * down b ≡ 0 = rw zb (omega arith) in
    let a2 : down a * up b ≡ 0 = rw za (omega arith) in
    let a3 : 0 < up a * up b = mul-pos pa pb in
    omega (arith, ints)

pub suc_above : (k : ℕ) → pos 0 <ℤ pos (suc k)
suc_above k = omega (arith, ints)
