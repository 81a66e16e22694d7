-- Whole rationals of small magnitude: their sums and products, and when these are in range.
use Rattle.std.proofs.Common.{◌≡◌, ℕ, zero, suc, ◌+◌, ◌*◌, ◌≤◌, ◌<◌, List, [], ◌∷◌, length, refl, sym, ap, ap₂, subst, ◌∙◌, arith, ◌⊎◌, inl, inr}
use Rattle.std.specs.Prelude.{ℤ, pos, neg_ℤ, ◌+ℤ◌, ◌*ℤ◌, ◌^◌, unsigned_abs, ⊤}
use Rattle.std.proofs.Math.Nat.{mul-le-mul, mul-le-mul_left, mul-le-mul_right}
use Rattle.std.proofs.lemmas.Bool.{cases_lt}
use Rattle.std.proofs.lemmas.Int.{ints, unsigned_abs-mul}
use Rattle.drg_algebra.specs.Rational.{ℚ, whole, plus, times, minus, rationals}
use Rattle.drg_algebra.proofs.Maps.{whole_map}
use Rattle.drg_intersection.specs.Fits.{IsInRange, SumFits}

-- The rational is whole, and of magnitude at most m.
pub record IsSmall (m : ℕ) (x : ℚ) : Type 0 where
  pub number : ℤ
  pub is : x ≡ whole number
  pub small : unsigned_abs number ≤ m

pub small_natural : (m n : ℕ) (x : ℚ) → x ≡ whole (pos n) → n ≤ m → IsSmall m x
small_natural m n x e h = record { number = pos n; is = e; small = h }

pub small_more : (m n : ℕ) (x : ℚ) → m ≤ n → IsSmall m x → IsSmall n x
small_more m n x h s = let l = s.small in record { number = s.number; is = s.is; small = omega arith }

abs_sum : (y z : ℤ) → unsigned_abs (y +ℤ z) ≤ unsigned_abs y + unsigned_abs z
abs_sum y z = omega (arith, ints)

abs_minus : (z : ℤ) → unsigned_abs (neg_ℤ z) ≤ unsigned_abs z
abs_minus z = omega (arith, ints)

pub small_sum : (m n : ℕ) (x y : ℚ) → IsSmall m x → IsSmall n y → IsSmall (m + n) (plus x y)
small_sum m n x y s t =
    let a = abs_sum s.number t.number in
    let l = s.small in
    let r = t.small in
    record {
      number = s.number +ℤ t.number;
      is = ap₂ plus s.is t.is ∙ sym (whole_map.plus s.number t.number);
      small = omega arith;
    }

pub small_minus : (m : ℕ) (x : ℚ) → IsSmall m x → IsSmall m (minus x)
small_minus m x s =
    let a = abs_minus s.number in
    let l = s.small in
    record { number = neg_ℤ s.number; is = ap minus s.is ∙ sym (whole_map.minus s.number); small = omega arith }

pub small_product : (n m : ℕ) (z : ℤ) (x : ℚ) → unsigned_abs z ≤ n → IsSmall m x → IsSmall (n * m) (times (whole z) x)
small_product n m z x h s = record {
  number = z *ℤ s.number;
  is = ap (times (whole z)) s.is ∙ sym (whole_map.times z s.number);
  small = subst (λ t. t ≤ n * m) (sym (unsigned_abs-mul z s.number)) (mul-le-mul h s.small);
}

pub small_product_right : (n m : ℕ) (z : ℤ) (x : ℚ) → unsigned_abs z ≤ n → IsSmall m x → IsSmall (n * m) (times x (whole z))
small_product_right n m z x h s = subst (IsSmall (n * m)) (rationals.times_comm (whole z) x) (small_product n m z x h s)

-- what a factor from 1 on is multiplied by isn't above the product
pub small_factor : (m c : ℕ) (z w : ℤ) → 1 ≤ c → pos c *ℤ z ≡ w → unsigned_abs w ≤ m → unsigned_abs z ≤ m
small_factor m c z w some e h =
    let sizes : c * unsigned_abs z ≡ unsigned_abs w = sym (unsigned_abs-mul (pos c) z) ∙ ap unsigned_abs e in
    let more : unsigned_abs z * 1 ≤ unsigned_abs z * c = mul-le-mul_left (unsigned_abs z) some in
    omega arith

pub small_in_range : (m : ℕ) (x : ℚ) → m < 2 ^ 127 → IsSmall m x → IsInRange x
small_in_range m x h s = let l = s.small in (s.number, s.is, omega arith)

abbrev pub AllSmall : ℕ → List ℚ → Type 0
AllSmall m [] = ⊤
AllSmall m (x ∷ xs) = IsSmall m x × AllSmall m xs

pub sums_fit : (s m : ℕ) (sum : ℚ) (xs : List ℚ) → s + length xs * m < 2 ^ 127 → IsSmall s sum → AllSmall m xs → SumFits sum xs
sums_fit s m sum [] h t all = tt
sums_fit s m sum (x ∷ xs) h t all =
    let long : s + m + length xs * m ≡ s + suc (length xs) * m = omega arith in
    let next = small_sum s m sum x t all.0 in (
      small_in_range m x (omega arith) all.0,
      small_in_range (s + m) (plus sum x) (omega arith) next,
      sums_fit (s + m) m (plus sum x) xs (omega arith) next all.1,
    )

-- a number up to the next one is up to this one, or the next one
pub up_to : (i j : ℕ) → i ≤ suc j → (i ≤ j) ⊎ (i ≡ suc j)
up_to i j h = elim (cases_lt i (suc j)) [
  | inl less ↦ inl (omega arith)
  | inr more ↦ inr (omega arith)
]

-- m to the power i
abbrev pub power : ℕ → ℕ → ℕ
power m zero = 1
power m (suc i) = m * power m i

pub power_some : (m i : ℕ) → 1 ≤ m → 1 ≤ power m i
power_some m zero h = omega arith
power_some m (suc i) h = let p : 1 * 1 ≤ m * power m i = mul-le-mul h (power_some m i h) in omega arith

pub power_next : (m i : ℕ) → 1 ≤ m → power m i ≤ power m (suc i)
power_next m i h = let p : 1 * power m i ≤ m * power m i = mul-le-mul_right (power m i) h in omega arith

pub power_later : (m i j : ℕ) → 1 ≤ m → i ≤ j → power m i ≤ power m j
power_later m i zero h l = let e : i ≡ 0 = omega arith in subst (λ t. power m t ≤ 1) (sym e) (omega arith)
power_later m i (suc j) h l = elim (up_to i j l) [
  | inl less ↦ (let a = power_later m i j h less in let b = power_next m j h in omega arith)
  | inr same ↦ subst (λ t. power m t ≤ power m (suc j)) (sym same) (omega arith)
]
