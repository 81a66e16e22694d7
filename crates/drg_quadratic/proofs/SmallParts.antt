-- Operations on rationals with small parts fit.
use Rattle.std.proofs.Common.{◌≡◌, ℕ, ◌+◌, ◌*◌, ◌^◌, ◌<◌, ◌≤◌, true, ◌&&◌, ap, ap₂, sym, ◌∙◌, arith, ℤ, pos}
use Rattle.std.specs.Prelude.{◌-ℤ◌, ◌*ℤ◌, ◌<ℤ◌, unsigned_abs, int_div}
use Rattle.std.proofs.lemmas.Bool.{lt-ltb}
use Rattle.std.proofs.lemmas.Int.{ints, unsigned_abs-mul}
use Rattle.std.proofs.lemmas.Nat.{mul-le}
use native.Mathlib.Nat.{div-le_self}
use Rattle.drg_algebra.specs.Rational.{ℚ, whole}
use Rattle.drg_algebra.specs.Ratio.{ratio, div_abs}
use Rattle.drg_algebra.specs.Reduced.{numerator, denominator, numerator_ratio, denominator_ratio, common, top, bottom, top_size, bottom_above, reduced, top_ratio}
use Rattle.drg_algebra.proofs.WholeParts.{numerator_whole, denominator_whole}
use Rattle.drg_whole.specs.Range.{in_range}
use Rattle.drg_fraction.specs.Work.{product_fits, difference_fits, fits_at}

pub record IsWithin (over_most under_most : ℕ) (q : ℚ) : Type 0 where
  pub over : unsigned_abs (numerator q) ≤ over_most
  pub under : unsigned_abs (denominator q) ≤ under_most

-- ---- ratios
bottom_size : (n d : ℤ) → unsigned_abs (bottom n d) ≤ unsigned_abs d
bottom_size n d = rw (div_abs d (common n d)) (div-le_self (unsigned_abs d) (common n d))

pub ratio_within : (n d : ℤ) (m k : ℕ) → pos 0 <ℤ d → unsigned_abs n ≤ m → unsigned_abs d ≤ k → IsWithin m k (ratio n d)
ratio_within n d m k h p q =
    let t : numerator (ratio n d) ≡ top n d = ap numerator (sym (top_ratio n d h)) ∙ numerator_ratio (top n d) (bottom n d) (bottom_above n d h) (reduced n d h) in
    let b : denominator (ratio n d) ≡ bottom n d = ap denominator (sym (top_ratio n d h)) ∙ denominator_ratio (top n d) (bottom n d) (bottom_above n d h) (reduced n d h) in
    record {
      over = rw t (omega (arith, top_size n d));
      under = rw b (omega (arith, bottom_size n d));
    }

pub whole_within : (n : ℤ) (m : ℕ) → unsigned_abs n ≤ m → IsWithin m 1 (whole n)
whole_within n m p = record { over = rw (numerator_whole n) p; under = rw (denominator_whole n) (omega arith) }

-- ---- work numbers
record IsAtMost (m : ℕ) (z : ℤ) : Type 0 where
  pub size : unsigned_abs z ≤ m

in_range_by : {z : ℤ} {m : ℕ} → IsAtMost m z → m < 2 ^ 127 → in_range z ≡ true
in_range_by h k = lt-ltb _ _ (omega (arith, h.size))

product_size : {x y : ℤ} {m n : ℕ} → IsAtMost m x → IsAtMost n y → IsAtMost (m * n) (x *ℤ y)
product_size {x = x} {y = y} {m = m} {n = n} h k = record { size = rw (unsigned_abs-mul x y) (mul-le (unsigned_abs x) (unsigned_abs y) m n h.size k.size) }

difference_size : {x y : ℤ} {m n : ℕ} → IsAtMost m x → IsAtMost n y → IsAtMost (m + n) (x -ℤ y)
difference_size {x = x} {y = y} h k = record { size = let p = h.size in let q = k.size in omega (arith, ints) }

over_size : {m k : ℕ} {q : ℚ} → IsWithin m k q → (g : ℕ) → IsAtMost m (int_div (numerator q) (pos g))
over_size {q = q} h g = record { size = rw (div_abs (numerator q) g) (omega (arith, h.over, div-le_self (unsigned_abs (numerator q)) g)) }

under_size : {m k : ℕ} {q : ℚ} → IsWithin m k q → (g : ℕ) → IsAtMost k (int_div (denominator q) (pos g))
under_size {q = q} h g = record { size = rw (div_abs (denominator q) g) (omega (arith, h.under, div-le_self (unsigned_abs (denominator q)) g)) }

pub small_product : (x y : ℚ) (m k n l : ℕ) → IsWithin m k x → IsWithin n l y → m * n < 2 ^ 127 → k * l < 2 ^ 127 → product_fits x y ≡ true
unfolding fits_at
small_product x y m k n l p q h j =
    let g = common (numerator x) (denominator y) in
    let f = common (numerator y) (denominator x) in
    let over = in_range_by (product_size (over_size p g) (over_size q f)) h in
    let under = in_range_by (product_size (under_size p f) (under_size q g)) j in
    ap₂ (λ a b. a && (b && true)) over under

pub small_difference : (x y : ℚ) (m k n l : ℕ) → IsWithin m k x → IsWithin n l y → m * l + n * k < 2 ^ 127 → k * l < 2 ^ 127 → difference_fits x y ≡ true
unfolding fits_at
small_difference x y m k n l p q h j =
    let g = common (denominator x) (denominator y) in
    let own : IsAtMost m (numerator x) = record { size = p.over } in
    let other : IsAtMost n (numerator y) = record { size = q.over } in
    let under : IsAtMost k (denominator x) = record { size = p.under } in
    let left = product_size own (under_size q g) in
    let right = product_size other (under_size p g) in
    let first = in_range_by left (omega arith) in
    let second = in_range_by right (omega arith) in
    let third = in_range_by (difference_size left right) h in
    let fourth = in_range_by (product_size under (under_size q g)) j in
    ap₂ (λ a b. a && b) first (ap₂ (λ a b. a && b) second (ap₂ (λ a b. a && (b && true)) third fourth))
