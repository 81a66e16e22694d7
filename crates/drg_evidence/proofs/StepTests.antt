-- What holds passes the replayer's tests.
use Rattle.std.proofs.Common.{◌≡◌, ℕ, ◌<◌, ◌≤◌, Bool, true, false, List, [], ◌∷◌, Ok, refl, arith, inl, inr}
use Rattle.std.specs.Prelude.{ℤ, pos, ◌+ℤ◌, ◌<ℤ◌, ◌≢◌, ◌⊎◌, ◌&&◌, ◌||◌, not, nat_eq, nat_le, nat_lt, int_lt}
use Rattle.std.specs.Ordering.{int_eq}
use Rattle.std.proofs.lemmas.Bool.Decides.{nat_tests, Decides-int_eq}
use Rattle.std.proofs.lemmas.Int.{ints}
use Rattle.drg_algebra.specs.Rational.{ℚ, whole}
use Rattle.drg_algebra.proofs.Tests.{decided, both}
use Rattle.drg_intersection.specs.Fits.{IsInRange}
use Rattle.drg_intersection.proofs.Ranges.{range_out}
use Rattle.drg_replay.specs.Steps.{Step, Holds, Fits, EachHolds, first_failure}
use Rattle.drg_whole.specs.Range.{in_range}
use Rattle.drg_whole.specs.Sums.{sum_from, sum_fits_from}

pub none_fails : (steps : List Step) → EachHolds steps → first_failure steps ≡ Ok tt
none_fails [] h = refl
none_fails (Holds condition ∷ steps) h = rw h.0 (none_fails steps h.1)
none_fails (Fits numbers ∷ steps) h = rw h.0 (none_fails steps h.1)

pub at_most : (m n : ℕ) → m ≤ n → nat_le m n ≡ true
at_most m n h = grind (arith, nat_tests)

pub less : (m n : ℕ) → m < n → nat_lt m n ≡ true
less m n h = grind (arith, nat_tests)

pub above : (m n : ℕ) → m < n → not (nat_le n m) ≡ true
above m n h = grind (arith, nat_tests)

pub other : (m n : ℕ) → m ≢ n → not (nat_eq m n) ≡ true
other m n h = grind (arith, nat_tests)

pub same_whole : (x y : ℤ) → x ≡ y → int_eq x y ≡ true
same_whole x y e = (Decides-int_eq x y).1 e

pub negative : (x : ℤ) → x <ℤ pos 0 → int_lt x (pos 0) ≡ true
negative x h = by (int_lt x (pos 0)) refl where
  by : (b : Bool) → int_lt x (pos 0) ≡ b → b ≡ true
  by true e = refl
  by false e = absurd (omega (arith, ints))

pub one : (a b : Bool) → (a ≡ true) ⊎ (b ≡ true) → (a || b) ≡ true
one true b h = refl
one false b (inl e) = cc
one false b (inr e) = e

-- ---- the range
pub in_the_range : (x : ℚ) (z : ℤ) → x ≡ whole z → IsInRange x → in_range z ≡ true
in_the_range x z e h = elim (decided (in_range z)) [ inl inside ↦ inside | inr outside ↦ absurd (range_out x z e outside h) ]

-- the last sum is in range
pub sum_in_range : (total : ℤ) (zs : List ℤ) → in_range total ≡ true → sum_fits_from total zs ≡ true → in_range (sum_from total zs) ≡ true
sum_in_range total [] here h = here
sum_in_range total (z ∷ zs) here h =
    let parts = both (in_range z && in_range (total +ℤ z)) (sum_fits_from (total +ℤ z) zs) h in
    sum_in_range (total +ℤ z) zs (both (in_range z) (in_range (total +ℤ z)) parts.0).1 parts.1
