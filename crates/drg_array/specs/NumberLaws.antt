-- Every array has sizes and intersection numbers, and no other ones
-- (Brouwer, Cohen and Neumaier 1989, section 4.1).
use Rattle.std.specs.Prelude.{◌≡◌, ℕ, suc, ◌≤◌, ◌<◌, pos}
use Rattle.drg_algebra.specs.Rational.{ℚ, whole, times}
use Rattle.drg_array.specs.Entries.{Entries, IsArray, diameter, b_at, c_at}
use Rattle.drg_array.specs.Numbers.{size, AreIntersectionNumbers, IsIntersectionNumber}

-- k_(i+1) c_(i+1) = k_i b_i
abbrev pub SizesMeet : Type 0
SizesMeet = (a : Entries) (i : ℕ) → IsArray a → i < diameter a → times (size a (suc i)) (whole (pos (c_at a (suc i)))) ≡ times (size a i) (whole (pos (b_at a i)))

-- there are intersection numbers for each upper index
abbrev pub NumbersExist : Type 0
NumbersExist = (a : Entries) (h : ℕ) → IsArray a → (p : ℕ → ℕ → ℚ) × AreIntersectionNumbers a h p

-- and one for all three indices
abbrev pub OneNumber : Type 0
OneNumber =
    (a : Entries) (h i j : ℕ) (x y : ℚ) → IsArray a → i ≤ diameter a → j ≤ diameter a → IsIntersectionNumber a h i j x → IsIntersectionNumber a h i j y → x ≡ y
