-- The conditions on counts alone, those of tests 1 to 9: where they hold of an array, and where they fail at the numbers of a
-- claim (first to intersect: Brouwer, Cohen and Neumaier 1989, section 4.1; handshake to triangles: elementary counting).
use Rattle.std.specs.Prelude.{◌≡◌, ℕ, suc, ◌+◌, ◌≤◌, ◌<◌, ◌≢◌, ◌⊎◌, pos, ◌<ℤ◌, ◌≤ℤ◌}
use Rattle.drg_algebra.specs.Rational.{ℚ, times}
use Rattle.drg_array.specs.Entries.{Entries, diameter, b_at, c_at, a_at}
use Rattle.drg_array.specs.Numbers.{size, vertex_count, IsIntersectionNumber, IsWhole, IsWholeMultiple, IsNatural}
use Rattle.drg_array.specs.declared.test.Test.{Test}
use Rattle.drg_array.specs.declared.test.Test.TheVariants as test
use Rattle.drg_array.specs.declared.claim.Claim.{Claim}
use Rattle.drg_array.specs.declared.claim.Claim.TheVariants.{First, Degree, Order, Cross, Size, Intersect, Handshake, Induced, Triangles, Mult, Krein, Absolute, Triple, Ktriple}

abbrev pub IsPlace : Entries → ℕ → Type 0
IsPlace a i = (1 ≤ i) × (i ≤ diameter a)

-- The condition on counts of the test. A test from mult on has none: its condition speaks of further numbers, and that it
-- holds can't be had from this.
abbrev pub CountsHold : Entries → Test → Type 0
CountsHold a test.First = c_at a 1 ≡ 1
CountsHold a test.Degree = (i : ℕ) → IsPlace a i → pos 0 ≤ℤ a_at a i
CountsHold a test.Order = (i : ℕ) → 1 ≤ i → suc i ≤ diameter a → (b_at a (suc i) ≤ b_at a i) × (c_at a i ≤ c_at a (suc i))
CountsHold a test.Cross = (i j : ℕ) → 1 ≤ i → i + j ≤ diameter a → c_at a i ≤ b_at a j
CountsHold a test.Size = (i : ℕ) → IsPlace a i → IsWhole (size a i)
CountsHold a test.Intersect =
    (h i j : ℕ) → h ≤ diameter a → i ≤ diameter a → j ≤ diameter a → (x : ℚ) → IsIntersectionNumber a h i j x → IsNatural x
CountsHold a test.Handshake = (i : ℕ) → IsPlace a i → IsWholeMultiple 2 (times (vertex_count a) (size a i))
CountsHold a test.Induced =
    (i j : ℕ) → IsPlace a i → IsPlace a j → (x : ℚ) → IsIntersectionNumber a i i j x → IsWholeMultiple 2 (times (size a i) x)
CountsHold a test.Triangles =
    (i : ℕ) → IsPlace a i → (x : ℚ) → IsIntersectionNumber a i i i x → IsWholeMultiple 6 (times (vertex_count a) (times (size a i) x))
CountsHold a test.Mult = ⊥
CountsHold a test.Krein = ⊥
CountsHold a test.Absolute = ⊥
CountsHold a test.Triple = ⊥
CountsHold a test.Ktriple = ⊥

-- The condition on counts of the claim's test is false at the claim's numbers, which are in range. This is a condition on
-- counts: of a claim from mult on it says nothing, and its denial doesn't say that the array passes the claim.
abbrev pub CountsFail : Entries → Claim → Type 0
CountsFail a First = c_at a 1 ≢ 1
CountsFail a (Degree i) = IsPlace a i × (a_at a i <ℤ pos 0)
CountsFail a (Order i) = (1 ≤ i) × (suc i ≤ diameter a) × ((b_at a i < b_at a (suc i)) ⊎ (c_at a (suc i) < c_at a i))
CountsFail a (Cross i j) = (1 ≤ i) × (i + j ≤ diameter a) × (b_at a j < c_at a i)
CountsFail a (Size i) = IsPlace a i × ¬ IsWhole (size a i)
CountsFail a (Intersect h i j) = (h ≤ diameter a) × (i ≤ diameter a) × (j ≤ diameter a) × (x : ℚ) × IsIntersectionNumber a h i j x × ¬ IsNatural x
CountsFail a (Handshake i) = IsPlace a i × ¬ IsWholeMultiple 2 (times (vertex_count a) (size a i))
CountsFail a (Induced i j) = IsPlace a i × IsPlace a j × (x : ℚ) × IsIntersectionNumber a i i j x × ¬ IsWholeMultiple 2 (times (size a i) x)
CountsFail a (Triangles i) = IsPlace a i × (x : ℚ) × IsIntersectionNumber a i i i x × ¬ IsWholeMultiple 6 (times (vertex_count a) (times (size a i) x))
CountsFail a (Mult i) = ⊥
CountsFail a (Krein i j h) = ⊥
CountsFail a (Absolute i j) = ⊥
CountsFail a (Triple u v w) = ⊥
CountsFail a (Ktriple u v w) = ⊥
