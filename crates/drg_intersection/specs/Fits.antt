-- When the formula of a size, of the number of vertices or of an intersection number fits: no product and no sum of it
-- is above 2^127 - 1 in magnitude. A quotient by an entry is never above its dividend, so it asks nothing more.
use Rattle.std.specs.Prelude.{◌≡◌, ℕ, ℤ, zero, suc, ◌≤◌, pos, List, [], ◌∷◌}
use Rattle.drg_algebra.specs.Rational.{ℚ, whole, plus, times, minus}
use Rattle.drg_algebra.specs.Tables.{total}
use Rattle.drg_array.specs.Entries.{Entries, diameter, b_at, c_at, a_at}
use Rattle.drg_array.specs.Numbers.{size, before, AreIntersectionNumbers}
use Rattle.drg_array.specs.declared.node.Node.{Node}
use Rattle.drg_array.specs.declared.node.Node.TheVariants.{K, N, P}
use Rattle.drg_whole.specs.Range.{InRange}

-- The rational x is a whole number from -(2^127 - 1) to 2^127 - 1.
abbrev pub IsInRange : ℚ → Type 0
IsInRange x = (z : ℤ) × (x ≡ whole z) × InRange z

-- The numbers, and the sums that come of adding them to a total from left to right, are in range.
abbrev pub SumFits : ℚ → List ℚ → Type 0
SumFits sum [] = Unit {0}
SumFits sum (x ∷ xs) = IsInRange x × IsInRange (plus sum x) × SumFits (plus sum x) xs

-- The products in the formula of row i + 1, at j. An absent one is 0.
abbrev pub products : Entries → (ℕ → ℕ → ℚ) → ℕ → ℕ → List ℚ
products a p i j =
    before (λ l. times (whole (pos (b_at a l))) (p i l)) j
    ∷ times (whole (a_at a j)) (p i j)
    ∷ times (whole (pos (c_at a (suc j)))) (p i (suc j))
    ∷ minus (before (λ l. times (whole (pos (b_at a l))) (p l j)) i)
    ∷ minus (times (whole (a_at a i)) (p i j))
    ∷ []

-- The formula of the number fits: k_(i-1) b_(i-1) for k i, each sum k_0 + .. + k_i for n, and for p h i j the products
-- and sums of the balance equation. k 0 and p h 0 j are given.
abbrev pub Fits : Entries → Node → Type 0
Fits a (K zero) = Unit {0}
Fits a (K (suc i)) = IsInRange (times (size a i) (whole (pos (b_at a i))))
Fits a N = (i : ℕ) → i ≤ diameter a → IsInRange (total (whole (pos 0)) plus (suc i) (size a))
Fits a (P h zero j) = Unit {0}
Fits a (P h (suc i) j) = (p : ℕ → ℕ → ℚ) → AreIntersectionNumbers a h p → SumFits (whole (pos 0)) (products a p i j)
Fits a node = ⊥
