-- Division of a polynomial by x - r or by x² - s x + t from the low end, its work numbers, and when it fits.
use Rattle.std.specs.Prelude.{◌≡◌, ◌≢◌, ℤ, pos, ◌+ℤ◌, ◌-ℤ◌, ◌*ℤ◌, List, [], ◌∷◌, Option, Some, None}
use Rattle.std.specs.List.{AllByRecursion}
use Rattle.drg_array.specs.declared.node.Node.{Node}
use Rattle.drg_array.specs.declared.node.Node.TheVariants.{Linear, Quadratic}
use Rattle.drg_eigen.specs.Factor.{Factor, linear, quadratic, times_factor, Divides}
use Rattle.drg_whole.specs.Range.{InRange}
use Rattle.drg_eigen.specs.declared.fault.EigenFault.{EigenFault}
use Rattle.drg_eigen.specs.declared.fault.EigenFault.TheVariants.{Wide, Memory}

-- The coefficient q_i of the quotient is a numerator over a divisor: (q_(i-1) - g_i) / r for x - r, and
-- (g_i + s q_(i-1) - q_(i-2)) / t for x² - s x + t. Here p and q are q_(i-2) and q_(i-1), and g is g_i.
abbrev pub divisor : Factor → ℤ
divisor (linear r) = r
divisor (quadratic s t) = t

abbrev pub numerator : Factor → ℤ → ℤ → ℤ → ℤ
numerator (linear r) p q g = q -ℤ g
numerator (quadratic s t) p q g = (g +ℤ s *ℤ q) -ℤ p

-- a factor to divide by: not x² - s x
abbrev pub IsDivisor : Factor → Type 0
IsDivisor (linear r) = Unit {0}
IsDivisor (quadratic s t) = t ≢ pos 0

-- the product, the sum and the differences of a numerator; the quotient is no larger than it
abbrev pub work_numbers : Factor → ℤ → ℤ → ℤ → List ℤ
work_numbers (linear r) p q g = (q -ℤ g) ∷ []
work_numbers (quadratic s t) p q g = (s *ℤ q) ∷ (g +ℤ s *ℤ q) ∷ ((g +ℤ s *ℤ q) -ℤ p) ∷ []

-- The work numbers of the coefficients in the list, up to the first quotient that isn't whole, are in range, where p and q
-- are the last two coefficients of the quotient.
abbrev pub FitsFrom : Factor → ℤ → ℤ → List ℤ → Type 0
FitsFrom c p q [] = Unit {0}
FitsFrom c p q (g ∷ gs) = AllByRecursion InRange (work_numbers c p q g) × ((u : ℤ) → divisor c *ℤ u ≡ numerator c p q g → FitsFrom c q u gs)

-- the division of a polynomial fits; that by x has no work numbers
abbrev pub DivisionFits : Factor → List ℤ → Type 0
DivisionFits c f = divisor c ≢ pos 0 → FitsFrom c (pos 0) (pos 0) f

-- the answer of a division: the quotient, or none where there is none
abbrev pub IsDivided : Factor → List ℤ → Option (List ℤ) → Type 0
IsDivided c f (Some q) = times_factor c q ≡ f
IsDivided c f None = ¬ (Divides c f)

-- the node of the division by a factor
abbrev pub node_of : Factor → Node
node_of (linear r) = Linear r
node_of (quadratic s t) = Quadratic s t

-- the cause of a fault of the division by a factor
abbrev pub IsDivisionFault : Factor → List ℤ → EigenFault → Type 0
IsDivisionFault c f (Wide node) = (node ≡ node_of c) × (¬ DivisionFits c f)
IsDivisionFault c f Memory = Unit {0}
