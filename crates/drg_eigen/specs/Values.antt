-- The values of a polynomial at 1 and -1 in the code, and what they tell of a factor.
use Rattle.std.specs.Prelude.{◌≡◌, ℤ, pos, negsuc, ◌+ℤ◌, ◌-ℤ◌, ◌*ℤ◌, ◌<ℤ◌, List, Option, Some, None}
use Rattle.drg_eigen.specs.Factor.{Factor, linear, quadratic}
use Rattle.drg_whole.specs.Division.{Divides}
use Rattle.drg_whole.specs.declared.whole.Whole.{Whole}
use Rattle.drg_eigen.specs.Candidates.{value_at, ValueFits}
use Rattle.drg_eigen.specs.declared.values.Values.{Values}

-- a value of a polynomial where it fits, and None exactly where it doesn't
abbrev pub IsValueAt : ℤ → List ℤ → Option Whole → Type 0
IsValueAt e f (Some v) = (v.value ≡ value_at e f) × ValueFits e f
IsValueAt e f None = ¬ ValueFits e f

abbrev pub AreValuesOf : List ℤ → Values → Type 0
AreValuesOf f v = IsValueAt (pos 1) f v.at_one × IsValueAt (negsuc 0) f v.at_minus_one

-- the number divides the value, as far as there is one
abbrev pub DividesValue : ℤ → Option Whole → Type 0
DividesValue d (Some v) = Divides d v.value
DividesValue d None = Unit {0}

-- the values of x² - s x + t at 1 and -1 divide these
abbrev pub Allow : Values → ℤ → ℤ → Type 0
Allow v s t = DividesValue ((pos 1 -ℤ s) +ℤ t) v.at_one × DividesValue ((pos 1 +ℤ s) +ℤ t) v.at_minus_one

-- and its roots are real
abbrev pub MayPass : Values → Factor → Type 0
MayPass v (linear r) = Unit {0}
MayPass v (quadratic s t) = ((pos 4 *ℤ t) <ℤ (s *ℤ s)) × Allow v s t
