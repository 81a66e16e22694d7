-- Which candidates the search for factors divides by, and its first fault.
use Rattle.std.specs.Prelude.{ℕ, ℤ, pos, negsuc, List, [], ◌∷◌, ◌+ℤ◌, ◌-ℤ◌, ◌*ℤ◌, ◌<ℤ◌}
use Rattle.std.specs.List.{AllByRecursion}
use Rattle.drg_algebra.specs.Integer.{whole_numbers}
use Rattle.drg_eigen.specs.Polynomial.{eval}
use Rattle.drg_eigen.specs.Factor.{Factor, linear, quadratic, IsCandidate}
use Rattle.drg_whole.specs.Range.{InRange}
use Rattle.drg_whole.specs.Division.{Divides}
use Rattle.drg_eigen.specs.Search.{IsSearch, EachFits, IsSearchFault}
use Rattle.drg_eigen.specs.declared.fault.EigenFault.{EigenFault}

-- ---- values of a polynomial
-- the value at e by Horner's rule
abbrev pub value_at : ℤ → List ℤ → ℤ
value_at e f = eval whole_numbers whole_numbers (λ z. z) e f

-- each product and each sum of that rule is in range
abbrev pub ValueFits : ℤ → List ℤ → Type 0
ValueFits e [] = Unit {0}
ValueFits e (x ∷ f) = AllByRecursion InRange ((e *ℤ value_at e f) ∷ (x +ℤ e *ℤ value_at e f) ∷ []) × ValueFits e f

-- x² - s x + t has real roots, and its value at 0, 1 and -1 divides that of h, as far as this one fits
pub record MayDivide (h : List ℤ) (s t : ℤ) : Type 0 where
  pub real : (pos 4 *ℤ t) <ℤ (s *ℤ s)
  pub at_zero : Divides t (value_at (pos 0) h)
  pub at_one : ValueFits (pos 1) h → Divides ((pos 1 -ℤ s) +ℤ t) (value_at (pos 1) h)
  pub at_minus_one : ValueFits (negsuc 0) h → Divides ((pos 1 +ℤ s) +ℤ t) (value_at (negsuc 0) h)

-- ---- the search of a polynomial
-- the candidates x - r for valency k
abbrev pub IsLinearCandidate : ℕ → Factor → Type 0
IsLinearCandidate k (linear r) = IsCandidate k (linear r)
IsLinearCandidate k (quadratic s t) = ⊥

-- the candidates x² - s x + t for valency k
abbrev pub IsQuadraticCandidate : ℕ → Factor → Type 0
IsQuadraticCandidate k (linear r) = ⊥
IsQuadraticCandidate k (quadratic s t) = IsCandidate k (quadratic s t)

-- f is divided by each x - r, and by those x² - s x + t that may divide the quotient h of f by its factors x - r
abbrev pub IsAsked : ℕ → List ℤ → Factor → Type 0
IsAsked k f (linear r) = Unit {0}
IsAsked k f (quadratic s t) = (rs : List Factor) × (h : List ℤ) × IsSearch (IsLinearCandidate k) f rs h × MayDivide h s t

-- each division that is asked for fits
abbrev pub AllDivisionsFit : ℕ → List ℤ → Type 0
AllDivisionsFit k f = EachFits (IsCandidate k) (IsAsked k f) f

-- the cause of a fault of a split: it names the first division that is asked for and doesn't fit
abbrev pub IsSplitFault : ℕ → List ℤ → EigenFault → Type 0
IsSplitFault k f = IsSearchFault (IsCandidate k) (IsAsked k f) f
