-- What the steps of the code's search give.
use Rattle.std.specs.Prelude.{◌≡◌, ℤ, pos, ◌<ℤ◌, List, ◌++◌, Contains}
use Rattle.drg_eigen.specs.Factor.{Factor, linear, quadratic, discriminant, IsIrreducible, IsSmall}
use Rattle.drg_eigen.specs.Search.{IsSearch, EachFits}
use Rattle.drg_eigen.specs.Candidates.{MayDivide}
use Rattle.drg_eigen.specs.Step.{factors_of}
use Rattle.drg_eigen.specs.declared.search.Search.{Search}

-- the search has tried more factors: those that divide what was left are found, and the divisions that were asked for fit
pub record HasTried (IsTried IsAsked : Factor → Type 0) (old new : Search) : Type 0 where
  pub more : List Factor
  pub found : factors_of new.found.items ≡ factors_of old.found.items ++ more
  pub search : IsSearch IsTried old.left more new.left
  pub fits : EachFits IsTried IsAsked old.left

-- ---- sets of factors
abbrev pub IsAnything : Factor → Type 0
IsAnything c = Unit {0}

abbrev pub IsOne : Factor → Factor → Type 0
IsOne e c = c ≡ e

-- the irreducible x² - s x + t with this s and a t in the list
abbrev pub IsListed : ℤ → List ℤ → Factor → Type 0
IsListed s ts (linear r) = ⊥
IsListed s ts (quadratic u t) = (u ≡ s) × Contains ts t × IsIrreducible (quadratic u t)

-- the x² - s x + t that may divide f
abbrev pub MayBeFactor : List ℤ → Factor → Type 0
MayBeFactor f (linear r) = Unit {0}
MayBeFactor f (quadratic s t) = MayDivide f s t

-- a factor that is found: it is irreducible, its coefficients are as small as for the largest valency, and its roots are real
abbrev pub IsReal : Factor → Type 0
IsReal (linear r) = IsSmall 4095 (linear r)
IsReal (quadratic s t) = IsIrreducible (quadratic s t) × IsSmall 4095 (quadratic s t) × (pos 0 <ℤ discriminant s t)
