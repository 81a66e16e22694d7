-- A search that tries factors in their order: what it finds and leaves, and which of its divisions fit.
use Rattle.std.specs.Prelude.{◌≡◌, ℤ, List}
use Rattle.std.specs.List.{AllByRecursion}
use Rattle.drg_eigen.specs.Factor.{Factor, Divides, product}
use Rattle.drg_eigen.specs.Division.{DivisionFits, node_of}
use Rattle.drg_eigen.specs.Order.{ComesBefore, AreInOrder}
use Rattle.drg_eigen.specs.declared.fault.EigenFault.{EigenFault}
use Rattle.drg_eigen.specs.declared.fault.EigenFault.TheVariants.{Wide, Memory}

-- es are the tried factors that divide f, in order, and g is the quotient, which none of them divides
pub record IsSearch (IsTried : Factor → Type 0) (f : List ℤ) (es : List Factor) (g : List ℤ) : Type 0 where
  pub ordered : AreInOrder es
  pub tried : AllByRecursion IsTried es
  pub quotient : product es g ≡ f
  pub none_left : (c : Factor) → IsTried c → ¬ Divides c g

-- the tried factors before c
abbrev pub IsBefore : (Factor → Type 0) → Factor → Factor → Type 0
IsBefore IsTried c e = IsTried e × ComesBefore e c

-- g is what is left of f at c: the quotient by the factors before c
abbrev pub IsLeftAt : (Factor → Type 0) → List ℤ → Factor → List ℤ → Type 0
IsLeftAt IsTried f c g = (es : List Factor) × IsSearch (IsBefore IsTried c) f es g

-- the division by c of what is left of f at c fits
abbrev pub FitsAt : (Factor → Type 0) → List ℤ → Factor → Type 0
FitsAt IsTried f c = (g : List ℤ) × IsLeftAt IsTried f c g × DivisionFits c g

-- that division doesn't fit
abbrev pub IsWideAt : (Factor → Type 0) → List ℤ → Factor → Type 0
IsWideAt IsTried f c = (g : List ℤ) × IsLeftAt IsTried f c g × (¬ DivisionFits c g)

-- The search divides by those tried factors alone that are asked for. Each of these divisions fits.
abbrev pub EachFits : (IsTried IsAsked : Factor → Type 0) → List ℤ → Type 0
EachFits IsTried IsAsked f = (c : Factor) → IsTried c → IsAsked c → FitsAt IsTried f c

-- c is the first of the tried factors that are asked for whose division doesn't fit
pub record IsFirstWideDivision (IsTried IsAsked : Factor → Type 0) (f : List ℤ) (c : Factor) : Type 0 where
  pub tried : IsTried c
  pub asked : IsAsked c
  pub wide : IsWideAt IsTried f c
  pub before : (e : Factor) → IsTried e → IsAsked e → ComesBefore e c → FitsAt IsTried f e

-- the cause of a fault of a search: it names the first division that doesn't fit
abbrev pub IsSearchFault : (IsTried IsAsked : Factor → Type 0) → List ℤ → EigenFault → Type 0
IsSearchFault IsTried IsAsked f (Wide node) = (c : Factor) × (node ≡ node_of c) × IsFirstWideDivision IsTried IsAsked f c
IsSearchFault IsTried IsAsked f Memory = Unit {0}
