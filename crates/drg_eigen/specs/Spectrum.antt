-- The factors of a polynomial among the candidates for a valency, in their order; what is left without them; when the roots
-- of two quadratic factors lie in different fields; and the spectrum, the list of all roots, where they lie in one.
use Rattle.std.specs.Prelude.{◌≡◌, ◌≢◌, ℕ, ℤ, pos, suc, List, [], ◌∷◌, length, All, Contains, ◌↔◌, ◌*ℤ◌}
use Rattle.std.proofs.Common.{◌⊎◌}
use Rattle.std.specs.List.{AllByRecursion}
use Rattle.drg_algebra.specs.Integer.{whole_numbers}
use Rattle.drg_algebra.specs.Pairs.{root_values}
use Rattle.drg_algebra.specs.RingLaws.{embedded}
use Rattle.drg_quadratic.specs.Values.{IsRoot}
use Rattle.drg_quadratic.specs.Eigenvalue.{eigenvalue_of, IsBelow}
use Rattle.drg_quadratic.specs.declared.eigenvalue.Eigenvalue.{Eigenvalue}
use Rattle.drg_eigen.specs.Polynomial.{eval}
use Rattle.drg_eigen.specs.Factor.{Factor, linear, quadratic, discriminant, IsCandidate, Divides, product, IsAmong}
use Rattle.drg_eigen.specs.Order.{AreInOrder}

-- the candidates for valency k that divide f, in order
pub record AreFactors (k : ℕ) (f : List ℤ) (es : List Factor) : Type 0 where
  pub ordered : AreInOrder es
  pub candidates : AllByRecursion (IsCandidate k) es
  pub divide : AllByRecursion (λ e. Divides e f) es
  pub all : (c : Factor) → IsCandidate k c → Divides c f → IsAmong c es

-- the product of the factors is f
abbrev pub IsProduct : List ℤ → List Factor → Type 0
IsProduct f es = product es (pos 1 ∷ []) ≡ f

-- the product of the factors isn't f: g is the quotient of f by them, which no candidate divides
pub record IsRest (k : ℕ) (f : List ℤ) (es : List Factor) (g : List ℤ) : Type 0 where
  pub factors : AreFactors k f es
  pub quotient : product es g ≡ f
  pub rest : g ≢ pos 1 ∷ []
  pub none_left : (c : Factor) → IsCandidate k c → ¬ Divides c g

-- the product of the discriminants of two quadratic factors is a square, so that their roots lie in one field
abbrev pub IsOneField : Factor → Factor → Type 0
IsOneField (quadratic s t) (quadratic u v) = (m : ℤ) × (m *ℤ m ≡ discriminant s t *ℤ discriminant u v)
IsOneField c e = Unit {0}

-- e is the first in the list with roots in another field than c
abbrev pub IsFirstOther : Factor → List Factor → Factor → Type 0
IsFirstOther c [] e = ⊥
IsFirstOther c (d ∷ ds) e = ((d ≡ e) × (¬ IsOneField c d)) ⊎ (IsOneField c d × IsFirstOther c ds e)

-- c is the first quadratic factor in the list, and e is the first one with roots in another field
abbrev pub AreTwoFields : List Factor → Factor → Factor → Type 0
AreTwoFields [] c e = ⊥
AreTwoFields (linear r ∷ es) c e = AreTwoFields es c e
AreTwoFields (quadratic s t ∷ es) c e = (quadratic s t ≡ c) × IsFirstOther (quadratic s t) es e

-- f is the product of its factors, and no one quadratic field holds its roots
pub record IsTwoFields (k : ℕ) (f : List ℤ) (es : List Factor) (c e : Factor) : Type 0 where
  pub factors : AreFactors k f es
  pub product : IsProduct f es
  pub apart : AreTwoFields es c e

-- ---- the spectrum
-- the roots of the factor lie over the root, as m² root is the discriminant
abbrev pub IsOver : ℕ → Factor → Type 0
IsOver root (linear r) = Unit {0}
IsOver root (quadratic s t) = (m : ℤ) × ((m *ℤ m) *ℤ pos root ≡ discriminant s t)

-- the factor is an x - r
abbrev pub IsLinear : Factor → Type 0
IsLinear (linear r) = Unit {0}
IsLinear (quadratic s t) = ⊥

-- the squarefree root over which the roots of all factors lie, and 0 where no factor is quadratic
pub record IsCommonRoot (es : List Factor) (root : ℕ) : Type 0 where
  pub is_root : IsRoot root
  pub shared : AllByRecursion (IsOver root) es
  pub rational : AllByRecursion IsLinear es → root ≡ 0

-- the value of f at the eigenvalue is 0
abbrev pub IsRootOf : List ℤ → Eigenvalue → Type 0
IsRootOf f x = eval whole_numbers (root_values x.root) embedded (eigenvalue_of x) f ≡ (root_values x.root).nil

-- each eigenvalue is above the next
abbrev pub AreDescending : List Eigenvalue → Type 0
AreDescending [] = Unit {0}
AreDescending (x ∷ []) = Unit {0}
AreDescending (x ∷ y ∷ xs) = IsBelow y x × AreDescending (y ∷ xs)

-- the roots of f over the root, descending, as many as its degree says
pub record AreRoots (f : List ℤ) (root : ℕ) (thetas : List Eigenvalue) : Type 0 where
  pub over_root : All (λ x. x.root ≡ root) thetas
  pub descending : AreDescending thetas
  pub all : (x : Eigenvalue) → x.root ≡ root → IsRootOf f x ↔ Contains thetas x
  pub count : suc (length thetas) ≡ length f

-- f is the product of its factors, whose roots lie over one root, and the list has all of them
pub record IsSpectrum (k : ℕ) (f : List ℤ) (root : ℕ) (thetas : List Eigenvalue) : Type 0 where
  pub list : List Factor
  pub factors : AreFactors k f list
  pub product : IsProduct f list
  pub common_root : IsCommonRoot list root
  pub roots : AreRoots f root thetas
