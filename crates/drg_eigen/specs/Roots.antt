-- What the code's roots of divisors are.
use Rattle.std.specs.Prelude.{◌≡◌, ◌≢◌, ℕ, ℤ, pos, List, [], ◌∷◌, ◌++◌, ◌*ℤ◌, neg_ℤ}
use Rattle.std.proofs.Common.{◌⊎◌}
use Rattle.drg_quadratic.specs.declared.eigenvalue.Eigenvalue.{Eigenvalue}
use Rattle.drg_eigen.specs.Factor.{Factor, linear, quadratic, discriminant}
use Rattle.drg_eigen.specs.Spectrum.{IsOver}

-- e is the first in the list whose roots don't lie over the root
abbrev pub IsFirstNotOver : ℕ → List Factor → Factor → Type 0
IsFirstNotOver root [] e = ⊥
IsFirstNotOver root (d ∷ ds) e = ((d ≡ e) × (¬ IsOver root d)) ⊎ (IsOver root d × IsFirstNotOver root ds e)

-- x is the whole number r
pub record IsWholeRoot (root : ℕ) (r : ℤ) (x : Eigenvalue) : Type 0 where
  pub over : x.root ≡ root
  pub first : x.s ≡ pos 2 *ℤ r
  pub second : x.f ≡ pos 0

-- x is (s + f √root) / 2 with f² root = s² - 4 t and another f than 0
pub record IsHalfRoot (root : ℕ) (s t : ℤ) (x : Eigenvalue) : Type 0 where
  pub over : x.root ≡ root
  pub first : x.s ≡ s
  pub second : (x.f *ℤ x.f) *ℤ pos root ≡ discriminant s t
  pub some : x.f ≢ pos 0

-- the root of each x - r, and the two roots of each x² - s x + t
abbrev pub AreRootsOf : ℕ → List Factor → List Eigenvalue → Type 0
AreRootsOf root [] [] = Unit {0}
AreRootsOf root [] (x ∷ xs) = ⊥
AreRootsOf root (linear r ∷ es) [] = ⊥
AreRootsOf root (linear r ∷ es) (x ∷ xs) = IsWholeRoot root r x × AreRootsOf root es xs
AreRootsOf root (quadratic s t ∷ es) [] = ⊥
AreRootsOf root (quadratic s t ∷ es) (x ∷ []) = ⊥
AreRootsOf root (quadratic s t ∷ es) (x ∷ y ∷ xs) = IsHalfRoot root s t x × IsHalfRoot root s t y × (y.f ≡ neg_ℤ x.f) × AreRootsOf root es xs

-- a list of roots, and at its end the roots of one more factor
pub record HasMore (root : ℕ) (c : Factor) (old new : List Eigenvalue) : Type 0 where
  pub more : List Eigenvalue
  pub roots : AreRootsOf root (c ∷ []) more
  pub items : new ≡ old ++ more
