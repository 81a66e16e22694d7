-- The answer of the search for factors: the spectrum, or why no one quadratic field holds all roots.
use Rattle.std.specs.Prelude.{◌≡◌, ℕ, ℤ, pos, List, [], ◌∷◌, map}
use Rattle.drg_eigen.specs.Factor.{Factor, polynomial_of, product}
use Rattle.drg_eigen.specs.Spectrum.{IsRest, IsTwoFields, IsSpectrum, IsCommonRoot, AreRoots, AreTwoFields}
use Rattle.drg_eigen.specs.declared.split.Split.{Split}
use Rattle.drg_eigen.specs.declared.split.Split.TheVariants.{Spectrum, Other}
use Rattle.drg_eigen.specs.declared.split.OtherSpectrum.{OtherSpectrum}
use Rattle.drg_eigen.specs.declared.split.OtherSpectrum.TheVariants.{Rest, TwoFields}

-- the certificate that f has no spectrum: what is left without the factors, or two factors with roots in different fields
abbrev pub IsOther : ℕ → List ℤ → OtherSpectrum → Type 0
IsOther k f (Rest factors rest) = (es : List Factor) × (factors ≡ map polynomial_of es) × IsRest k f es rest
IsOther k f (TwoFields factors first second) =
    (es : List Factor) × (c : Factor) × (e : Factor) × (factors ≡ map polynomial_of es) × (first ≡ polynomial_of c) × (second ≡ polynomial_of e) × IsTwoFields k f es c e

-- what f is split into: its spectrum, or the certificate that there is none
abbrev pub IsSplit : ℕ → List ℤ → Split → Type 0
IsSplit k f (Spectrum s) = IsSpectrum k f s.root s.thetas
IsSplit k f (Other o) = IsOther k f o

-- the same where f is the product of the factors
abbrev pub IsWholeSplit : List Factor → Split → Type 0
IsWholeSplit es (Spectrum s) = IsCommonRoot es s.root × AreRoots (product es (pos 1 ∷ [])) s.root s.thetas
IsWholeSplit es (Other (Rest factors rest)) = ⊥
IsWholeSplit es (Other (TwoFields factors first second)) =
    (c : Factor) × (e : Factor) × (factors ≡ map polynomial_of es) × (first ≡ polynomial_of c) × (second ≡ polynomial_of e) × AreTwoFields es c e
