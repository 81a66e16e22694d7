-- A polynomial has one answer of the search for factors, so that each kind of answer comes exactly where its definition says.
-- It has one fault of it, and none where all divisions that are asked for fit.
use Rattle.std.specs.Prelude.{◌≡◌, ◌≢◌, ℕ, ℤ, pos, ◌*ℤ◌, ◌<ℤ◌, List, [], ◌∷◌}
use Rattle.std.specs.List.{AllByRecursion}
use Rattle.drg_eigen.specs.Factor.{Factor, linear, quadratic, IsCandidate, AreIrreducible, product}
use Rattle.drg_eigen.specs.Monic.{IsMonic}
use Rattle.drg_eigen.specs.Order.{AreInOrder}
use Rattle.drg_eigen.specs.Simple.{IsSimple}
use Rattle.drg_eigen.specs.Search.{FitsAt}
use Rattle.drg_eigen.specs.Candidates.{AllDivisionsFit, IsSplitFault}
use Rattle.drg_eigen.specs.Split.{IsSplit}
use Rattle.drg_eigen.specs.declared.split.Split.{Split}
use Rattle.drg_eigen.specs.declared.fault.EigenFault.{EigenFault}
use Rattle.drg_eigen.specs.declared.fault.EigenFault.TheVariants.{Memory}

abbrev pub OneSplit : Type 0
OneSplit = (k : ℕ) (f : List ℤ) (a b : Split) → IsMonic f → IsSplit k f a → IsSplit k f b → a ≡ b

abbrev pub OneSplitFault : Type 0
OneSplitFault = (k : ℕ) (f : List ℤ) (a b : EigenFault) → IsMonic f → a ≢ Memory → b ≢ Memory → IsSplitFault k f a → IsSplitFault k f b → a ≡ b

abbrev pub NoSplitFaultWhereAllFit : Type 0
NoSplitFaultWhereAllFit = (k : ℕ) (f : List ℤ) (a : EigenFault) → IsMonic f → a ≢ Memory → AllDivisionsFit k f → ¬ IsSplitFault k f a

-- where the divisions by all candidates fit, so do those that are asked for
abbrev pub FewerDivisions : Type 0
FewerDivisions = (k : ℕ) (f : List ℤ) → ((c : Factor) → IsCandidate k c → FitsAt (IsCandidate k) f c) → AllDivisionsFit k f

-- a product of factors in order, which are irreducible with real roots, is simple
abbrev pub HasRealRoots : Factor → Type 0
HasRealRoots (linear r) = Unit {0}
HasRealRoots (quadratic s t) = (pos 4 *ℤ t) <ℤ (s *ℤ s)

abbrev pub ProductsAreSimple : Type 0
ProductsAreSimple = (es : List Factor) → AreIrreducible es → AllByRecursion HasRealRoots es → AreInOrder es → IsSimple (product es (pos 1 ∷ []))
