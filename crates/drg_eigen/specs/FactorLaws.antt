-- Laws of factors, and of the factors of the characteristic polynomial of an array.
use Rattle.std.specs.Prelude.{◌≡◌, ℕ, ℤ, pos, suc, List, [], ◌∷◌, ◌+◌, ◌<◌, ◌≤◌, length, ◌*ℤ◌, ◌<ℤ◌}
use Rattle.std.proofs.Common.{◌⊎◌}
use Rattle.drg_algebra.specs.Integer.{whole_numbers}
use Rattle.drg_array.specs.Entries.{Entries, IsArray}
use Rattle.drg_eigen.specs.Recurrence.{chain}
use Rattle.drg_eigen.specs.Characteristic.{characteristic}
use Rattle.drg_eigen.specs.Factor.{Factor, linear, quadratic, IsIrreducible, degree, times_factor, Divides, DividesTwice, product, IsAmong, AreIrreducible}

-- ---- factors of the characteristic polynomial of an array
-- no x - r divides the characteristic polynomial of an array twice
abbrev pub NoDoubleLinear : Type 0
NoDoubleLinear = (a : Entries) (r : ℤ) → IsArray a → ¬ (DividesTwice (linear r) (characteristic a))

-- no x² - s x + t divides the characteristic polynomial of an array twice, irreducible or not
abbrev pub NoDoubleQuadratic : Type 0
NoDoubleQuadratic = (a : Entries) (s t : ℤ) → IsArray a → ¬ (DividesTwice (quadratic s t) (characteristic a))

-- each irreducible x² - s x + t that divides the characteristic polynomial of an array has s² > 4 t, so that its roots are real
abbrev pub QuadraticsAreReal : Type 0
QuadraticsAreReal = (a : Entries) (s t : ℤ) → IsArray a → IsIrreducible (quadratic s t) → Divides (quadratic s t) (characteristic a) → (pos 4 *ℤ t) <ℤ (s *ℤ s)

-- ---- the same for each recurrence whose weights are positive
abbrev pub IsPositive : ℕ → (ℕ → ℤ) → Type 0
IsPositive d w = (j : ℕ) → j < d → pos 0 <ℤ w (suc j)

abbrev pub NoDoubleFactorOfChain : Type 0
NoDoubleFactorOfChain = (a w : ℕ → ℤ) (d : ℕ) → IsPositive d w → (c : Factor) → ¬ (DividesTwice c (chain whole_numbers a w (suc d)))

abbrev pub QuadraticsOfChainAreReal : Type 0
QuadraticsOfChainAreReal = (a w : ℕ → ℤ) (d : ℕ) → IsPositive d w → (s t : ℤ) → IsIrreducible (quadratic s t)
    → Divides (quadratic s t) (chain whole_numbers a w (suc d)) → (pos 4 *ℤ t) <ℤ (s *ℤ s)

-- ---- factors of any polynomial
-- whether a factor divides can be told
abbrev pub DividesOrNot : Type 0
DividesOrNot = (c : Factor) (f : List ℤ) → degree c ≤ length f → Divides c f ⊎ (¬ (Divides c f))

-- an irreducible factor that divides a product of an irreducible one and a polynomial is the one or divides the other
abbrev pub IrreduciblesArePrime : Type 0
IrreduciblesArePrime = (c e : Factor) (f : List ℤ) → IsIrreducible c → IsIrreducible e → degree c ≤ length f → Divides c (times_factor e f) → (c ≡ e) ⊎ Divides c f

-- factors can be taken in any order
abbrev pub FactorsCommute : Type 0
FactorsCommute = (c e : Factor) (f : List ℤ) → times_factor c (times_factor e f) ≡ times_factor e (times_factor c f)

-- the degree of a product is the sum of the degrees
abbrev pub DegreesAdd : Type 0
DegreesAdd = (c : Factor) (f : List ℤ) → length (times_factor c f) ≡ degree c + length f

-- the irreducible factors that divide a product are those in the list and those that divide the rest
abbrev pub FactorsOfProduct : Type 0
FactorsOfProduct = (c : Factor) (es : List Factor) (g : List ℤ) → IsIrreducible c → AreIrreducible es → degree c ≤ length g → Divides c (product es g) → IsAmong c es ⊎ Divides c g

-- the factors in a product divide it, and so do those of the rest
abbrev pub FactorsDivide : Type 0
FactorsDivide = (c : Factor) (es : List Factor) (g : List ℤ) → IsAmong c es ⊎ Divides c g → Divides c (product es g)

-- the irreducible factors of a product of irreducible factors are those in the list
abbrev pub FactorsOfFullProduct : Type 0
FactorsOfFullProduct = (c : Factor) (es : List Factor) → IsIrreducible c → AreIrreducible es → Divides c (product es (pos 1 ∷ [])) → IsAmong c es
