-- The factors x - r and x² - s x + t of polynomials with whole coefficients, and the candidates among them.
use Rattle.std.specs.Prelude.{◌≡◌, ℕ, ℤ, pos, List, [], ◌∷◌, ◌*◌, ◌≤◌, ◌+ℤ◌, ◌*ℤ◌, neg_ℤ, unsigned_abs}
use Rattle.std.proofs.Common.{◌⊎◌}
use Rattle.drg_algebra.specs.Integer.{whole_numbers}
use Rattle.drg_eigen.specs.Polynomial.{times_linear, times_quadratic}

-- x - r, and x² - s x + t
pub data Factor : Type 0 where
  linear : ℤ → Factor
  quadratic : ℤ → ℤ → Factor

-- s² - 4 t
abbrev pub discriminant : ℤ → ℤ → ℤ
discriminant s t = s *ℤ s +ℤ neg_ℤ (pos 4 *ℤ t)

-- x - r is irreducible, and x² - s x + t is where its discriminant is no square, so that it has no whole root
abbrev pub IsIrreducible : Factor → Type 0
IsIrreducible (linear r) = Unit {0}
IsIrreducible (quadratic s t) = (m : ℤ) → ¬ (m *ℤ m ≡ discriminant s t)

-- the coefficients are as small as roots from -k to k make them
abbrev pub IsSmall : ℕ → Factor → Type 0
IsSmall k (linear r) = unsigned_abs r ≤ k
IsSmall k (quadratic s t) = (unsigned_abs s ≤ 2 * k) × (unsigned_abs t ≤ k * k)

-- the candidates for an array of valency k: the irreducible factors whose coefficients are small
abbrev pub IsCandidate : ℕ → Factor → Type 0
IsCandidate k c = IsIrreducible c × IsSmall k c

abbrev pub degree : Factor → ℕ
degree (linear r) = 1
degree (quadratic s t) = 2

-- the coefficients of a factor, from the constant upwards
abbrev pub polynomial_of : Factor → List ℤ
polynomial_of (linear r) = neg_ℤ r ∷ pos 1 ∷ []
polynomial_of (quadratic s t) = t ∷ neg_ℤ s ∷ pos 1 ∷ []

-- a factor times a polynomial
abbrev pub times_factor : Factor → List ℤ → List ℤ
times_factor (linear r) f = times_linear whole_numbers r f
times_factor (quadratic s t) f = times_quadratic whole_numbers s t f

-- the factor divides the polynomial
abbrev pub Divides : Factor → List ℤ → Type 0
Divides c f = (q : List ℤ) × (times_factor c q ≡ f)

-- the factor divides the polynomial, and the quotient too
abbrev pub DividesTwice : Factor → List ℤ → Type 0
DividesTwice c f = (q : List ℤ) × (times_factor c (times_factor c q) ≡ f)

-- a product of factors and a polynomial
abbrev pub product : List Factor → List ℤ → List ℤ
product [] g = g
product (e ∷ es) g = times_factor e (product es g)

-- the factor is in the list
abbrev pub IsAmong : Factor → List Factor → Type 0
IsAmong c [] = ⊥
IsAmong c (e ∷ es) = (c ≡ e) ⊎ IsAmong c es

abbrev pub AreIrreducible : List Factor → Type 0
AreIrreducible [] = Unit {0}
AreIrreducible (e ∷ es) = IsIrreducible e × AreIrreducible es
