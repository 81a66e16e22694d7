-- Equations between a sum of terms and a number, and numbers that meet them.
use Rattle.std.specs.Prelude.{◌≡◌, ℕ, ℤ, pos, ◌*ℤ◌, Bool, true, ◌&&◌, not, if◌then◌else◌, ⊤, List, [], ◌∷◌, map}
use Rattle.std.specs.Ordering.{int_eq}
use Rattle.drg_whole.specs.Range.{in_range}
use Rattle.drg_whole.specs.Sums.{sum_from}
use Rattle.drg_linear.specs.declared.unknown.Unknown.{Unknown}
use Rattle.drg_linear.specs.Unknowns.{is_same, place, precedes}

-- an unknown and its coefficient
abbrev pub Term : Type 0
Term = Unknown × ℤ

pub record EquationContent : Type 0 where
  pub terms : List Term
  pub right : ℤ

-- the first of the terms, where there is one, stands after t
abbrev pub follows : Term → List Term → Bool
follows t [] = true
follows t (u ∷ us) = precedes t.0 u.0

-- the unknowns ascend
abbrev pub is_ordered : List Term → Bool
is_ordered [] = true
is_ordered (t ∷ ts) = follows t ts && is_ordered ts

abbrev pub is_coefficient : ℤ → Bool
is_coefficient a = in_range a && not (int_eq a (pos 0))

abbrev pub all_coefficients : List Term → Bool
all_coefficients [] = true
all_coefficients (t ∷ ts) = is_coefficient t.1 && all_coefficients ts

-- the unknowns ascend, no coefficient is 0, and all numbers are in range
abbrev pub is_equation : EquationContent → Bool
is_equation e = is_ordered e.terms && all_coefficients e.terms && in_range e.right

-- the coefficient of the unknown, and 0 where there is no term of it
abbrev pub coefficient_of : Unknown → List Term → ℤ
coefficient_of u [] = pos 0
coefficient_of u (t ∷ ts) = if is_same t.0 u then t.1 else coefficient_of u ts

-- the terms beside that of the unknown
abbrev pub rest_of : Unknown → List Term → List Term
rest_of u [] = []
rest_of u (t ∷ ts) = if is_same t.0 u then ts else t ∷ rest_of u ts

-- ---- Numbers for the unknowns. An assignment gives a number to each place of an unknown.

-- the terms at an assignment, added to a total
abbrev pub value_from : ℕ → (ℕ → ℤ) → ℤ → List Term → ℤ
value_from d x total terms = sum_from total (map (λ t. t.1 *ℤ x (place d t.0)) terms)

-- the equation holds at an assignment
abbrev pub Meets : ℕ → (ℕ → ℤ) → EquationContent → Type 0
Meets d x e = value_from d x (pos 0) e.terms ≡ e.right

abbrev pub MeetsAll : ℕ → (ℕ → ℤ) → List EquationContent → Type 0
MeetsAll d x [] = ⊤
MeetsAll d x (e ∷ es) = Meets d x e × MeetsAll d x es
