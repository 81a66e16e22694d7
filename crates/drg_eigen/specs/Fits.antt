-- When the formula of F_j fits: no product and no difference of it is above 2^127 - 1 in magnitude. And which F_j is the
-- first whose formula doesn't.
use Rattle.std.specs.Prelude.{ℕ, ℤ, zero, suc, ◌≤◌, ◌<◌, pos, ◌-ℤ◌, ◌*ℤ◌, List, [], ◌∷◌, slice_index_or}
use Rattle.std.specs.List.{AllByRecursion}
use Rattle.drg_array.specs.Entries.{Entries, diameter, a_at}
use Rattle.drg_array.specs.declared.node.Node.TheVariants.{Poly}
use Rattle.drg_eigen.specs.Characteristic.{weight_at, polynomial}
use Rattle.drg_whole.specs.Range.{InRange}
use Rattle.drg_eigen.specs.declared.fault.EigenFault.{EigenFault}
use Rattle.drg_eigen.specs.declared.fault.EigenFault.TheVariants.{Wide, Memory}

-- the coefficient of x^t, and 0 past the last one
abbrev pub coefficient : List ℤ → ℕ → ℤ
coefficient f t = slice_index_or f t (pos 0)

-- the coefficient of x^(t-1), and 0 for t = 0
abbrev pub coefficient_before : List ℤ → ℕ → ℤ
coefficient_before f zero = pos 0
coefficient_before f (suc t) = coefficient f t

-- the coefficient of x^t in F_(j+2), from those of F_j and F_(j+1), which are g and f:
-- f_(t-1) - a_(j+1) f_t, and then minus b_j c_(j+1) g_t
abbrev pub first_difference : Entries → ℕ → List ℤ → ℕ → ℤ
first_difference a j f t = coefficient_before f t -ℤ a_at a (suc j) *ℤ coefficient f t

abbrev pub next_coefficient : Entries → ℕ → List ℤ → List ℤ → ℕ → ℤ
next_coefficient a j g f t = first_difference a j f t -ℤ weight_at a (suc j) *ℤ coefficient g t

-- the products and differences of a coefficient of F_(j+2), where an absent term is 0 and asks nothing more
abbrev pub work_numbers : Entries → ℕ → List ℤ → List ℤ → ℕ → List ℤ
work_numbers a j g f t =
    (a_at a (suc j) *ℤ coefficient f t)
    ∷ first_difference a j f t
    ∷ weight_at a (suc j)
    ∷ (weight_at a (suc j) *ℤ coefficient g t)
    ∷ next_coefficient a j g f t
    ∷ []

-- the formula of F_j fits, where F_0 and F_1 are given
abbrev pub Fits : Entries → ℕ → Type 0
Fits a zero = Unit {0}
Fits a (suc zero) = Unit {0}
Fits a (suc (suc j)) = (t : ℕ) → t ≤ suc (suc j) → AllByRecursion InRange (work_numbers a j (polynomial a j) (polynomial a (suc j)) t)

-- the formulas of F_0 to F_(n-1) fit
abbrev pub AllFitBelow : Entries → ℕ → Type 0
AllFitBelow a n = (j : ℕ) → j < n → Fits a j

-- the formulas of F_0 to F_(d+1) fit
abbrev pub AllFit : Entries → Type 0
AllFit a = AllFitBelow a (suc (suc (diameter a)))

-- F_j is the first one up to F_(d+1) whose formula doesn't fit
pub record IsFirstWide (a : Entries) (j : ℕ) : Type 0 where
  pub inside : j ≤ suc (diameter a)
  pub before : AllFitBelow a j
  pub wide : ¬ Fits a j

-- the cause of a fault: it names the first F_j whose formula doesn't fit
abbrev pub IsFault : Entries → EigenFault → Type 0
IsFault a (Wide (Poly j)) = IsFirstWide a j
IsFault a (Wide node) = ⊥
IsFault a Memory = Unit {0}
