-- Rooms without a solution that are seen to have none in one step.
use Rattle.std.specs.Prelude.{◌≡◌, ◌≢◌, ◌⊎◌, ◌≤◌, ℕ, pos, ◌<ℤ◌, true, false, List, Contains}
use Rattle.drg_whole.specs.Residues.{divides}
use Rattle.drg_linear.specs.declared.unknown.Unknown.{Unknown}
use Rattle.drg_linear.specs.declared.bounds.End.TheVariants.{Least, Greatest}
use Rattle.drg_linear.specs.Unknowns.{is_unknown}
use Rattle.drg_linear.specs.Equations.{EquationContent, coefficient_of}
use Rattle.drg_linear.specs.Rooms.{RoomBounds, end_sum}
use Rattle.drg_linear.specs.Values.{least_value, greatest_value}
use Rattle.drg_linear.specs.Moduli.{divides_free, fixed_products, less_from}

-- the right side is below the least sum of the terms, or above the greatest
abbrev pub Misses : ℕ → RoomBounds → EquationContent → Type 0
Misses d room e =
    (e.right <ℤ end_sum d Least room e.terms) ⊎ (end_sum d Greatest room e.terms <ℤ e.right)

-- g is at least 2, and divides the coefficient of each free term, but not the right side less the
-- fixed terms
pub record FailsModulo (d : ℕ) (room : RoomBounds) (e : EquationContent) (g : ℕ) : Type 0 where
  pub modulus : 2 ≤ g
  pub free : divides_free d room g e.terms ≡ true
  pub fixed : divides g (less_from e.right (fixed_products d room e.terms)) ≡ false

-- the least value that one equation leaves to an unknown is above the greatest value that the same or
-- another equation leaves to it
pub record Crosses (d : ℕ) (room : RoomBounds) (u : Unknown) (e f : EquationContent) : Type 0 where
  pub unknown : is_unknown d u ≡ true
  pub least : coefficient_of u e.terms ≢ pos 0
  pub greatest : coefficient_of u f.terms ≢ pos 0
  pub above : greatest_value d room u f <ℤ least_value d room u e

-- one equation misses, or fails modulo some number, or two of them, or one, leave an unknown no value
pub data ClosesInOneStep (d : ℕ) (room : RoomBounds) (equations : List EquationContent)
    : Type 0 where
  ByMiss :
      (e : EquationContent) → Contains equations e → Misses d room e
      → ClosesInOneStep d room equations
  ByModulus :
      (e : EquationContent) (g : ℕ) → Contains equations e → FailsModulo d room e g
      → ClosesInOneStep d room equations
  ByValues :
      (u : Unknown) (e f : EquationContent) → Contains equations e → Contains equations f
      → Crosses d room u e f → ClosesInOneStep d room equations
