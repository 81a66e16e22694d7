-- The line `mod`: an equation that can't hold modulo g.
use Rattle.std.specs.Prelude.{ℕ, ℤ, pos, ◌-ℤ◌, unsigned_abs, int_le, Bool, true, ◌&&◌, not, List, [], ◌∷◌}
use Rattle.drg_whole.specs.Range.{in_range}
use Rattle.drg_whole.specs.Residues.{divides}
use Rattle.drg_linear.specs.Equations.{EquationContent}
use Rattle.drg_linear.specs.Rooms.{RoomBounds}
use Rattle.drg_linear.specs.Moduli.{divides_free, fixed_products, less_from}
use Rattle.drg_rooms.specs.Steps.{Step, Holds, Fits}

abbrev pub all_in_range : List ℤ → Bool
all_in_range [] = true
all_in_range (z ∷ zs) = in_range z && all_in_range zs

-- each difference on the way is in range
abbrev pub less_fits_from : ℤ → List ℤ → Bool
less_fits_from total [] = true
less_fits_from total (z ∷ zs) = in_range (total -ℤ z) && less_fits_from (total -ℤ z) zs

-- g is at least 2, divides the coefficient of each free term, and doesn't divide the right side
-- less the fixed terms
abbrev pub mod_steps : ℕ → RoomBounds → ℤ → EquationContent → List Step
mod_steps d room g e =
    let products = fixed_products d room e.terms in
    Holds (int_le (pos 2) g)
    ∷ Holds (divides_free d room (unsigned_abs g) e.terms)
    ∷ Fits (all_in_range products && less_fits_from e.right products)
    ∷ Holds (not (divides (unsigned_abs g) (less_from e.right products)))
    ∷ []
