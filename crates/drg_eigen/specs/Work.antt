-- Whether the work numbers of a coefficient of F_(j+2) are in range, as a test.
use Rattle.std.specs.Prelude.{Bool, ◌&&◌, ℕ, ℤ, suc, List}
use Rattle.drg_whole.specs.Range.{in_range}
use Rattle.drg_whole.specs.Difference.{less_product_fits}
use Rattle.drg_array.specs.Entries.{Entries, a_at}
use Rattle.drg_eigen.specs.Characteristic.{weight_at}
use Rattle.drg_eigen.specs.Fits.{coefficient, coefficient_before, first_difference}

-- those of the coefficient of x^t, where g and f are F_j and F_(j+1)
abbrev pub next_fits : Entries → ℕ → List ℤ → List ℤ → ℕ → Bool
next_fits a j g f t =
    less_product_fits (coefficient_before f t) (a_at a (suc j)) (coefficient f t)
    && (in_range (weight_at a (suc j))
    && less_product_fits (first_difference a j f t) (weight_at a (suc j)) (coefficient g t))
