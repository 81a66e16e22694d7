-- The greatest number that divides the coefficients of all free terms.
use Rattle.std.specs.Prelude.{ℕ, ℤ, pos, ◌-ℤ◌, if◌then◌else◌, List, [], ◌∷◌}
use Rattle.drg_algebra.specs.Reduced.{common}
use Rattle.drg_linear.specs.Equations.{Term}
use Rattle.drg_linear.specs.Moduli.{is_free, is_fixed, fixed_product}
use Rattle.drg_linear.specs.Rooms.{RoomBounds}

-- the greatest common divisor with a term's coefficient, where the term is free
abbrev pub divisor_with : ℕ → RoomBounds → ℤ → Term → ℤ
divisor_with d room g t = if is_free d room t then pos (common g t.1) else g

-- the greatest common divisor of a number and the coefficients of the free terms
abbrev pub divisor_from : ℕ → RoomBounds → ℤ → List Term → ℤ
divisor_from d room g [] = g
divisor_from d room g (t ∷ ts) = divisor_from d room (divisor_with d room g t) ts

-- a number less a term, where the term is fixed
abbrev pub less_fixed : ℕ → RoomBounds → ℤ → Term → ℤ
less_fixed d room total t = if is_fixed d room t then total -ℤ fixed_product d room t else total
