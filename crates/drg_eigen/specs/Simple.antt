-- What the search for factors asks of a polynomial. The characteristic polynomial of an array meets it.
use Rattle.std.specs.Prelude.{ℤ, pos, ◌*ℤ◌, ◌<ℤ◌, List}
use Rattle.drg_eigen.specs.Factor.{Factor, quadratic, IsIrreducible, Divides, DividesTwice}

-- no factor divides f twice, and each irreducible x² - s x + t that divides it has real roots
pub record IsSimple (f : List ℤ) : Type 0 where
  pub once : (c : Factor) → ¬ DividesTwice c f
  pub real : (s t : ℤ) → IsIrreducible (quadratic s t) → Divides (quadratic s t) f → (pos 4 *ℤ t) <ℤ (s *ℤ s)
