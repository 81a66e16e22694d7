-- The polynomials F_j of a recurrence of three terms over a commutative ring, as values at x and as lists of coefficients,
-- and their weighted sums (Brouwer, Cohen and Neumaier 1989, section 4.1.B).
use Rattle.std.specs.Prelude.{ℕ, zero, suc, List, [], ◌∷◌}
use Rattle.drg_algebra.specs.Ring.{CommutativeRing, sub}
use Rattle.drg_eigen.specs.Polynomial.{add, scale, times_linear}

-- F_0 = 1, F_1 = x, F_(j+1) = (x - a_j) F_j - w_j F_(j-1)
module _ (r : CommutativeRing) (a w : ℕ → r.Of) where
  -- F_j(x)
  abbrev pub at : r.Of → ℕ → r.Of
  at x zero = r.unit
  at x (suc zero) = x
  at x (suc (suc j)) = sub r (r.times (sub r x (a (suc j))) (at x (suc j))) (r.times (w (suc j)) (at x j))

  -- the derivative of F_j at x
  abbrev pub slope : r.Of → ℕ → r.Of
  slope x zero = r.nil
  slope x (suc zero) = r.unit
  slope x (suc (suc j)) = sub r (r.plus (at x (suc j)) (r.times (sub r x (a (suc j))) (slope x (suc j)))) (r.times (w (suc j)) (slope x j))

  -- w_1 .. w_m times the sum over j up to m of F_j(x) F_j(y) / (w_1 .. w_j)
  abbrev pub weighted : r.Of → r.Of → ℕ → r.Of
  weighted x y zero = r.unit
  weighted x y (suc m) = r.plus (r.times (w (suc m)) (weighted x y m)) (r.times (at x (suc m)) (at y (suc m)))

  -- the coefficients of F_j
  abbrev pub chain : ℕ → List r.Of
  chain zero = r.unit ∷ []
  chain (suc zero) = r.nil ∷ r.unit ∷ []
  chain (suc (suc j)) = add r (times_linear r (a (suc j)) (chain (suc j))) (scale r (r.minus (w (suc j))) (chain j))

-- The same with quotients: g_j stands for 1 / (w_1 .. w_j).
module _ (r : CommutativeRing) (a w g : ℕ → r.Of) where
  -- the sum over j up to m of g_j F_j(x) F_j(y)
  abbrev pub quotients : r.Of → r.Of → ℕ → r.Of
  quotients x y zero = g 0
  quotients x y (suc m) = r.plus (quotients x y m) (r.times (g (suc m)) (r.times (at r a w x (suc m)) (at r a w y (suc m))))
