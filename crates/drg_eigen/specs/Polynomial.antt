-- Polynomials over a commutative ring, as lists of coefficients from the constant upwards.
use Rattle.std.specs.Prelude.{List, [], ◌∷◌}
use Rattle.drg_algebra.specs.Ring.{CommutativeRing}

module _ (r : CommutativeRing) where
  -- f + g
  abbrev pub add : List r.Of → List r.Of → List r.Of
  add [] g = g
  add (x ∷ f) [] = x ∷ f
  add (x ∷ f) (y ∷ g) = r.plus x y ∷ add f g

  -- c f
  abbrev pub scale : r.Of → List r.Of → List r.Of
  scale c [] = []
  scale c (x ∷ f) = r.times c x ∷ scale c f

  -- (x - c) f
  abbrev pub times_linear : r.Of → List r.Of → List r.Of
  times_linear c f = add (r.nil ∷ f) (scale (r.minus c) f)

  -- (x² - s x + t) f
  abbrev pub times_quadratic : r.Of → r.Of → List r.Of → List r.Of
  times_quadratic s t f = add (r.nil ∷ r.nil ∷ f) (add (r.nil ∷ scale (r.minus s) f) (scale t f))

-- the value at z by Horner's rule, where a map takes the coefficients to the ring of z
abbrev pub eval : (r q : CommutativeRing) → (r.Of → q.Of) → q.Of → List r.Of → q.Of
eval r q f z [] = q.nil
eval r q f z (x ∷ p) = q.plus (f x) (q.times z (eval r q f z p))
