-- Maps of rings: they keep nil, unit, sums, products and negatives.
use Rattle.std.specs.Prelude.{◌≡◌}
use Rattle.drg_algebra.specs.Ring.{CommutativeRing}

pub record IsMap (r q : CommutativeRing) (f : r.Of → q.Of) : Type 0 where
  pub nil : f r.nil ≡ q.nil
  pub unit : f r.unit ≡ q.unit
  pub plus : (x y : r.Of) → f (r.plus x y) ≡ q.plus (f x) (f y)
  pub times : (x y : r.Of) → f (r.times x y) ≡ q.times (f x) (f y)
  pub minus : (x : r.Of) → f (r.minus x) ≡ q.minus (f x)
