-- The test of a negative value decides what it asks.
use Rattle.std.proofs.Common.{◌≡◌, ℕ, true, ap}
use Rattle.std.specs.declared.cmp.Ordering.{Ordering}
use Rattle.std.specs.declared.cmp.Ordering.TheVariants.{Less, Equal, Greater}
use Rattle.drg_quadratic.specs.Values.{IsRoot, IsOver, Value, minus}
use Rattle.drg_quadratic.specs.declared.quadratic.Quadratic.{Quadratic}
use Rattle.drg_quadratic.specs.Quadratic.{value_of, root_of}
use Rattle.drg_quadratic.specs.Operations.{value_operations}
use Rattle.drg_quadratic.specs.Signs.{ValueSign}
use Rattle.drg_replay.specs.FieldNumbers.{sign_at}
use Rattle.drg_replay.specs.KreinClaims.{is_less}
use Rattle.drg_replay.proofs.ValueLaws.{has_sign, one_sign}

-- the sign of a number
pub less_test : (x : Quadratic) (s : Ordering) → ValueSign (root_of x) (value_of x) s → is_less s ≡ is_less (sign_at (root_of x) (value_of x))
less_test x s h = ap is_less (one_sign x.root x.has_root (value_of x) x.flat s (sign_at x.root (value_of x)) h (has_sign x.root x.has_root (value_of x) x.flat))

pub less_is_negative : (root : ℕ) → IsRoot root → (z : Value) → IsOver root z → is_less (sign_at root z) ≡ true → (value_operations root).IsPositive (minus z)
less_is_negative root h z o e = by (sign_at root z) e (has_sign root h z o)
  where
    by : (s : Ordering) → is_less s ≡ true → ValueSign root z s → (value_operations root).IsPositive (minus z)
    by Less e p = p
    by Equal e p = cc
    by Greater e p = cc
