-- The value that a quadratic number stands for.
use Rattle.std.specs.Prelude.{◌≡◌, ℕ, pos}
use Rattle.std.proofs.Common.{ap}
use mathlib.Core.HLevel.{is_prop→PathP}
use Rattle.drg_algebra.specs.Rational.{whole}
use Rattle.drg_fraction.specs.Fraction.{rational_of, one_fraction}
use Rattle.drg_quadratic.specs.declared.quadratic.Quadratic.{Quadratic}
use Rattle.drg_quadratic.specs.Values.{Value, IsRoot, root_prop, flat_prop}

abbrev pub value_of : Quadratic → Value
value_of q = record { a = rational_of q.a; b = rational_of q.b }

abbrev pub root_of : Quadratic → ℕ
root_of q = q.root

-- a value over a root has one number
pub one_quadratic : (x y : Quadratic) → root_of x ≡ root_of y → value_of x ≡ value_of y → x ≡ y
one_quadratic x y r e i =
    let b = one_fraction x.b y.b (ap (λ (z : Value). z.b) e) in
    record {
      a = one_fraction x.a y.a (ap (λ (z : Value). z.a) e) i;
      b = b i;
      root = r i;
      has_root = is_prop→PathP (λ j. IsRoot (r j)) (λ j. root_prop (r j)) x.has_root y.has_root i;
      flat = is_prop→PathP (λ j. r j ≡ 0 → rational_of (b j) ≡ whole (pos 0)) (λ j. flat_prop (r j) (rational_of (b j))) x.flat y.flat i;
    }
