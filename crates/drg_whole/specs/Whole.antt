-- The number that a checked whole number is.
use Rattle.std.specs.Prelude.{◌≡◌, ℤ}
use mathlib.Core.HLevel.{is_prop→PathP}
use native.Mathlib.Bridge.{le_prop}
use Rattle.drg_whole.specs.Range.{InRange}
use Rattle.drg_whole.specs.declared.whole.Whole.{Whole}

abbrev pub value_of : Whole → ℤ
value_of w = w.value

-- a number in range is one checked number
pub one_whole : (x y : Whole) → x.value ≡ y.value → x ≡ y
one_whole x y e i = record { value = e i; in_range = is_prop→PathP (λ j. InRange (e j)) (λ j. le_prop) x.in_range y.in_range i }
