-- The values a + b √root of rationals a and b, and their inverses. Over root 0 the values are the rationals a.
use Rattle.std.specs.Prelude.{◌≡◌, ℕ, ℤ, zero, suc, ◌<◌, pos}
use lib.IntN.{ℤ_set}
use native.Mathlib.Bridge.{le_prop}
use Rattle.drg_algebra.specs.Rational.{ℚ, ℚ_set, whole, rational_numbers}
use Rattle.drg_algebra.specs.Rational as Rational
use Rattle.drg_algebra.specs.Fields as Fields
use Rattle.drg_algebra.specs.Pairs.{Pair, constant, root_values}
use Rattle.drg_algebra.specs.Root.{IsSquarefree}
use Rattle.drg_algebra.specs.Order.{root_norm}

-- 0, or a squarefree number above 1: no square above 1 divides it
abbrev pub IsRoot : ℕ → Type 0
IsRoot root = 0 < root → IsSquarefree root × (1 < root)

pub root_prop : (root : ℕ) → IsProp (IsRoot root)
root_prop root = hlevel le_prop

-- a + b √root
abbrev pub Value : Type 0
Value = Pair ℚ

-- over root 0 the part b is 0
abbrev pub IsOver : ℕ → Value → Type 0
IsOver root z = root ≡ 0 → z.b ≡ whole (pos 0)

pub flat_prop : (root : ℕ) (b : ℚ) → IsProp (root ≡ 0 → b ≡ whole (pos 0))
flat_prop root b = hlevel ℚ_set

pub none_prop : (root : ℕ) (f : ℤ) → IsProp (root ≡ 0 → f ≡ pos 0)
none_prop root f = hlevel ℤ_set

-- sums and negatives are those of the parts, whatever the root
abbrev pub nil : Value
nil = (root_values 0).nil

abbrev pub unit : Value
unit = (root_values 0).unit

abbrev pub plus : Value → Value → Value
plus = (root_values 0).plus

abbrev pub minus : Value → Value
minus = (root_values 0).minus

abbrev pub times : ℕ → Value → Value → Value
times root = (root_values root).times

-- a rational is the value a + 0 √root
abbrev pub rational : ℚ → Value
rational = constant rational_numbers

-- √root, which is 0 for root 0
abbrev pub square_root : ℕ → Value
square_root zero = nil
square_root (suc n) = record { a = whole (pos 0); b = whole (pos 1) }

-- a - b √root
abbrev pub conjugate : Value → Value
conjugate z = record { a = z.a; b = Rational.minus z.b }

-- a² - root b², the product with the conjugate
abbrev pub norm : ℕ → Value → ℚ
norm root z = root_norm rational_numbers (whole (pos root)) z

-- (a - b √root) / (a² - root b²)
abbrev pub invert : ℕ → Value → Value
invert root z = record {
  a = Rational.times z.a (Fields.invert (norm root z));
  b = Rational.minus (Rational.times z.b (Fields.invert (norm root z)));
}
