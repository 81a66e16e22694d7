-- Where a value is 0.
use Rattle.std.specs.Prelude.{◌≡◌, ℕ, pos, ◌↔◌}
use Rattle.drg_algebra.specs.Rational.{ℚ, whole}
use Rattle.drg_quadratic.specs.Values.{IsRoot, IsOver, Value, nil, plus, times, norm, rational, square_root}

-- a + b √root is 0 exactly where a and b are
abbrev pub ZeroByParts : Type 0
ZeroByParts = (root : ℕ) → IsRoot root → (a b : ℚ) → (root ≡ 0 → b ≡ whole (pos 0))
    → (plus (rational a) (times root (rational b) (square_root root)) ≡ nil) ↔ ((a ≡ whole (pos 0)) × (b ≡ whole (pos 0)))

-- a² - root b² is 0 only at 0
abbrev pub ZeroByNorm : Type 0
ZeroByNorm = (root : ℕ) → IsRoot root → (z : Value) → IsOver root z → norm root z ≡ whole (pos 0) → z ≡ nil
