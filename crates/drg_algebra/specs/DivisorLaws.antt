-- Laws of greatest common divisors and of squarefree numbers.
use Rattle.std.specs.Prelude.{◌≡◌, ℕ, ◌*◌, ◌<◌}
use Rattle.std.specs.Int.{IsGcd, ◌∣◌}
use Rattle.drg_algebra.specs.Gcd.{gcd_of}
use Rattle.drg_algebra.specs.Root.{IsSquarefree}

-- it divides both numbers, and each divisor of both divides it
abbrev pub GcdIsGreatest : Type 0
GcdIsGreatest = (a b : ℕ) → IsGcd a b (gcd_of a b)

-- it does not depend on the order
abbrev pub GcdCommutes : Type 0
GcdCommutes = (a b : ℕ) → gcd_of a b ≡ gcd_of b a

-- a common factor of both numbers is a factor of it
abbrev pub GcdScales : Type 0
GcdScales = (c a b : ℕ) → gcd_of (c * a) (c * b) ≡ c * gcd_of a b

-- a divisor of a product that has no common divisor with one factor divides the other
abbrev pub EuclidsLemma : Type 0
EuclidsLemma = (d a b : ℕ) → gcd_of a d ≡ 1 → d ∣ b * a → d ∣ b

-- a number without common divisors with two others has none with their product
abbrev pub CoprimeToProduct : Type 0
CoprimeToProduct = (a b c : ℕ) → gcd_of a b ≡ 1 → gcd_of a c ≡ 1 → gcd_of a (b * c) ≡ 1

-- f² D = g² E with D and E squarefree: the parts agree
abbrev pub OneSquarefreePart : Type 0
OneSquarefreePart = (f g d e : ℕ) → IsSquarefree d → IsSquarefree e → 0 < f → 0 < g → (f * f) * d ≡ (g * g) * e → (f ≡ g) × (d ≡ e)

-- a number that is no square is no square of a quotient
abbrev pub NoSquareOfQuotient : Type 0
NoSquareOfQuotient = (n : ℕ) → ((k : ℕ) → ¬ (k * k ≡ n)) → (a b : ℕ) → a * a ≡ n * (b * b) → (a ≡ 0) × (b ≡ 0)

-- such is each squarefree number above 1
abbrev pub SquarefreeIsNoSquare : Type 0
SquarefreeIsNoSquare = (n k : ℕ) → IsSquarefree n → 1 < n → ¬ (k * k ≡ n)
