-- Laws of rings and fields: equations by computation, maps, and the extension by a root.
use Rattle.std.specs.Prelude.{◌≡◌, ℕ, ℤ, pos, ◌<◌, ◌↔◌}
use Rattle.std.proofs.Common.{◌⊎◌}
use Rattle.drg_algebra.specs.Ring.{CommutativeRing, sub, IsRingOf, IsFieldOf, Field, Poly, Same, value}
use Rattle.drg_algebra.specs.Rational.{ℚ, whole, plus, times}
use Rattle.drg_algebra.specs.Pairs.{Pair, pairs, alpha, conjugate, norm, trace, constant, whole_numbers, rational_numbers, root_values}
use Rattle.drg_algebra.specs.Maps.{IsMap}
use Rattle.drg_algebra.specs.Root.{IsSquarefree}

-- two polynomials with one normal form have one value, whatever their variables stand for
abbrev pub EquationsByComputation : CommutativeRing → Type 0
EquationsByComputation r = (env : ℕ → r.Of) (e f : Poly) → Same e f
    → value r.nil r.unit r.plus r.times r.minus env e ≡ value r.nil r.unit r.plus r.times r.minus env f

-- 2 x and x²
abbrev pub twice : (r : CommutativeRing) → r.Of → r.Of
twice r x = r.plus x x

abbrev pub square : (r : CommutativeRing) → r.Of → r.Of
square r x = r.times x x

-- s² - 4 t
abbrev pub discriminant_of : (r : CommutativeRing) → r.Of → r.Of → r.Of
discriminant_of r s t = sub r (square r s) (twice r (twice r t))

-- The extension of a ring by a root α of x² - s x + t: each member is a + b α, and the ring stands in it as the constants.
-- Conjugation keeps sums and products, z times its conjugate is the norm, and norm and trace are told by squares.
pub record PairLaws (r : CommutativeRing) (s t : r.Of) : Type 0 where
  pub ring : IsRingOf (pairs r s t)
  pub constants : IsMap r (pairs r s t) (constant r)
  pub root :
      (pairs r s t).times (alpha r s t) (alpha r s t)
      ≡ sub (pairs r s t) ((pairs r s t).times (constant r s) (alpha r s t)) (constant r t)
  pub split : (x : Pair r.Of) → x ≡ (pairs r s t).plus (constant r x.a) ((pairs r s t).times (constant r x.b) (alpha r s t))
  pub conjugate_plus : (x y : Pair r.Of)
      → conjugate r s t ((pairs r s t).plus x y) ≡ (pairs r s t).plus (conjugate r s t x) (conjugate r s t y)
  pub conjugate_times : (x y : Pair r.Of)
      → conjugate r s t ((pairs r s t).times x y) ≡ (pairs r s t).times (conjugate r s t x) (conjugate r s t y)
  pub conjugate_constant : (x : r.Of) → conjugate r s t (constant r x) ≡ constant r x
  pub conjugate_twice : (x : Pair r.Of) → conjugate r s t (conjugate r s t x) ≡ x
  pub times_conjugate : (x : Pair r.Of) → (pairs r s t).times x (conjugate r s t x) ≡ constant r (norm r s t x)
  pub plus_conjugate : (x : Pair r.Of) → (pairs r s t).plus x (conjugate r s t x) ≡ constant r (trace r s t x)
  pub norm_times : (x y : Pair r.Of) → norm r s t ((pairs r s t).times x y) ≡ r.times (norm r s t x) (norm r s t y)
  pub trace_plus : (x y : Pair r.Of) → trace r s t ((pairs r s t).plus x y) ≡ r.plus (trace r s t x) (trace r s t y)
  pub norm_squares : (x : Pair r.Of)
      → twice r (twice r (norm r s t x)) ≡ sub r (square r (trace r s t x)) (r.times (discriminant_of r s t) (square r x.b))
  pub trace_squares : (x : Pair r.Of)
      → twice r (trace r s t (square (pairs r s t) x)) ≡ r.plus (square r (trace r s t x)) (r.times (discriminant_of r s t) (square r x.b))

-- pairs over a field are a field where only nil has the norm nil
abbrev pub PairsAreField : Field → Type 0
PairsAreField f = (s t : f.ring.Of) → ((x : Pair f.ring.Of) → norm f.ring s t x ≡ f.ring.nil → x ≡ (pairs f.ring s t).nil)
    → IsFieldOf (pairs f.ring s t)

-- Quotients are there and unique, and a product is nil only where a factor is.
pub record FieldLaws (f : Field) : Type 0 where
  pub quotient : (x y : f.ring.Of) → ¬ (y ≡ f.ring.nil) → (q : f.ring.Of) × (f.ring.times y q ≡ x)
  pub cancel : (y q p : f.ring.Of) → ¬ (y ≡ f.ring.nil) → f.ring.times y q ≡ f.ring.times y p → q ≡ p
  pub domain : (x y : f.ring.Of) → f.ring.times x y ≡ f.ring.nil → (x ≡ f.ring.nil) ⊎ (y ≡ f.ring.nil)

-- ---- whole numbers, rationals, and the values a + b √D
-- a whole number among the values
abbrev pub embedded : ℤ → Pair ℚ
embedded n = constant rational_numbers (whole n)

-- whole numbers among the rationals are added and multiplied as whole numbers
abbrev pub WholesAreRationals : Type 0
WholesAreRationals = IsMap whole_numbers rational_numbers whole

-- and so are they among the values
abbrev pub WholesAreValues : Type 0
WholesAreValues = (root : ℕ) → IsMap whole_numbers (root_values root) embedded

-- (a + b √D) (c + e √D) = (a c + D b e) + (a e + b c) √D
abbrev pub ProductOfValues : Type 0
ProductOfValues = (root : ℕ) (x y : Pair ℚ)
    → (root_values root).times x y ≡ record {
      a = plus (times x.a y.a) (times (whole (pos root)) (times x.b y.b));
      b = plus (times x.a y.b) (times x.b y.a);
    }

-- √D √D = D
abbrev pub SquareOfRoot : Type 0
SquareOfRoot = (root : ℕ) → square (root_values root) (record { a = whole (pos 0); b = whole (pos 1) }) ≡ embedded (pos root)

-- for a squarefree D above 1 the values are a field
abbrev pub ValuesAreField : Type 0
ValuesAreField = (root : ℕ) → IsSquarefree root → 1 < root → IsFieldOf (root_values root)

-- a value is 0 exactly where both its parts are
abbrev pub ValueIsItsParts : Type 0
ValueIsItsParts = (root : ℕ) (z : Pair ℚ) → (z ≡ (root_values root).nil) ↔ ((z.a ≡ whole (pos 0)) × (z.b ≡ whole (pos 0)))

-- a² = D b² only where a and b are 0
abbrev pub NormIsZeroByParts : Type 0
NormIsZeroByParts = (root : ℕ) → IsSquarefree root → 1 < root → (a b : ℚ) → times a a ≡ times (whole (pos root)) (times b b)
    → (a ≡ whole (pos 0)) × (b ≡ whole (pos 0))
