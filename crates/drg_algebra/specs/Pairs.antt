-- The extension of a ring by a root α of x² - s x + t: pairs a + b α. Values a + b √D, remainders and dual numbers are instances.
pub use Rattle.drg_algebra.specs.Ring.{CommutativeRing, sub}
pub use Rattle.drg_algebra.specs.Integer.{whole_numbers}
pub use Rattle.drg_algebra.specs.Rational.{rational_numbers}
use Rattle.std.specs.Prelude.{◌≡◌, ℕ, ℤ, pos}
use Rattle.std.proofs.Common.{refl}
use Rattle.drg_algebra.specs.Ring.{IsRing, Poly, none, one, ◌⊕◌, ◌⊗◌, neg, ring4, ring6, ring8}
use Rattle.drg_algebra.specs.Rational.{whole, minus}

-- a + b α, or a + b √D
pub record Pair (A : Type 0) : Type 0 where
  pub a : A
  pub b : A

pub pair_path : {A : Type 0} (x y : Pair A) → x.a ≡ y.a → x.b ≡ y.b → x ≡ y
pair_path x y p q i = record { a = p i; b = q i }

-- The parts of (a + b α) (c + d α), as polynomials: a c - t b d, and a d + b c + s b d.
abbrev pub product_a : Poly → Poly → Poly → Poly → Poly → Poly → Poly
product_a s t a b c d = a ⊗ c ⊕ neg (t ⊗ (b ⊗ d))

abbrev pub product_b : Poly → Poly → Poly → Poly → Poly → Poly → Poly
product_b s t a b c d = a ⊗ d ⊕ b ⊗ c ⊕ s ⊗ (b ⊗ d)

module _ (r : CommutativeRing) (s t : r.Of) where
  abbrev pub pair_nil : Pair r.Of
  pair_nil = record { a = r.nil; b = r.nil }

  abbrev pub pair_unit : Pair r.Of
  pair_unit = record { a = r.unit; b = r.nil }

  abbrev pub pair_plus : Pair r.Of → Pair r.Of → Pair r.Of
  pair_plus x y = record { a = r.plus x.a y.a; b = r.plus x.b y.b }

  abbrev pub pair_minus : Pair r.Of → Pair r.Of
  pair_minus x = record { a = r.minus x.a; b = r.minus x.b }

  abbrev pub pair_times : Pair r.Of → Pair r.Of → Pair r.Of
  pair_times x y = record {
    a = r.plus (r.times x.a y.a) (r.minus (r.times t (r.times x.b y.b)));
    b = r.plus (r.plus (r.times x.a y.b) (r.times x.b y.a)) (r.times s (r.times x.b y.b));
  }

  pub pair_laws : IsRing pair_nil pair_unit pair_plus pair_times pair_minus
  pair_laws = record {
    plus_assoc = λ x y z. pair_path _ _ (r.laws.plus_assoc x.a y.a z.a) (r.laws.plus_assoc x.b y.b z.b);
    plus_comm = λ x y. pair_path _ _ (r.laws.plus_comm x.a y.a) (r.laws.plus_comm x.b y.b);
    plus_nil = λ x. pair_path _ _ (r.laws.plus_nil x.a) (r.laws.plus_nil x.b);
    plus_minus = λ x. pair_path _ _ (r.laws.plus_minus x.a) (r.laws.plus_minus x.b);
    times_assoc = λ x y z. pair_path _ _
        (ring8 r.laws
        (λ s t a b c d e f. product_a s t (product_a s t a b c d) (product_b s t a b c d) e f)
        (λ s t a b c d e f. product_a s t a b (product_a s t c d e f) (product_b s t c d e f))
        refl s t x.a x.b y.a y.b z.a z.b)
        (ring8 r.laws
        (λ s t a b c d e f. product_b s t (product_a s t a b c d) (product_b s t a b c d) e f)
        (λ s t a b c d e f. product_b s t a b (product_a s t c d e f) (product_b s t c d e f))
        refl s t x.a x.b y.a y.b z.a z.b);
    times_comm = λ x y. pair_path _ _
        (ring6 r.laws product_a (λ s t a b c d. product_a s t c d a b) refl s t x.a x.b y.a y.b)
        (ring6 r.laws product_b (λ s t a b c d. product_b s t c d a b) refl s t x.a x.b y.a y.b);
    times_unit = λ x. pair_path _ _
        (ring4 r.laws (λ s t a b. product_a s t a b one none) (λ s t a b. a) refl s t x.a x.b)
        (ring4 r.laws (λ s t a b. product_b s t a b one none) (λ s t a b. b) refl s t x.a x.b);
    times_plus = λ x y z. pair_path _ _
        (ring8 r.laws
        (λ s t a b c d e f. product_a s t a b (c ⊕ e) (d ⊕ f))
        (λ s t a b c d e f. product_a s t a b c d ⊕ product_a s t a b e f)
        refl s t x.a x.b y.a y.b z.a z.b)
        (ring8 r.laws
        (λ s t a b c d e f. product_b s t a b (c ⊕ e) (d ⊕ f))
        (λ s t a b c d e f. product_b s t a b c d ⊕ product_b s t a b e f)
        refl s t x.a x.b y.a y.b z.a z.b);
  }

  abbrev pub pairs : CommutativeRing
  pairs = record { Of = Pair r.Of; nil = pair_nil; unit = pair_unit; plus = pair_plus; times = pair_times; minus = pair_minus; laws = pair_laws }

  -- α itself
  abbrev pub alpha : Pair r.Of
  alpha = record { a = r.nil; b = r.unit }

  -- a + b α has the conjugate a + b (s - α)
  abbrev pub conjugate : Pair r.Of → Pair r.Of
  conjugate x = record { a = r.plus x.a (r.times s x.b); b = r.minus x.b }

  -- a² + s a b + t b²
  abbrev pub norm : Pair r.Of → r.Of
  norm x = r.plus (r.plus (r.times x.a x.a) (r.times s (r.times x.a x.b))) (r.times t (r.times x.b x.b))

  -- 2 a + s b
  abbrev pub trace : Pair r.Of → r.Of
  trace x = r.plus (r.plus x.a x.a) (r.times s x.b)

-- a as a + 0 α
abbrev pub constant : (r : CommutativeRing) → r.Of → Pair r.Of
constant r x = record { a = x; b = r.nil }

-- a + b ε with ε² = 0
abbrev pub duals : CommutativeRing → CommutativeRing
duals r = pairs r r.nil r.nil

-- remainders of polynomials modulo x² - s x + t
abbrev pub remainders : ℤ → ℤ → CommutativeRing
remainders s t = pairs whole_numbers s t

-- the values a + b √D of rationals a and b
abbrev pub root_values : ℕ → CommutativeRing
root_values root = pairs rational_numbers (whole (pos 0)) (minus (whole (pos root)))
