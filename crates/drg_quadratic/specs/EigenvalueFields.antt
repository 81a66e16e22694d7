-- Eigenvalues in an exact field over their root: their values, and that these descend where the eigenvalues do.
use Rattle.std.specs.Prelude.{◌≡◌, ℕ, ◌<◌, ◌^◌, true}
use Rattle.drg_algebra.specs.Rational.{whole}
use Rattle.drg_fraction.specs.Operations.{Operations}
use Rattle.drg_quadratic.specs.Eigenvalue.{IsBelow}
use Rattle.drg_quadratic.specs.declared.eigenvalue.Eigenvalue.{Eigenvalue}

module _ {V : Type 0} (o : Operations V) where
  -- v is the value (s + f √root) / 2: twice v is s + f √root
  abbrev pub IsValueOf : Eigenvalue → V → Type 0
  IsValueOf x v = o.IsOver v × (o.plus v v ≡ o.plus (o.rational (whole x.s)) (o.times (o.rational (whole x.f)) o.square_root))

  -- of two eigenvalues over the root, the larger one has the larger value
  abbrev pub ValuesDescend : ℕ → Type 0
  ValuesDescend root = (x y : Eigenvalue) (u v : V) → x.root ≡ root → y.root ≡ root → IsBelow y x → IsValueOf x u → IsValueOf y v
      → o.IsPositive (o.plus u (o.minus v))

  -- the work numbers of the difference of two eigenvalues over the root are in range, and those of its sign
  abbrev pub ComparisonsFit : ℕ → Type 0
  ComparisonsFit root = (x y : Eigenvalue) (u v : V) → root < 2 ^ 32 → x.root ≡ root → y.root ≡ root → IsValueOf x u → IsValueOf y v
      → (o.difference_fits u v ≡ true) × (o.sign_fits (o.plus u (o.minus v)) ≡ true)
