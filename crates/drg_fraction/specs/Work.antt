-- The work numbers of each operation on fractions, and whether they are in range.
use Rattle.std.specs.Prelude.{Bool, List, [], ◌∷◌, ℤ, pos, ◌+ℤ◌, ◌-ℤ◌, ◌*ℤ◌, int_div}
use Rattle.std.specs.List.{list_all}
use Rattle.drg_algebra.specs.Rational.{ℚ}
use Rattle.drg_algebra.specs.Reduced.{numerator, denominator, common}
use Rattle.drg_algebra.specs.Fields.{invert}
use Rattle.drg_whole.specs.Range.{in_range}

-- a/b + c/d with g = gcd(b, d): a (d/g), c (b/g), their sum, and b (d/g)
abbrev pub sum_work : ℤ → ℤ → ℤ → ℤ → List ℤ
sum_work a b c d =
    let g = pos (common b d) in
    (a *ℤ int_div d g) ∷ (c *ℤ int_div b g) ∷ (a *ℤ int_div d g +ℤ c *ℤ int_div b g) ∷ (b *ℤ int_div d g) ∷ []

-- a/b - c/d: the same with the difference
abbrev pub difference_work : ℤ → ℤ → ℤ → ℤ → List ℤ
difference_work a b c d =
    let g = pos (common b d) in
    (a *ℤ int_div d g) ∷ (c *ℤ int_div b g) ∷ (a *ℤ int_div d g -ℤ c *ℤ int_div b g) ∷ (b *ℤ int_div d g) ∷ []

-- a/b times c/d with g = gcd(a, d) and h = gcd(c, b): (a/g) (c/h) and (b/h) (d/g)
abbrev pub product_work : ℤ → ℤ → ℤ → ℤ → List ℤ
product_work a b c d =
    let g = pos (common a d) in
    let h = pos (common c b) in
    (int_div a g *ℤ int_div c h) ∷ (int_div b h *ℤ int_div d g) ∷ []

abbrev pub all_fit : List ℤ → Bool
all_fit = list_all in_range

-- the numbers are those of the reduced pairs
unfoldable pub fits_at : (ℤ → ℤ → ℤ → ℤ → List ℤ) → ℚ → ℚ → Bool
fits_at work x y = all_fit (work (numerator x) (denominator x) (numerator y) (denominator y))

abbrev pub sum_fits : ℚ → ℚ → Bool
sum_fits = fits_at sum_work

abbrev pub difference_fits : ℚ → ℚ → Bool
difference_fits = fits_at difference_work

abbrev pub product_fits : ℚ → ℚ → Bool
product_fits = fits_at product_work

-- a quotient is the product with the inverse
abbrev pub quotient_fits : ℚ → ℚ → Bool
quotient_fits x y = product_fits x (invert y)
