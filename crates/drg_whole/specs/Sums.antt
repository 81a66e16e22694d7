-- Sums from left to right, and their fit.
use Rattle.std.specs.Prelude.{Bool, true, ◌&&◌, ℤ, map, ◌+ℤ◌, ◌*ℤ◌, List, [], ◌∷◌}
use Rattle.drg_whole.specs.Range.{in_range}
use Rattle.drg_whole.specs.declared.product.Product.{Product}

-- the numbers added to a total, from left to right
abbrev pub sum_from : ℤ → List ℤ → ℤ
sum_from total [] = total
sum_from total (z ∷ zs) = sum_from (total +ℤ z) zs

-- each number and each sum on the way is in range
abbrev pub sum_fits_from : ℤ → List ℤ → Bool
sum_fits_from total [] = true
sum_fits_from total (z ∷ zs) = in_range z && in_range (total +ℤ z) && sum_fits_from (total +ℤ z) zs

abbrev pub products_of : List Product → List ℤ
products_of ps = map (λ p. p.left *ℤ p.right) ps
