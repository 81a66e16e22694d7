-- A number less a product, and its fit.
use Rattle.std.specs.Prelude.{Bool, ◌&&◌, ℤ, ◌-ℤ◌, ◌*ℤ◌}
use Rattle.drg_whole.specs.Range.{in_range}

abbrev pub less_product : ℤ → ℤ → ℤ → ℤ
less_product z x y = z -ℤ x *ℤ y

-- the product and the difference are in range
abbrev pub less_product_fits : ℤ → ℤ → ℤ → Bool
less_product_fits z x y = in_range (x *ℤ y) && in_range (less_product z x y)
