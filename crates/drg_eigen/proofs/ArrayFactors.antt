-- The weights of an array are positive, so its characteristic polynomial has simple factors.
use Rattle.std.proofs.Common.{ℕ, suc, ◌≤◌, arith, pos}
use Rattle.std.specs.Prelude.{◌<ℤ◌}
use Rattle.std.proofs.lemmas.Int.{ints}
use Rattle.drg_algebra.specs.Integer.{above_times}
use Rattle.drg_array.specs.Entries.{Entries, IsArray, diameter, b_at, c_at, a_at}
use Rattle.drg_array.proofs.EntryLemmas.{b-positive, c-positive}
use Rattle.drg_eigen.specs.Characteristic.{weight_at, characteristic}
use Rattle.drg_eigen.specs.Factor.{linear, quadratic}
use Rattle.drg_eigen.specs.Simple.{IsSimple}
use Rattle.drg_eigen.specs.FactorLaws.{IsPositive, NoDoubleLinear, NoDoubleQuadratic, QuadraticsAreReal}
use Rattle.drg_eigen.proofs.SimpleFactors.{no_double_factor_of_chain, quadratics_of_chain_are_real}

above : (n : ℕ) → 1 ≤ n → pos 0 <ℤ pos n
above n h = omega (arith, ints, h)

weights_are_positive : (a : Entries) → IsArray a → IsPositive (diameter a) (weight_at a)
weights_are_positive a array j h =
    let inside : suc j ≤ diameter a = omega (arith, h) in
    above_times (pos (b_at a j)) (pos (c_at a (suc j))) (above _ (b-positive a j array h)) (above _ (c-positive a j array inside))

pub no_double_linear : NoDoubleLinear
no_double_linear a r array = no_double_factor_of_chain (a_at a) (weight_at a) (diameter a) (weights_are_positive a array) (linear r)

pub no_double_quadratic : NoDoubleQuadratic
no_double_quadratic a s t array = no_double_factor_of_chain (a_at a) (weight_at a) (diameter a) (weights_are_positive a array) (quadratic s t)

pub quadratics_are_real : QuadraticsAreReal
quadratics_are_real a s t array = quadratics_of_chain_are_real (a_at a) (weight_at a) (diameter a) (weights_are_positive a array) s t

pub characteristic_is_simple : (a : Entries) → IsArray a → IsSimple (characteristic a)
characteristic_is_simple a array = record { once = no_double_factor_of_chain (a_at a) (weight_at a) (diameter a) (weights_are_positive a array); real = λ s t. quadratics_are_real a s t array }
