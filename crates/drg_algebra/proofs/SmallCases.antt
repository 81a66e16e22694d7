-- Small cases by hand.
use Rattle.std.proofs.Common.{◌≡◌, ℕ, zero, suc, ◌*◌, ◌%◌, ◌<◌, ◌≤◌, refl, sym, subst, arith, pos, inr}
use Rattle.std.specs.Int.{◌∣◌}
use Rattle.std.proofs.lemmas.Nat.Gcd.{le_of_dvd, mod-eq-zero_of_dvd}
use Rattle.std.proofs.lemmas.Int.{ints}
use mathlib.Core.Quot.Quotient.{sound, lift, lift₂}
use Rattle.drg_algebra.specs.Ring.{CommutativeRing, ◌⊕◌, ◌⊗◌, neg, ring2}
use Rattle.drg_algebra.specs.Rational.{pairs, whole, plus, times, minus, rationals}
use Rattle.drg_algebra.specs.Ratio.{ratio}
use Rattle.drg_algebra.specs.Pairs.{pair_path}
use Rattle.drg_algebra.specs.Order.{IsAbove}
use Rattle.drg_algebra.specs.Examples.{SquareOfSum, FiveIsSquarefree, GoldenRatio, RootOfTwoIsAboveOne, SquareOfTable, ThreePoints}
use Rattle.drg_algebra.proofs.NumberOrder.{sign_of_whole}

pub square_of_sum_holds : (r : CommutativeRing) → SquareOfSum r
square_of_sum_holds r x y = ring2 r.laws (λ x y. (x ⊕ y) ⊗ (x ⊕ y)) (λ x y. (x ⊗ x ⊕ (x ⊗ y ⊕ x ⊗ y)) ⊕ y ⊗ y) refl x y

pub five_is_squarefree : FiveIsSquarefree
five_is_squarefree = record { free = at }
  where
    at : (k : ℕ) → 1 < k → ¬ (k * k ∣ 5)
    at zero h d = omega arith
    at (suc zero) h d = omega arith
    at (suc (suc zero)) h d = (let e : 5 % 4 ≡ 0 = mod-eq-zero_of_dvd 4 d in omega (arith, e))
    at (suc (suc (suc k))) h d = (let small : suc (suc (suc k)) * suc (suc (suc k)) ≤ 5 = le_of_dvd (omega arith) d in omega (arith, small))

pub golden_ratio : GoldenRatio
unfolding ratio plus times minus lift lift₂
golden_ratio = pair_path _ _ (sound pairs refl) (sound pairs refl)

one_above : IsAbove (whole (pos 1))
one_above = (sign_of_whole (pos 1)).1 (omega (arith, ints))

gap : plus (times (whole (pos 2)) (times (whole (pos 1)) (whole (pos 1)))) (minus (times (minus (whole (pos 1))) (minus (whole (pos 1))))) ≡ whole (pos 1)
unfolding plus times minus lift lift₂
gap = sound pairs refl

pub root_of_two_is_above_one : RootOfTwoIsAboveOne
root_of_two_is_above_one =
    inr (inr (subst IsAbove (ring2 rationals (λ x y. x) (λ x y. neg (neg x)) refl (whole (pos 1)) (whole (pos 1))) one_above, one_above, subst IsAbove (sym gap) one_above))

pub square_of_table : SquareOfTable
unfolding plus times minus lift lift₂
square_of_table zero zero h k = sound pairs refl
square_of_table zero (suc zero) h k = sound pairs refl
square_of_table (suc zero) zero h k = sound pairs refl
square_of_table (suc zero) (suc zero) h k = sound pairs refl
square_of_table (suc (suc i)) j h k = absurd (omega arith)
square_of_table i (suc (suc j)) h k = absurd (omega arith)

pub three_points : ThreePoints
three_points = (refl, refl)
