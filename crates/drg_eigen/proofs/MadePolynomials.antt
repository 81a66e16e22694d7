-- The polynomials of tests are simple: (x - 5) (x² - 2) (x² - 3) and (x - 5) (x² - 2) (x² - 8).
use Rattle.std.proofs.Common.{◌≡◌, ℕ, zero, suc, ◌*◌, sym, ◌∙◌, arith, ℤ, pos, negsuc, [], ◌∷◌, inr, refl}
use Rattle.std.specs.Prelude.{◌*ℤ◌, ◌<ℤ◌, neg_ℤ, unsigned_abs}
use Rattle.std.proofs.lemmas.Int.{ints}
use Rattle.drg_eigen.specs.Factor.{linear, quadratic}
use Rattle.drg_eigen.specs.Order.{ComesBefore}
use Rattle.drg_eigen.specs.Simple.{IsSimple}
use Rattle.drg_eigen.proofs.Discriminants.{square_is, pos_inside}
use Rattle.drg_eigen.proofs.SimpleProducts.{products_are_simple}

not_eight : (n : ℕ) → ¬ (n * n ≡ 8)
not_eight zero e = absurd (omega (arith, e))
not_eight (suc zero) e = absurd (omega (arith, e))
not_eight (suc (suc zero)) e = absurd (omega (arith, e))
not_eight (suc (suc (suc n))) e = absurd (omega (arith, e))

not_twelve : (n : ℕ) → ¬ (n * n ≡ 12)
not_twelve zero e = absurd (omega (arith, e))
not_twelve (suc zero) e = absurd (omega (arith, e))
not_twelve (suc (suc zero)) e = absurd (omega (arith, e))
not_twelve (suc (suc (suc zero))) e = absurd (omega (arith, e))
not_twelve (suc (suc (suc (suc n)))) e = absurd (omega (arith, e))

not_thirty_two : (n : ℕ) → ¬ (n * n ≡ 32)
not_thirty_two zero e = absurd (omega (arith, e))
not_thirty_two (suc zero) e = absurd (omega (arith, e))
not_thirty_two (suc (suc zero)) e = absurd (omega (arith, e))
not_thirty_two (suc (suc (suc zero))) e = absurd (omega (arith, e))
not_thirty_two (suc (suc (suc (suc zero)))) e = absurd (omega (arith, e))
not_thirty_two (suc (suc (suc (suc (suc zero))))) e = absurd (omega (arith, e))
not_thirty_two (suc (suc (suc (suc (suc (suc n)))))) e = absurd (omega (arith, e))

no_square : (d : ℕ) → ((n : ℕ) → ¬ (n * n ≡ d)) → (m : ℤ) → ¬ (m *ℤ m ≡ pos d)
no_square d f m e = f (unsigned_abs m) (pos_inside _ d (sym (square_is m) ∙ e))

positive : (n : ℕ) → (pos 4 *ℤ negsuc n) <ℤ (pos 0 *ℤ pos 0)
positive n = omega (arith, ints)

pub two_fields_polynomial : IsSimple (neg_ℤ (pos 30) ∷ pos 6 ∷ pos 25 ∷ neg_ℤ (pos 5) ∷ neg_ℤ (pos 5) ∷ pos 1 ∷ [])
two_fields_polynomial =
    products_are_simple (linear (pos 5) ∷ quadratic (pos 0) (neg_ℤ (pos 2)) ∷ quadratic (pos 0) (neg_ℤ (pos 3)) ∷ [])
    (tt, (no_square 8 not_eight, (no_square 12 not_twelve, tt))) (tt, (positive 1, (positive 2, tt))) (tt, (second, tt))
  where
    second : ComesBefore (quadratic (pos 0) (neg_ℤ (pos 2))) (quadratic (pos 0) (neg_ℤ (pos 3)))
    second = inr (refl, omega (arith, ints))

pub one_field_polynomial : IsSimple (neg_ℤ (pos 80) ∷ pos 16 ∷ pos 50 ∷ neg_ℤ (pos 10) ∷ neg_ℤ (pos 5) ∷ pos 1 ∷ [])
one_field_polynomial =
    products_are_simple (linear (pos 5) ∷ quadratic (pos 0) (neg_ℤ (pos 2)) ∷ quadratic (pos 0) (neg_ℤ (pos 8)) ∷ [])
    (tt, (no_square 8 not_eight, (no_square 32 not_thirty_two, tt))) (tt, (positive 1, (positive 7, tt))) (tt, (second, tt))
  where
    second : ComesBefore (quadratic (pos 0) (neg_ℤ (pos 2))) (quadratic (pos 0) (neg_ℤ (pos 8)))
    second = inr (refl, omega (arith, ints))
