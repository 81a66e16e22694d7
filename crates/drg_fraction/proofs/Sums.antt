-- The work numbers of a sum and of a difference.
use Rattle.std.proofs.Common.{◌≡◌, ◌<ℤ◌, ℤ, pos, unsigned_abs, int_div, refl, ap, ap₂, sym, ◌∙◌, ◌&&◌, [], ◌∷◌, arith}
use Rattle.std.specs.Prelude.{◌+ℤ◌, ◌-ℤ◌, ◌*ℤ◌, neg_ℤ, nat_lt, ◌^◌}
use Rattle.std.proofs.lemmas.Int.{ints}
use Rattle.drg_algebra.specs.Ring.{◌⊗◌, neg, ring2}
use Rattle.drg_algebra.specs.Integer.{integers}
use Rattle.drg_algebra.specs.Rational.{ℚ, minus}
use Rattle.drg_algebra.specs.Reduced.{common, top, bottom, numerator, denominator}
use Rattle.drg_algebra.proofs.Coprime.{sum_divisor}
use Rattle.drg_algebra.proofs.WholeParts.{abs_turned, numerator_minus, denominator_minus}
use Rattle.drg_whole.specs.Range.{in_range}
use Rattle.drg_fraction.specs.Work.{all_fit, sum_work, difference_work, fits_at, sum_fits, difference_fits}

-- the parts of a sum over the least common denominator, divided by what it has in common with the divisor of both
module _ (a b c d : ℤ) (k : pos 0 <ℤ d) (r : common a b ≡ 1) (s : common c d ≡ 1) where
  pub sum_parts : (g q p n u f x y : ℤ) → g ≡ pos (common b d) → q ≡ int_div d g → p ≡ int_div b g → n ≡ a *ℤ q +ℤ c *ℤ p → u ≡ b *ℤ q
      → f ≡ pos (common n g) → x ≡ int_div n f → y ≡ int_div u f
      → (x ≡ top (a *ℤ bottom b d +ℤ c *ℤ top b d) (b *ℤ bottom b d)) × (y ≡ bottom (a *ℤ bottom b d +ℤ c *ℤ top b d) (b *ℤ bottom b d))
  sum_parts g q p n u f x y eg eq ep en eu ef ex ey =
      let q_is : q ≡ bottom b d = eq ∙ ap (int_div d) eg in
      let p_is : p ≡ top b d = ep ∙ ap (int_div b) eg in
      let n_is : n ≡ a *ℤ bottom b d +ℤ c *ℤ top b d = en ∙ ap₂ (λ s t. a *ℤ s +ℤ c *ℤ t) q_is p_is in
      let u_is : u ≡ b *ℤ bottom b d = eu ∙ ap (λ t. b *ℤ t) q_is in
      let f_is : f ≡ pos (common (a *ℤ bottom b d +ℤ c *ℤ top b d) (b *ℤ bottom b d)) = ef ∙ ap pos (ap₂ common n_is eg ∙ sym (sum_divisor a b c d k r s)) in
      (ex ∙ ap₂ int_div n_is f_is, ey ∙ ap₂ int_div u_is f_is)

-- the work numbers of a difference are those of the sum with the negative, but for the sign of one
difference_is_sum : (a b c d : ℤ) → all_fit (difference_work a b c d) ≡ all_fit (sum_work a b (neg_ℤ c) d)
difference_is_sum a b c d =
    same_tests (a *ℤ int_div d (pos (common b d))) (b *ℤ int_div d (pos (common b d))) (c *ℤ int_div b (pos (common b d))) _ (turned c (int_div b (pos (common b d))))
  where
    turned : (c p : ℤ) → neg_ℤ (c *ℤ p) ≡ neg_ℤ c *ℤ p
    turned c p = ring2 integers (λ c p. neg (c ⊗ p)) (λ c p. neg c ⊗ p) refl c p

    same_tests : (l u x y : ℤ) → neg_ℤ x ≡ y → all_fit (l ∷ x ∷ (l -ℤ x) ∷ u ∷ []) ≡ all_fit (l ∷ y ∷ (l +ℤ y) ∷ u ∷ [])
    same_tests l u x y e i =
        let size : unsigned_abs x ≡ unsigned_abs y = sym (abs_turned x) ∙ ap unsigned_abs e in
        let less : l -ℤ x ≡ l +ℤ y = omega (arith, ints) in
        in_range l && (nat_lt (size i) (2 ^ 127) && (in_range (less i) && all_fit (u ∷ [])))

-- so that a difference fits where the sum with the negative does
pub difference_fits_is : (p q : ℚ) → difference_fits p q ≡ sum_fits p (minus q)
unfolding fits_at
difference_fits_is p q =
    difference_is_sum (numerator p) (denominator p) (numerator q) (denominator q)
    ∙ ap₂ (λ n d. all_fit (sum_work (numerator p) (denominator p) n d)) (sym (numerator_minus q)) (sym (denominator_minus q))
