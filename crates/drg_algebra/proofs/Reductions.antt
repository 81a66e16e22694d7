-- The product of two ratios, with the common divisors taken out first, and their sum over the least common denominator.
use Rattle.std.proofs.Common.{◌≡◌, ◌<ℤ◌, ℤ, pos, refl, ap, ap₂, sym, ◌∙◌, subst₂}
use Rattle.std.specs.Prelude.{◌+ℤ◌, ◌*ℤ◌}
use Rattle.drg_algebra.specs.Ring.{◌⊕◌, ◌⊗◌, ring6}
use Rattle.drg_algebra.specs.Integer.{integers, above_times}
use Rattle.drg_algebra.specs.Rational.{plus, times}
use Rattle.drg_algebra.specs.Ratio.{ratio, ratio_same, plus_ratio, times_ratio}
use Rattle.drg_algebra.specs.Reduced.{common, top, bottom, top_is, bottom_is, bottom_above}

module _ (a b c d : ℤ) (h : pos 0 <ℤ b) (k : pos 0 <ℤ d) where
  pub product_under_above : pos 0 <ℤ (bottom c b *ℤ bottom a d)
  product_under_above = above_times _ _ (bottom_above c b h) (bottom_above a d k)

  pub product_is : ratio (top a d *ℤ top c b) (bottom c b *ℤ bottom a d) ≡ times (ratio a b) (ratio c d)
  product_is =
      let g = pos (common a d) in
      let f = pos (common c b) in
      let p = top a d in
      let q = top c b in
      let x = bottom c b in
      let y = bottom a d in
      ratio_same _ _ _ _ product_under_above (above_times b d h k)
      (ap (λ z. p *ℤ q *ℤ z) (sym (ap₂ ◌*ℤ◌ (bottom_is c b) (bottom_is a d)))
      ∙ ring6 integers (λ p q x y f g. (p ⊗ q) ⊗ ((f ⊗ x) ⊗ (g ⊗ y))) (λ p q x y f g. ((g ⊗ p) ⊗ (f ⊗ q)) ⊗ (x ⊗ y)) refl p q x y f g
      ∙ ap (λ z. z *ℤ (x *ℤ y)) (ap₂ ◌*ℤ◌ (top_is a d) (top_is c b)))
      ∙ sym (times_ratio a b c d h k)

  pub sum_under_above : pos 0 <ℤ (b *ℤ bottom b d)
  sum_under_above = above_times b _ h (bottom_above b d k)

  pub sum_is : ratio (a *ℤ bottom b d +ℤ c *ℤ top b d) (b *ℤ bottom b d) ≡ plus (ratio a b) (ratio c d)
  sum_is =
      let g = pos (common b d) in
      let p = top b d in
      let q = bottom b d in
      ratio_same _ _ _ _ sum_under_above (above_times b d h k)
      (subst₂ (λ (x y : ℤ). (a *ℤ q +ℤ c *ℤ p) *ℤ (x *ℤ y) ≡ (a *ℤ y +ℤ c *ℤ x) *ℤ (x *ℤ q)) (top_is b d) (bottom_is b d)
      (ring6 integers (λ a c g p q z. (a ⊗ q ⊕ c ⊗ p) ⊗ ((g ⊗ p) ⊗ (g ⊗ q))) (λ a c g p q z. (a ⊗ (g ⊗ q) ⊕ c ⊗ (g ⊗ p)) ⊗ ((g ⊗ p) ⊗ q)) refl a c g p q a))
      ∙ sym (plus_ratio a b c d h k)
