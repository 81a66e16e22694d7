-- The numerator of a division by x² - s x + t, from what the code computes.
use Rattle.std.proofs.Common.{◌≡◌, true, false, sym, subst, ℤ}
use Rattle.std.specs.Prelude.{◌+ℤ◌, ◌-ℤ◌, ◌*ℤ◌, Result, Ok, Err}
use Rattle.drg_algebra.proofs.Tests.{never}
use Rattle.std.specs.List.{AllByRecursion}
use Rattle.drg_whole.specs.Range.{Gives, InRange, in_range}
use Rattle.drg_whole.specs.Whole.{value_of}
use Rattle.drg_whole.specs.declared.whole.Whole.{Whole}
use Rattle.drg_whole.specs.declared.whole.Wide.{Wide}
use Rattle.drg_whole.proofs.Ranges.{fits, fitting}
use Rattle.drg_eigen.specs.Factor.{quadratic}
use Rattle.drg_eigen.specs.Division.{work_numbers}
use Rattle.drg_eigen.specs.Step.{IsNumerator}

at_sum : (s t p q g : ℤ) (r : Result Whole Wide) → in_range (s *ℤ q) ≡ true → in_range (g +ℤ s *ℤ q) ≡ true → Gives value_of r (in_range ((g +ℤ s *ℤ q) -ℤ p)) ((g +ℤ s *ℤ q) -ℤ p)
    → IsNumerator (quadratic s t) p q g r
at_sum s t p q g (Ok z) a b h = (h.1, (fitting (s *ℤ q) a, (fitting (g +ℤ s *ℤ q) b, (fitting ((g +ℤ s *ℤ q) -ℤ p) h.0, tt))))
at_sum s t p q g (Err e) a b h = λ all. never (in_range ((g +ℤ s *ℤ q) -ℤ p)) (fits ((g +ℤ s *ℤ q) -ℤ p) all.1.1.0) h

-- x is the product and y the sum
pub at_product : (s t p q g x y : ℤ) (r : Result Whole Wide) → in_range (s *ℤ q) ≡ true → s *ℤ q ≡ x → in_range (g +ℤ x) ≡ true → g +ℤ x ≡ y
    → Gives value_of r (in_range (y -ℤ p)) (y -ℤ p) → IsNumerator (quadratic s t) p q g r
at_product s t p q g x y r a ex b ey h =
    subst (λ (x : ℤ). in_range (g +ℤ x) ≡ true → g +ℤ x ≡ y → IsNumerator (quadratic s t) p q g r)
    ex
    (λ b ey. at_sum s t p q g r a b (subst (λ (y : ℤ). Gives value_of r (in_range (y -ℤ p)) (y -ℤ p)) (sym ey) h))
    b ey

-- a product or a sum out of range
pub no_product : (s t p q g : ℤ) → in_range (s *ℤ q) ≡ false → ¬ AllByRecursion InRange (work_numbers (quadratic s t) p q g)
no_product s t p q g h all = never (in_range (s *ℤ q)) (fits (s *ℤ q) all.0) h

pub no_sum : (s t p q g x : ℤ) → s *ℤ q ≡ x → in_range (g +ℤ x) ≡ false → ¬ AllByRecursion InRange (work_numbers (quadratic s t) p q g)
no_sum s t p q g x e h all = never (in_range (g +ℤ s *ℤ q)) (fits (g +ℤ s *ℤ q) all.1.0) (subst (λ (x : ℤ). in_range (g +ℤ x) ≡ false) (sym e) h)
