-- Whole numbers among the rationals, and when they are in range.
pub use Rattle.drg_algebra.proofs.WholeParts.{same_whole as one_whole}
use Rattle.std.proofs.Common.{◌≡◌, ◌<◌, true, false, ◌&&◌, List, [], ◌∷◌, refl, sym, ap, ◌∙◌, subst, arith, inl, inr}
use Rattle.std.specs.Prelude.{ℤ, pos, ◌+ℤ◌, ◌*ℤ◌, ◌≤ℤ◌, ◌^◌, unsigned_abs, map}
use Rattle.std.proofs.lemmas.Int.{ints}
use Rattle.std.proofs.lemmas.Bool.Decides.{nat_tests}
use Rattle.drg_algebra.specs.Rational.{ℚ, whole, plus}
use Rattle.drg_algebra.proofs.Maps.{whole_map}
use Rattle.drg_algebra.proofs.Tests.{decided, both}
use Rattle.drg_array.specs.Numbers.{IsWhole, IsNatural}
use Rattle.drg_whole.specs.Range.{in_range}
use Rattle.drg_whole.specs.Sums.{sum_fits_from}
use Rattle.drg_intersection.specs.Fits.{IsInRange, SumFits}

pub is_whole : (z : ℤ) → IsWhole (whole z)
is_whole z = let same : z ≡ pos 1 *ℤ z = omega (arith, ints) in (z, ap whole same)

pub natural : (z : ℤ) → pos 0 ≤ℤ z → IsNatural (whole z)
natural (pos n) h = (n, refl)
natural z h = absurd (omega (arith, ints))

-- ---- the range
pub range_in : (x : ℚ) (z : ℤ) → x ≡ whole z → in_range z ≡ true → IsInRange x
range_in x z e h = (z, e, grind (arith, nat_tests, h))

pub range_out : (x : ℚ) (z : ℤ) → x ≡ whole z → in_range z ≡ false → ¬ IsInRange x
range_out x z e h (y, f, less) =
    let same : z ≡ y = one_whole z y (sym e ∙ f) in
    let P : ℤ → Type 0 = λ t. unsigned_abs t < 2 ^ 127 in
    let here : unsigned_abs z < 2 ^ 127 = subst P (sym same) less in
    grind (arith, nat_tests, h, here)

-- ---- sums from left to right
pub sum_in : (total : ℤ) (zs : List ℤ) → sum_fits_from total zs ≡ true → SumFits (whole total) (map whole zs)
sum_in total [] h = tt
sum_in total (z ∷ zs) h =
    let one = both (in_range z && in_range (total +ℤ z)) (sum_fits_from (total +ℤ z) zs) h in
    let two = both (in_range z) (in_range (total +ℤ z)) one.0 in
    let same : plus (whole total) (whole z) ≡ whole (total +ℤ z) = sym (whole_map.plus total z) in
    let P : ℚ → Type 0 = λ x. SumFits x (map whole zs) in
    (range_in (whole z) z refl two.0, range_in _ (total +ℤ z) same two.1, subst P (sym same) (sum_in (total +ℤ z) zs one.1))

pub sum_out : (total : ℤ) (zs : List ℤ) → SumFits (whole total) (map whole zs) → sum_fits_from total zs ≡ true
sum_out total [] h = refl
sum_out total (z ∷ zs) h =
    let same : plus (whole total) (whole z) ≡ whole (total +ℤ z) = sym (whole_map.plus total z) in
    let P : ℚ → Type 0 = λ x. SumFits x (map whole zs) in
    let rest = sum_out (total +ℤ z) zs (subst P same h.2) in
    let first : in_range z ≡ true = elim (decided (in_range z)) [ inl e ↦ e | inr e ↦ absurd (range_out (whole z) z refl e h.0) ] in
    let second : in_range (total +ℤ z) ≡ true = elim (decided (in_range (total +ℤ z))) [ inl e ↦ e | inr e ↦ absurd (range_out _ (total +ℤ z) same e h.1) ] in
    rw (first, second, rest) refl
