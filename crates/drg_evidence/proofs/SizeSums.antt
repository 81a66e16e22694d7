-- The sum of the stated sizes is made within the range.
use Rattle.std.proofs.Common.{◌≡◌, ℕ, suc, ◌<◌, true, List, [], ◌∷◌, length, refl, sym, ap, ◌∙◌, subst, arith, ℤ, pos}
use Rattle.std.specs.Prelude.{◌+ℤ◌, slice_index_or}
use Rattle.std.specs.List.{AllByRecursion}
use Rattle.std.proofs.lemmas.Bool.Decides.{nat_tests}
use Rattle.drg_algebra.specs.Rational.{ℚ, whole, plus, rationals}
use Rattle.drg_algebra.specs.Tables.{total}
use Rattle.drg_algebra.proofs.Maps.{whole_map}
use Rattle.drg_derivation.specs.Integers.{IsShort}
use Rattle.drg_intersection.specs.Fits.{IsInRange}
use Rattle.drg_whole.specs.Range.{in_range}
use Rattle.drg_whole.specs.Sums.{sum_fits_from}
use Rattle.drg_evidence.proofs.StepTests.{in_the_range}

short_in_range : (z : ℤ) → IsShort z → in_range z ≡ true
short_in_range z h = grind (arith, nat_tests)

pub sums_fit : (f : ℕ → ℚ) (front : ℤ) (values : List ℤ) → AllByRecursion IsShort values → ((i : ℕ) → i < length values → f i ≡ whole (slice_index_or values i (pos 0)))
    → ((i : ℕ) → i < length values → IsInRange (plus (whole front) (total (whole (pos 0)) plus (suc i) f))) → sum_fits_from front values ≡ true
sums_fit f front [] all are sums = refl
sums_fit f front (v ∷ vs) all are sums =
    let first = are 0 (omega arith) in
    let joined : plus (whole front) (f 0) ≡ whole (front +ℤ v) = ap (plus (whole front)) first ∙ sym (whole_map.plus front v) in
    let one : plus (whole front) (total (whole (pos 0)) plus 1 f) ≡ whole (front +ℤ v) = ap (plus (whole front)) (rationals.plus_nil (f 0)) ∙ joined in
    let here = in_the_range _ (front +ℤ v) one (sums 0 (omega arith)) in
    let rest = sums_fit (λ i. f (suc i)) (front +ℤ v) vs all.1 (λ i less. are (suc i) (omega (arith, less)))
    (λ i less. subst IsInRange (sym (rationals.plus_assoc (whole front) (f 0) _) ∙ ap (λ x. plus x (total (whole (pos 0)) plus (suc i) (λ j. f (suc j)))) joined) (sums (suc i) (omega (arith, less)))) in
    rw (short_in_range v all.0, here, rest) refl
