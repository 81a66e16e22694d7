-- The work numbers of a coefficient are in range where its test says so.
use Rattle.std.proofs.Common.{◌≡◌, ℕ, zero, suc, ◌≤◌, ◌<◌, Bool, true, false, ◌&&◌, refl, sym, ap, subst, arith, inl, inr}
use Rattle.std.specs.Prelude.{ℤ, ◌*ℤ◌, ◌⊎◌, List}
use Rattle.std.specs.List.{AllByRecursion}
use Rattle.drg_algebra.proofs.Tests.{both, and-in, never}
use Rattle.drg_array.specs.Entries.{Entries, diameter, a_at}
use Rattle.drg_eigen.specs.Characteristic.{weight_at, polynomial}
use Rattle.drg_eigen.specs.Fits.{Fits, AllFitBelow, IsFirstWide, work_numbers, coefficient, first_difference, next_coefficient}
use Rattle.drg_whole.specs.Range.{InRange, in_range}
use Rattle.drg_whole.proofs.Ranges.{fits as range_out, fitting as range_in}
use Rattle.drg_eigen.specs.Work.{next_fits}

module _ (a : Entries) (j : ℕ) (g f : List ℤ) (t : ℕ) where
  abbrev product_a : ℤ
  product_a = a_at a (suc j) *ℤ coefficient f t

  abbrev product_w : ℤ
  product_w = weight_at a (suc j) *ℤ coefficient g t

  abbrev first_test : Bool
  first_test = in_range product_a && in_range (first_difference a j f t)

  abbrev last_test : Bool
  last_test = in_range product_w && in_range (next_coefficient a j g f t)

  pub fits_in : next_fits a j g f t ≡ true → AllByRecursion InRange (work_numbers a j g f t)
  fits_in h =
      let all = both first_test (in_range (weight_at a (suc j)) && last_test) h in
      let rest = both (in_range (weight_at a (suc j))) last_test all.1 in
      let one = both (in_range product_a) (in_range (first_difference a j f t)) all.0 in
      let two = both (in_range product_w) (in_range (next_coefficient a j g f t)) rest.1 in (
        range_in product_a one.0,
        (
          range_in (first_difference a j f t) one.1,
          (
            range_in (weight_at a (suc j)) rest.0,
            (range_in product_w two.0, (range_in (next_coefficient a j g f t) two.1, tt)),
          ),
        ),
      )

  pub fits_out : AllByRecursion InRange (work_numbers a j g f t) → next_fits a j g f t ≡ true
  fits_out h =
      and-in first_test (in_range (weight_at a (suc j)) && last_test)
      (and-in (in_range product_a) (in_range (first_difference a j f t)) (range_out product_a h.0) (range_out (first_difference a j f t) h.1.0))
      (and-in (in_range (weight_at a (suc j))) last_test (range_out (weight_at a (suc j)) h.1.1.0)
      (and-in (in_range product_w) (in_range (next_coefficient a j g f t)) (range_out product_w h.1.1.1.0) (range_out (next_coefficient a j g f t) h.1.1.1.1.0)))

-- the coefficient itself is the last of its work numbers
pub value_in : (a : Entries) (j : ℕ) (g f : List ℤ) (t : ℕ) → next_fits a j g f t ≡ true → InRange (next_coefficient a j g f t)
value_in a j g f t h = (fits_in a j g f t h).1.1.1.1.0

pub two_cases : (i m : ℕ) → i < suc m → (i ≡ m) ⊎ (i < m)
two_cases zero zero h = inl refl
two_cases zero (suc m) h = inr (omega arith)
two_cases (suc i) zero h = absurd (omega arith)
two_cases (suc i) (suc m) h = elim (two_cases i m (omega arith)) [ inl e ↦ inl (ap suc e) | inr less ↦ inr (omega arith) ]

-- one formula more
pub one_fits_more : (a : Entries) (n : ℕ) → AllFitBelow a n → Fits a n → AllFitBelow a (suc n)
one_fits_more a n h here i less =
    elim (two_cases i n less) [
      | inl same ↦ subst (Fits a) (sym same) here
      | inr before ↦ h i before
    ]

pub first_wide : (a : Entries) (j t : ℕ) (g f : List ℤ) → g ≡ polynomial a j → f ≡ polynomial a (suc j) → j < diameter a → AllFitBelow a (suc (suc j)) → t ≤ suc (suc j)
    → next_fits a j g f t ≡ false → IsFirstWide a (suc (suc j))
first_wide a j t g f eg ef inside before within wide = record {
  inside = omega (arith, inside);
  before = before;
  wide = λ fits.
      let here : next_fits a j (polynomial a j) (polynomial a (suc j)) t ≡ true = fits_out a j (polynomial a j) (polynomial a (suc j)) t (fits t within) in
      let there : next_fits a j (polynomial a j) (polynomial a (suc j)) t ≡ false =
      subst (λ (u : List ℤ). next_fits a j u (polynomial a (suc j)) t ≡ false) eg (subst (λ (u : List ℤ). next_fits a j g u t ≡ false) ef wide) in
      never (next_fits a j (polynomial a j) (polynomial a (suc j)) t) here there;
}

pub all_fit : (a : Entries) (j : ℕ) (g f : List ℤ) → g ≡ polynomial a j → f ≡ polynomial a (suc j) → ((t : ℕ) → t ≤ suc (suc j) → next_fits a j g f t ≡ true) → Fits a (suc (suc j))
all_fit a j g f eg ef h = λ t within.
    fits_in a j (polynomial a j) (polynomial a (suc j)) t (subst (λ (u : List ℤ). next_fits a j u (polynomial a (suc j)) t ≡ true) eg (subst (λ (u : List ℤ). next_fits a j g u t ≡ true) ef (h t within)))
