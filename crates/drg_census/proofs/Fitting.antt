-- The numbers of an array of a census fit, with all work numbers of their formulas.
use Rattle.std.proofs.Common.{◌≡◌, ℕ, zero, suc, ◌+◌, ◌*◌, ◌≤◌, ◌<◌, Bool, true, false, refl, sym, ap, ap₂, subst, ◌∙◌, arith, ◌⊎◌, inl, inr}
use Rattle.std.specs.Prelude.{ℤ, pos, ◌+ℤ◌, ◌*ℤ◌, ◌^◌, ◌==◌, ◌≤ℤ◌, unsigned_abs}
use Rattle.std.proofs.lemmas.Bool.{cases_lt}
use Rattle.std.proofs.lemmas.Int.{ints, unsigned_abs-mul}
use Rattle.drg_algebra.specs.Rational.{ℚ, whole, plus, times, minus, rationals}
use Rattle.drg_algebra.specs.Sums.{bit}
use Rattle.drg_algebra.specs.Tables.{total}
use Rattle.drg_algebra.proofs.Maps.{whole_map}
use Rattle.drg_algebra.proofs.Totals.{last_sum}
use Rattle.drg_algebra.proofs.WholeParts.{same_whole}
use Rattle.drg_array.specs.Conditions.{CountsHold}
use Rattle.drg_array.specs.Entries.{Entries, IsArray, diameter, b_at, c_at, a_at}
use Rattle.drg_array.specs.Numbers.{size, before, numerator, AreIntersectionNumbers, IsWhole, IsNatural}
use Rattle.drg_array.specs.declared.node.Node.TheVariants.{K, N, P}
use Rattle.drg_array.specs.declared.test.Test.TheVariants as test
use Rattle.drg_array.proofs.EntryLemmas.{c-positive, c-end}
use Rattle.drg_array.proofs.NumberLaws.{sizes_meet}
use Rattle.drg_intersection.specs.Faults.{IsNode}
use Rattle.drg_intersection.specs.Fits.{Fits, SumFits, products}
use Rattle.drg_intersection.proofs.Rows.{no_product}
use Rattle.drg_census.specs.Census.{InCensus, IsWithinLimits}
use Rattle.drg_census.specs.Laws.{AllFit}
use Rattle.drg_census.proofs.Small.{IsSmall, AllSmall, small_natural, small_more, small_sum, small_minus, small_product, small_product_right, small_factor, small_in_range, sums_fit, power, power_later, up_to}

module _ (d k n : ℕ) (a : Entries) (limits : IsWithinLimits d k n) (is : InCensus d k n a) where
  abbrev array : IsArray a
  array = is.array

  -- the entries at a place are at most the valency together
  pub together : (i : ℕ) → 1 ≤ i → i ≤ diameter a → b_at a i + c_at a i ≤ k
  together i some h =
      let t : pos 0 ≤ℤ a_at a i = is.passes test.Degree tt i (some, h) in
      let v = is.valency in
      omega (arith, ints, t, v)

  pub b_small : (i : ℕ) → i ≤ diameter a → b_at a i ≤ k
  b_small zero h = let v = is.valency in omega arith
  b_small (suc i) h = let t = together (suc i) (omega arith) h in omega arith

  pub c_small : (i : ℕ) → i ≤ diameter a → c_at a i ≤ k
  c_small zero h = omega arith
  c_small (suc i) h = let t = together (suc i) (omega arith) h in omega arith

  a_small : (i : ℕ) → i ≤ diameter a → unsigned_abs (a_at a i) ≤ k
  a_small zero h = let none : a_at a 0 ≡ pos 0 = omega (arith, ints) in subst (λ z. unsigned_abs z ≤ k) (sym none) (omega arith)
  a_small (suc i) h =
      let t : pos 0 ≤ℤ a_at a (suc i) = is.passes test.Degree tt (suc i) (omega arith, h) in
      let v = is.valency in
      omega (arith, ints, t, v)

  short : diameter a ≤ 4
  short = let e = is.diameter in let l = limits.diameter in omega arith

  at_most : (m : ℕ) → m ≤ k → m ≤ 32
  at_most m h = let l = limits.valency in omega arith

  -- ---- the sizes
  size_small : (i : ℕ) → i ≤ diameter a → IsSmall (power 32 i) (size a i)
  size_small zero h = small_natural 1 1 _ refl (omega arith)
  size_small (suc i) h =
      go (small_product_right 32 (power 32 i) (pos (b_at a i)) (size a i) (at_most (b_at a i) (b_small i (omega arith))) (size_small i (omega arith)))
      (is.passes test.Size tt (suc i) (omega arith, h))
    where
      go : IsSmall (32 * power 32 i) (times (size a i) (whole (pos (b_at a i)))) → IsWhole (size a (suc i)) → IsSmall (32 * power 32 i) (size a (suc i))
      go next (m, e) = record {
        number = pos 1 *ℤ m;
        is = e;
        small = small_factor (32 * power 32 i) (c_at a (suc i)) (pos 1 *ℤ m) next.number (c-positive a i array h)
            (same_whole _ _ (whole_map.times (pos (c_at a (suc i))) (pos 1 *ℤ m) ∙ ap (times (whole (pos (c_at a (suc i))))) (sym e)
            ∙ rationals.times_comm _ _ ∙ sizes_meet a i array h ∙ next.is))
            next.small;
      }

  most_sizes : (i : ℕ) → i ≤ diameter a → IsSmall (power 32 4) (size a i)
  most_sizes i h = let s = short in small_more (power 32 i) (power 32 4) (size a i) (power_later 32 i 4 (omega arith) (omega arith)) (size_small i h)

  total_small : (m : ℕ) → m ≤ suc (diameter a) → IsSmall (m * power 32 4) (total (whole (pos 0)) plus m (size a))
  total_small zero h = small_natural (0 * power 32 4) 0 _ refl (omega arith)
  total_small (suc m) h =
      let t = small_sum (m * power 32 4) (power 32 4) _ _ (total_small m (omega arith)) (most_sizes m (omega arith)) in
      let more : m * power 32 4 + power 32 4 ≤ suc m * power 32 4 = omega arith in
      subst (IsSmall (suc m * power 32 4)) (sym (last_sum rationals m (size a))) (small_more _ _ _ more t)

  -- ---- the intersection numbers
  module _ (h : ℕ) (p : ℕ → ℕ → ℚ) (ps : AreIntersectionNumbers a h p) (hh : h ≤ diameter a) where
    -- numbers of rows up to i are at most m
    abbrev Rows : ℕ → ℕ → Type 0
    Rows i m = (l j : ℕ) → l ≤ i → j ≤ diameter a → IsSmall m (p l j)

    module _ (i j m : ℕ) (hi : i < diameter a) (hj : j ≤ diameter a) (rows : Rows i m) where
      none : IsSmall (32 * m) (whole (pos 0))
      none = small_natural (32 * m) 0 _ refl (omega arith)

      first : (l : ℕ) → l ≤ diameter a → IsSmall (32 * m) (before (λ l. times (whole (pos (b_at a l))) (p i l)) l)
      first zero hl = none
      first (suc l) hl =
          small_product 32 m (pos (b_at a l)) (p i l) (at_most (b_at a l) (b_small l (omega arith))) (rows i l (omega arith) (omega arith))

      second : IsSmall (32 * m) (times (whole (a_at a j)) (p i j))
      second = small_product 32 m (a_at a j) (p i j) (at_most (unsigned_abs (a_at a j)) (a_small j hj)) (rows i j (omega arith) hj)

      third : IsSmall (32 * m) (times (whole (pos (c_at a (suc j)))) (p i (suc j)))
      third = elim (cases_lt j (diameter a)) [
        | inl inside ↦ small_product 32 m (pos (c_at a (suc j))) (p i (suc j)) (at_most (c_at a (suc j)) (c_small (suc j) (omega arith)))
            (rows i (suc j) (omega arith) (omega arith))
        | inr end ↦ (let gone : c_at a (suc j) ≡ 0 = c-end a j array end in
            subst (λ c. IsSmall (32 * m) (times (whole (pos c)) (p i (suc j)))) (sym gone)
            (subst (IsSmall (32 * m)) (sym (no_product (p i (suc j)) (pos 0))) none))
      ]

      fourth : (l : ℕ) → l ≤ i → IsSmall (32 * m) (minus (before (λ l. times (whole (pos (b_at a l))) (p l j)) l))
      fourth zero hl = small_minus (32 * m) (whole (pos 0)) none
      fourth (suc l) hl =
          small_minus (32 * m) _ (small_product 32 m (pos (b_at a l)) (p l j) (at_most (b_at a l) (b_small l (omega arith))) (rows l j (omega arith) hj))

      fifth : IsSmall (32 * m) (minus (times (whole (a_at a i)) (p i j)))
      fifth = small_minus (32 * m) _
          (small_product 32 m (a_at a i) (p i j) (at_most (unsigned_abs (a_at a i)) (a_small i (omega arith))) (rows i j (omega arith) hj))

      terms_small : AllSmall (32 * m) (products a p i j)
      terms_small = (first j hj, (second, (third, (fourth i (omega arith), (fifth, tt)))))

      sum_small : IsSmall (160 * m) (numerator a p i j)
      sum_small =
          let b = 32 * m in
          let s = small_sum _ b _ _ (small_sum _ b _ _ (small_sum _ b _ _ (small_sum b b _ _ (first j hj) second) third) (fourth i (omega arith))) fifth in
          small_more _ (160 * m) _ (omega arith) s

      next_small : IsSmall (160 * m) (p (suc i) j)
      next_small = go (is.passes test.Intersect tt h (suc i) j hh hi hj (p (suc i) j) (p, ps, refl))
        where
          go : IsNatural (p (suc i) j) → IsSmall (160 * m) (p (suc i) j)
          go (x, e) = record {
            number = pos x;
            is = e;
            small = small_factor (160 * m) (c_at a (suc i)) (pos x) sum_small.number (c-positive a i array hi)
                (same_whole _ _ (whole_map.times (pos (c_at a (suc i))) (pos x) ∙ ap (times (whole (pos (c_at a (suc i))))) (sym e)
                ∙ ps.next i j hi hj ∙ sum_small.is))
                sum_small.small;
          }

    bit_small : (t : Bool) → bit t ≤ 1
    bit_small true = omega arith
    bit_small false = omega arith

    rows_small : (i : ℕ) → i ≤ diameter a → Rows i (power 160 i)
    rows_small zero hi l j hl hj =
        let e : l ≡ 0 = omega arith in
        subst (λ t. IsSmall 1 (p t j)) (sym e) (small_natural 1 (bit (j == h)) (p 0 j) (ps.start j hj) (bit_small (j == h)))
    rows_small (suc i) hi l j hl hj = elim (up_to l i hl) [
      | inl less ↦ small_more _ _ _ (power_later 160 i (suc i) (omega arith) (omega arith)) (rows_small i (omega arith) l j less hj)
      | inr same ↦ subst (λ t. IsSmall (160 * power 160 i) (p t j)) (sym same) (next_small i j (power 160 i) hi hj (rows_small i (omega arith)))
    ]

    most_rows : (i : ℕ) → i ≤ diameter a → Rows i (power 160 4)
    most_rows i hi l j hl hj =
        let s = short in small_more _ _ _ (power_later 160 i 4 (omega arith) (omega arith)) (rows_small i hi l j hl hj)

    formula_fits : (i j : ℕ) → i < diameter a → j ≤ diameter a → SumFits (whole (pos 0)) (products a p i j)
    formula_fits i j hi hj =
        sums_fit 0 (32 * power 160 4) (whole (pos 0)) (products a p i j) wide (small_natural 0 0 _ refl (omega arith))
        (terms_small i j (power 160 4) hi hj (most_rows i (omega arith)))
      where
        wide : 0 + 5 * (32 * power 160 4) < 2 ^ 127
        wide = omega arith

pub all_fit : AllFit
all_fit d k n a (K zero) limits is node = tt
all_fit d k n a (K (suc i)) limits is node =
    small_in_range (32 * power 32 4) _ (omega arith)
    (small_product_right 32 (power 32 4) (pos (b_at a i)) (size a i) (at_most d k n a limits is (b_at a i) (b_small d k n a limits is i (omega arith)))
    (most_sizes d k n a limits is i (omega arith)))
all_fit d k n a N limits is node =
    λ i h. small_in_range (5 * power 32 4) _ (omega arith)
    (small_more _ (5 * power 32 4) _ (let s = short d k n a limits is in omega arith) (total_small d k n a limits is (suc i) (omega arith)))
all_fit d k n a (P h zero j) limits is node = tt
all_fit d k n a (P h (suc i) j) limits is (hh, hi, hj) = λ p ps. formula_fits d k n a limits is h p ps hh i j hi hj
all_fit d k n a node limits is nothing = absurd nothing
