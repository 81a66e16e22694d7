-- What fits in the field of a root fits by its values a + b √root.
use Rattle.std.proofs.Common.{◌≡◌, ℕ, zero, suc, ◌+◌, Bool, true, false, map, refl, sym, ap, ap₂, ◌∙◌, subst, pos}
use Rattle.std.specs.Prelude.{◌&&◌, nat_lt, if◌then◌else◌}
use Rattle.std.specs.List.{range_with_len}
use Rattle.drg_algebra.specs.Rational.{ℚ, whole}
use Rattle.drg_algebra.proofs.Tests.{and-in, both}
use Rattle.drg_array.specs.Entries.{Entries, a_at, b_at, c_at, diameter}
use Rattle.drg_fraction.specs.Field.{dot_fits, dot_fits_from}
use Rattle.drg_fraction.specs.Operations.{Operations}
use Rattle.drg_fraction.specs.Rationals.{rational_operations}
use Rattle.drg_matrices.specs.Fits.{first_terms_fit, last_term_fits, recurrence_fits}
use Rattle.drg_matrices.specs.Formulas.{first_terms}
use Rattle.drg_matrices.specs.Values.{a_value, b_value, c_value}
use Rattle.drg_quadratic.specs.Operations.{value_operations}
use Rattle.drg_quadratic.specs.Values.{Value, plus, rational, times}
use Rattle.drg_quadratic.specs.Work.{product_fits, sum_fits}
use Rattle.drg_replay.proofs.RationalRootLaws.{rational_root}

-- The values keep sums, products and numbers, and their work numbers are in range where those in the field are.
pub record KeepsWork {V : Type 0} (o : Operations V) (root : ℕ) (value : V → Value) : Type 0 where
  pub sum : (x y : V) → value (o.plus x y) ≡ plus (value x) (value y)
  pub product : (x y : V) → value (o.times x y) ≡ times root (value x) (value y)
  pub number : (q : ℚ) → value (o.rational q) ≡ rational q
  pub sums_fit : (x y : V) → o.sum_fits x y ≡ true → sum_fits (value x) (value y) ≡ true
  pub products_fit : (x y : V) → o.product_fits x y ≡ true → product_fits root (value x) (value y) ≡ true

pub values_keep : (root : ℕ) → KeepsWork (value_operations root) root (λ x. x)
values_keep root = record { sum = λ x y. refl; product = λ x y. refl; number = λ q. refl; sums_fit = λ x y h. h; products_fit = λ x y h. h }

pub rationals_keep : KeepsWork rational_operations 0 rational
rationals_keep = record {
  sum = λ x y. sym (rational_root.sum x y);
  product = λ x y. sym (rational_root.product x y);
  number = λ q. refl;
  sums_fit = λ x y h. rational_root.sum_fits x y ∙ h;
  products_fit = λ x y h. rational_root.product_fits x y ∙ h;
}

module _ {V : Type 0} {o : Operations V} {root : ℕ} {value : V → Value} (keeps : KeepsWork o root value) where
  abbrev v : Operations Value
  v = value_operations root

  -- ---- dot products
  dots_from : (f g : ℕ → V) (t : V) (l n : ℕ) → dot_fits_from o t (map f (range_with_len l n)) (map g (range_with_len l n)) ≡ true
      → dot_fits_from v (value t) (map (λ m. value (f m)) (range_with_len l n)) (map (λ m. value (g m)) (range_with_len l n)) ≡ true
  dots_from f g t l zero h = refl
  dots_from f g t l (suc n) h =
      let rest = dot_fits_from o (o.plus t (o.times (f l) (g l))) (map f (range_with_len (l + 1) n)) (map g (range_with_len (l + 1) n)) in
      let parts = both (o.product_fits (f l) (g l) && o.sum_fits t (o.times (f l) (g l))) rest h in
      let here = both (o.product_fits (f l) (g l)) (o.sum_fits t (o.times (f l) (g l))) parts.0 in
      let next = dots_from f g (o.plus t (o.times (f l) (g l))) (l + 1) n parts.1 in
      let total : value (o.plus t (o.times (f l) (g l))) ≡ plus (value t) (times root (value (f l)) (value (g l))) = keeps.sum t (o.times (f l) (g l)) ∙ ap (plus (value t)) (keeps.product (f l) (g l)) in
      and-in _ _
      (and-in _ _ (keeps.products_fit (f l) (g l) here.0) (ap (sum_fits (value t)) (sym (keeps.product (f l) (g l))) ∙ keeps.sums_fit t (o.times (f l) (g l)) here.1))
      (subst (λ z. dot_fits_from v z (map (λ m. value (f m)) (range_with_len (l + 1) n)) (map (λ m. value (g m)) (range_with_len (l + 1) n)) ≡ true) total next)

  pub dots_fit : (f g : ℕ → V) (l n : ℕ) → dot_fits o (map f (range_with_len l n)) (map g (range_with_len l n)) ≡ true
      → dot_fits v (map (λ m. value (f m)) (range_with_len l n)) (map (λ m. value (g m)) (range_with_len l n)) ≡ true
  dots_fit f g l zero h = refl
  dots_fit f g l (suc n) h =
      let parts = both (o.product_fits (f l) (g l)) (dot_fits_from o (o.times (f l) (g l)) (map f (range_with_len (l + 1) n)) (map g (range_with_len (l + 1) n))) h in
      and-in _ _ (keeps.products_fit (f l) (g l) parts.0)
      (subst (λ z. dot_fits_from v z (map (λ m. value (f m)) (range_with_len (l + 1) n)) (map (λ m. value (g m)) (range_with_len (l + 1) n)) ≡ true) (keeps.product (f l) (g l))
      (dots_from f g (o.times (f l) (g l)) (l + 1) n parts.1))

  -- ---- recurrences
  module _ (a : Entries) (p : ℕ → V) where
    abbrev at : ℕ → Value
    at l = value (p l)

    -- a product with a number of the array
    scaled_fits : (q : ℚ) (x : V) → o.product_fits (o.rational q) x ≡ true → product_fits root (rational q) (value x) ≡ true
    scaled_fits q x h = ap (λ z. product_fits root z (value x)) (sym (keeps.number q)) ∙ keeps.products_fit (o.rational q) x h

    scaled : (q : ℚ) (x : V) → value (o.times (o.rational q) x) ≡ times root (rational q) (value x)
    scaled q x = keeps.product (o.rational q) x ∙ ap (λ z. times root z (value x)) (keeps.number q)

    first_is : (j : ℕ) → value (first_terms o a p j) ≡ first_terms v a at j
    first_is zero = scaled (whole (a_at a 0)) (p 0)
    first_is (suc j) = keeps.sum _ _ ∙ ap₂ plus (scaled (whole (pos (b_at a j))) (p j)) (scaled (whole (a_at a (suc j))) (p (suc j)))

    first_fit : (j : ℕ) → first_terms_fit o a p j ≡ true → first_terms_fit v a at j ≡ true
    first_fit zero h = scaled_fits (whole (a_at a 0)) (p 0) h
    first_fit (suc j) h =
        let left = o.times (b_value o a j) (p j) in
        let right = o.times (a_value o a (suc j)) (p (suc j)) in
        let parts = both (o.product_fits (b_value o a j) (p j) && o.product_fits (a_value o a (suc j)) (p (suc j))) (o.sum_fits left right) h in
        let products = both (o.product_fits (b_value o a j) (p j)) (o.product_fits (a_value o a (suc j)) (p (suc j))) parts.0 in
        and-in _ _
        (and-in _ _ (scaled_fits (whole (pos (b_at a j))) (p j) products.0) (scaled_fits (whole (a_at a (suc j))) (p (suc j)) products.1))
        (ap₂ sum_fits (sym (scaled (whole (pos (b_at a j))) (p j))) (sym (scaled (whole (a_at a (suc j))) (p (suc j)))) ∙ keeps.sums_fit left right parts.1)

    last_fits : (j : ℕ) → last_term_fits o a p j ≡ true → last_term_fits v a at j ≡ true
    last_fits j h = by (nat_lt j (diameter a)) h
      where
        by : (t : Bool) → (if t then o.product_fits (c_value o a (suc j)) (p (suc j)) && o.sum_fits (first_terms o a p j) (o.times (c_value o a (suc j)) (p (suc j))) else true) ≡ true
            → (if t then product_fits root (c_value v a (suc j)) (at (suc j)) && sum_fits (first_terms v a at j) (times root (c_value v a (suc j)) (at (suc j))) else true) ≡ true
        by true h =
            let parts = both (o.product_fits (c_value o a (suc j)) (p (suc j))) (o.sum_fits (first_terms o a p j) (o.times (c_value o a (suc j)) (p (suc j)))) h in
            and-in _ _ (scaled_fits (whole (pos (c_at a (suc j)))) (p (suc j)) parts.0)
            (ap₂ sum_fits (sym (first_is j)) (sym (scaled (whole (pos (c_at a (suc j)))) (p (suc j)))) ∙ keeps.sums_fit _ _ parts.1)
        by false h = refl

    pub recurrences_fit : (x : V) (j : ℕ) → recurrence_fits o a x p j ≡ true → recurrence_fits v a (value x) at j ≡ true
    recurrences_fit x j h =
        let parts = both (o.product_fits x (p j) && first_terms_fit o a p j) (last_term_fits o a p j) h in
        let products = both (o.product_fits x (p j)) (first_terms_fit o a p j) parts.0 in
        and-in _ _ (and-in _ _ (keeps.products_fit x (p j) products.0) (first_fit j products.1)) (last_fits j parts.1)
