-- The entries before it make the next entry of the table.
use Rattle.std.proofs.Common.{◌≡◌, ℕ, zero, suc, ◌<◌, ◌≤◌, false, true, List, length, refl, sym, ap, ap₂, ◌∙◌, subst, arith, inl, inr}
use Rattle.std.specs.Prelude.{ℤ, pos, neg_ℤ, ◌+ℤ◌, ◌*ℤ◌, ◌≤ℤ◌, ◌<ℤ◌, ◌==◌, map}
use Rattle.std.proofs.lemmas.Int.{ints}
use Rattle.drg_algebra.specs.Sums.{bit}
use Rattle.drg_algebra.specs.Ring.{◌⊗◌, neg, none}
use Rattle.drg_algebra.specs.Integer.{integers, ring2}
use Rattle.drg_algebra.specs.Rational.{ℚ, whole, plus, times, minus, rationals}
use Rattle.drg_algebra.proofs.Maps.{whole_map}
use Rattle.drg_algebra.proofs.Tests.{decided, same-number, differ}
use Rattle.drg_array.specs.Entries.{Entries, IsArray, diameter, b_at, c_at, a_at}
use Rattle.drg_array.specs.Numbers.{before, numerator, AreIntersectionNumbers, IsIntersectionNumber, IsNatural}
use Rattle.drg_array.specs.Conditions.{CountsFail}
use Rattle.drg_array.specs.declared.node.Node.TheVariants.{P}
use Rattle.drg_array.specs.declared.claim.Claim.TheVariants.{Intersect}
use Rattle.drg_array.proofs.EntryLemmas.{c-positive, c-end}
use Rattle.drg_array.proofs.NumberLaws.{numbers_exist, one_number, cancel-whole}
use Rattle.drg_whole.specs.Sums.{sum_from, sum_fits_from, products_of}
use Rattle.drg_intersection.specs.Faults.{Passes, IsReached, IsNumbersFault}
use Rattle.drg_intersection.specs.FirstNumbers.{AreCells, IsCellAt, cell}
use Rattle.drg_intersection.specs.Fits.{Fits, SumFits, products}
use Rattle.drg_intersection.specs.Numbers.{place}
use Rattle.drg_intersection.specs.Table.{term_before, term_above, balance}
use Rattle.drg_intersection.specs.declared.fault.NumbersFault.TheVariants.{Fall, Wide}
use Rattle.drg_intersection.proofs.Ranges.{one_whole, natural, sum_in, sum_out}
use Rattle.drg_intersection.proofs.Places.{before_row, before_above}

less_product : (x y : ℤ) → neg_ℤ x *ℤ y ≡ neg_ℤ (x *ℤ y)
less_product x y = ring2 integers (λ x y. neg x ⊗ y) (λ x y. neg (x ⊗ y)) refl x y

pub no_product : (x : ℚ) (y : ℤ) → times (whole (pos 0)) x ≡ whole (pos 0 *ℤ y)
no_product x y = ring2 rationals (λ x y. none ⊗ x) (λ x y. none) refl x x ∙ ap whole (ring2 integers (λ x y. none) (λ x y. none ⊗ y) refl y y)

pub five_terms : (s t u v w : ℤ) → plus (plus (plus (plus (whole s) (whole t)) (whole u)) (whole v)) (whole w) ≡ whole (pos 0 +ℤ s +ℤ t +ℤ u +ℤ v +ℤ w)
five_terms s t u v w =
    let start : s ≡ pos 0 +ℤ s = omega (arith, ints) in
    let one = ap (λ x. plus x (whole t)) (ap whole start) ∙ sym (whole_map.plus (pos 0 +ℤ s) t) in
    let two = ap (λ x. plus x (whole u)) one ∙ sym (whole_map.plus (pos 0 +ℤ s +ℤ t) u) in
    let three = ap (λ x. plus x (whole v)) two ∙ sym (whole_map.plus (pos 0 +ℤ s +ℤ t +ℤ u) v) in
    ap (λ x. plus x (whole w)) three ∙ sym (whole_map.plus (pos 0 +ℤ s +ℤ t +ℤ u +ℤ v) w)

-- a product with a number that is whole
pub product_is : (x y : ℤ) (z : ℚ) → z ≡ whole y → times (whole x) z ≡ whole (x *ℤ y)
product_is x y z e = ap (times (whole x)) e ∙ sym (whole_map.times x y)

pub negative_is : (x y : ℤ) (z : ℚ) → z ≡ whole y → minus (times (whole x) z) ≡ whole (neg_ℤ x *ℤ y)
negative_is x y z e = ap minus (product_is x y z e) ∙ (sym (whole_map.minus (x *ℤ y)) ∙ ap whole (sym (less_product x y)))

module _ (a : Entries) (p : List ℤ) (h i j : ℕ) (array : IsArray a) (hh : h ≤ diameter a) (hi : i < diameter a) (hj : j ≤ diameter a)
    (long : length p ≡ place (diameter a) h (suc i) j) (cells : AreCells a p) where
  -- the sum of the terms
  abbrev made : ℤ
  made = sum_from (pos 0) (products_of (balance a p h i j))

  module _ (q : ℕ → ℕ → ℚ) (qs : AreIntersectionNumbers a h q) where
    known : (m l : ℕ) → m ≤ diameter a → l ≤ diameter a → place (diameter a) h m l < place (diameter a) h (suc i) j → q m l ≡ whole (cell (diameter a) p h m l)
    known m l hm hl less = one_number a h m l (q m l) _ array hm hl (q, qs, refl) (cells h m l hh hm hl (subst (λ n. place (diameter a) h m l < n) (sym long) less)).is

    here : (l : ℕ) → l ≤ diameter a → q i l ≡ whole (cell (diameter a) p h i l)
    here l hl = known i l (omega arith) hl (before_row (diameter a) h i j l hl)

    first : (l : ℕ) → l ≤ diameter a → before (λ l. times (whole (pos (b_at a l))) (q i l)) l ≡ whole ((term_before a p h i l).left *ℤ (term_before a p h i l).right)
    first zero hl = refl
    first (suc l) hl = product_is (pos (b_at a l)) _ (q i l) (here l (omega arith))

    third : times (whole (pos (c_at a (suc j)))) (q i (suc j)) ≡ whole (pos (c_at a (suc j)) *ℤ cell (diameter a) p h i (suc j))
    third =
        elim (decided (j == diameter a)) [
          | inl end ↦ (let at = same-number j (diameter a) end in
              let none : c_at a (suc j) ≡ 0 = c-end a j array (omega (arith, at)) in
              rw none (no_product (q i (suc j)) (cell (diameter a) p h i (suc j))))
          | inr inside ↦ (let apart = differ j (diameter a) inside in
              product_is (pos (c_at a (suc j))) _ (q i (suc j)) (here (suc j) (omega (arith, hj, apart))))
        ]

    fourth : (m : ℕ) → m ≤ i → minus (before (λ l. times (whole (pos (b_at a l))) (q l j)) m) ≡ whole ((term_above a p h m j).left *ℤ (term_above a p h m j).right)
    fourth zero hm = sym (whole_map.minus (pos 0))
    fourth (suc m) hm = negative_is (pos (b_at a m)) _ (q m j) (known m j (omega (arith, hm, hi)) hj (before_above (diameter a) h m i j hm))

    pub products_are : products a q i j ≡ map whole (products_of (balance a p h i j))
    unfolding balance
    products_are =
        let one = first j hj in
        let two = product_is (a_at a j) _ (q i j) (here j hj) in
        let three = third in
        let four = fourth i (omega arith) in
        let five = negative_is (a_at a i) _ (q i j) (here j hj) in
        rw (one, two, three, four, five) refl

    pub numerator_is : numerator a q i j ≡ whole made
    unfolding balance
    numerator_is =
        let one = first j hj in
        let two = product_is (a_at a j) _ (q i j) (here j hj) in
        let three = third in
        let four = fourth i (omega arith) in
        let five = negative_is (a_at a i) _ (q i j) (here j hj) in
        ap₂ plus (ap₂ plus (ap₂ plus (ap₂ plus one two) three) four) five ∙ five_terms _ _ _ _ _

    meet : times (whole (pos (c_at a (suc i)))) (q (suc i) j) ≡ whole made
    meet = qs.next i j hi hj ∙ numerator_is

    entry_is : (x : ℤ) → pos (c_at a (suc i)) *ℤ x ≡ made → q (suc i) j ≡ whole x
    entry_is x e = cancel-whole (c_at a (suc i)) _ _ (c-positive a i array hi) (meet ∙ (ap whole (sym e) ∙ whole_map.times (pos (c_at a (suc i))) x))

  fits : sum_fits_from (pos 0) (products_of (balance a p h i j)) ≡ true → Fits a (P h (suc i) j)
  fits e q qs = let Q : List ℚ → Type 0 = λ xs. SumFits (whole (pos 0)) xs in subst Q (sym (products_are q qs)) (sum_in (pos 0) _ e)

  wide : sum_fits_from (pos 0) (products_of (balance a p h i j)) ≡ false → ¬ Fits a (P h (suc i) j)
  wide e f =
      let (q, qs) = numbers_exist a h array in
      let Q : List ℚ → Type 0 = λ xs. SumFits (whole (pos 0)) xs in
      let yes = sum_out (pos 0) _ (subst Q (products_are q qs) (f q qs)) in
      cc

  number : (x : ℤ) → pos (c_at a (suc i)) *ℤ x ≡ made → IsIntersectionNumber a h (suc i) j (whole x)
  number x e = let (q, qs) = numbers_exist a h array in (q, qs, entry_is q qs x e)

  no_number : ((x : ℤ) → pos (c_at a (suc i)) *ℤ x ≡ made → ⊥) → CountsFail a (Intersect h (suc i) j)
  no_number never =
      let (q, qs) = numbers_exist a h array in
      (hh, hi, hj, q (suc i) j, (q, qs, refl), λ (m, f). never (pos m) (one_whole _ _ (whole_map.times (pos (c_at a (suc i))) (pos m) ∙ (ap (times (whole (pos (c_at a (suc i))))) (sym f) ∙ meet q qs))))

  pub cell_next : (x : ℤ) → pos (c_at a (suc i)) *ℤ x ≡ made → pos 0 ≤ℤ x → IsCellAt a h (suc i) j x
  cell_next x e above = record { is = number x e; natural = above }

  pub cell_passes : (x : ℤ) → sum_fits_from (pos 0) (products_of (balance a p h i j)) ≡ true → pos (c_at a (suc i)) *ℤ x ≡ made → pos 0 ≤ℤ x → Passes a (P h (suc i) j)
  cell_passes x within e above = record {
    fits = fits within;
    right = λ y is. subst IsNatural (one_number a h (suc i) j (whole x) y array hi hj (number x e) is) (natural x above);
  }

  module _ (reached : IsReached a (P h (suc i) j)) where
    pub cell_wide : sum_fits_from (pos 0) (products_of (balance a p h i j)) ≡ false → IsNumbersFault a (Wide (P h (suc i) j))
    cell_wide outside = record { is_node = (hh, hi, hj); reached = reached; wide = wide outside }

    pub cell_negative : (x : ℤ) → sum_fits_from (pos 0) (products_of (balance a p h i j)) ≡ true → pos (c_at a (suc i)) *ℤ x ≡ made → x <ℤ pos 0
        → IsNumbersFault a (Fall (Intersect h (suc i) j))
    cell_negative x within e below = record {
      is_node = (hh, hi, hj);
      reached = reached;
      fits = fits within;
      failed = (hh, hi, hj, whole x, number x e, λ (m, f). (let same = one_whole x (pos m) f in omega (arith, ints, same, below)));
    }

    pub cell_falls : sum_fits_from (pos 0) (products_of (balance a p h i j)) ≡ true → ((x : ℤ) → pos (c_at a (suc i)) *ℤ x ≡ made → ⊥)
        → IsNumbersFault a (Fall (Intersect h (suc i) j))
    cell_falls within never = record { is_node = (hh, hi, hj); reached = reached; fits = fits within; failed = no_number never }

-- Row 0 is given.
pub start_cell : (a : Entries) (h j : ℕ) → IsArray a → j ≤ diameter a → IsCellAt a h 0 j (pos (bit (j == h)))
start_cell a h j array hj = (let (q, qs) = numbers_exist a h array in record { is = (q, qs, qs.start j hj); natural = omega (arith, ints) })
