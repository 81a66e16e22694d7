-- The natural order is a P-polynomial ordering of the numbers of each array.
use Rattle.std.proofs.Common.{◌≡◌, ℕ, zero, suc, ◌+◌, ◌*◌, ◌≤◌, ◌⊎◌, inl, inr, refl, sym, ◌∙◌, ap, ap₂, arith}
use Rattle.std.specs.Prelude.{pos, neg_ℤ, ◌+ℤ◌, ◌*ℤ◌, ◌==◌}
use Rattle.std.specs.List.{range_with_len}
use Rattle.std.proofs.Math.IntN.{pos-*ℤ-pos}
use Rattle.std.proofs.lemmas.Int.{ints}
use Rattle.std.proofs.lemmas.List.FromFn.{length-range_with_len, get_or-range_with_len}
use Rattle.drg_algebra.specs.Sums.{bit}
use Rattle.drg_algebra.specs.Rational.{ℚ, whole, plus, times, minus}
use Rattle.drg_algebra.proofs.Maps.{whole_map}
use Rattle.drg_algebra.proofs.Tests.{differ-test, equal-self}
use Rattle.drg_algebra.proofs.WholeParts.{same_whole}
use Rattle.drg_array.specs.Entries.{Entries, IsArray, diameter, b_at, c_at, a_at}
use Rattle.drg_array.specs.Numbers.{before, numerator, AreIntersectionNumbers, IsIntersectionNumber}
use Rattle.drg_array.proofs.EntryLemmas.{b-positive, c-positive, c-end}
use Rattle.drg_intersection.specs.Numbers.{Numbers, AreNumbersOf, p_at}
use Rattle.drg_intersection.proofs.Rows.{no_product, five_terms, product_is, negative_is}
use Rattle.drg_orderings.specs.Laws.{NaturalOrderIsOne}
use Rattle.drg_orderings.specs.Orderings.{index_at, AreApart, AreNext, EntryFits}
use Rattle.drg_orderings.specs.PPolynomial.{IsZeroNumber}
use Rattle.drg_orderings.proofs.Pigeons.{same_or_not}
use Rattle.drg_orderings.proofs.Places.{at_same}

-- What the number nearer by one brings to the product c_1 p^h_1j, and what the number further by one does.
abbrev nearer : Entries → ℕ → ℕ → ℕ
nearer a h zero = 0
nearer a h (suc l) = b_at a l * bit (l == h)

abbrev further : Entries → ℕ → ℕ → ℕ
further a h j = c_at a (suc j) * bit (suc j == h)

natural_product : (x y : ℕ) (z : ℚ) → z ≡ whole (pos y) → times (whole (pos x)) z ≡ whole (pos (x * y))
natural_product x y z e = product_is (pos x) (pos y) z e ∙ ap whole (pos-*ℤ-pos x y)

module _ (a : Entries) (h j : ℕ) (array : IsArray a) (hh : h ≤ diameter a) (hj : j ≤ diameter a) (apart : ¬ (j ≡ h))
    (q : ℕ → ℕ → ℚ) (qs : AreIntersectionNumbers a h q) where
  here : q 0 j ≡ whole (pos 0)
  here = qs.start j hj ∙ ap (λ t. whole (pos (bit t))) (differ-test j h apart)

  first : (l : ℕ) → l ≤ diameter a → before (λ l. times (whole (pos (b_at a l))) (q 0 l)) l ≡ whole (pos (nearer a h l))
  first zero k = refl
  first (suc l) k = natural_product (b_at a l) (bit (l == h)) (q 0 l) (qs.start l (omega arith))

  third : times (whole (pos (c_at a (suc j)))) (q 0 (suc j)) ≡ whole (pos (further a h j))
  third = go (same_or_not j (diameter a))
    where
      go : (j ≡ diameter a) ⊎ (¬ (j ≡ diameter a)) → times (whole (pos (c_at a (suc j)))) (q 0 (suc j)) ≡ whole (pos (further a h j))
      go (inl e) =
          let none : c_at a (suc j) ≡ 0 = c-end a j array (omega arith) in
          rw none (no_product (q 0 (suc j)) (pos (bit (suc j == h))) ∙ ap whole (pos-*ℤ-pos 0 (bit (suc j == h))))
      go (inr f) = natural_product (c_at a (suc j)) (bit (suc j == h)) (q 0 (suc j)) (qs.start (suc j) (omega arith))

  terms : numerator a q 0 j
      ≡ whole (pos 0 +ℤ pos (nearer a h j) +ℤ a_at a j *ℤ pos 0 +ℤ pos (further a h j) +ℤ neg_ℤ (pos 0) +ℤ neg_ℤ (a_at a 0) *ℤ pos 0)
  terms =
      ap₂ (λ (s t : ℚ). plus (plus (plus (plus s (times (whole (a_at a j)) (q 0 j))) t) (minus (whole (pos 0)))) (minus (times (whole (a_at a 0)) (q 0 j))))
      (first j hj) third
      ∙ ap₂ (λ (s t : ℚ). plus (plus (plus (plus (whole (pos (nearer a h j))) s) (whole (pos (further a h j)))) (minus (whole (pos 0)))) t)
      (product_is (a_at a j) (pos 0) (q 0 j) here) (negative_is (a_at a 0) (pos 0) (q 0 j) here)
      ∙ ap (λ (s : ℚ). plus (plus (plus (plus (whole (pos (nearer a h j))) (whole (a_at a j *ℤ pos 0))) (whole (pos (further a h j)))) s)
      (whole (neg_ℤ (a_at a 0) *ℤ pos 0))) (sym (whole_map.minus (pos 0)))
      ∙ five_terms (pos (nearer a h j)) (a_at a j *ℤ pos 0) (pos (further a h j)) (neg_ℤ (pos 0)) (neg_ℤ (a_at a 0) *ℤ pos 0)

  -- The product c_1 p^h_1j is their sum.
  product : (p : ℕ) → 1 ≤ diameter a → q 1 j ≡ whole (pos p) → c_at a 1 * p ≡ nearer a h j + further a h j
  product p some e =
      let left : times (whole (pos (c_at a 1))) (q 1 j) ≡ whole (pos (c_at a 1 * p)) = natural_product (c_at a 1) p (q 1 j) e in
      let same = same_whole _ _ (sym left ∙ qs.next 0 j some hj ∙ terms) in
      omega (arith, ints, same)

bit_apart : (x y : ℕ) → ¬ (x ≡ y) → bit (x == y) ≡ 0
bit_apart x y f = ap bit (differ-test x y f)

-- An index that is more than one away brings nothing.
nearer_none : (a : Entries) (h j : ℕ) → ¬ (j ≡ suc h) → nearer a h j ≡ 0
nearer_none a h zero f = refl
nearer_none a h (suc l) f =
    let none : bit (l == h) ≡ 0 = bit_apart l h (λ e. f (ap suc e)) in
    rw none (omega arith)

further_none : (a : Entries) (h j : ℕ) → ¬ (h ≡ suc j) → further a h j ≡ 0
further_none a h j f =
    let none : bit (suc j == h) ≡ 0 = bit_apart (suc j) h (λ e. f (sym e)) in
    rw none (omega arith)

nearer_some : (a : Entries) (h : ℕ) → nearer a h (suc h) ≡ b_at a h
nearer_some a h = rw (equal-self h) (omega arith)

further_some : (a : Entries) (j : ℕ) → further a (suc j) j ≡ c_at a (suc j)
further_some a j = rw (equal-self (suc j)) (omega arith)

module _ (a : Entries) (numbers : Numbers) (array : IsArray a) (are : AreNumbersOf a numbers) where
  some : 1 ≤ diameter a
  some = array.some

  product_of : (h j : ℕ) → h ≤ diameter a → j ≤ diameter a → ¬ (j ≡ h)
      → c_at a 1 * p_at numbers h 1 j ≡ nearer a h j + further a h j
  product_of h j l m f = go (are.intersections h 1 j l some m)
    where
      go : IsIntersectionNumber a h 1 j (whole (pos (p_at numbers h 1 j))) → c_at a 1 * p_at numbers h 1 j ≡ nearer a h j + further a h j
      go (q, qs, e) = product a h j array l m f q qs (p_at numbers h 1 j) some e

  no_factor : (p : ℕ) → c_at a 1 * p ≡ 0 → p ≡ 0
  no_factor zero e = refl
  no_factor (suc p) e = let c = c-positive a 0 array some in absurd (omega arith)

  apart_zero : (h j : ℕ) → h ≤ diameter a → j ≤ diameter a → AreApart h j → p_at numbers h 1 j ≡ 0
  apart_zero h j l m t = no_factor (p_at numbers h 1 j) (go t)
    where
      go : AreApart h j → c_at a 1 * p_at numbers h 1 j ≡ 0
      go (inl k) =
          let e = product_of h j l m (λ f. omega arith) in
          let n = nearer_none a h j (λ f. omega arith) in
          let g = further_none a h j (λ f. omega arith) in
          omega arith
      go (inr k) =
          let e = product_of h j l m (λ f. omega arith) in
          let n = nearer_none a h j (λ f. omega arith) in
          let g = further_none a h j (λ f. omega arith) in
          omega arith

  next_some : (h j : ℕ) → h ≤ diameter a → j ≤ diameter a → AreNext h j → ¬ (p_at numbers h 1 j ≡ 0)
  next_some h j l m (inl k) z =
      let e = product_of h j l m (λ f. omega arith) in
      let c = c-positive a j array (omega arith) in
      let g : further a h j ≡ c_at a (suc j) = ap (λ x. further a x j) k ∙ further_some a j in
      let n : c_at a 1 * p_at numbers h 1 j ≡ 0 = rw z (omega arith) in
      omega arith
  next_some h j l m (inr k) z =
      let e = product_of h j l m (λ f. omega arith) in
      let b = b-positive a h array (omega arith) in
      let g : nearer a h j ≡ b_at a h = ap (nearer a h) k ∙ nearer_some a h in
      let n : c_at a 1 * p_at numbers h 1 j ≡ 0 = rw z (omega arith) in
      omega arith

-- The place of an index in the natural order is the index.
natural_at : (d h : ℕ) → h ≤ d → index_at (range_with_len 1 d) h ≡ h
natural_at d zero l = refl
natural_at d (suc h) l = let e = get_or-range_with_len 1 d h 0 (omega arith) in omega arith

pub natural_order : NaturalOrderIsOne
natural_order a numbers array are = record {
  some = (let s = array.some in let e = are.same_d in omega arith);
  count = length-range_with_len 1 numbers.d;
  within = λ h l. (let e = natural_at numbers.d h l in omega arith);
  once = λ h j l m e. (let f = natural_at numbers.d h l in let k = natural_at numbers.d j m in omega arith);
  every = λ index l. (index, l, natural_at numbers.d index l);
  entries = entries;
}
  where
    entries : (h j : ℕ) → h ≤ numbers.d → j ≤ numbers.d → EntryFits (IsZeroNumber numbers) (range_with_len 1 numbers.d) h j
    entries h j l m = record {
      apart = λ t. at_same (IsZeroNumber numbers) h 1 j (index_at (range_with_len 1 numbers.d) h) (index_at (range_with_len 1 numbers.d) 1) (index_at (range_with_len 1 numbers.d) j)
          (sym (natural_at numbers.d h l)) (sym (natural_at numbers.d 1 low)) (sym (natural_at numbers.d j m))
          (apart_zero a numbers array are h j hh hj t);
      next = λ t z. next_some a numbers array are h j hh hj t
          (at_same (IsZeroNumber numbers) (index_at (range_with_len 1 numbers.d) h) (index_at (range_with_len 1 numbers.d) 1) (index_at (range_with_len 1 numbers.d) j) h 1 j
          (natural_at numbers.d h l) (natural_at numbers.d 1 low) (natural_at numbers.d j m) z);
    }
      where
        low : 1 ≤ numbers.d
        low = let s = array.some in let e = are.same_d in omega arith

        hh : h ≤ diameter a
        hh = let e = are.same_d in omega arith

        hj : j ≤ diameter a
        hj = let e = are.same_d in omega arith
