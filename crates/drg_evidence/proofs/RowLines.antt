-- A `p` line with a row of intersection numbers passes, after the rows before it.
use Rattle.std.proofs.Common.{◌≡◌, ℕ, zero, suc, ◌+◌, ◌<◌, ◌≤◌, true, List, [], ◌∷◌, ◌++◌, length, refl, sym, ap, ap₂, ◌∙◌, subst, arith, inl, inr}
use Rattle.std.specs.Prelude.{ℤ, pos, neg_ℤ, ◌*ℤ◌, ◌==◌, slice_index_or, map}
use Rattle.std.specs.Ordering.{int_eq}
use Rattle.drg_algebra.specs.Rational.{ℚ, whole, plus, times, minus}
use Rattle.drg_algebra.proofs.Maps.{whole_map}
use Rattle.drg_algebra.proofs.Tests.{decided, same-number, differ}
use Rattle.drg_array.specs.Entries.{Entries, IsArray, diameter, b_at, c_at, a_at}
use Rattle.drg_array.specs.Numbers.{before, numerator, AreIntersectionNumbers}
use Rattle.drg_array.specs.declared.node.Node.TheVariants.{P}
use Rattle.drg_array.proofs.EntryLemmas.{c-end}
use Rattle.drg_intersection.specs.Fits.{Fits, SumFits, products}
use Rattle.drg_intersection.proofs.Places.{two_cases}
use Rattle.drg_intersection.proofs.Ranges.{one_whole, sum_out}
use Rattle.drg_intersection.proofs.Rows.{no_product, five_terms, product_is, negative_is}
use Rattle.drg_replay.specs.Steps.{EachHolds}
use Rattle.drg_whole.specs.Range.{in_range}
use Rattle.drg_whole.specs.Sums.{products_of}
use Rattle.drg_replay.specs.Rows.{entry, entry_before, entry_above, b_before, balance, balance_sum, balance_fits, balances_from, row_steps}
use Rattle.drg_replay.proofs.StepLaws.{are_same}
use Rattle.drg_replay.proofs.RowLaws.{start_entry, entry_front, entry_end, length_more}
use Rattle.drg_evidence.proofs.StepTests.{at_most, above, same_whole, sum_in_range}

-- the rows of h state the numbers q
pub record AreStated (a : Entries) (h : ℕ) (q : ℕ → ℕ → ℚ) (rows : List (List ℤ)) : Type 0 where
  pub are : (t l : ℕ) → t ≤ length rows → l ≤ diameter a → q t l ≡ whole (entry h rows t l)

-- the entry of row i + 1 at j
record CellStep (a : Entries) (h : ℕ) (rows : List (List ℤ)) (i j : ℕ) (value : ℤ) : Type 0 where
  left : in_range (pos (c_at a (suc i)) *ℤ value) ≡ true
  sum : balance_fits a h rows i j ≡ true
  same : int_eq (pos (c_at a (suc i)) *ℤ value) (balance_sum a h rows i j) ≡ true

cells_hold : (a : Entries) (h : ℕ) (rows : List (List ℤ)) (i j : ℕ) (values : List ℤ)
    → ((k l : ℕ) → l ≡ j + k → k < length values → CellStep a h rows i l (slice_index_or values k (pos 0))) → EachHolds (balances_from a h rows i j values)
cells_hold a h rows i j [] steps = tt
cells_hold a h rows i j (v ∷ vs) steps =
    let here = steps 0 j (omega arith) (omega arith) in
    (here.left, (here.sum, (here.same, cells_hold a h rows i (suc j) vs (λ k l e less. steps (suc k) l (omega (arith, e)) (omega (arith, less))))))

module _ (a : Entries) (h : ℕ) (q : ℕ → ℕ → ℚ) (qs : AreIntersectionNumbers a h q) where
  pub none_stated : AreStated a h q []
  none_stated = record { are = stated } where
    stated : (t l : ℕ) → t ≤ 0 → l ≤ diameter a → q t l ≡ whole (entry h [] t l)
    stated zero l ht hl = qs.start l hl ∙ ap whole (sym (start_entry h l (l == h)))
    stated (suc t) l ht hl = absurd (omega arith)

  module _ (array : IsArray a) (rows : List (List ℤ)) (stated : AreStated a h q rows) (i j : ℕ) (hi : i ≤ length rows) (hj : j ≤ diameter a) where
    first : (l : ℕ) → l ≤ diameter a → before (λ l. times (whole (pos (b_at a l))) (q i l)) l ≡ whole (pos (b_before a l) *ℤ entry_before h rows i l)
    first zero hl = refl
    first (suc l) hl = product_is (pos (b_at a l)) _ (q i l) (stated.are i l hi (omega arith))

    third : times (whole (pos (c_at a (suc j)))) (q i (suc j)) ≡ whole (pos (c_at a (suc j)) *ℤ entry h rows i (suc j))
    third =
        elim (decided (j == diameter a)) [
          | inl end ↦ (let at = same-number j (diameter a) end in
              let none : c_at a (suc j) ≡ 0 = c-end a j array (omega (arith, at)) in
              rw none (no_product (q i (suc j)) (entry h rows i (suc j))))
          | inr inside ↦ (let apart = differ j (diameter a) inside in
              product_is (pos (c_at a (suc j))) _ (q i (suc j)) (stated.are i (suc j) hi (omega (arith, hj, apart))))
        ]

    fourth : (m : ℕ) → m ≤ i → minus (before (λ l. times (whole (pos (b_at a l))) (q l j)) m) ≡ whole (neg_ℤ (pos (b_before a m)) *ℤ entry_above h rows m j)
    fourth zero hm = sym (whole_map.minus (pos 0))
    fourth (suc m) hm = negative_is (pos (b_at a m)) _ (q m j) (stated.are m j (omega (arith, hm, hi)) hj)

    products_are : products a q i j ≡ map whole (products_of (balance a h rows i j))
    unfolding balance
    products_are =
        let one = first j hj in
        let two = product_is (a_at a j) _ (q i j) (stated.are i j hi hj) in
        let three = third in
        let four = fourth i (omega arith) in
        let five = negative_is (a_at a i) _ (q i j) (stated.are i j hi hj) in
        rw (one, two, three, four, five) refl

    numerator_is : numerator a q i j ≡ whole (balance_sum a h rows i j)
    unfolding balance
    numerator_is =
        let one = first j hj in
        let two = product_is (a_at a j) _ (q i j) (stated.are i j hi hj) in
        let three = third in
        let four = fourth i (omega arith) in
        let five = negative_is (a_at a i) _ (q i j) (stated.are i j hi hj) in
        ap₂ plus (ap₂ plus (ap₂ plus (ap₂ plus one two) three) four) five ∙ five_terms _ _ _ _ _

    -- what c_(i+1) p^h_(i+1,j) is
    pub meet : i < diameter a → times (whole (pos (c_at a (suc i)))) (q (suc i) j) ≡ whole (balance_sum a h rows i j)
    meet inside = qs.next i j inside hj ∙ numerator_is

    pub sum_passes : Fits a (P h (suc i) j) → balance_fits a h rows i j ≡ true
    sum_passes fits =
        let Q : List ℚ → Type 0 = λ xs. SumFits (whole (pos 0)) xs in
        sum_out (pos 0) _ (subst Q products_are (fits q qs))

    cell_step : (value : ℤ) → i < diameter a → q (suc i) j ≡ whole value → Fits a (P h (suc i) j) → CellStep a h rows i j value
    cell_step value inside is fits =
        let sum = sum_passes fits in
        let same : pos (c_at a (suc i)) *ℤ value ≡ balance_sum a h rows i j = one_whole _ _ (sym (product_is (pos (c_at a (suc i))) value (q (suc i) j) is) ∙ meet inside) in
        record {
          left = ap in_range same ∙ sum_in_range (pos 0) (products_of (balance a h rows i j)) refl sum;
          sum = sum;
          same = same_whole _ _ same;
        }

  module _ (array : IsArray a) (rows : List (List ℤ)) (stated : AreStated a h q rows) (values : List ℤ) (long : length values ≡ suc (diameter a))
      (inside : length rows < diameter a) (are : (j : ℕ) → j ≤ diameter a → q (suc (length rows)) j ≡ whole (slice_index_or values j (pos 0)))
      (fits : (j : ℕ) → j ≤ diameter a → Fits a (P h (suc (length rows)) j)) where
    pub row_holds : EachHolds (row_steps a h rows (length rows) values)
    row_holds = (
      above _ _ (omega arith),
      (
        at_most _ _ (omega arith),
        (
          are_same _ _ (omega (arith, long)),
          cells_hold a h rows (length rows) 0 values (λ k l e less.
              let same : l ≡ k = omega (arith, e) in
              let at : k ≤ diameter a = omega (arith, less, long) in
              rw same (cell_step array rows stated (length rows) k (omega arith) at _ inside (are k at) (fits k at))),
        ),
      ),
    )

    pub row_stated : AreStated a h q (rows ++ values ∷ [])
    row_stated = record {
      are = λ t l ht hl. (let more = length_more rows values in
          elim (two_cases t (suc (length rows)) (omega (arith, ht, more))) [
            | inl last ↦ (let P : ℕ → Type 0 = λ n. q n l ≡ whole (entry h (rows ++ values ∷ []) n l) in
                subst P (sym last) (are l hl ∙ ap whole (sym (entry_end h rows values l))))
            | inr earlier ↦ stated.are t l (omega (arith, earlier)) hl ∙ ap whole (entry_front h rows values t l (omega (arith, earlier)))
          ]);
    }
