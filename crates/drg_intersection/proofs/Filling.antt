-- One number more, in the list of sizes and in the table.
use Rattle.std.proofs.Common.{◌≡◌, ℕ, ◌≤◌, List, [], ◌∷◌, ◌++◌, length, sym, ◌∙◌, subst, arith, inl, inr}
use Rattle.std.specs.Prelude.{ℤ, pos, slice_index_or}
use Rattle.drg_array.specs.Entries.{Entries, diameter}
use Rattle.drg_whole.specs.Range.{InRange}
use Rattle.drg_intersection.specs.FirstNumbers.{AreSizes, IsSizeAt, AreCells, IsCellAt, cell}
use Rattle.drg_intersection.specs.Numbers.{place}
use Rattle.drg_intersection.specs.Table.{AreInRange}
use Rattle.drg_intersection.proofs.Places.{one_place, last, front, one_more, two_cases}

pub size_more : (a : Entries) (sizes : List ℤ) (n : ℕ) (x : ℤ) → AreSizes a sizes → length sizes ≡ n → IsSizeAt a n x → AreSizes a (sizes ++ x ∷ [])
size_more a sizes n x are long is i less =
    let more = one_more sizes x in
    elim (two_cases i n (omega arith)) [
      | inl same ↦ (let here : slice_index_or (sizes ++ x ∷ []) i (pos 0) ≡ x = last sizes x i (omega arith) in
          rw here (subst (λ t. IsSizeAt a t x) (sym same) is))
      | inr earlier ↦ (let here = front sizes x i (omega arith) in rw here (are i (omega arith)))
    ]

pub range_more : (sizes : List ℤ) (x : ℤ) → AreInRange sizes → InRange x → AreInRange (sizes ++ x ∷ [])
range_more sizes x are is i less =
    let more = one_more sizes x in
    elim (two_cases i (length sizes) (omega (arith, less, more))) [
      | inl same ↦ subst InRange (sym (last sizes x i same)) is
      | inr earlier ↦ subst InRange (sym (front sizes x i earlier)) (are i earlier)
    ]

pub cell_more : (a : Entries) (p : List ℤ) (h i j : ℕ) (x : ℤ) → i ≤ diameter a → j ≤ diameter a → AreCells a p → length p ≡ place (diameter a) h i j
    → IsCellAt a h i j x → AreCells a (p ++ x ∷ [])
cell_more a p h i j x hi hj are long is m n l hm hn hl less =
    let more = one_more p x in
    elim (two_cases (place (diameter a) m n l) (place (diameter a) h i j) (omega (arith, less, more, long))) [
      | inl same ↦ (let here : cell (diameter a) (p ++ x ∷ []) m n l ≡ x = last p x (place (diameter a) m n l) (same ∙ sym long) in
          let at = one_place (diameter a) m n l h i j hn hl hi hj same in
          rw (here, at.0, at.1, at.2) is)
      | inr earlier ↦ (let here : cell (diameter a) (p ++ x ∷ []) m n l ≡ cell (diameter a) p m n l = front p x (place (diameter a) m n l) (omega (arith, earlier, long)) in
          rw here (are m n l hm hn hl (omega (arith, earlier, long))))
    ]
