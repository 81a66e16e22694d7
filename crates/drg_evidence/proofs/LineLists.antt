-- Evidence lines, and lines one after the other.
use Rattle.std.proofs.Common.{◌≡◌, ℕ, zero, suc, ◌+◌, ◌-◌, ◌≤◌, List, [], ◌∷◌, ◌++◌, length, append_assoc, sym, subst, ap, ◌∙◌, arith}
use Rattle.std.specs.Prelude.{ℤ, pos, slice_index_or}
use Rattle.drg_algebra.specs.Rational.{whole}
use Rattle.drg_array.specs.Entries.{Entries, diameter}
use Rattle.drg_array.specs.Numbers.{IsIntersectionNumber}
use Rattle.drg_intersection.specs.FirstNumbers.{FirstNumbers, AreFirstNumbers, HasRow, IsRowOf, cell}
use Rattle.drg_intersection.specs.Numbers.{place}
use Rattle.drg_intersection.proofs.Places.{before_row}
use Rattle.drg_array.specs.declared.claim.Claim.TheVariants.{Intersect}
use Rattle.drg_derivation.specs.declared.line.Line.{Line}
use Rattle.drg_evidence.specs.Lines.{AreLinesOf, AreRowLines, IsRowLine}

-- ---- a row of the numbers in hand is a row of the array
pub row_is : (a : Entries) (first : FirstNumbers) (h i : ℕ) (row : List ℤ) → h ≤ first.d → i ≤ first.d → HasRow first h i → IsRowOf first h i row → AreFirstNumbers a first
    → (length row ≡ suc (diameter a)) × ((j : ℕ) → j ≤ diameter a → IsIntersectionNumber a h i j (whole (slice_index_or row j (pos 0))))
row_is a first h i row hh hi made is are =
    let same = are.same_d in (
      is.count ∙ ap suc same,
      (λ j hj.
          let D : ℕ → Type 0 = λ d. place d h (suc i) 0 ≤ length first.table in
          let E : ℕ → Type 0 = λ d. slice_index_or row j (pos 0) ≡ cell d first.table h i j in
          let made_here = subst D same made in
          let equal = subst E same (is.entries j (omega (arith, hj, same))) in
          let inside = before_row (diameter a) h i 0 j hj in
          subst (λ z. IsIntersectionNumber a h i j (whole z)) (sym equal)
          (are.entries h i j (omega (arith, hh, same)) (omega (arith, hi, same)) hj (omega (arith, inside, made_here))).is),
    )

-- ---- one more row after m of them
pub rows_push : (a : Entries) (h i m : ℕ) (lines : List Line) (line : Line) → AreRowLines a h i m lines → IsRowLine a h (i + m) line → AreRowLines a h i (suc m) (lines ++ line ∷ [])
rows_push a h i zero [] line are next = (subst (λ n. IsRowLine a h n line) (omega arith) next, tt)
rows_push a h i zero (first ∷ lines) line are next = absurd are
rows_push a h i (suc m) [] line are next = absurd are
rows_push a h i (suc m) (first ∷ lines) line are next = (are.0, rows_push a h (suc i) m lines line are.1 (subst (λ n. IsRowLine a h n line) (omega arith) next))

pub items_push : (start rows before after : List Line) (line : Line) → before ≡ start ++ rows → after ≡ before ++ line ∷ [] → after ≡ start ++ (rows ++ line ∷ [])
items_push start rows before after line old new = new ∙ (ap (λ ls. ls ++ line ∷ []) old ∙ append_assoc start rows (line ∷ []))

pub lines_of_intersect : (a : Entries) (h i j : ℕ) (lines : List Line) → 1 ≤ i → AreRowLines a h 1 (i - 1) lines → AreLinesOf a (Intersect h i j) lines
lines_of_intersect a h zero j lines later rows = absurd (omega arith)
lines_of_intersect a h (suc i) j lines later rows = subst (λ m. AreRowLines a h 1 m lines) (omega arith) rows
