-- A claim that the array fails has one list of lines.
use Rattle.std.proofs.Common.{◌≡◌, ℕ, zero, suc, ◌+◌, ◌≤◌, List, [], ◌∷◌, sym, refl, ap, ap₂, ◌∙◌, arith}
use Rattle.std.specs.Prelude.{pos}
use Rattle.std.proofs.lemmas.List.{ext_get_or}
use Rattle.drg_array.specs.Claims.{test_of}
use Rattle.drg_array.specs.Entries.{Entries, IsArray, diameter}
use Rattle.drg_array.specs.declared.claim.Claim.{Claim}
use Rattle.drg_array.specs.declared.claim.Claim.TheVariants.{First, Degree, Order, Cross, Size, Intersect, Handshake, Induced, Triangles, Mult}
use Rattle.drg_array.proofs.NumberLaws.{one_number}
use Rattle.drg_derivation.specs.declared.line.Line.{Line}
use Rattle.drg_derivation.specs.declared.line.Line.TheVariants.{K, P}
use Rattle.drg_evidence.specs.FrameValues.{FrameValues, HasFrame}
use Rattle.drg_evidence.specs.Laws.{OneListOfFrameLines}
use Rattle.drg_evidence.specs.Lines.{AreFullFrame, AreLinesOf, AreSizesAndFrame, AreRowLines, AreSizesAndRows, IsRowLine, IsSizeLine}
use Rattle.drg_intersection.proofs.Ranges.{one_whole}
use Rattle.drg_engine.specs.Conditions.{Fails, IsBuilt}

module _ (list : OneListOfFrameLines) (a : Entries) (array : IsArray a) where
  one_size_line : (m : ℕ) (line other : Line) → IsSizeLine a m line → IsSizeLine a m other → line ≡ other
  one_size_line m (K xs) (K ys) (long, are) (wide, same) =
      ap K (ext_get_or (pos 0) xs ys (long ∙ sym wide) (λ i h. one_whole _ _ (sym (are i (omega (arith, h, long))) ∙ same i (omega (arith, h, long)))))
  one_size_line m (K xs) line is not = absurd not
  one_size_line m line other is not = absurd is

  one_row_line : (h i : ℕ) (line other : Line) → i ≤ diameter a → IsRowLine a h i line → IsRowLine a h i other → line ≡ other
  one_row_line h i (P g l xs) (P f k ys) inside (first, second, long, are) (same_first, same_second, wide, same) =
      let values = ext_get_or (pos 0) xs ys (long ∙ sym wide) (λ j below. let at : j ≤ diameter a = omega (arith, below, long) in
      one_whole _ _ (one_number a h i j _ _ array inside at (are j at) (same j at))) in
      ap (λ n. P n l xs) (first ∙ sym same_first) ∙ (ap (λ n. P f n xs) (second ∙ sym same_second) ∙ ap (P f k) values)
  one_row_line h i (P g l xs) line inside is not = absurd not
  one_row_line h i line other inside is not = absurd is

  one_rows : (h i m : ℕ) (lines others : List Line) → i + m ≤ suc (diameter a) → AreRowLines a h i m lines → AreRowLines a h i m others → lines ≡ others
  one_rows h i zero [] [] inside are same = refl
  one_rows h i zero (line ∷ lines) others inside are same = absurd are
  one_rows h i zero [] (line ∷ others) inside are same = absurd same
  one_rows h i (suc m) [] others inside are same = absurd are
  one_rows h i (suc m) (line ∷ lines) [] inside are same = absurd same
  one_rows h i (suc m) (line ∷ lines) (other ∷ others) inside are same =
      ap₂ (λ l ls. l ∷ ls) (one_row_line h i line other (omega (arith, inside)) are.0 same.0) (one_rows h (suc i) m lines others (omega (arith, inside)) are.1 same.1)

  one_counts : (h m : ℕ) (lines others : List Line) → m ≤ diameter a → AreSizesAndRows a h m lines → AreSizesAndRows a h m others → lines ≡ others
  one_counts h m [] others inside are same = absurd are
  one_counts h m (line ∷ lines) [] inside are same = absurd same
  one_counts h m (line ∷ lines) (other ∷ others) inside are same =
      ap₂ (λ l ls. l ∷ ls) (one_size_line (suc (diameter a)) line other are.0 same.0) (one_rows h 1 m lines others (omega (arith, inside)) are.1 same.1)

  one_full : (f g : FrameValues) (lines others : List Line) → HasFrame a f → HasFrame a g → AreSizesAndFrame a f lines → AreSizesAndFrame a g others → lines ≡ others
  one_full f g [] others has also are same = absurd are
  one_full f g (line ∷ lines) [] has also are same = absurd same
  one_full f g (line ∷ lines) (other ∷ others) has also are same =
      ap₂ (λ l ls. l ∷ ls) (one_size_line (suc (diameter a)) line other are.0 same.0) (are.1 ∙ (list a f g array has also ∙ sym same.1))

  one_frame_lines : (lines others : List Line) → AreFullFrame a lines → AreFullFrame a others → lines ≡ others
  one_frame_lines lines others are same = one_full are.frame same.frame lines others are.is same.is are.are same.are

  pub one_lines : (claim : Claim) → IsBuilt (test_of claim) → Fails a claim → (lines others : List Line) → AreLinesOf a claim lines → AreLinesOf a claim others → lines ≡ others
  one_lines First built fails lines others are same = are ∙ sym same
  one_lines (Degree i) built fails lines others are same = are ∙ sym same
  one_lines (Order i) built fails lines others are same = are ∙ sym same
  one_lines (Cross i j) built fails lines others are same = are ∙ sym same
  one_lines (Size i) built fails lines others (line, e, is) (other, f, also) = e ∙ (ap (λ l. l ∷ []) (one_size_line i line other is also) ∙ sym f)
  one_lines (Intersect h zero j) built fails lines others are same = absurd are
  one_lines (Intersect h (suc i) j) built fails lines others are same = (let inside = fails.1 in one_rows h 1 i lines others (omega (arith, inside)) are same)
  one_lines (Handshake i) built fails lines others are same = one_counts i 0 lines others (omega arith) are same
  one_lines (Induced i j) built fails lines others are same = one_counts i i lines others fails.0.1 are same
  one_lines (Triangles i) built fails lines others are same = one_counts i i lines others fails.0.1 are same
  one_lines (Mult i) built fails lines others are same = one_frame_lines lines others are same
  one_lines claim built fails lines others are same = absurd built
