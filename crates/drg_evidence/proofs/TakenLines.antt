-- The evidence lines of a claim are met one after the other.
use Rattle.std.proofs.Common.{◌≡◌, ℕ, zero, suc, ◌+◌, ◌<◌, ◌≤◌, Bool, true, false, List, [], ◌∷◌, ◌++◌, length, Ok, refl, sym, ap, ◌∙◌, subst, arith, reverse, append_assoc, Option, Some, None}
use Rattle.std.specs.Prelude.{ℤ, pos, ◌-◌, int_le}
use Rattle.std.proofs.lemmas.Int.{ints}
use Rattle.std.proofs.lemmas.Grind.{reverse_onto}
use Rattle.std.proofs.lemmas.List.{append-nil, length-set, length-replicate, get_or-set_same}
use Rattle.drg_algebra.specs.Rational.{ℚ}
use Rattle.drg_algebra.proofs.Tests.{and-in}
use Rattle.drg_array.specs.Entries.{Entries, IsArray, diameter}
use Rattle.drg_array.specs.Numbers.{AreIntersectionNumbers}
use Rattle.drg_array.specs.declared.claim.Claim.{Claim}
use Rattle.drg_array.specs.declared.claim.Class.TheVariants.{Counting}
use Rattle.drg_array.specs.declared.node.Node.TheVariants as node
use Rattle.drg_array.proofs.NumberLaws.{one_number}
use Rattle.drg_derivation.specs.declared.line.Line.{Line}
use Rattle.drg_derivation.specs.declared.line.Line.TheVariants.{K, P}
use Rattle.drg_intersection.specs.Fits.{Fits}
use Rattle.drg_replay.specs.declared.progress.Progress.TheVariants.{AllMet}
use Rattle.drg_replay.specs.Steps.{Holds, EachHolds}
use Rattle.drg_replay.specs.Sizes.{size_steps}
use Rattle.drg_replay.specs.Rows.{rows_at, row_steps}
use Rattle.drg_replay.specs.Indices.{is_index}
use Rattle.drg_replay.specs.Lines.{known_of, steps_of}
use Rattle.drg_replay.specs.Claims.{claim_is_met, closing_of, closing_steps}
use Rattle.drg_replay.specs.Answers.{progress_of, answer_after}
use Rattle.drg_replay.proofs.ProgressLaws.{array_stays, claim_stays}
use Rattle.drg_replay.proofs.RowLaws.{no_rows_at, length_more}
use Rattle.drg_evidence.specs.Lines.{AreRowLines}
use Rattle.drg_evidence.proofs.StepTests.{none_fails}
use Rattle.drg_evidence.proofs.RowLines.{AreStated, row_holds, row_stated}

-- the lines in front of those after them, so that the last comes first
abbrev pub onto : List Line → List Line → List Line
onto [] earlier = earlier
onto (line ∷ lines) earlier = onto lines (line ∷ earlier)

onto_is : (lines earlier : List Line) → onto lines earlier ≡ reverse lines ++ earlier
onto_is [] earlier = refl
onto_is (line ∷ lines) earlier = onto_is lines (line ∷ earlier) ∙ (sym (append_assoc (reverse lines) (line ∷ []) earlier) ∙ ap (λ ls. ls ++ earlier) (sym (reverse_onto lines line [])))

pub all_onto : (lines : List Line) → onto lines [] ≡ reverse lines
all_onto lines = onto_is lines [] ∙ append-nil (reverse lines)

-- the lines, the newest of them first, are met; what they state of the sizes, and the rows of h
pub record Taken (a : Entries) (claim : Claim) (h : ℕ) (lines : List Line) (sizes : Option (List ℤ)) (rows : List (List ℤ)) : Type 0 where
  pub met : progress_of a claim lines ≡ AllMet (known_of a claim lines)
  pub sizes_are : (known_of a claim lines).counts.sizes ≡ sizes
  pub rows_are : rows_at (known_of a claim lines).counts.rows h ≡ rows
  pub width : length (known_of a claim lines).counts.rows ≡ suc (diameter a)
  pub plain : (known_of a claim lines).frame ≡ None
  pub roomless : (known_of a claim lines).rooms ≡ None

not_above : (m n : ℕ) → m ≤ n → int_le (pos m) (pos n) ≡ true
not_above m n h = by (int_le (pos m) (pos n)) refl where
  by : (b : Bool) → int_le (pos m) (pos n) ≡ b → b ≡ true
  by true e = refl
  by false e = absurd (omega (arith, ints))

pub index : (least n limit : ℕ) → least ≤ n → n ≤ limit → is_index least (pos n) limit ≡ true
index least n limit low high = and-in _ _ (not_above least n low) (not_above n limit high)

module _ (a : Entries) (claim : Claim) (h : ℕ) where
  pub none_taken : claim_is_met a claim ≡ true → Taken a claim h [] None []
  none_taken met = record {
    met = rw met refl;
    sizes_are = refl;
    rows_are = no_rows_at (diameter a + 1) h;
    width = length-replicate (diameter a + 1) [] ∙ omega arith;
    plain = refl;
    roomless = refl;
  }

  pub size_taken : (values : List ℤ) → EachHolds (size_steps a None values) → Taken a claim h [] None [] → Taken a claim h (K values ∷ []) (Some values) []
  size_taken values holds taken = record {
    met = rw (taken.met, none_fails (size_steps a None values) holds) refl;
    sizes_are = refl;
    rows_are = taken.rows_are;
    width = taken.width;
    plain = refl;
    roomless = refl;
  }

  row_taken : (earlier : List Line) (sizes : Option (List ℤ)) (rows : List (List ℤ)) (values : List ℤ) → h ≤ diameter a → length rows < diameter a
      → EachHolds (row_steps a h rows (length rows) values) → Taken a claim h earlier sizes rows
      → Taken a claim h (P (pos h) (pos (suc (length rows))) values ∷ earlier) sizes (rows ++ values ∷ [])
  row_taken earlier sizes rows values hh inside holds taken =
      let k = known_of a claim earlier in
      let back : suc (length rows) - 1 ≡ length rows = omega arith in
      let S : Entries → List (List ℤ) → ℕ → Type 0 =
      λ b r n. EachHolds (Holds (is_index 0 (pos h) (diameter b)) ∷ Holds (is_index 1 (pos (suc (length rows))) (diameter b)) ∷ row_steps b h r n values) in
      let here : S a rows (length rows) = (index 0 h (diameter a) (omega arith) hh, (index 1 (suc (length rows)) (diameter a) (omega arith) inside, holds)) in
      let steps : EachHolds (steps_of k (P (pos h) (pos (suc (length rows))) values)) =
      subst (λ b. S b (rows_at k.counts.rows h) (suc (length rows) - 1)) (sym (array_stays a claim earlier))
      (subst (λ r. S a r (suc (length rows) - 1)) (sym taken.rows_are) (subst (S a rows) (sym back) here)) in
      record {
        met = rw (taken.met, taken.roomless, none_fails (steps_of k (P (pos h) (pos (suc (length rows))) values)) steps) refl;
        sizes_are = taken.sizes_are;
        rows_are = get_or-set_same k.counts.rows h (rows_at k.counts.rows h ++ values ∷ []) [] (let wide = taken.width in omega (arith, wide, hh))
            ∙ ap (λ r. r ++ values ∷ []) taken.rows_are;
        width = length-set k.counts.rows h _ ∙ taken.width;
        plain = taken.plain;
        roomless = taken.roomless;
      }

  -- lines are taken, and so many rows of h state the numbers q
  pub record RowsTaken (q : ℕ → ℕ → ℚ) (lines : List Line) (sizes : Option (List ℤ)) (count : ℕ) : Type 0 where
    pub rows : List (List ℤ)
    pub count_is : length rows ≡ count
    pub stated : AreStated a h q rows
    pub taken : Taken a claim h lines sizes rows

  module _ (q : ℕ → ℕ → ℚ) (qs : AreIntersectionNumbers a h q) (array : IsArray a) (hh : h ≤ diameter a) where
    pub rows_taken : (m : ℕ) (lines earlier : List Line) (sizes : Option (List ℤ)) (rows : List (List ℤ)) → AreStated a h q rows → length rows + m ≤ diameter a
        → ((i j : ℕ) → i < length rows + m → j ≤ diameter a → Fits a (node.P h (suc i) j)) → AreRowLines a h (suc (length rows)) m lines
        → Taken a claim h earlier sizes rows → RowsTaken q (onto lines earlier) sizes (length rows + m)
    rows_taken zero [] earlier sizes rows stated short fits are taken = record { rows = rows; count_is = omega arith; stated = stated; taken = taken }
    rows_taken zero (line ∷ lines) earlier sizes rows stated short fits are taken = absurd are
    rows_taken (suc m) [] earlier sizes rows stated short fits are taken = absurd are
    rows_taken (suc m) (P g l values ∷ lines) earlier sizes rows stated short fits ((same_h, same_i, long, numbers), are) taken =
        let inside : length rows < diameter a = omega (arith, short) in
        let is = λ (j : ℕ) (hj : j ≤ diameter a). one_number a h (suc (length rows)) j (q (suc (length rows)) j) _ array inside hj (q, qs, refl) (numbers j hj) in
        let row_fits = λ (j : ℕ) (hj : j ≤ diameter a). fits (length rows) j (omega arith) hj in
        let holds = row_holds a h q qs array rows stated values long inside is row_fits in
        let next = row_taken earlier sizes rows values hh inside holds taken in
        let more = length_more rows values in
        let Q : List Line → ℕ → Type 0 = λ ls n. RowsTaken q ls sizes n in
        let now : Taken a claim h (P g l values ∷ earlier) sizes (rows ++ values ∷ []) = rw (same_h, same_i) next in
        let A : ℕ → Type 0 = λ n. AreRowLines a h (suc n) m lines in
        let all = rows_taken m lines (P g l values ∷ earlier) sizes (rows ++ values ∷ []) (row_stated a h q qs array rows stated values long inside is row_fits)
        (omega (arith, short, more)) (λ i j less hj. fits i j (omega (arith, less, more)) hj) (subst A (sym more) are) now in
        subst (Q (onto lines (P g l values ∷ earlier))) (omega (arith, more)) all
    rows_taken (suc m) (line ∷ lines) earlier sizes rows stated short fits are taken = absurd are.0

  -- what holds of the array, and of the sizes and rows that the lines state, holds of those that are known
  pub on_known : (C : Entries → Option (List ℤ) → List (List ℤ) → Type 0) (lines : List Line) (sizes : Option (List ℤ)) (rows : List (List ℤ)) → Taken a claim h lines sizes rows
      → C a sizes rows → C (known_of a claim lines).array (known_of a claim lines).counts.sizes (rows_at (known_of a claim lines).counts.rows h)
  on_known C lines sizes rows taken holds =
      let k = known_of a claim lines in
      subst (λ b. C b k.counts.sizes (rows_at k.counts.rows h)) (sym (array_stays a claim lines))
      (subst (λ s. C a s (rows_at k.counts.rows h)) (sym taken.sizes_are) (subst (C a sizes) (sym taken.rows_are) holds))

  -- where the claim is closed too, the derivation is accepted
  pub accepted : (lines : List Line) (sizes : Option (List ℤ)) (rows : List (List ℤ)) → Taken a claim h lines sizes rows
      → EachHolds (closing_of (known_of a claim lines) claim) → answer_after a claim lines ≡ Ok Counting
  accepted lines sizes rows taken holds =
      let k = known_of a claim lines in
      let closed : EachHolds (closing_steps k) = subst (λ c. EachHolds (closing_of k c)) (sym (claim_stays a claim lines)) holds in
      rw (taken.met, none_fails (closing_steps k) closed, taken.plain) refl
