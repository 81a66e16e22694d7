-- A derivation with the lines of a claim that the array fails is accepted.
use Rattle.std.proofs.Common.{◌≡◌, ℕ, zero, suc, ◌+◌, ◌<◌, ◌≤◌, true, List, [], ◌∷◌, length, reverse, Ok, refl, sym, ap, ◌∙◌, subst, arith, inl, inr, Some, None}
use Rattle.std.specs.Prelude.{ℤ, pos, ◌⊎◌, ◌||◌, nat_lt, slice_index_or}
use Rattle.drg_algebra.specs.Rational.{ℚ, whole, times}
use Rattle.drg_algebra.proofs.Tests.{and-in}
use Rattle.drg_array.specs.Entries.{Entries, IsArray, diameter, a_at, c_at}
use Rattle.drg_array.specs.Numbers.{size, vertex_count, AreIntersectionNumbers, IsNatural, IsWholeMultiple}
use Rattle.drg_array.specs.Conditions.{CountsFail, IsPlace}
use Rattle.drg_array.specs.declared.claim.Claim.{Claim}
use Rattle.drg_array.specs.declared.claim.Claim.TheVariants.{First, Degree, Order, Cross, Size, Intersect, Handshake, Induced, Triangles}
use Rattle.drg_array.specs.declared.claim.Class.TheVariants.{Counting}
use Rattle.drg_array.specs.declared.node.Node.TheVariants as node
use Rattle.drg_array.proofs.NumberLaws.{numbers_exist, one_number}
use Rattle.drg_derivation.specs.declared.line.Line.{Line}
use Rattle.drg_derivation.specs.declared.line.Line.TheVariants.{K}
use Rattle.drg_intersection.specs.Faults.{AllPass}
use Rattle.drg_replay.specs.Steps.{EachHolds}
use Rattle.drg_replay.specs.Claims.{claim_is_met, is_distance, closing_of, intersect_closing, handshake_closing, induced_closing, triangles_closing}
use Rattle.drg_replay.specs.Lines.{known_at_start}
use Rattle.drg_replay.specs.Answers.{answer_after}
use Rattle.drg_array.specs.Claims.{class_of}
use Rattle.drg_evidence.specs.Laws.{CountsAccepted}
use Rattle.drg_evidence.specs.Made.{AreMade, IsMade}
use Rattle.drg_evidence.specs.Lines.{AreLinesOf, AreRowLines, AreSizesAndRows}
use Rattle.drg_evidence.proofs.StepTests.{at_most, less, other, negative, one}
use Rattle.drg_evidence.proofs.SizeLines.{sizes_hold}
use Rattle.drg_evidence.proofs.RowLines.{none_stated}
use Rattle.drg_evidence.proofs.TakenLines.{RowsTaken, onto, all_onto, none_taken, size_taken, rows_taken, on_known, accepted}
use Rattle.drg_evidence.proofs.Closings.{size_closes, intersect_closes, handshake_closes, induced_closes, triangles_closes}

module _ (a : Entries) (array : IsArray a) where
  -- a claim that the entries show
  shown : (claim : Claim) → claim_is_met a claim ≡ true → EachHolds (closing_of (known_at_start a claim) claim) → answer_after a claim [] ≡ Ok Counting
  shown claim met closed = accepted a claim 0 [] None [] (none_taken a claim 0 met) closed

  distance : (i : ℕ) → IsPlace a i → is_distance a i ≡ true
  distance i place = and-in _ _ (at_most 1 i place.0) (at_most i (diameter a) place.1)

  falls : (i j m n : ℕ) → (i < j) ⊎ (m < n) → (nat_lt i j || nat_lt m n) ≡ true
  falls i j m n (inl h) = one _ _ (inl (less i j h))
  falls i j m n (inr h) = one _ _ (inr (less m n h))

  size_answer : (m : ℕ) (values : List ℤ) → CountsFail a (Size (suc m)) → IsMade a (node.K (suc m)) → length values ≡ suc m
      → ((i : ℕ) → i < suc m → size a i ≡ whole (slice_index_or values i (pos 0))) → answer_after a (Size (suc m)) (K values ∷ []) ≡ Ok Counting
  size_answer m values fails made count are =
      let range = fails.0 in
      let inside : suc m ≤ diameter a = range.1 in
      let holds = sizes_hold a (suc m) values array (omega arith) (omega (arith, inside)) count are
      (λ i below. (made.reached (node.K i) (omega (arith, below, inside)) below).fits) in
      accepted a (Size (suc m)) 0 (K values ∷ []) (Some values) [] (size_taken a (Size (suc m)) 0 values holds (none_taken a (Size (suc m)) 0 (distance (suc m) range)))
      (size_closes a array values (λ i below. are i (omega (arith, below, count))) m inside count made.fits fails.1)

  intersect_answer : (h m j : ℕ) (lines : List Line) → CountsFail a (Intersect h (suc m) j) → IsMade a (node.P h (suc m) j) → AreRowLines a h 1 m lines
      → answer_after a (Intersect h (suc m) j) (onto lines []) ≡ Ok Counting
  intersect_answer h m j lines (hh, hi, hj, x, is, never) made are =
      let (q, qs) = numbers_exist a h array in
      let met = and-in _ _ (and-in _ _ (at_most h (diameter a) hh) (at_most (suc m) (diameter a) hi)) (at_most j (diameter a) hj) in
      let all = rows_taken a (Intersect h (suc m) j) h q qs array hh m lines [] None [] (none_stated a h q qs) (omega (arith, hi))
      (λ t l below hl. (made.reached (node.P h (suc t) l) (hh, omega (arith, below, hi), hl) (inr (refl, inl (omega (arith, below))))).fits)
      are (none_taken a (Intersect h (suc m) j) h met) in
      let same : x ≡ q (suc m) j = one_number a h (suc m) j x (q (suc m) j) array hi hj is (q, qs, refl) in
      let closed = intersect_closes a h q qs array all.rows m j hi hj (all.count_is ∙ omega arith) all.stated made.fits (subst (λ y. ¬ IsNatural y) same never) in
      accepted a (Intersect h (suc m) j) h (onto lines []) None all.rows all.taken
      (on_known a (Intersect h (suc m) j) h (λ b sizes rows. EachHolds (intersect_closing b h rows (suc m) j)) _ _ _ all.taken closed)

  -- a line with all sizes and then rows of h
  record FullTaken (claim : Claim) (h : ℕ) (q : ℕ → ℕ → ℚ) (m : ℕ) (lines : List Line) : Type 0 where
    values : List ℤ
    count : length values ≡ suc (diameter a)
    sizes : (i : ℕ) → i < length values → size a i ≡ whole (slice_index_or values i (pos 0))
    rest : RowsTaken a claim h q (onto lines []) (Some values) (0 + m)

  full_taken : (claim : Claim) (h m : ℕ) (q : ℕ → ℕ → ℚ) (qs : AreIntersectionNumbers a h q) (lines : List Line) → claim_is_met a claim ≡ true → h ≤ diameter a → m ≤ diameter a → AllPass a
      → AreSizesAndRows a h m lines → FullTaken claim h q m lines
  full_taken claim h m q qs [] met hh hm pass are = absurd are
  full_taken claim h m q qs (K values ∷ lines) met hh hm pass ((count, sizes), are) =
      let holds = sizes_hold a (suc (diameter a)) values array (omega arith) (omega arith) count sizes (λ i below. (pass (node.K i) (omega (arith, below))).fits) in
      record {
        values = values;
        count = count;
        sizes = λ i below. sizes i (omega (arith, below, count));
        rest = rows_taken a claim h q qs array hh m lines (K values ∷ []) (Some values) [] (none_stated a h q qs) (omega (arith, hm))
            (λ t l below hl. (pass (node.P h (suc t) l) (hh, omega (arith, below, hm), hl)).fits)
            are (size_taken a claim h values holds (none_taken a claim h met));
      }
  full_taken claim h m q qs (line ∷ lines) met hh hm pass are = absurd are.0

  handshake_answer : (i : ℕ) (lines : List Line) → CountsFail a (Handshake i) → AllPass a → AreSizesAndRows a i 0 lines → answer_after a (Handshake i) (onto lines []) ≡ Ok Counting
  handshake_answer i lines (place, never) pass are =
      let (q, qs) = numbers_exist a i array in
      let all = full_taken (Handshake i) i 0 q qs lines (distance i place) place.1 (omega arith) pass are in
      let closed = handshake_closes a array all.values all.sizes all.count i place.1 never in
      accepted a (Handshake i) i (onto lines []) _ _ all.rest.taken
      (on_known a (Handshake i) i (λ b sizes rows. EachHolds (handshake_closing b sizes i)) _ _ _ all.rest.taken closed)

  induced_answer : (i j : ℕ) (lines : List Line) → CountsFail a (Induced i j) → AllPass a → AreSizesAndRows a i i lines → answer_after a (Induced i j) (onto lines []) ≡ Ok Counting
  induced_answer i j lines (place, second, x, is, never) pass are =
      let (q, qs) = numbers_exist a i array in
      let all = full_taken (Induced i j) i i q qs lines (and-in _ _ (distance i place) (distance j second)) place.1 place.1 pass are in
      let same : x ≡ q i j = one_number a i i j x (q i j) array place.1 second.1 is (q, qs, refl) in
      let closed = induced_closes a array all.values all.sizes all.count i place.1 q all.rest.rows (all.rest.count_is ∙ omega arith) all.rest.stated j second.1
      (subst (λ y. ¬ IsWholeMultiple 2 (times (size a i) y)) same never) in
      accepted a (Induced i j) i (onto lines []) _ _ all.rest.taken
      (on_known a (Induced i j) i (λ b sizes rows. EachHolds (induced_closing b sizes rows i j)) _ _ _ all.rest.taken closed)

  triangles_answer : (i : ℕ) (lines : List Line) → CountsFail a (Triangles i) → AllPass a → AreSizesAndRows a i i lines → answer_after a (Triangles i) (onto lines []) ≡ Ok Counting
  triangles_answer i lines (place, x, is, never) pass are =
      let (q, qs) = numbers_exist a i array in
      let all = full_taken (Triangles i) i i q qs lines (distance i place) place.1 place.1 pass are in
      let same : x ≡ q i i = one_number a i i i x (q i i) array place.1 place.1 is (q, qs, refl) in
      let closed = triangles_closes a array all.values all.sizes all.count i place.1 q all.rest.rows (all.rest.count_is ∙ omega arith) all.rest.stated
      (subst (λ y. ¬ IsWholeMultiple 6 (times (vertex_count a) (times (size a i) y))) same never) in
      accepted a (Triangles i) i (onto lines []) _ _ all.rest.taken
      (on_known a (Triangles i) i (λ b sizes rows. EachHolds (triangles_closing b sizes rows i)) _ _ _ all.rest.taken closed)

bare : (a : Entries) (claim : Claim) (lines : List Line) → lines ≡ [] → answer_after a claim [] ≡ Ok Counting → answer_after a claim (reverse lines) ≡ Ok Counting
bare a claim lines e h = ap (λ ls. answer_after a claim (reverse ls)) e ∙ h

turned : (a : Entries) (claim : Claim) (lines : List Line) → answer_after a claim (onto lines []) ≡ Ok Counting → answer_after a claim (reverse lines) ≡ Ok Counting
turned a claim lines h = ap (answer_after a claim) (sym (all_onto lines)) ∙ h

pub answer_is : (a : Entries) (claim : Claim) (lines : List Line) → IsArray a → CountsFail a claim → AreMade a claim → AreLinesOf a claim lines → answer_after a claim (reverse lines) ≡ Ok Counting
answer_is a First lines array fails made are = bare a First lines are (shown a array First refl (other (c_at a 1) 1 fails, tt))
answer_is a (Degree i) lines array fails made are = bare a (Degree i) lines are (shown a array (Degree i) (distance a array i fails.0) (negative (a_at a i) fails.1, tt))
answer_is a (Order i) lines array fails made are =
    bare a (Order i) lines are (shown a array (Order i) (and-in _ _ (at_most _ _ fails.0) (less _ _ fails.1)) (falls a array _ _ _ _ fails.2, tt))
answer_is a (Cross i j) lines array fails made are =
    bare a (Cross i j) lines are (shown a array (Cross i j) (and-in _ _ (at_most _ _ fails.0) (at_most _ _ fails.1)) (less _ _ fails.2, tt))
answer_is a (Size zero) lines array fails made are = (let low : 1 ≤ 0 = fails.0.0 in absurd (omega arith))
answer_is a (Size (suc m)) lines array fails made (K values, e, (count, sizes)) =
    ap (λ ls. answer_after a (Size (suc m)) (reverse ls)) e ∙ size_answer a array m values fails made count sizes
answer_is a (Size (suc m)) lines array fails made (line, e, is) = absurd is
answer_is a (Intersect h zero j) lines array fails made are = absurd are
answer_is a (Intersect h (suc m) j) lines array fails made are = turned a (Intersect h (suc m) j) lines (intersect_answer a array h m j lines fails made are)
answer_is a (Handshake i) lines array fails made are = turned a (Handshake i) lines (handshake_answer a array i lines fails made are)
answer_is a (Induced i j) lines array fails made are = turned a (Induced i j) lines (induced_answer a array i j lines fails made are)
answer_is a (Triangles i) lines array fails made are = turned a (Triangles i) lines (triangles_answer a array i lines fails made are)
answer_is a claim lines array fails made are = absurd fails

counting : (a : Entries) (claim : Claim) → CountsFail a claim → class_of claim ≡ Counting
counting a First fails = refl
counting a (Degree i) fails = refl
counting a (Order i) fails = refl
counting a (Cross i j) fails = refl
counting a (Size i) fails = refl
counting a (Intersect h i j) fails = refl
counting a (Handshake i) fails = refl
counting a (Induced i j) fails = refl
counting a (Triangles i) fails = refl
counting a claim fails = absurd fails

pub counts_accepted : CountsAccepted
counts_accepted derivation shows =
    let answer = answer_is derivation.array derivation.claim derivation.lines shows.array shows.fails shows.made shows.lines in
    answer ∙ ap Ok (sym (counting derivation.array derivation.claim shows.fails))
