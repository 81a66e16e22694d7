-- A derivation with the lines of a claim of the test mult that the array fails is accepted.
use Rattle.std.proofs.Common.{◌≡◌, ℕ, suc, ◌+◌, ◌<◌, true, List, [], ◌∷◌, length, reverse, Ok, refl, sym, ap, ◌∙◌, subst, arith, inl, inr, Some, None, ℤ, pos}
use Rattle.std.specs.Prelude.{◌&&◌, ◌<ℤ◌, int_lt, not, replicate, slice_index_or}
use Rattle.std.specs.Ordering.{int_eq}
use Rattle.std.proofs.lemmas.Bool.Decides.{Decides-int_eq}
use Rattle.drg_algebra.specs.Pairs.{pair_path}
use Rattle.drg_algebra.specs.Rational.{rationals, whole}
use Rattle.drg_algebra.specs.Ratio.{ratio, ratio_one}
use Rattle.drg_algebra.specs.Reduced.{numerator, denominator, ratio_of_parts}
use Rattle.drg_algebra.proofs.Tests.{and-in, both, decided, not-in}
use Rattle.drg_algebra.proofs.WholeParts.{zero_value}
use Rattle.drg_array.specs.Claims.{class_of}
use Rattle.drg_array.specs.Conditions.{IsPlace}
use Rattle.drg_array.specs.Entries.{Entries, IsArray, diameter}
use Rattle.drg_array.specs.Numbers.{size}
use Rattle.drg_array.specs.declared.claim.Claim.{Claim}
use Rattle.drg_array.specs.declared.claim.Claim.TheVariants.{Mult}
use Rattle.drg_array.specs.declared.claim.Class.TheVariants.{Spectral}
use Rattle.drg_array.specs.declared.node.Node.TheVariants as node
use Rattle.drg_bounds.specs.Multiplicities.{IsPositiveWhole}
use Rattle.drg_derivation.specs.declared.line.Line.{Line}
use Rattle.drg_derivation.specs.declared.line.Line.TheVariants.{K}
use Rattle.drg_eigen.specs.SplitLaws.{OneSplit}
use Rattle.drg_intersection.specs.Faults.{AllPass}
use Rattle.drg_intersection.specs.Fits.{IsInRange}
use Rattle.drg_quadratic.specs.Operations.{value_operations}
use Rattle.drg_quadratic.specs.Values.{Value, rational}
use Rattle.drg_replay.specs.Answers.{answer_after}
use Rattle.drg_replay.specs.Claims.{claim_is_met, is_positive_whole}
use Rattle.drg_replay.specs.Frames.{is_spectral, q_at}
use Rattle.drg_replay.specs.Known.{CountContent, KnownContent}
use Rattle.drg_replay.specs.Lines.{known_at_start}
use Rattle.drg_replay.specs.Claims.{closing_steps}
use Rattle.drg_replay.specs.Sizes.{is_full}
use Rattle.drg_replay.specs.Sizes as sizes
use Rattle.drg_replay.specs.Steps.{EachHolds}
use Rattle.drg_replay.proofs.StepLaws.{are_same, is_whole_less}
use Rattle.drg_whole.specs.Sums.{sum_fits_from}
use Rattle.drg_evidence.specs.FrameLines.{frame_lines}
use Rattle.drg_evidence.specs.FrameValues.{FrameValues, HasFrame}
use Rattle.drg_evidence.specs.Laws.{FailsMult, MultAccepted}
use Rattle.drg_evidence.specs.Lines.{AreSizesAndFrame}
use Rattle.drg_evidence.specs.Made.{IsFrameMade}
use Rattle.drg_evidence.proofs.Closings.{full, vertices}
use Rattle.drg_evidence.proofs.FrameTaken.{FrameTaken, IsWithinRange, frame_taken, met_line}
use Rattle.drg_evidence.proofs.OneFrame.{OneOverEach, one_values}
use Rattle.drg_evidence.proofs.SizeLines.{sizes_hold}
use Rattle.drg_evidence.proofs.SizeSums.{sums_fit}
use Rattle.drg_evidence.proofs.StepTests.{at_most, none_fails}
use Rattle.drg_evidence.proofs.TakenLines.{all_onto, onto}
use Rattle.drg_evidence.proofs.Texts.{sizes_stand}
use Rattle.drg_evidence.proofs.WithinRange.{within_range}

-- ---- a value that isn't a positive whole number
whole_value : (x : Value) → is_positive_whole x ≡ true → (n : ℤ) × (pos 0 <ℤ n) × (x ≡ rational (whole n))
whole_value x h =
    let parts = both (int_eq (numerator x.b) (pos 0) && int_eq (denominator x.a) (pos 1)) (int_lt (pos 0) (numerator x.a)) h in
    let first = both (int_eq (numerator x.b) (pos 0)) (int_eq (denominator x.a) (pos 1)) parts.0 in
    let none : numerator x.b ≡ pos 0 = (Decides-int_eq _ _).0 first.0 in
    let one : denominator x.a ≡ pos 1 = (Decides-int_eq _ _).0 first.1 in
    let flat : x.b ≡ whole (pos 0) = zero_value x.b none in
    let is : x.a ≡ whole (numerator x.a) = sym (ratio_of_parts x.a) ∙ (ap (ratio (numerator x.a)) one ∙ ratio_one (numerator x.a)) in
    (numerator x.a, is_whole_less _ _ parts.1, pair_path _ _ is flat)

broken_test : (root : ℕ) (x : Value) → ¬ IsPositiveWhole (value_operations root) x → not (is_positive_whole x) ≡ true
broken_test root x never =
    elim (decided (is_positive_whole x)) [
      | inl h ↦ absurd (never (whole_value x h))
      | inr h ↦ not-in _ h
    ]

module _ (split : OneSplit) (one : OneOverEach) (a : Entries) (array : IsArray a) (f : FrameValues) (is : HasFrame a f) where
  broken_here : (i : ℕ) (fails : FailsMult a i) → ¬ IsPositiveWhole (value_operations f.root) (f.dual 0 i)
  broken_here i fails =
      let same = one_values split one a fails.frame f array fails.is is in
      let P : Value → Type 0 = λ x. ¬ IsPositiveWhole (value_operations f.root) x in
      subst P (same.dual 0 i (omega arith) fails.place.1) (subst (λ (r : ℕ). ¬ IsPositiveWhole (value_operations r) (fails.frame.dual 0 i)) same.roots fails.broken)

-- ---- the derivation
module _ (a : Entries) (array : IsArray a) (pass : AllPass a) (values : List ℤ) (count : length values ≡ suc (diameter a))
    (are : (i : ℕ) → i < suc (diameter a) → size a i ≡ whole (slice_index_or values i (pos 0))) where
  abbrev counts : CountContent
  counts = record { sizes = Some values; rows = replicate (diameter a + 1) [] }

  pub here : (i : ℕ) → i < length values → size a i ≡ whole (slice_index_or values i (pos 0))
  here i less = are i (omega (arith, less, count))

  pub all_sizes : EachHolds (sizes.size_steps a None values)
  all_sizes = sizes_hold a (suc (diameter a)) values array (omega arith) (omega arith) count are (λ i less. (pass (node.K i) (omega arith)).fits)

  pub sums : sum_fits_from (pos 0) values ≡ true
  sums = sums_fit (size a) (pos 0) values (sizes_stand a array None values all_sizes).2 here (λ i less. (let partial = (pass node.N tt).fits i (omega (arith, less, count)) in
      subst IsInRange (sym (rationals.plus_nil _) ∙ rationals.plus_comm _ (whole (pos 0))) partial))

  -- after the `k` line and the lines of the frame it is known
  pub full_frame_taken : (claim : Claim) → claim_is_met a claim ≡ true → is_spectral (class_of claim) ≡ true → (f : FrameValues) (w : IsWithinRange a f)
      → FrameTaken a array claim counts f w (full a array values here count) sums (vertices a array values here count) (onto (frame_lines (diameter a) f) (K values ∷ []))
  full_frame_taken claim met spectral f w =
      frame_taken a array claim counts f w (full a array values here count) sums (vertices a array values here count) spectral (K values ∷ [])
      (met_line a claim [] (K values) (known_at_start a claim) (rw met refl) refl all_sizes)

  mult_answer : (f : FrameValues) (w : IsWithinRange a f) (i : ℕ) → IsPlace a i → ¬ IsPositiveWhole (value_operations f.root) (f.dual 0 i)
      → answer_after a (Mult i) (onto (frame_lines (diameter a) f) (K values ∷ [])) ≡ Ok Spectral
  mult_answer f w i place broken =
      let met = and-in _ _ (at_most 1 i place.0) (at_most i (diameter a) place.1) in
      let taken = full_frame_taken (Mult i) met refl f w in
      let k : KnownContent = record { array = a; claim = Mult i; counts = counts; frame = Some taken.written; rooms = None } in
      let entry : q_at taken.written 0 i ≡ f.dual 0 i = taken.duals 0 i (omega arith) place.1 in
      let closed : EachHolds (closing_steps k) = (are_same _ _ taken.all, (subst (λ x. not (is_positive_whole x) ≡ true) (sym entry) (broken_test f.root (f.dual 0 i) broken), tt)) in
      rw (taken.met, none_fails (closing_steps k) closed) refl

pub mult_answer_is : OneSplit → OneOverEach → (a : Entries) (i : ℕ) (f : FrameValues) (lines : List Line) → IsArray a → HasFrame a f → FailsMult a i → AllPass a × IsFrameMade a → AreSizesAndFrame a f lines
    → answer_after a (Mult i) (reverse lines) ≡ Ok Spectral
mult_answer_is split one a i f [] array is fails made are = absurd are
mult_answer_is split one a i f (K values ∷ lines) array is fails made ((count, sizes), same) =
    let w = within_range split a array f is made.1 in
    let answer = mult_answer a array made.0 values count sizes f w i fails.place (broken_here split one a array f is i fails) in
    ap (λ ls. answer_after a (Mult i) (reverse (K values ∷ ls))) same ∙ (ap (answer_after a (Mult i)) (sym (all_onto (K values ∷ frame_lines (diameter a) f))) ∙ answer)
mult_answer_is split one a i f (line ∷ lines) array is fails made are = absurd are.0

pub mult_accepted : OneSplit → OneOverEach → MultAccepted
mult_accepted split one derivation i shows =
    let answer = mult_answer_is split one derivation.array i shows.lines.frame derivation.lines shows.array shows.lines.is shows.fails shows.made shows.lines.are in
    ap (λ claim. answer_after derivation.array claim (reverse derivation.lines)) shows.claimed ∙ answer
