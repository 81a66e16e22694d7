-- What a derivation that is accepted with a frame says.
use Rattle.std.proofs.Common.{◌≡◌, ℕ, suc, ◌+◌, ◌<◌, ◌≤◌, Bool, true, false, length, reverse, Ok, refl, sym, ap, ◌∙◌, subst, arith, Option, Some, None}
use Rattle.std.specs.Prelude.{pos, int_lt}
use Rattle.std.proofs.lemmas.Int.{ints}
use Rattle.std.proofs.lemmas.Bool.Decides.{Decides-int_eq}
use Rattle.drg_algebra.specs.Reduced.{numerator, denominator}
use Rattle.drg_algebra.specs.Tables.{total}
use Rattle.drg_algebra.proofs.WholeParts.{numerator_whole, denominator_whole}
use Rattle.drg_algebra.proofs.Tests.{and-in}
use Rattle.drg_array.specs.Entries.{Entries, IsArray, diameter}
use Rattle.drg_array.specs.Claims.{class_of}
use Rattle.drg_array.specs.declared.claim.Claim.{Claim}
use Rattle.drg_array.specs.declared.claim.Claim.TheVariants as claim
use Rattle.drg_array.specs.declared.claim.Class.TheVariants.{Spectral}
use Rattle.drg_derivation.specs.Content.{Content}
use Rattle.drg_matrix.specs.Frame.{IsFrame}
use Rattle.drg_matrix.specs.Krein.{AreKreinNumbersOf}
use Rattle.drg_quadratic.specs.Values.{Value, nil, plus, minus}
use Rattle.drg_quadratic.specs.Operations.{value_operations}
use Rattle.drg_replay.specs.Known.{KnownContent, FrameContent}
use Rattle.drg_replay.specs.Steps.{EachHolds, first_failure}
use Rattle.drg_replay.specs.FieldNumbers.{value_at}
use Rattle.drg_replay.specs.Frames.{is_spectral, line_at, theta_at, p_at, q_at}
use Rattle.drg_replay.specs.Lines.{known_of, known_at_end}
use Rattle.drg_replay.specs.KreinLines.{krein_stands, krein_numbers}
use Rattle.drg_replay.specs.KreinClaims.{krein_closing, allowed, absolute_closing}
use Rattle.drg_replay.specs.Claims.{claim_is_met, is_positive_whole, mult_closing, closing_of, closing_steps}
use Rattle.drg_replay.specs.Answers.{AllAreMet, progress_of, accepted_class}
use Rattle.drg_replay.specs.Spectral.{WritesFrame, IsCount, FailsMult, parameter_at, WritesKrein, FailsKrein, FailsAbsolute, SpectralSays, SpectralLaw}
use Rattle.drg_replay.proofs.StepLaws.{each_holds, not_met, is_same}
use Rattle.drg_replay.proofs.ProgressLaws.{all_are_met, claim_was_met, array_stays, claim_stays, accepted}
use Rattle.drg_replay.proofs.Soundness.{sizes_known, met_in_force}
use Rattle.drg_replay.proofs.FrameLaws.{value_over, frame_known, frame_of, spectral_claim}
use Rattle.drg_replay.proofs.KreinSigns.{less_is_negative}
use Rattle.drg_replay.proofs.KreinSums.{counted, counted_vanishing, counted_others}
use Rattle.drg_replay.proofs.KreinBounds.{exceeds}
use Rattle.drg_replay.proofs.KreinLaws.{Stated, krein_known, stated_in, parameters_are}

-- a positive whole number passes the test
whole_above : (m : ℕ) → 0 < m → int_lt (pos 0) (pos m) ≡ true
whole_above m h = by (int_lt (pos 0) (pos m)) refl where
  by : (b : Bool) → int_lt (pos 0) (pos m) ≡ b → b ≡ true
  by true e = refl
  by false e = absurd (omega (arith, ints))

count_passes : (x : Value) → IsCount x → is_positive_whole x ≡ true
count_passes x (m, some, is) =
    let a_is = ap (λ (z : Value). z.a) is in
    let b_is = ap (λ (z : Value). z.b) is in
    let none = ap numerator b_is ∙ numerator_whole (pos 0) in
    let one = ap denominator a_is ∙ denominator_whole (pos m) in
    let number = ap numerator a_is ∙ numerator_whole (pos m) in
    and-in _ _ (and-in _ _ ((Decides-int_eq _ _).1 none) ((Decides-int_eq _ _).1 one))
    (subst (λ z. int_lt (pos 0) z ≡ true) (sym number) (whole_above m some))

-- what is known at the end of an accepted derivation with a frame
module _ (δ : Content) (array : IsArray δ.array) (met : AllAreMet δ.array δ.claim (reverse δ.lines)) where
  abbrev k : KnownContent
  k = known_at_end δ

  here : k.array ≡ δ.array
  here = array_stays δ.array δ.claim (reverse δ.lines)

  -- a frame that stands whole is one of the array
  abbrev writes : (f : FrameContent) → k.frame ≡ Some f → length f.q ≡ diameter k.array + 1 → WritesFrame δ
  writes f e all =
      let known = frame_of k.array (subst IsArray (sym here) array) k.claim k.counts.sizes k.frame f e (frame_known δ.array δ.claim array (reverse δ.lines) met) (sizes_known δ.array δ.claim (reverse δ.lines) met) all in
      record {
        written = f;
        stands = e;
        root = known.0;
        frame = subst (λ a. IsFrame (value_operations f.root) a (theta_at f) (p_at f) (q_at f)) here known.1;
      }

  mult_says : (i : ℕ) (frame : Option FrameContent) → k.frame ≡ frame → EachHolds (mult_closing k.array frame i) → FailsMult δ i
  mult_says i None e h = let never : false ≡ true = h.0 in absurd cc
  mult_says i (Some f) e h = record {
    writes = writes f e (is_same _ _ h.0);
    fails = λ count. not_met (is_positive_whole (q_at f 0 i)) h.1.0 (count_passes (q_at f 0 i) count);
  }

  -- a `krein` line that stands in it
  module _ (f : FrameContent) (e : k.frame ≡ Some f) (i j : ℕ) (stands : krein_stands f.krein i j ≡ true) where
    stated : Stated k.array f i j (krein_numbers f.krein i j)
    stated = stated_in k.array k.frame f e (krein_known δ.array δ.claim (reverse δ.lines) met) i j stands

    abbrev frame_written : WritesFrame δ
    frame_written = writes f e stated.all

    krein_written : WritesKrein δ f i j
    krein_written = record {
      low = stated.low;
      ordered = stated.ordered;
      inside = subst (λ (a : Entries). j ≤ diameter a) here stated.inside;
      stands = stands;
      over = λ h inside. value_over f.root (krein_numbers f.krein i j) h;
      parameters = subst (λ (a : Entries). AreKreinNumbersOf (value_operations f.root) (diameter a) (q_at f) i j (parameter_at f i j)) here
          (parameters_are k.array f i j (krein_numbers f.krein i j) frame_written.root stated);
    }

  krein_says : (i j h : ℕ) (frame : Option FrameContent) → k.frame ≡ frame → h ≤ diameter k.array → EachHolds (krein_closing frame i j h) → FailsKrein δ i j h
  krein_says i j h None e inside steps = let never : false ≡ true = steps.0 in absurd cc
  krein_says i j h (Some f) e inside steps = record {
    writes = frame_written f e i j steps.0;
    parameters = krein_written f e i j steps.0;
    inside = subst (λ (a : Entries). h ≤ diameter a) here inside;
    negative = less_is_negative f.root (frame_written f e i j steps.0).root (parameter_at f i j h) (value_over f.root (krein_numbers f.krein i j) h) steps.1.1.0;
  }

  absolute_says : (i j : ℕ) (frame : Option FrameContent) → k.frame ≡ frame → EachHolds (absolute_closing k.array frame i j) → FailsAbsolute δ i j
  absolute_says i j None e steps = let never : false ≡ true = steps.0 in absurd cc
  absolute_says i j (Some f) e steps =
      let root = (frame_written f e i j steps.0).root in
      let m = line_at f.q 0 in
      let numbers = krein_numbers f.krein i j in
      record {
        writes = frame_written f e i j steps.0;
        parameters = krein_written f e i j steps.0;
        counted = counted f.root m numbers;
        vanishing = counted_vanishing f.root m numbers;
        others = counted_others f.root m numbers;
        above = subst
            (λ (a : Entries). (value_operations f.root).IsPositive (plus (total nil plus (suc (diameter a)) (counted f.root m numbers)) (minus (allowed f.root (value_at f.root m) i j))))
            here (exceeds f.root root m numbers i j (diameter k.array) steps.1);
      }

says : (δ : Content) (array : IsArray δ.array) (met : AllAreMet δ.array δ.claim (reverse δ.lines)) (c : Claim) → claim_is_met (known_at_end δ).array c ≡ true → is_spectral (class_of c) ≡ true → EachHolds (closing_of (known_at_end δ) c) → SpectralSays δ c
says δ array met (claim.Mult i) ranges e h = mult_says δ array met i (known_at_end δ).frame refl h
says δ array met (claim.Absolute i j) ranges e h = absolute_says δ array met i j (known_at_end δ).frame refl h
says δ array met claim.First ranges e h = absurd cc
says δ array met (claim.Degree i) ranges e h = absurd cc
says δ array met (claim.Order i) ranges e h = absurd cc
says δ array met (claim.Cross i j) ranges e h = absurd cc
says δ array met (claim.Size i) ranges e h = absurd cc
says δ array met (claim.Intersect g i j) ranges e h = absurd cc
says δ array met (claim.Handshake i) ranges e h = absurd cc
says δ array met (claim.Induced i j) ranges e h = absurd cc
says δ array met (claim.Triangles i) ranges e h = absurd cc
says δ array met (claim.Triple u v w) ranges e h = absurd cc
says δ array met _ ranges e h = absurd cc

pub spectral_holds : SpectralLaw
spectral_holds δ array h =
    let a = δ.array in
    let c = δ.claim in
    let lines = reverse δ.lines in
    let k = known_of a c lines in
    let end = accepted (progress_of a c lines) Spectral (length lines + 4) h in
    let (met, known) = all_are_met a c lines end.known end.all_met in
    let closed = each_holds _ (subst (λ k. first_failure (closing_steps k) ≡ Ok tt) known end.closed) in
    let class = spectral_claim k.array k.claim k.counts.sizes k.frame (end.class_is ∙ ap accepted_class known) (frame_known a c array lines met) in
    subst (SpectralSays δ) (claim_stays a c lines) (says δ array met k.claim (met_in_force a c lines (claim_was_met a c lines end.known end.all_met)) class closed)
