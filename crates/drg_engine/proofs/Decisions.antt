-- When a verdict is right, and what a right verdict decides.
use Rattle.std.proofs.Common.{◌≡◌, ◌≤◌, List, [], ◌∷◌, ◌++◌, Ok, None, Some, refl, sym, ap, subst, ◌∙◌, arith, inl, inr}
use Rattle.std.specs.Prelude.{◌⊎◌, Contains, Option, ⊤}
use Rattle.std.proofs.lemmas.List.Elements.{Contains-push_cases}
use Rattle.drg_array.specs.Entries.{Entries, IsArray}
use Rattle.drg_array.specs.ClaimOrder.{test_number, ComesBefore}
use Rattle.drg_array.specs.Claims.{class_of, test_of}
use Rattle.drg_array.specs.declared.claim.Claim.{Claim}
use Rattle.drg_array.specs.declared.test.Test.{Test}
use Rattle.drg_array.specs.declared.test.Test.TheVariants as test
use Rattle.drg_array.specs.declared.node.Node.{Node}
use Rattle.drg_derivation.specs.Content.{Content}
use Rattle.drg_derivation.specs.declared.line.Line.{Line}
use Rattle.drg_eigen.specs.declared.split.OtherSpectrum.{OtherSpectrum}
use Rattle.drg_evidence.specs.FrameValues.{FrameValues, HasFrame}
use Rattle.drg_evidence.specs.Lines.{AreLinesOf}
use Rattle.drg_evidence.specs.Made.{AreMade}
use Rattle.drg_graph.specs.NumberLaws.{CountingClaimsLaw}
use Rattle.drg_intersection.specs.Faults.{AllPass, IsFirstWide}
use Rattle.drg_intersection.specs.Numbers.{AreNumbersOf}
use Rattle.drg_orderings.specs.Orderings.{AreOrderings}
use Rattle.drg_orderings.specs.PPolynomial.{IsPPolynomialOrdering}
use Rattle.drg_replay.specs.Answers.{answer_of}
use Rattle.drg_report.specs.declared.verdict.Cause.{Cause}
use Rattle.drg_report.specs.declared.verdict.Cause.TheVariants.{Wide, Spectrum}
use Rattle.drg_report.specs.declared.verdict.Pending.{Pending}
use Rattle.drg_report.specs.declared.verdict.Infeasible.{Infeasible}
use Rattle.drg_report.specs.declared.verdict.Undecided.{Undecided}
use Rattle.drg_report.specs.declared.verdict.RefusedSpectrum.{RefusedSpectrum}
use Rattle.drg_report.specs.declared.verdict.Spectra.{Spectra}
use Rattle.drg_report.specs.declared.verdict.Spectra.TheVariants.{Rational, Quadratic}
use Rattle.drg_report.specs.declared.verdict.Survivor.{Survivor}
use Rattle.drg_engine.specs.Causes.{IsCause, IsDecidable, IsSpectral}
use Rattle.drg_engine.specs.Conditions.{Fails}
use Rattle.drg_engine.specs.Courses.{ComesFirst, NoneFailsWithin, RunsWithin}
use Rattle.drg_engine.specs.Found.{AllAreSpectrum, AreFound, IsCertificate, IsPassed, SomeIsSpectrum, SomeIsWide}
use Rattle.drg_engine.specs.Frames.{HasOtherSpectrum, IsFirstTooWide, IsFrameReached}
use Rattle.drg_engine.specs.Laws.{HasFrameFor, ShowsFailure, UnfailedTestsHold}
use Rattle.drg_engine.specs.Parameters.{HasParameters, HaveNoParameters}
use Rattle.drg_engine.specs.Selections.{AreTests, IsEarlier, Runs, RunsBefore}
use Rattle.drg_engine.specs.Verdicts.{AreAllFound, AreSpectraOf, HasSpectra, IsFirstFailing, IsFoundBefore, IsInfeasible, IsNodeOf, IsOpen, IsRefused, IsStopped, IsSurvivor, IsWideEntry}
use Rattle.drg_engine.proofs.BuiltTests.{array_test, built_number, counting_claim, count_number, counts_decidable, counts_fail, counts_no_frame, is_mult, test_kind}
use Rattle.drg_engine.proofs.FoundTests.{all_passed, nothing, one_more}
use Rattle.drg_engine.proofs.NoParameters.{with_tables, without_tables}
use Rattle.drg_engine.proofs.TestOrder.{all_but_mult, all_with_mult, all_within, tests_before}

-- the derivation of these parts
abbrev pub of_parts : Entries → Claim → List Line → Content
of_parts a claim lines = record { array = a; claim = claim; lines = lines }

-- what is in a list of one item
first_of : (x : Pending) → Contains (x ∷ []) x
first_of x = (0, omega arith, refl)

only : (x y : Pending) → Contains (x ∷ []) y → x ≡ y
only x y h = elim (Contains-push_cases [] x y h) [ inl none ↦ absurd (nothing y none) | inr same ↦ same ]

module _ (law : UnfailedTestsHold) (a : Entries) (tests : List Test) where
  -- a test on counts passes where none of its claims fails
  counts_pass : (t : Test) → test_number t ≤ 9 → Runs tests t → ((claim : Claim) → test_of claim ≡ t → Fails a claim → ⊥) → IsPassed a t
  counts_pass t small runs none =
      let counted = array_test t small in
      record { holds = law a t runs.0 (counts_no_frame a t counted) none; decidable = counts_decidable a t counted }

  -- each test before one that fails first passes
  pub found_before : (claim : Claim) → ComesFirst a tests claim → IsFoundBefore a tests (test_of claim) []
  found_before claim first =
      let (ran, are) = tests_before tests (test_of claim) in
      record {
        ran = ran;
        passed = ran;
        all_ran = are;
        found = all_passed a ran (λ t h.
            let runs = (are.members t).0 h in
            let most = built_number (test_of claim) first.runs.0 in
            counts_pass t (omega (arith, runs.1, most)) runs.0 (λ other same fails.
            first.first other (inl (subst (λ u. IsEarlier u (test_of claim)) (sym same) runs.1)) (subst (Runs tests) (sym same) runs.0) fails));
      }

  pub infeasible : CountingClaimsLaw → IsArray a → (found : Infeasible) (lines : List Line) → found.derivation ≡ of_parts a found.claim lines → found.class ≡ class_of found.claim
      → AreLinesOf a found.claim lines → answer_of (of_parts a found.claim lines) ≡ Ok (class_of found.claim) → found.pending ≡ [] → found.other ≡ None
      → AreMade a found.claim → IsDecidable a (test_of found.claim) → ComesFirst a tests found.claim → IsInfeasible a tests found
  infeasible graph array found lines parts same are answer none no_other made decidable first =
      let claim = found.claim in
      record {
        claimed = record { runs = first.runs; fails = first.fails; first = λ earlier same before. first.first earlier before (subst (Runs tests) (sym same) first.runs) };
        before = subst (IsFoundBefore a tests (test_of claim)) (sym none) (found_before claim first);
        certificate = subst (λ o. IsCertificate a found.pending o) (sym no_other) (λ (x, there, e). nothing x (subst (λ l. Contains l x) none there));
        same_array = ap (λ (δ : Content). δ.array) parts;
        same_claim = ap (λ (δ : Content). δ.claim) parts;
        lines = subst (λ (δ : Content). AreLinesOf a claim δ.lines) (sym parts) are;
        made = made;
        decidable = decidable;
        same_class = same;
        accepted = ap answer_of parts ∙ (answer ∙ ap Ok (sym same));
        graph = λ counting. graph a claim array (counts_fail a claim (counting_claim claim first.runs.0 (sym same ∙ counting)) first.fails);
      }

  pub stopped : (found : Undecided) (last : Test) (node : Node)
      → IsFirstWide a node → IsWideEntry last node found.pending → test_number last ≤ 6 → AreTests (RunsBefore tests last) found.passed → found.other ≡ None
      → ((claim : Claim) → IsEarlier (test_of claim) last → Fails a claim → ⊥) → IsStopped a tests found
  stopped found last node wide entry early are no_other none = record {
    last = last;
    node = node;
    wide = wide;
    entry = entry;
    all_passed = are;
    held = λ t h.
        let runs = (are.members t).0 h in
        (counts_pass t (omega (arith, runs.1, early)) runs.0 (λ claim same fails. none claim (subst (λ u. IsEarlier u last) (sym same) runs.1) fails)).holds;
    no_certificate = no_other;
  }

  pub survivor : (found : Survivor) → AreTests (Runs tests) found.passed → AreNumbersOf a found.numbers → AllPass a → HasSpectra a tests found.spectra
      → AreOrderings (IsPPolynomialOrdering found.numbers) found.p_orderings → HasParameters tests found.spectra found.q_orderings
      → ((t : Test) → Runs tests t → HasFrameFor a t) → ((t : Test) → Runs tests t → IsDecidable a t)
      → ((claim : Claim) → Runs tests (test_of claim) → Fails a claim → ⊥) → IsSurvivor a tests found
  survivor found are numbers_of pass spectra orderings parameters frame made none = record {
    all_passed = are;
    held = λ t h.
        let runs = (are.members t).0 h in
        record {
          holds = law a t runs.0 (frame t runs) (λ claim same fails. none claim (subst (Runs tests) (sym same) runs) fails);
          decidable = made t runs;
        };
    numbers_of = numbers_of;
    pass = pass;
    spectra_of = spectra;
    p_orderings_of = orderings;
    parameters_of = parameters;
  }

  -- ---- survivors
  pub survivor_without : (found : Survivor) → ¬ Runs tests test.Mult → NoneFailsWithin a tests 9 → AreTests (RunsWithin tests 9) found.passed
      → AreNumbersOf a found.numbers → AllPass a → found.spectra ≡ None
      → AreOrderings (IsPPolynomialOrdering found.numbers) found.p_orderings → found.q_orderings ≡ None → IsSurvivor a tests found
  survivor_without found never none are numbers_of pass no_spectra orderings no_orderings =
      survivor found (all_but_mult tests found.passed never are) numbers_of pass
      (subst (HasSpectra a tests) (sym no_spectra) (λ t runs asks. never (subst (Runs tests) (is_mult t runs.0 asks) runs)))
      orderings
      (subst (λ (s : Option Spectra). HasParameters tests s found.q_orderings) (sym no_spectra)
      (subst (HasParameters tests None) (sym no_orderings) (without_tables tests)))
      (λ t runs asks. absurd (never (subst (Runs tests) (is_mult t runs.0 asks) runs)))
      (λ t runs. elim (test_kind t runs.0) [ inl counted ↦ counts_decidable a t counted | inr same ↦ absurd (never (subst (Runs tests) same runs)) ])
      (λ claim runs fails. elim (test_kind (test_of claim) runs.0) [
        | inl counted ↦ none claim (runs, count_number (test_of claim) counted) fails
        | inr same ↦ absurd (never (subst (Runs tests) same runs))
      ])

  frame_in : (spectra : Spectra) → AreSpectraOf a spectra → (f : FrameValues) × HasFrame a f
  frame_in (Rational tables) (d, root, has) = (_, has)
  frame_in (Quadratic tables) (d, root, has) = (_, has)

  pub survivor_with : (found : Survivor) (spectra : Spectra) → Runs tests test.Mult → NoneFailsWithin a tests 9
      → ((claim : Claim) → test_of claim ≡ test.Mult → Fails a claim → ⊥) → AreTests (RunsWithin tests 10) found.passed
      → AreNumbersOf a found.numbers → AllPass a → found.spectra ≡ Some spectra → AreSpectraOf a spectra → IsFrameReached a
      → HaveNoParameters spectra → AreOrderings (IsPPolynomialOrdering found.numbers) found.p_orderings → found.q_orderings ≡ None → IsSurvivor a tests found
  survivor_with found spectra runs none no_mult are numbers_of pass is has made no_parameters orderings no_orderings =
      survivor found (all_within tests found.passed are) numbers_of pass
      (subst (HasSpectra a tests) (sym is) (test.Mult, runs, tt, has))
      orderings
      (subst (λ (s : Option Spectra). HasParameters tests s found.q_orderings) (sym is)
      (subst (HasParameters tests (Some spectra)) (sym no_orderings) (with_tables tests spectra no_parameters)))
      (λ t also asks. frame_in spectra has)
      (λ t also. elim (test_kind t also.0) [ inl counted ↦ counts_decidable a t counted | inr same ↦ subst (IsDecidable a) (sym same) made ])
      (λ claim also fails. elim (test_kind (test_of claim) also.0) [
        | inl counted ↦ none claim (also, count_number (test_of claim) counted) fails
        | inr same ↦ no_mult claim same fails
      ])

  -- ---- where mult can't be decided
  module _ (pass : AllPass a) (none : NoneFailsWithin a tests 9) (runs : Runs tests test.Mult) where
    within_pass : (ts : List Test) → AreTests (RunsWithin tests 9) ts → (t : Test) → Contains ts t → IsPassed a t
    within_pass ts are t h =
        let at = (are.members t).0 h in
        counts_pass t at.1 at.0 (λ claim same fails. none claim (subst (RunsWithin tests 9) (sym same) at) fails)

    all_found : (passed : List Test) (pending : List Pending) (c : Cause) → AreTests (RunsWithin tests 9) passed → IsCause a test.Mult c
        → pending ≡ record { test = test.Mult; cause = c } ∷ [] → AreAllFound a tests passed pending
    all_found passed pending c are is e = record {
      pass = pass;
      ran = passed ++ test.Mult ∷ [];
      all_ran = all_with_mult tests passed runs are;
      found = subst (AreFound a (passed ++ test.Mult ∷ []) passed) (sym e) (one_more a passed test.Mult c (within_pass passed are) is);
    }

    pub left_open : (found : Undecided) (node : Node) → AreTests (RunsWithin tests 9) found.passed → IsFirstTooWide a node
        → found.pending ≡ record { test = test.Mult; cause = Wide node } ∷ [] → found.other ≡ None → IsOpen a tests found
    left_open found node are wide e no_other = record {
      found_all = all_found found.passed found.pending (Wide node) are wide e;
      some = subst SomeIsWide (sym e) (_, first_of _, tt);
      certificate = subst (λ o. IsCertificate a found.pending o) (sym no_other)
          (λ (x, there, is). let same = only _ x (subst (λ l. Contains l x) e there) in
          let other : Wide node ≡ Spectrum = ap (λ (y : Pending). y.cause) same ∙ is in cc);
    }

    pub refused : (found : RefusedSpectrum) → AreTests (RunsWithin tests 9) found.passed → HasOtherSpectrum a found.other
        → found.pending ≡ record { test = test.Mult; cause = Spectrum } ∷ [] → IsRefused a tests found
    refused found are other e = record {
      found_all = all_found found.passed found.pending Spectrum are (found.other, other) e;
      spectrum = subst AllAreSpectrum (sym e) (record {
        some = (_, first_of _, refl);
        all = λ x there. ap (λ (y : Pending). y.cause) (sym (only _ x there));
      });
      certificate = other;
    }

-- the derivation of a right verdict shows that the array fails the claim
pub shown : (a : Entries) (tests : List Test) (found : Infeasible) → IsArray a → IsInfeasible a tests found → ShowsFailure found.derivation
shown a tests found array right =
    let same = right.same_array in
    let claimed = right.same_claim in
    record {
      array = rw same array;
      built = rw claimed right.claimed.runs.0;
      fails = rw (same, claimed) right.claimed.fails;
      lines = rw (same, claimed) right.lines;
      made = rw (same, claimed) right.made;
    }
