-- Two right verdicts on one array, for the same tests, have one text.
use Rattle.std.proofs.Common.{◌≡◌, ℕ, zero, suc, ◌<◌, ◌≤◌, List, [], ◌∷◌, ◌++◌, None, Some, refl, sym, ap, ap₂, ◌∙◌, subst, arith, inl, inr}
use Rattle.std.specs.Prelude.{pos, ◌⊎◌, Contains, Option, codes, decimal}
use Rattle.drg_algebra.specs.Rational.{whole}
use Rattle.drg_array.specs.ClaimOrder.{ComesBefore, test_number}
use Rattle.drg_array.specs.CatalogueLaws.{ClaimsInOrder}
use Rattle.drg_array.specs.Claims.{class_of, test_of}
use Rattle.drg_array.specs.Entries.{Entries, IsArray, diameter}
use Rattle.drg_array.specs.declared.claim.Claim.{Claim}
use Rattle.drg_array.specs.declared.claim.Class.{Class}
use Rattle.drg_array.specs.declared.node.Node.{Node}
use Rattle.drg_array.specs.declared.test.Test.{Test}
use Rattle.drg_array.specs.declared.test.Test.TheVariants as test
use Rattle.drg_array.proofs.NumberLaws.{one_number as one_intersection}
use Rattle.drg_array.proofs.TestLaws.{one_number}
use Rattle.drg_counting.specs.EntryTests.{IsBasic}
use Rattle.drg_derivation.specs.Content.{Content}
use Rattle.drg_derivation.specs.declared.line.Line.{Line}
use Rattle.drg_eigen.specs.declared.split.OtherSpectrum.{OtherSpectrum}
use Rattle.drg_evidence.specs.Laws.{OneFrameOfValues, OneListOfFrameLines}
use Rattle.drg_evidence.specs.Lines.{AreLinesOf}
use Rattle.drg_intersection.specs.Laws.{OneFault, NoFaultWhereAllPass}
use Rattle.drg_intersection.specs.Numbers.{AreNumbersOf, Numbers, k_at, n_of, p_at}
use Rattle.drg_intersection.proofs.Ranges.{one_whole}
use Rattle.drg_orderings.specs.Orderings.{AreOrderings, IsOrdering}
use Rattle.drg_orderings.specs.PPolynomial.{IsPPolynomialOrdering, IsZeroNumber}
use Rattle.drg_report.specs.OrderingTexts.{p_lines, q_lines}
use Rattle.drg_report.specs.Texts.{array_lines, numbers_lines, report_text, sizes_text, verdict_line}
use Rattle.drg_report.specs.declared.verdict.Cause.{Cause}
use Rattle.drg_report.specs.declared.verdict.Cause.TheVariants.{Wide, Spectrum}
use Rattle.drg_report.specs.declared.verdict.Pending.{Pending}
use Rattle.drg_report.specs.declared.verdict.Infeasible.{Infeasible}
use Rattle.drg_report.specs.declared.verdict.Undecided.{Undecided}
use Rattle.drg_report.specs.declared.verdict.RefusedSpectrum.{RefusedSpectrum}
use Rattle.drg_report.specs.declared.verdict.Survivor.{Survivor}
use Rattle.drg_report.specs.declared.verdict.Verdict.{Verdict}
use Rattle.drg_report.specs.declared.verdict.Verdict.TheVariants as verdict
use Rattle.drg_engine.specs.Causes.{IsCause, IsDecidable}
use Rattle.drg_engine.specs.Conditions.{Fails}
use Rattle.drg_engine.specs.Found.{AllAreSpectrum, AreFound, IsCertificate, IsPassed, IsWide, SomeIsSpectrum}
use Rattle.drg_engine.specs.Frames.{HasOtherSpectrum}
use Rattle.drg_engine.specs.Laws.{FailingTestsDontHold, HaveOneReport}
use Rattle.drg_engine.specs.Selections.{AreTests, IsEarlier, Runs, RunsBefore}
use Rattle.drg_engine.specs.Verdicts.{AreAllFound, IsFoundBefore, IsInfeasible, IsNodeOf, IsOpen, IsRefused, IsStopped, IsSurvivor, IsUndecided, VerdictHolds}
use Rattle.drg_engine.specs.FrameLaws.{FrameLaws}
use Rattle.drg_engine.proofs.ClaimFacts.{basic_runs}
use Rattle.drg_engine.proofs.FoundTests.{all_passed, entry_of, nothing, one_found, passed_or_not}
use Rattle.drg_engine.proofs.FrameCauses.{no_cause, one_other}
use Rattle.drg_engine.proofs.OneLines.{one_lines}
use Rattle.drg_engine.proofs.NoParameters.{no_orderings}
use Rattle.drg_engine.proofs.OneList.{one_passed}
use Rattle.drg_report.proofs.OneOrderings.{one_orderings}
use Rattle.drg_engine.proofs.SameFrames.{same_spectra}
use Rattle.drg_engine.proofs.WideNumbers.{no_claim, not_all_pass, one_part, one_wide}

-- ---- the numbers that are written
one_natural : (m n : ℕ) → whole (pos m) ≡ whole (pos n) → m ≡ n
one_natural m n e = (let same : pos m ≡ pos n = one_whole (pos m) (pos n) e in cc)

same_sizes : (numbers other : Numbers) (m : ℕ) → ((i : ℕ) → i < m → k_at numbers i ≡ k_at other i) → sizes_text numbers m ≡ sizes_text other m
same_sizes numbers other zero same = refl
same_sizes numbers other (suc i) same =
    ap₂ (λ start (k : ℕ). start ++ 32 ∷ decimal k) (same_sizes numbers other i (λ j below. same j (omega (arith, below)))) (same i (omega arith))

same_numbers : (a : Entries) (numbers other : Numbers) → AreNumbersOf a numbers → AreNumbersOf a other → numbers_lines numbers ≡ numbers_lines other
same_numbers a numbers other are same =
    let vertices = one_natural (n_of numbers) (n_of other) (sym are.vertices ∙ same.vertices) in
    let sizes = same_sizes numbers other (suc (diameter a)) (λ i below. let at : i ≤ diameter a = omega (arith, below) in
    one_natural (k_at numbers i) (k_at other i) (sym (are.sizes i at) ∙ same.sizes i at)) in
    let all = ap (λ d. sizes_text numbers (suc d)) are.same_d ∙ (sizes ∙ ap (λ d. sizes_text other (suc d)) (sym same.same_d)) in
    ap₂ (λ (n : ℕ) text. codes "n " ++ decimal n ++ codes "\nsizes" ++ text ++ codes "\n") vertices all

same_p_orderings : (a : Entries) → IsArray a → (numbers other : Numbers) → AreNumbersOf a numbers → AreNumbersOf a other → (orders others : List (List ℕ))
    → AreOrderings (IsPPolynomialOrdering numbers) orders → AreOrderings (IsPPolynomialOrdering other) others → orders ≡ others
same_p_orderings a array numbers other are same orders others right also =
    let Y = IsZeroNumber numbers in
    let Z = IsZeroNumber other in
    one_orderings (diameter a) Y Z
    (λ h i j first second third.
    let e = one_natural (p_at numbers h i j) (p_at other h i j)
    (one_intersection a h i j _ _ array second third (are.intersections h i j first second third) (same.intersections h i j first second third)) in
    (λ (zero : Y h i j). sym e ∙ zero, λ (zero : Z h i j). e ∙ zero))
    orders others
    (subst (λ (d : ℕ). AreOrderings (IsOrdering d Y) orders) are.same_d right)
    (subst (λ (d : ℕ). AreOrderings (IsOrdering d Z) others) same.same_d also)

-- ---- two verdicts
same_content : (δ ε : Content) → δ.array ≡ ε.array → δ.claim ≡ ε.claim → δ.lines ≡ ε.lines → δ ≡ ε
same_content δ ε arrays claims lines i = record { array = arrays i; claim = claims i; lines = lines i }

same_infeasible : (found other : Infeasible) → found.claim ≡ other.claim → found.class ≡ other.class → found.derivation ≡ other.derivation → found.pending ≡ other.pending
    → found.other ≡ other.other → found ≡ other
same_infeasible found other claims classes derivations pendings others i =
    record { claim = claims i; class = classes i; derivation = derivations i; pending = pendings i; other = others i }

same_undecided : (found other : Undecided) → found.passed ≡ other.passed → found.pending ≡ other.pending → found.other ≡ other.other → found ≡ other
same_undecided found other passed pending others i = record { passed = passed i; pending = pending i; other = others i }

same_refused : (found other : RefusedSpectrum) → found.passed ≡ other.passed → found.pending ≡ other.pending → found.other ≡ other.other → found ≡ other
same_refused found other passed pending others i = record { passed = passed i; pending = pending i; other = others i }

part_late : (last : Test) (node : Node) → IsNodeOf last node → 5 ≤ test_number last
part_late test.Size node part = omega arith
part_late test.Intersect node part = omega arith
part_late last node part = absurd part

compared : (m n : ℕ) → (m < n) ⊎ ((m ≡ n) ⊎ (n < m))
compared zero zero = inr (inl refl)
compared zero (suc n) = inl (omega arith)
compared (suc m) zero = inr (inr (omega arith))
compared (suc m) (suc n) = elim (compared m n) [ inl less ↦ inl (omega (arith, less)) | inr (inl e) ↦ inr (inl (ap suc e)) | inr (inr more) ↦ inr (inr (omega (arith, more))) ]

module _ (laws : FrameLaws) (frame : OneFrameOfValues) (list : OneListOfFrameLines) (order : ClaimsInOrder) (false : FailingTestsDontHold) (one : OneFault) (none : NoFaultWhereAllPass)
    (a : Entries) (tests : List Test) (array : IsArray a) where
  one_certificate : (ps qs : List Pending) (o p : Option OtherSpectrum) → ps ≡ qs → IsCertificate a ps o → IsCertificate a qs p → o ≡ p
  one_certificate ps qs None None e is also = refl
  one_certificate ps qs None (Some p) e is also = absurd (is (subst SomeIsSpectrum (sym e) also.0))
  one_certificate ps qs (Some o) None e is also = absurd (also (subst SomeIsSpectrum e is.0))
  one_certificate ps qs (Some o) (Some p) e is also = ap Some (one_other laws a o p is.1 also.1)

  -- a failing test that can be decided is neither among those that passed nor pending
  not_found : (claim : Claim) (ran passed : List Test) (pending : List Pending) → Runs tests (test_of claim) → Fails a claim → IsDecidable a (test_of claim)
      → AreFound a ran passed pending → Contains ran (test_of claim) → ⊥
  not_found claim ran passed pending runs fails made found there =
      elim (passed_or_not a ran passed pending (test_of claim) found there) [
        | inl pass ↦ false a claim array runs.0 fails pass.holds
        | inr (c, is, in_list) ↦ no_cause laws a (test_of claim) c is made
      ]

  one_claim : (found other : Infeasible) → IsInfeasible a tests found → IsInfeasible a tests other → found.claim ≡ other.claim
  one_claim found other right also =
      elim (compared (test_number (test_of found.claim)) (test_number (test_of other.claim))) [
        | inl less ↦ absurd (not_found found.claim also.before.ran also.before.passed other.pending right.claimed.runs right.claimed.fails right.decidable
            also.before.found ((also.before.all_ran.members (test_of found.claim)).1 (right.claimed.runs, less)))
        | inr (inl same) ↦ (let tests_same = one_number (test_of found.claim) (test_of other.claim) same in
            elim (order.either found.claim other.claim) [
              | inl before ↦ absurd (also.claimed.first found.claim tests_same before right.claimed.fails)
              | inr (inl e) ↦ e
              | inr (inr after) ↦ absurd (right.claimed.first other.claim (sym tests_same) after also.claimed.fails)
            ])
        | inr (inr more) ↦ absurd (not_found other.claim right.before.ran right.before.passed found.pending also.claimed.runs also.claimed.fails also.decidable
            right.before.found ((right.before.all_ran.members (test_of other.claim)).1 (also.claimed.runs, more)))
      ]

  one_before : (last : Test) (ps qs : List Pending) → IsFoundBefore a tests last ps → IsFoundBefore a tests last qs → ps ≡ qs
  one_before last ps qs found also =
      let lists = one_passed (RunsBefore tests last) found.ran also.ran found.all_ran also.all_ran in
      (one_found laws a also.ran found.passed also.passed ps qs (subst (λ ts. AreFound a ts found.passed ps) lists found.found) also.found).1

  both_infeasible : (found other : Infeasible) → IsInfeasible a tests found → IsInfeasible a tests other → found ≡ other
  both_infeasible found other right also =
      let claims = one_claim found other right also in
      let lines = one_lines list a array found.claim right.claimed.runs.0 right.claimed.fails found.derivation.lines other.derivation.lines right.lines
      (subst (λ c. AreLinesOf a c other.derivation.lines) (sym claims) also.lines) in
      let classes = right.same_class ∙ (ap class_of claims ∙ sym also.same_class) in
      let pendings = one_before (test_of found.claim) found.pending other.pending right.before
      (subst (λ c. IsFoundBefore a tests (test_of c) other.pending) (sym claims) also.before) in
      same_infeasible found other claims classes
      (same_content found.derivation other.derivation (right.same_array ∙ sym also.same_array) (right.same_claim ∙ (claims ∙ sym also.same_claim)) lines)
      pendings (one_certificate found.pending other.pending found.other other.other pendings right.certificate also.certificate)

  both_stopped : (found other : Undecided) → IsStopped a tests found → IsStopped a tests other → found ≡ other
  both_stopped found other right also =
      let nodes = one_wide one none a also.node also.wide right.node right.wide in
      let lasts = one_part right.last also.last also.node (subst (IsNodeOf right.last) nodes right.entry.0) also.entry.0 in
      let passed = one_passed (RunsBefore tests also.last) found.passed other.passed (subst (λ t. AreTests (RunsBefore tests t) found.passed) lasts right.all_passed) also.all_passed in
      let entries = ap₂ (λ (t : Test) (n : Node). record { test = t; cause = Wide n } ∷ []) lasts nodes in
      same_undecided found other passed (right.entry.1 ∙ (entries ∙ sym also.entry.1)) (right.no_certificate ∙ sym also.no_certificate)

  both_found : (ps qs : List Test) (es fs : List Pending) → AreAllFound a tests ps es → AreAllFound a tests qs fs → (ps ≡ qs) × (es ≡ fs)
  both_found ps qs es fs all also =
      let lists = one_passed (Runs tests) all.ran also.ran all.all_ran also.all_ran in
      one_found laws a also.ran ps qs es fs (subst (λ ts. AreFound a ts ps es) lists all.found) also.found

  both_open : (found other : Undecided) → IsOpen a tests found → IsOpen a tests other → found ≡ other
  both_open found other right also =
      let same = both_found found.passed other.passed found.pending other.pending right.found_all also.found_all in
      same_undecided found other same.0 same.1 (one_certificate found.pending other.pending found.other other.other same.1 right.certificate also.certificate)

  both_undecided : (found other : Undecided) → IsUndecided a tests found → IsUndecided a tests other → found ≡ other
  both_undecided found other (inl right) (inl also) = both_stopped found other right also
  both_undecided found other (inl right) (inr also) = absurd (not_all_pass one none a right.node right.wide also.found_all.pass)
  both_undecided found other (inr right) (inl also) = absurd (not_all_pass one none a also.node also.wide right.found_all.pass)
  both_undecided found other (inr right) (inr also) = both_open found other right also

  both_refused : (found other : RefusedSpectrum) → IsRefused a tests found → IsRefused a tests other → found ≡ other
  both_refused found other right also =
      let same = both_found found.passed other.passed found.pending other.pending right.found_all also.found_all in
      same_refused found other same.0 same.1 (one_other laws a found.other other.other right.certificate also.certificate)

  both_survivors : (found other : Survivor) → IsSurvivor a tests found → IsSurvivor a tests other → report_text a (verdict.Survivor found) ≡ report_text a (verdict.Survivor other)
  both_survivors found other right also =
      let passed = one_passed (Runs tests) found.passed other.passed right.all_passed also.all_passed in
      let tables = same_spectra frame a array tests found.spectra other.spectra found.q_orderings other.q_orderings right.spectra_of also.spectra_of right.parameters_of also.parameters_of in
      let p_orderings = same_p_orderings a array found.numbers other.numbers right.numbers_of also.numbers_of found.p_orderings other.p_orderings right.p_orderings_of also.p_orderings_of in
      let q_orderings = no_orderings tests found.spectra found.q_orderings right.parameters_of ∙ sym (no_orderings tests other.spectra other.q_orderings also.parameters_of) in
      let start = ap₂ (λ (ts : List Test) (lines : List ℕ). verdict_line (verdict.Survivor other) ++ array_lines a ts ++ lines) passed
      (same_numbers a found.numbers other.numbers right.numbers_of also.numbers_of) in
      let orderings = ap₂ (λ (x y : List ℕ). x ++ y) (ap₂ (λ (x y : List ℕ). x ++ y) start tables) (ap p_lines p_orderings) in
      ap₂ (λ (x y : List ℕ). x ++ y) orderings (ap q_lines q_orderings)

  -- ---- verdicts of two kinds
  not_stopped : (found : Infeasible) (other : Undecided) → IsInfeasible a tests found → IsStopped a tests other → ⊥
  not_stopped found other right also =
      let late = part_late also.last also.node also.entry.0 in
      let basic : (claim : Claim) → IsBasic claim → Fails a claim → ⊥ = λ claim small fails. let runs = basic_runs tests claim small in
      false a claim array runs.0 fails (also.held (test_of claim) ((also.all_passed.members (test_of claim)).1 (runs, omega (arith, small, late)))) in
      no_claim one none a also.node also.wide basic found.claim right.claimed.runs.0 right.claimed.fails right.made

  not_all_found : (found : Infeasible) (passed : List Test) (pending : List Pending) → IsInfeasible a tests found → AreAllFound a tests passed pending → ⊥
  not_all_found found passed pending right all =
      not_found found.claim all.ran passed pending right.claimed.runs right.claimed.fails right.decidable all.found ((all.all_ran.members (test_of found.claim)).1 right.claimed.runs)

  survivor_found : (found : Survivor) → IsSurvivor a tests found → AreAllFound a tests found.passed []
  survivor_found found right = record { pass = right.pass; ran = found.passed; all_ran = right.all_passed; found = all_passed a found.passed right.held }

  none_pending : (found : Survivor) (passed : List Test) (pending : List Pending) (x : Pending) → IsSurvivor a tests found → AreAllFound a tests passed pending → Contains pending x → ⊥
  none_pending found passed pending x right all there =
      let same = both_found found.passed passed [] pending (survivor_found found right) all in
      nothing x (subst (λ l. Contains l x) (sym same.1) there)

  not_wide : (c : Cause) → IsWide c → c ≡ Spectrum → ⊥
  not_wide (Wide node) wide e = cc
  not_wide Spectrum wide e = absurd wide

  not_refused : (found : Undecided) (other : RefusedSpectrum) → IsUndecided a tests found → IsRefused a tests other → ⊥
  not_refused found other (inl right) also = not_all_pass one none a right.node right.wide also.found_all.pass
  not_refused found other (inr right) also =
      let same = both_found found.passed other.passed found.pending other.pending right.found_all also.found_all in
      let (x, there, wide) = right.some in
      not_wide x.cause wide (also.spectrum.all x (subst (λ l. Contains l x) same.1 there))

  infeasible_or_undecided : (found : Infeasible) (other : Undecided) → IsInfeasible a tests found → IsUndecided a tests other → ⊥
  infeasible_or_undecided found other right (inl also) = not_stopped found other right also
  infeasible_or_undecided found other right (inr also) = not_all_found found other.passed other.pending right also.found_all

  undecided_or_survivor : (found : Undecided) (other : Survivor) → IsUndecided a tests found → IsSurvivor a tests other → ⊥
  undecided_or_survivor found other (inl right) also = not_all_pass one none a right.node right.wide also.pass
  undecided_or_survivor found other (inr right) also = none_pending other found.passed found.pending right.some.0 also right.found_all right.some.1

  refused_or_survivor : (found : RefusedSpectrum) (other : Survivor) → IsRefused a tests found → IsSurvivor a tests other → ⊥
  refused_or_survivor found other right also = none_pending other found.passed found.pending right.spectrum.some.0 also right.found_all right.spectrum.some.1

  infeasible_or_survivor : (found : Infeasible) (other : Survivor) → IsInfeasible a tests found → IsSurvivor a tests other → ⊥
  infeasible_or_survivor found other right also = not_all_found found other.passed [] right (survivor_found other also)

  pub one_report : (v w : Verdict) → VerdictHolds a tests v → VerdictHolds a tests w → HaveOneReport a v w
  one_report (verdict.Infeasible f) (verdict.Infeasible g) right also = ap (λ x. report_text a (verdict.Infeasible x)) (both_infeasible f g right also)
  one_report (verdict.Undecided f) (verdict.Undecided g) right also = ap (λ x. report_text a (verdict.Undecided x)) (both_undecided f g right also)
  one_report (verdict.RefusedSpectrum f) (verdict.RefusedSpectrum g) right also = ap (λ x. report_text a (verdict.RefusedSpectrum x)) (both_refused f g right also)
  one_report (verdict.Survivor f) (verdict.Survivor g) right also = both_survivors f g right also
  one_report (verdict.Infeasible f) (verdict.Undecided g) right also = absurd (infeasible_or_undecided f g right also)
  one_report (verdict.Undecided f) (verdict.Infeasible g) right also = absurd (infeasible_or_undecided g f also right)
  one_report (verdict.Infeasible f) (verdict.RefusedSpectrum g) right also = absurd (not_all_found f g.passed g.pending right also.found_all)
  one_report (verdict.RefusedSpectrum f) (verdict.Infeasible g) right also = absurd (not_all_found g f.passed f.pending also right.found_all)
  one_report (verdict.Infeasible f) (verdict.Survivor g) right also = absurd (infeasible_or_survivor f g right also)
  one_report (verdict.Survivor f) (verdict.Infeasible g) right also = absurd (infeasible_or_survivor g f also right)
  one_report (verdict.Undecided f) (verdict.RefusedSpectrum g) right also = absurd (not_refused f g right also)
  one_report (verdict.RefusedSpectrum f) (verdict.Undecided g) right also = absurd (not_refused g f also right)
  one_report (verdict.Undecided f) (verdict.Survivor g) right also = absurd (undecided_or_survivor f g right also)
  one_report (verdict.Survivor f) (verdict.Undecided g) right also = absurd (undecided_or_survivor g f also right)
  one_report (verdict.RefusedSpectrum f) (verdict.Survivor g) right also = absurd (refused_or_survivor f g right also)
  one_report (verdict.Survivor f) (verdict.RefusedSpectrum g) right also = absurd (refused_or_survivor g f also right)
