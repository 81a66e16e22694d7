use Rattle.std.proofs.Common.{◌≡◌, refl, sym, subst}
use Rattle.std.proofs.lemmas.Bool.{false≢true}
use Rattle.drg_array.specs.Claims.{test_of}
use Rattle.drg_array.specs.declared.test.Test.TheVariants as test
use Rattle.drg_engine.specs.Courses.{RunsWithin}
use Rattle.drg_engine.specs.Selections.{AreTests}
use Rattle.drg_engine.proofs.BuiltTests.{array_test, counts_decidable, each_runs}
use Rattle.drg_engine.proofs.ClaimFacts.{first_holds, none_within, parity_first}
use Rattle.drg_engine.proofs.Decisions.{survivor_without}
use Rattle.drg_engine.proofs.judging.judge_numbers.Goals as goal

pub infeasible_by-requires-clause-decidable : goal.infeasible_by-requires-clause-decidable
infeasible_by-requires-clause-decidable c =
    let claim = c.in-Some.claim in
    counts_decidable c.args.array.now (test_of claim) (array_test (test_of claim) c.in-Some.ensures.selected.1)

pub returns-in-Some : goal.returns-in-Some
returns-in-Some c =
    let a = c.args.array.now in
    let claim = c.in-Some.claim in
    let says = c.in-Some.ensures in
    let array = c.known_valid.ensures in
    let numbers = c.requires.numbers in
    c.infeasible_by.ensures c.args.tests.now
    (parity_first a c.requires.entries c.requires.pass c.args.tests.now claim says.selected (says.fails a array numbers) (says.first a array numbers))

pub judge_spectrum-requires-clause-runs : goal.judge_spectrum-requires-clause-runs
judge_spectrum-requires-clause-runs c = each_runs c.args.tests.now test.Mult c.if-has.ensures.selection (c.if-has.ensures.runs.0 refl)

pub judge_spectrum-requires-clause-none : goal.judge_spectrum-requires-clause-none
judge_spectrum-requires-clause-none c =
    let a = c.args.array.now in
    none_within a c.requires.entries c.requires.pass c.args.tests.now (c.in_default.ensures.none a c.known_valid.ensures c.requires.numbers)

pub judge_spectrum-requires-clause-first : goal.judge_spectrum-requires-clause-first
judge_spectrum-requires-clause-first c = first_holds c.built_law.ensures.holds c.args.array.now c.requires.entries

pub returns : goal.returns
returns c =
    let a = c.args.array.now in
    let tests = c.args.tests.now in
    let passed = subst (λ n. AreTests (RunsWithin tests n) c.pass_up_to-2.new.self.passed) c.in_ok-pass_up_to-2.ensures.decided c.in_ok-pass_up_to-2.ensures.course.passed in
    survivor_without c.built_law.ensures.holds a tests _ (λ runs. false≢true (c.if-has.ensures.runs.1 runs.1))
    (none_within a c.requires.entries c.requires.pass tests (c.in_default.ensures.none a c.known_valid.ensures c.requires.numbers))
    passed c.requires.numbers c.requires.pass refl c.in_ok-p_orderings.ensures refl
