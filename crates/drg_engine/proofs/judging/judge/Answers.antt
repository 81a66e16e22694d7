use Rattle.std.proofs.Common.{subst, arith}
use Rattle.std.proofs.lemmas.Result.{IfOk-weaker}
use Rattle.drg_array.specs.Entries.{Entries}
use Rattle.drg_array.specs.Claims.{test_of}
use Rattle.drg_array.specs.declared.claim.Claim.{Claim}
use Rattle.drg_counting.specs.EntryTests.{IsBasic}
use Rattle.drg_intersection.specs.Faults.{IsNumbersFault, IsFirstWide}
use Rattle.drg_engine.specs.Conditions.{Fails}
use Rattle.drg_engine.specs.Verdicts.{VerdictHolds}
use Rattle.drg_engine.proofs.BuiltTests.{array_test, counts_decidable}
use Rattle.drg_engine.proofs.ClaimFacts.{basic_first, fall_first, fall_small, none_basic}
use Rattle.drg_engine.proofs.judging.judge.Goals as goal

pub infeasible_by-requires-clause-none_pending : goal.infeasible_by-requires-clause-none_pending
infeasible_by-requires-clause-none_pending c = (c.new-course.ensures.course c.args.tests.now).none_pending

pub infeasible_by-requires-clause-decidable : goal.infeasible_by-requires-clause-decidable
infeasible_by-requires-clause-decidable c =
    let basic = c.in-Some.ensures.basic in
    counts_decidable c.args.array.now (test_of c.in-Some.claim) (array_test (test_of c.in-Some.claim) (omega (arith, basic)))

pub infeasible_by-requires-in-Fall-clause-decidable : goal.infeasible_by-requires-in-Fall-clause-decidable
infeasible_by-requires-in-Fall-clause-decidable c =
    let a = c.args.array.now in
    let claim = c.in-Fall.claim in
    counts_decidable a (test_of claim) (array_test (test_of claim) (fall_small a claim (subst (IsNumbersFault a) c.in-Fall.is c.in-Err.ensures.fault)))

pub pass_up_to-requires-clause-course : goal.pass_up_to-requires-clause-course
pass_up_to-requires-clause-course c = c.new-course.ensures.course c.args.tests.now

pub returns-in-Some : goal.returns-in-Some
returns-in-Some c =
    let says = c.in-Some.ensures in
    c.infeasible_by.ensures c.args.tests.now (basic_first c.args.array.now c.args.tests.now c.in-Some.claim says.basic says.fails says.first)

pub returns-in_ok-lines-in-Fall : goal.returns-in_ok-lines-in-Fall
returns-in_ok-lines-in-Fall c =
    let a = c.args.array.now in
    let fault = subst (IsNumbersFault a) c.in-Fall.is c.in-Err.ensures.fault in
    c.infeasible_by-in-Fall.ensures c.args.tests.now (fall_first a (none_basic a c.in_default.ensures.none) c.args.tests.now c.in-Fall.claim fault)

pub returns-in-Wide : goal.returns-in-Wide
returns-in-Wide c =
    let a = c.args.array.now in
    let node = c.in-Wide.node in
    let fault = subst (IsNumbersFault a) c.in-Wide.is c.in-Err.ensures.fault in
    IfOk-weaker c.undecided_by.result
    (λ verdict. (e : Entries) → ((claim : Claim) → IsBasic claim → Fails e claim → ⊥) → IsFirstWide e node → VerdictHolds e c.args.tests.now verdict)
    (VerdictHolds a c.args.tests.now) (λ verdict right. right a (none_basic a c.in_default.ensures.none) fault) c.undecided_by.ensures
