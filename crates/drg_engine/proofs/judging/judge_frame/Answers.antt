use Rattle.std.proofs.Common.{◌≡◌, refl, sym, ap, subst}
use Rattle.drg_array.specs.Claims.{test_of}
use Rattle.drg_array.specs.declared.test.Test.TheVariants as test
use Rattle.drg_evidence.specs.Lines.{AreLinesOf}
use Rattle.drg_evidence.specs.Made.{AreMade}
use Rattle.drg_engine.specs.Causes.{IsDecidable}
use Rattle.drg_engine.specs.Conditions.{IsBuilt}
use Rattle.drg_engine.specs.Courses.{RunsWithin}
use Rattle.drg_engine.specs.Selections.{AreTests}
use Rattle.drg_engine.proofs.ClaimFacts.{mult_first}
use Rattle.drg_engine.proofs.Decisions.{survivor_with}
use Rattle.drg_engine.proofs.FrameTables.{mult_claim}
use Rattle.drg_engine.proofs.judging.judge_frame.Goals as goal

pub frame_lines-requires : goal.frame_lines-requires
frame_lines-requires c = record { one_array = (c.args.array.now, c.requires.numbers, c.requires.spectra) }

pub infeasible_by-requires-clause-built : goal.infeasible_by-requires-clause-built
infeasible_by-requires-clause-built c = subst IsBuilt (sym c.in-Some.ensures.test) tt

pub infeasible_by-requires-clause-made : goal.infeasible_by-requires-clause-made
infeasible_by-requires-clause-made c =
    let (i, same) = mult_claim c.in-Some.claim c.in-Some.ensures.test in
    subst (AreMade c.args.array.now) (sym same) (c.requires.pass, c.requires.made.made)

pub infeasible_by-requires-clause-decidable : goal.infeasible_by-requires-clause-decidable
infeasible_by-requires-clause-decidable c = subst (IsDecidable c.args.array.now) (sym c.in-Some.ensures.test) c.requires.made

pub infeasible_by-requires-clause-fails : goal.infeasible_by-requires-clause-fails
infeasible_by-requires-clause-fails c = c.in-Some.ensures.fails c.args.array.now c.requires.spectra

pub infeasible_by-requires-clause-lines : goal.infeasible_by-requires-clause-lines
infeasible_by-requires-clause-lines c =
    let (i, same) = mult_claim c.in-Some.claim c.in-Some.ensures.test in
    subst (λ claim. AreLinesOf c.args.array.now claim c.in_ok-lines.lines.items) (sym same)
    (c.in_ok-lines.ensures c.args.array.now i c.requires.numbers c.requires.spectra)

pub infeasible_by-requires-clause-none_pending : goal.infeasible_by-requires-clause-none_pending
infeasible_by-requires-clause-none_pending c = c.requires.course.none_pending

pub returns-in-Some : goal.returns-in-Some
returns-in-Some c =
    let a = c.args.array.now in
    let claim = c.in-Some.claim in
    let says = c.in-Some.ensures in
    c.infeasible_by.ensures c.args.tests.now
    (mult_first a c.args.tests.now claim c.requires.none c.requires.runs says.test (says.fails a c.requires.spectra) (says.first a c.known_valid.ensures c.requires.spectra))

pub returns : goal.returns
returns c =
    let a = c.args.array.now in
    let tests = c.args.tests.now in
    let passed = subst (λ n. AreTests (RunsWithin tests n) c.pass_up_to.new.self.passed) c.in_ok-pass_up_to.ensures.decided c.in_ok-pass_up_to.ensures.course.passed in
    survivor_with c.built_law.ensures.holds a tests _ c.args.spectra c.requires.runs c.requires.none
    (c.in_default.ensures.none a c.known_valid.ensures c.requires.spectra) passed c.requires.numbers c.requires.pass refl c.requires.spectra c.requires.made
    c.requires.parameters c.in_ok-p_orderings.ensures refl
