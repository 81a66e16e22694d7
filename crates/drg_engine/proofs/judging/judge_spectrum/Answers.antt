use Rattle.std.proofs.Common.{List}
use Rattle.std.proofs.lemmas.Result.{IfOk-weaker}
use Rattle.drg_array.specs.Entries.{Entries}
use Rattle.drg_array.specs.declared.test.Test.{Test}
use Rattle.drg_array.specs.declared.test.Test.TheVariants as test
use Rattle.drg_intersection.specs.Faults.{AllPass}
use Rattle.drg_engine.specs.Courses.{IsCourse, NoneFailsWithin}
use Rattle.drg_engine.specs.Selections.{Runs}
use Rattle.drg_engine.specs.SpectraFaults.{IsSpectraFault}
use Rattle.drg_engine.specs.Verdicts.{VerdictHolds}
use Rattle.drg_engine.proofs.judging.judge_spectrum.Goals as goal

pub returns-in-Err : goal.returns-in-Err
returns-in-Err c =
    let a = c.args.array.now in
    let fault = c.in-Err.fault in
    IfOk-weaker c.without_frame.result
    (λ verdict. (e : Entries) (tests : List Test) → IsCourse tests c.args.course → Runs tests test.Mult → AllPass e → NoneFailsWithin e tests 9 → IsSpectraFault e fault → VerdictHolds e tests verdict)
    (VerdictHolds a c.args.tests.now) (λ verdict right. right a c.args.tests.now c.requires.course c.requires.runs c.requires.pass c.requires.none c.in-Err.ensures.fault)
    c.without_frame.ensures
