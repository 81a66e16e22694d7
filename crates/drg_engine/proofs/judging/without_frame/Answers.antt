use Rattle.std.proofs.Common.{List, subst}
use Rattle.std.proofs.lemmas.Result.{IfOk-weaker}
use Rattle.drg_array.specs.Entries.{Entries}
use Rattle.drg_array.specs.declared.test.Test.{Test}
use Rattle.drg_array.specs.declared.test.Test.TheVariants as test
use Rattle.drg_intersection.specs.Faults.{AllPass}
use Rattle.drg_report.specs.declared.verdict.Verdict.{Verdict}
use Rattle.drg_engine.specs.Courses.{IsCourse, NoneFailsWithin}
use Rattle.drg_engine.specs.Frames.{HasOtherSpectrum, IsFirstTooWide}
use Rattle.drg_engine.specs.Selections.{Runs}
use Rattle.drg_engine.specs.SpectraFaults.{IsSpectraFault}
use Rattle.drg_engine.specs.Verdicts.{VerdictHolds}
use Rattle.drg_engine.proofs.judging.without_frame.Goals as goal

pub returns-in-Wide : goal.returns-in-Wide
returns-in-Wide c =
    let node = c.in-Wide.node in
    IfOk-weaker c.wide_frame.result
    (λ verdict. (a : Entries) (tests : List Test) → IsCourse tests c.args.course → Runs tests test.Mult → AllPass a → NoneFailsWithin a tests 9 → IsFirstTooWide a node → VerdictHolds a tests verdict)
    (λ verdict. (a : Entries) (tests : List Test) → IsCourse tests c.args.course → Runs tests test.Mult → AllPass a → NoneFailsWithin a tests 9 → IsSpectraFault a c.args.fault → VerdictHolds a tests verdict)
    (λ verdict right a tests course runs pass none fault. right a tests course runs pass none (subst (IsSpectraFault a) c.in-Wide.is fault)) c.wide_frame.ensures

pub returns-in-Other : goal.returns-in-Other
returns-in-Other c =
    let other = c.in-Other.other in
    IfOk-weaker c.refused_by.result
    (λ verdict. (a : Entries) (tests : List Test) → IsCourse tests c.args.course → Runs tests test.Mult → AllPass a → NoneFailsWithin a tests 9 → HasOtherSpectrum a other → VerdictHolds a tests verdict)
    (λ verdict. (a : Entries) (tests : List Test) → IsCourse tests c.args.course → Runs tests test.Mult → AllPass a → NoneFailsWithin a tests 9 → IsSpectraFault a c.args.fault → VerdictHolds a tests verdict)
    (λ verdict right a tests course runs pass none fault. right a tests course runs pass none (subst (IsSpectraFault a) c.in-Other.is fault)) c.refused_by.ensures
