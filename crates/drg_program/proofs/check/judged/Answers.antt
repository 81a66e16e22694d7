use Rattle.drg_program.proofs.CheckLemmas.{judged}
use Rattle.drg_program.proofs.check.judged.Goals as goal

pub returns : goal.returns
returns c =
    judged c.args.array.now c.args.tests.now c.judge.result c.completeness_law.ensures c.text_law.ensures c.one_text_law.ensures c.requires c.judge.ensures
