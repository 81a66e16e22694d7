use Rattle.std.proofs.Common.{ℕ, List, ◌∙◌, subst}
use Rattle.drg_program.specs.Run.{Finds}
use Rattle.drg_words.specs.declared.command.Command.TheVariants.{Check}
use Rattle.drg_program.proofs.OutputLemmas.{causes, ends}
use Rattle.drg_program.proofs.check.check.Goals as goal

pub returns-clause-output : goal.returns-clause-output
returns-clause-output g c =
    let read = rw c.as_str.ensures at c.in_ok-bytes.ensures.bytes in (
      read.0,
      read.1,
      λ budget. (
          let command = (Check c.args.tests.now budget c.args.json c.args.file.now) in
          let found = subst (λ (bytes : List ℕ). Finds command bytes c.check_text.result) (c.deref.ensures.value ∙ read.2.0) (c.check_text.ensures budget c.args.file.now) in
          ends command read.0 c.check_text.result read.2.1 found),
    )

pub returns-clause-causes : goal.returns-clause-causes
returns-clause-causes g c =
    causes (Check c.args.tests.now 1 c.args.json c.args.file.now) c.deref.result.now c.check_text.result _ _ _ _ _ _ c.in_ok-bytes.bytes
    (c.check_text.ensures 1 c.args.file.now)
    (rw c.as_str.ensures at c.in_ok-bytes.ensures.causes)
