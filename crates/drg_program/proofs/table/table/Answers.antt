use Rattle.std.proofs.Common.{ℕ, List, ◌∙◌, subst}
use Rattle.drg_program.specs.Run.{Finds}
use Rattle.drg_words.specs.declared.command.Command.TheVariants.{Table}
use Rattle.drg_program.proofs.OutputLemmas.{causes, ends}
use Rattle.drg_program.proofs.table.table.Goals as goal

pub returns-clause-output : goal.returns-clause-output
returns-clause-output g c =
    let read = rw c.as_str.ensures at c.in_ok-bytes.ensures.bytes in (
      read.0,
      read.1,
      λ budget. (
          let command = (Table c.args.tests.now budget c.args.file.now) in
          let found = subst (λ (bytes : List ℕ). Finds command bytes c.table_text.result) (c.deref.ensures.value ∙ read.2.0) (c.table_text.ensures budget c.args.file.now) in
          ends command read.0 c.table_text.result read.2.1 found),
    )

pub returns-clause-causes : goal.returns-clause-causes
returns-clause-causes g c =
    causes (Table c.args.tests.now 1 c.args.file.now) c.deref.result.now c.table_text.result _ _ _ _ _ _ c.in_ok-bytes.bytes
    (c.table_text.ensures 1 c.args.file.now)
    (rw c.as_str.ensures at c.in_ok-bytes.ensures.causes)
