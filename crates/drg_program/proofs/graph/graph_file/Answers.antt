use Rattle.std.proofs.Common.{ℕ, List, ◌∙◌, subst}
use Rattle.drg_program.specs.Run.{Finds}
use Rattle.drg_words.specs.declared.command.Command.TheVariants.{Graph}
use Rattle.drg_program.proofs.OutputLemmas.{causes, ends}
use Rattle.drg_program.proofs.graph.graph_file.Goals as goal

pub returns-clause-output : goal.returns-clause-output
returns-clause-output g c =
    let command = (Graph c.args.file.now) in
    let read = rw c.as_str.ensures at c.in_ok-bytes.ensures.bytes in
    let found = subst (λ (bytes : List ℕ). Finds command bytes c.answer_edges.result) (c.deref.ensures.value ∙ read.2.0) (c.answer_edges.ensures c.args.file.now) in
    (read.0, read.1, ends command read.0 c.answer_edges.result read.2.1 found)

pub returns-clause-causes : goal.returns-clause-causes
returns-clause-causes g c =
    causes (Graph c.args.file.now) c.deref.result.now c.answer_edges.result _ _ _ _ _ _ c.in_ok-bytes.bytes (c.answer_edges.ensures c.args.file.now)
    (rw c.as_str.ensures at c.in_ok-bytes.ensures.causes)
