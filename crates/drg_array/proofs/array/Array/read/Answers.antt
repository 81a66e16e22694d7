use Rattle.std.proofs.Common.{◌∙◌}
use Rattle.drg_array.proofs.FaultLaws.{answer-is, array, fault, array-answer}
use Rattle.drg_array.proofs.array.Array.read.Goals as goal

pub returns-clause-ok : goal.returns-clause-ok
returns-clause-ok c =
    elim (answer-is c.args.bytes.now) [
      | array a text e ↦ rw (c.read_array.ensures ∙ e) text
      | fault f h e ↦ rw (c.read_array.ensures ∙ e) tt
    ]

pub returns-clause-fault : goal.returns-clause-fault
returns-clause-fault c =
    elim (answer-is c.args.bytes.now) [
      | array a text e ↦ rw (c.read_array.ensures ∙ e) tt
      | fault f h e ↦ rw (c.read_array.ensures ∙ e) h
    ]

pub returns-clause-only : goal.returns-clause-only
returns-clause-only c =
    elim (answer-is c.args.bytes.now) [
      | array a text e ↦ rw (c.read_array.ensures ∙ e) tt
      | fault f h e ↦ rw (c.read_array.ensures ∙ e) (λ a text. (let good = array-answer c.args.bytes.now a text in cc))
    ]
