use Rattle.std.proofs.Common.{refl, sym}
use Rattle.drg_program.proofs.check.check_text.Goals as goal

pub returns-in-Err : goal.returns-in-Err
returns-in-Err c = λ budget file. (
  refl,
  ((λ a text. c.in-Err.ensures.only a (rw c.without_end.ensures text)), c.in-Err.fault.kind, rw (sym c.without_end.ensures) c.in-Err.ensures.fault),
)
