use Rattle.std.proofs.Common.{sym}
use Rattle.drg_derivation.proofs.LineLaws.{line-is, none-at, none-stands}
use Rattle.drg_derivation.proofs.place.line_at.Goals as goal

pub returns-in_err-line-clause-none : goal.returns-in_err-line-clause-none
returns-in_err-line-clause-none c = rw c.from_residual.ensures (none-at _ _ (sym c.in_err-line.ensures))

pub returns-in_err-found-clause-none : goal.returns-in_err-found-clause-none
returns-in_err-found-clause-none c =
    rw c.from_residual-in_err-found.ensures (none-stands _ _ _ (sym c.in_ok-line.ensures) (sym c.in_err-found.ensures))

pub returns-clause-line : goal.returns-clause-line
returns-clause-line c = (line-is _ _ _ _ _ (sym c.in_ok-line.ensures) (sym c.in_ok-found.ensures)).0

pub returns-clause-next : goal.returns-clause-next
returns-clause-next c = (line-is _ _ _ _ _ (sym c.in_ok-line.ensures) (sym c.in_ok-found.ensures)).1
