use Rattle.std.proofs.Common.{◌≡◌, take, [], ◌∷◌}
use Rattle.drg_solver.specs.Findings.{state}
use Rattle.drg_solver.proofs.closes.open.Given as goal

abbrev pub invariant-equations : goal.invariant-equations
invariant-equations l = l.branches ≡ state l.room.d (take l.equation-index l.system.equations) (l.room.bounds ∷ [])
