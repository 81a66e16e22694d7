use Rattle.std.proofs.Common.{◌≡◌, ◌<◌, length, sym, subst}
use Rattle.std.specs.Prelude.{slice_index_or}
use Rattle.drg_linear.specs.Equations.{EquationContent}
use Rattle.drg_solver.proofs.Prunings.{named_next}
use Rattle.drg_solver.proofs.pruning.name_used.Goals as goal
use Rattle.drg_solver.proofs.pruning.name_used.Goals.{then-is_set+in_ok-copied+in_ok-push+in_ok-push-2, else-is_set}

pub equations-preserved : goal.equations-preserved
equations-preserved c =
    elim c.if-is_set.branch [
      | then-is_set+in_ok-copied+in_ok-push+in_ok-push-2 w ↦ (let within : c.equations.n < length c.args.system.now.equations = rw c.equations-equations.ensures.value at c.equations-test.true in
          let there = rw c.equations-equations.ensures.value at w.index-equations-n.is in
          let P : EquationContent → Type 0 = λ e. e ≡ slice_index_or c.args.system.now.equations c.equations.n e in
          let copied : P w.in_ok-copied.field-0 = subst P (sym w.in_ok-copied.ensures) there in
          rw (w.branches-is, w.names-is, w.in_ok-push-2.ensures.items, w.line_of.ensures)
          (named_next c.args.system.now c.equations.names.items c.equations.branches w.push.new.self c.equations.n w.name.result w.in_ok-copied.field-0 c.equations.invariant within w.name.ensures copied w.in_ok-push.ensures))
      | else-is_set w ↦ rw (w.branches-is, w.names-is) c.equations.invariant
    ]
