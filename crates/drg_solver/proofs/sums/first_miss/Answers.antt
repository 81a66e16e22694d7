use Rattle.std.proofs.Common.{◌≡◌, true, subst}
use Rattle.drg_linear.specs.Closing.{Misses}
use Rattle.drg_linear.specs.Equations.{EquationContent, is_equation}
use Rattle.drg_solver.proofs.Passes.{one_more}
use Rattle.drg_solver.proofs.sums.first_miss.Goals as goal

pub equations-preserved : goal.equations-preserved
equations-preserved c =
    let P : EquationContent → Type 0 = λ e. (Misses c.args.room.now.d c.args.room.now.bounds e → ⊥) × (is_equation e ≡ true) in
    let none : Misses c.args.room.now.d c.args.room.now.bounds c.index-equations-n.result → ⊥ = λ m. (let t = c.misses.ensures.value.1 m in let f = c.if-misses.false in cc) in
    one_more P c.args.equations.now c.equations.n c.index-equations-n.result c.equations.invariant
    (subst P c.index-equations-n.is (none, c.misses.ensures.equation))
