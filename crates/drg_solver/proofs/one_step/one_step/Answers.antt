use Rattle.std.proofs.Common.{◌≡◌, ℕ, rules, true}
use Rattle.std.specs.Prelude.{All}
use Rattle.drg_linear.specs.Closing.{Misses, FailsModulo}
use Rattle.drg_linear.specs.Equations.{is_equation}
use Rattle.drg_solver.proofs.Fits.{all_fit}
use Rattle.drg_solver.proofs.LeastValues.{table_is_left}
use Rattle.drg_solver.proofs.OneStep.{closing_or_none}
use Rattle.drg_solver.proofs.one_step.one_step.Goals as goal

pub first_miss-requires : goal.first_miss-requires
first_miss-requires c = rw c.equations-equations.ensures.value (all_fit c.args.system.now.room c.args.room.now c.args.system.now.equations c.requires c.equations-equations.ensures.fit)

pub first_modulus-closing-requires : goal.first_modulus-closing-requires
first_modulus-closing-requires c = rw c.equations-equations.ensures.value (all_fit c.args.system.now.room c.args.room.now c.args.system.now.equations c.requires c.equations-equations.ensures.fit)

pub least_values-requires-clause-fits : goal.least_values-requires-clause-fits
least_values-requires-clause-fits c = rw c.equations-equations.ensures.value (all_fit c.args.system.now.room c.args.room.now c.args.system.now.equations c.requires c.equations-equations.ensures.fit)

pub first_crossing-requires-clause-fits : goal.first_crossing-requires-clause-fits
first_crossing-requires-clause-fits c = rw c.equations-equations.ensures.value (all_fit c.args.system.now.room c.args.room.now c.args.system.now.equations c.requires c.equations-equations.ensures.fit)

pub first_crossing-requires-clause-table : goal.first_crossing-requires-clause-table
first_crossing-requires-clause-table c =
    let are : All (λ e. is_equation e ≡ true) c.equations-equations.result.now = search rules in
    rw (c.deref.ensures.value, c.in_ok-table.ensures, c.equations-equations.ensures.value)
    (table_is_left c.args.room.now c.args.system.now.equations _
    (all_fit c.args.system.now.room c.args.room.now c.args.system.now.equations c.requires c.equations-equations.ensures.fit)
    (rw c.equations-equations.ensures.value at are))

pub returns : goal.returns
returns c =
    let misses : All (λ e. Misses c.args.room.now.d c.args.room.now.bounds e → ⊥) c.equations-equations.result.now = search rules in
    let fails : All (λ e. (g : ℕ) → FailsModulo c.args.room.now.d c.args.room.now.bounds e g → Misses c.args.room.now.d c.args.room.now.bounds e) c.equations-equations.result.now = search rules in
    closing_or_none c.args.room.now c.args.system.now.equations c.first_crossing.result c.requires.is_room
    (rw c.equations-equations.ensures.value at misses) (rw c.equations-equations.ensures.value at fails)
    (rw (c.deref.ensures.value, c.in_ok-table.ensures, c.equations-equations.ensures.value) at c.first_crossing.ensures.none)
    (rw c.equations-equations.ensures.value at c.first_crossing.ensures.some)
