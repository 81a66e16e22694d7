use Rattle.std.proofs.Common.{sym, ◌∙◌}
use Rattle.drg_quadratic.specs.Laws.{flat_plus}
use Rattle.drg_quadratic.specs.Quadratic.{value_of}
use Rattle.drg_quadratic.proofs.quadratic.QuadraticField.add.Goals as goal

pub invariant_of-result : goal.invariant_of-result
invariant_of-result c =
    let x = c.args.self in
    let y = c.args.other in
    record {
      has_root = x.has_root;
      flat = λ e. c.in_ok-add-2.ensures.value.1 ∙ flat_plus (value_of x) (value_of y) (x.flat e) (y.flat (sym c.requires ∙ e));
    }
