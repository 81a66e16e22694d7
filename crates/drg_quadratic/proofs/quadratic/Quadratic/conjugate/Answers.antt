use Rattle.std.proofs.Common.{◌∙◌}
use Rattle.drg_quadratic.specs.Laws.{minus_nil}
use Rattle.drg_quadratic.proofs.quadratic.Quadratic.conjugate.Goals as goal

pub invariant_of-result : goal.invariant_of-result
invariant_of-result c = record {
  has_root = c.args.self.has_root;
  flat = λ e. c.negated.ensures ∙ minus_nil _ (c.args.self.flat e);
}
