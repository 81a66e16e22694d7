use Rattle.std.proofs.Common.{◌≡◌}
use Rattle.std.proofs.lemmas.List.Elements.{All-push, All-same}
use Rattle.drg_matrices.specs.Values.{eigenvalue_in}
use Rattle.drg_matrices.proofs.Lists.{map_next}
use Rattle.drg_matrices.proofs.terms.thetas_of.Goals as goal

pub thetas-preserved : goal.thetas-preserved
thetas-preserved g c =
    let f = g.F.Field in (
      map_next f.value (eigenvalue_in (f.operations c.args.root)) c.thetas.values.items c.push.new.self.items c.args.thetas.now c.thetas.theta-index c.theta_of.result c.theta-item.result
          c.in_ok-push.ensures.items c.thetas.invariant.0 c.thetas-test.true c.theta-item.is c.theta_of.ensures.value,
      All-same (λ x. f.root_of x ≡ c.args.root) _ _ c.in_ok-push.ensures.items
          (All-push (λ x. f.root_of x ≡ c.args.root) c.thetas.values.items c.theta_of.result c.thetas.invariant.1 c.theta_of.ensures.root),
    )
