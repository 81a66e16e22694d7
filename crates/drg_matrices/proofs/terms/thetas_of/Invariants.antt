use Rattle.std.proofs.Common.{◌≡◌, map, take}
use Rattle.std.specs.Prelude.{All}
use Rattle.drg_matrices.specs.Values.{eigenvalue_in}
use Rattle.drg_matrices.proofs.terms.thetas_of.Given as goal

abbrev pub invariant-thetas : goal.invariant-thetas
invariant-thetas g l =
    let f = g.F.Field in
    (map f.value l.values.items ≡ map (eigenvalue_in (f.operations l.root)) (take l.theta-index l.thetas)) × All (λ x. f.root_of x ≡ l.root) l.values.items
