use Rattle.std.proofs.Common.{rules, ap₂}
use Rattle.std.proofs.lemmas.Int.{to_z-of_z}
use mir.Syntax.{w32}
use Rattle.drg_eigen.specs.Factor.{discriminant}
use Rattle.drg_eigen.proofs.Discriminants.{irreducible_test}
use Rattle.drg_eigen.proofs.discriminant.is_irreducible.Goals as goal

pub returns : goal.returns
returns c =
    let d = c.split_discriminant.ensures in
    irreducible_test c.split_discriminant.result.0 c.split_discriminant.result.1 _ _ c.requires.positive d.product
    (ap₂ discriminant (to_z-of_z w32 c.args.s (search rules)) (to_z-of_z w32 c.args.t (search rules))) d.squarefree
