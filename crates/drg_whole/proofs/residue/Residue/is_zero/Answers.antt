use Rattle.std.proofs.Common.{◌<◌, sym, ◌∙◌, arith}
use Rattle.std.proofs.lemmas.Bool.Decides.{nat_tests}
use Rattle.drg_whole.proofs.Residues.{divided, undivided}
use Rattle.drg_whole.proofs.residue.Residue.is_zero.Goals as goal

pub returns-clause-divides : goal.returns-clause-divides
returns-clause-divides c = λ x is.
    let some : 0 < c.args.self.modulus = omega (arith, c.args.self.below) in
    (λ t. divided c.args.self.modulus x some (sym is ∙ grind (arith, nat_tests, t)), λ d. let e = is ∙ undivided c.args.self.modulus x some d in grind (arith, nat_tests, e))
