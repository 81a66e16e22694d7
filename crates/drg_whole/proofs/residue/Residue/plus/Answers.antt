use Rattle.std.proofs.Common.{◌<◌, arith}
use Rattle.drg_whole.proofs.Residues.{residue_sum}
use Rattle.drg_whole.proofs.residue.Residue.plus.Goals as goal

pub returns-clause-value : goal.returns-clause-value
returns-clause-value c = λ x y p q.
    let some : 0 < c.args.self.modulus = omega (arith, c.args.self.below) in
    let e = residue_sum c.args.self.modulus x y some in cc
