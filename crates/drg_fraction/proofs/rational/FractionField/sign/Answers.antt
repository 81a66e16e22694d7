use Rattle.std.proofs.Common.{rules}
use Rattle.std.proofs.lemmas.Int.{to_z-of_z}
use Rattle.std.specs.Int.{w128}
use Rattle.drg_fraction.proofs.Parts.{sign_is}
use Rattle.drg_fraction.specs.Fraction.{rational_of}
use Rattle.drg_fraction.proofs.rational.FractionField.sign.Goals as goal

pub returns-clause-value : goal.returns-clause-value
returns-clause-value c =
    let n = to_z-of_z w128 c.num.result (search rules) in
    rw (c.cmp.ensures, n, c.num.ensures.value) (sign_is (rational_of c.args.self.now))
