use Rattle.std.proofs.Common.{sym, ◌∙◌, rules}
use Rattle.std.proofs.lemmas.Int.{to_z-of_z}
use Rattle.std.specs.Int.{w128}
use Rattle.drg_fraction.proofs.Parts.{denominator_of}
use Rattle.drg_fraction.proofs.fraction.Fraction.den.Goals as goal

pub returns-clause-value : goal.returns-clause-value
returns-clause-value c = to_z-of_z w128 _ (search rules) ∙ sym (denominator_of c.args.self.now)
