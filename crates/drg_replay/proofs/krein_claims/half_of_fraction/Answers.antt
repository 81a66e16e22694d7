use Rattle.std.proofs.Common.{rules}
use Rattle.drg_quadratic.specs.Quadratic.{value_of}
use Rattle.drg_replay.proofs.KreinHalves.{half_of}
use Rattle.drg_replay.proofs.krein_claims.half_of_fraction.Goals as goal

-- src/krein_claims.rt:145:1
pub returns-clause-value : goal.returns-clause-value
returns-clause-value c = (search rules, half_of c.args.x (value_of c.make.result) c.requires (search rules) (search rules))
