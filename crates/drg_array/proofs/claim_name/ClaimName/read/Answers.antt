use Rattle.std.proofs.Common.{sym}
use Rattle.drg_array.proofs.TestLaws.{found-named}
use Rattle.drg_array.specs.declared.test.TheConstants.Test.{ALL}
use Rattle.drg_array.proofs.claim_name.ClaimName.read.Goals as goal

pub returns-clause-some : goal.returns-clause-some
returns-clause-some c = (found-named ALL c.args.text.now c.in_ok-test_of_name.field-0 (sym c.in_ok-test_of_name.ensures)).0
