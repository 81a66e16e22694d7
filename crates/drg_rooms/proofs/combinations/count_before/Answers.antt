use Rattle.std.proofs.Common.{sym}
use Rattle.drg_rooms.proofs.MergeLaws.{before_more}
use Rattle.drg_rooms.proofs.combinations.count_before.Goals as goal

pub terms-preserved : goal.terms-preserved
terms-preserved c = before_more c.args.unknown c.args.terms.now c.terms.i c.terms-test.true c.terms.invariant (sym c.if-not-precedes.ensures)
