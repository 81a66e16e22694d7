use Rattle.drg_orderings.proofs.Taken.{taken_by_test}
use Rattle.drg_orderings.proofs.search.is_taken.Goals as goal

pub returns-else-index-eq0 : goal.returns-else-index-eq0
returns-else-index-eq0 c =
    taken_by_test c.args.order.now c.args.index c.stands_in.result c.if-index-eq0.false c.stands_in.ensures
