use Rattle.drg_triples.proofs.Steps.{terms_more}
use Rattle.drg_triples.proofs.counting.terms_over.Goals as goal

pub distances-preserved : goal.distances-preserved
distances-preserved c =
    let old = c.distances.invariant in
    let pushed = c.in_ok-push.ensures.items in
    let term = c.unknown_over.ensures in
    let place = c.index.ensures in
    let more = terms_more c.args.counted.vertex c.args.counted.x c.args.counted.y c.distances.q in
    cc
