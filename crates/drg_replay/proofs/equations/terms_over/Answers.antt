use Rattle.drg_replay.proofs.EquationLaws.{terms_more}
use Rattle.drg_replay.proofs.equations.terms_over.Goals as goal

pub distances-preserved : goal.distances-preserved
distances-preserved c =
    let old = c.distances.invariant in
    let pushed = c.in_ok-push.ensures.items in
    let term = c.unknown_over.ensures in
    let more = terms_more c.args.vertex c.args.x c.args.y c.distances.q in
    cc
