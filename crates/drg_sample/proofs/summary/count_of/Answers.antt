use Rattle.std.proofs.Common.{arith}
use Rattle.drg_sample.proofs.Counts.{count_other, count_same}
use Rattle.drg_sample.proofs.summary.count_of.Goals as goal
use Rattle.drg_sample.proofs.summary.count_of.Goals.{then-is_same, else-is_same}

pub all-preserved : goal.all-preserved
all-preserved c =
    elim c.if-is_same.branch [
      | then-is_same w ↦ (
        count_same c.args.found c.args.all.now c.all.other-index c.all.count c.if-is_same.count c.is_same.result _ c.all-test.true c.all.invariant.0 c.is_same.ensures w.if-is_same.true w.count-is,
        omega (arith, c.all.invariant.1, w.count-is),
      )
      | else-is_same w ↦ (
        count_other c.args.found c.args.all.now c.all.other-index c.all.count c.if-is_same.count c.is_same.result _ c.all-test.true c.all.invariant.0 c.is_same.ensures w.if-is_same.false w.count-is,
        omega (arith, c.all.invariant.1, w.count-is),
      )
    ]
