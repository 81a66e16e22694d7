use Rattle.std.proofs.Common.{ℕ}
use Rattle.std.specs.Prelude.{decimal}
use Rattle.drg_report.specs.Pieces.{spaced}
use Rattle.drg_report.proofs.Appends.{item-begins}
use Rattle.drg_report.proofs.orderings.write_indices.Goals as goal

pub returns-in_err-write_index-clause-err : goal.returns-in_err-write_index-clause-err
returns-in_err-write_index-clause-err c =
    item-begins _ (λ (r : ℕ). spaced (decimal r)) c.args.indices.now c.indices.index-index 0 _ c.indices-test.true c.indices.invariant c.in_err-write_index.ensures.err
