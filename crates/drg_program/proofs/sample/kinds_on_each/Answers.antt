use Rattle.std.proofs.Common.{◌+◌, sym, subst, List, take}
use Rattle.std.specs.List.{AllZip}
use Rattle.drg_sample.specs.declared.summary.Found.{Found}
use Rattle.drg_program.specs.Sample.{IsKindOn}
use Rattle.drg_program.proofs.TableLemmas.{zip_next}
use Rattle.drg_program.proofs.sample.kinds_on_each.Goals as goal

pub arrays-preserved : goal.arrays-preserved
arrays-preserved c =
    let i = c.arrays.array-index in
    let more = zip_next IsKindOn c.args.arrays.now i c.arrays.kinds.items c.array-item.result c.in_ok-kind.kind c.arrays-test.true c.array-item.is
    c.arrays.invariant c.in_ok-kind.ensures in
    subst (λ (l : List Found). AllZip IsKindOn (take (i + 1) c.args.arrays.now) l) (sym c.in_ok-push.ensures.items) more
