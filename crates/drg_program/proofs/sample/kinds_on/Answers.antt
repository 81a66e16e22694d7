use Rattle.std.proofs.Common.{◌∙◌, sym, ap, subst, List, length}
use Rattle.std.proofs.lemmas.Slice.Zip.{AllZip-long}
use Rattle.std.specs.List.{AllZip}
use Rattle.drg_array.specs.Entries.{Entries}
use Rattle.drg_sample.specs.declared.summary.Found.{Found}
use Rattle.drg_tables.proofs.Spread.{spread_zip}
use Rattle.drg_program.specs.Sample.{IsKindOn}
use Rattle.drg_program.proofs.sample.kinds_on.Goals as goal

pub spread-requires-clause-one_each : goal.spread-requires-clause-one_each
spread-requires-clause-one_each c =
    let values = c.in_ok-values.values.items in
    let judged = subst (λ (l : List Entries). AllZip IsKindOn l values) c.arrays.ensures c.in_ok-values.ensures in
    ap (λ (l : List Found). length l) c.deref.ensures.value ∙ AllZip-long IsKindOn c.in_ok-distinct.distinct.arrays values judged

pub returns : goal.returns
returns c =
    let arrays = c.in_ok-distinct.distinct.arrays in
    let spread = c.in_ok-kinds.ensures c.args.arrays.now c.in_ok-distinct.ensures in
    let judged = subst (λ (l : List Entries). AllZip IsKindOn l c.in_ok-values.values.items) c.arrays.ensures c.in_ok-values.ensures in
    let given = subst (λ (l : List Found). AllZip IsKindOn arrays l) (sym c.deref.ensures.value) judged in
    record {
      judged = spread_zip IsKindOn c.args.arrays.now arrays c.deref.result.now c.in_ok-kinds.kinds.items spread given;
      equal = spread.equal;
    }
