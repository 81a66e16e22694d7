use Rattle.std.proofs.Common.{◌≡◌, drop, fold, map}
use Rattle.drg_fraction.specs.Field.{sums_fit_from}
use Rattle.drg_fraction.proofs.field.sum_from.Given as goal

abbrev pub invariant-items : goal.invariant-items
invariant-items g l =
    let f = g.F.Field in
    let o = f.operations (f.root_of l.fn.first) in
    let xs = map f.value (drop l.item-index l.rest) in
    record {
      fits : sums_fit_from o (f.value l.fn.first) (map f.value l.rest) ≡ sums_fit_from o (f.value l.total) xs;
      total : fold o.plus (f.value l.fn.first) (map f.value l.rest) ≡ fold o.plus (f.value l.total) xs;
      root : f.root_of l.total ≡ f.root_of l.fn.first;
    }
