use Rattle.std.proofs.Common.{◌≡◌, drop, fold, map}
use Rattle.drg_fraction.specs.Field.{products, dot_fits_from}
use Rattle.drg_fraction.proofs.field.dot_from.Given as goal

abbrev pub invariant-items : goal.invariant-items
invariant-items g l =
    let f = g.F.Field in
    let o = f.operations (f.root_of l.fn.first) in
    let xs = map f.value (drop l.place l.left) in
    let ys = map f.value (drop l.place l.right) in
    record {
      fits : dot_fits_from o (f.value l.fn.first) (map f.value l.left) (map f.value l.right) ≡ dot_fits_from o (f.value l.total) xs ys;
      total : fold o.plus (f.value l.fn.first) (products o (map f.value l.left) (map f.value l.right)) ≡ fold o.plus (f.value l.total) (products o xs ys);
      root : f.root_of l.total ≡ f.root_of l.fn.first;
    }
