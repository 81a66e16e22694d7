use Rattle.std.proofs.Common.{◌≡◌, ℕ, suc, ◌+◌, ap, sym, refl, subst, ◌∙◌, arith}
use Rattle.drg_array.specs.declared.node.Node.TheVariants.{Krein}
use Rattle.drg_matrices.specs.Tables.{diameter_of, root_of_tables}
use Rattle.drg_krein.specs.Values.{values_in}
use Rattle.drg_krein.specs.Fits.{Fits}
use Rattle.drg_krein.specs.Filling.{HasNumbers, NumbersFitBefore}
use Rattle.drg_krein.proofs.Orders.{before_start, before_first}
use Rattle.drg_krein.proofs.Cells.{numbers_start}
use Rattle.drg_krein.proofs.numbers.table_of.Goals as goal

pub rows-init : goal.rows-init
rows-init g c =
    let f = g.F.Field in
    let root = root_of_tables c.args.frame.now in
    let v = values_in f.value f.operations c.args.numbers.now c.args.frame.now in
    let place : c.d-side.result + 1 ≡ suc c.d-side.result = omega arith in record {
      table = numbers_start f.value f.operations root v c.args.i c.in_ok-table.table (c.in_ok-table.ensures.side ∙ place ∙ ap suc c.d-side.ensures.value) (c.in_ok-table.ensures.root ∙ c.m.ensures.root);
      before = before_start v.d (λ i j h. Fits (f.operations root) v (Krein i j h)) c.args.i c.requires.before;
    }

pub rows-preserved : goal.rows-preserved
rows-preserved g c =
    let f = g.F.Field in
    let root = root_of_tables c.args.frame.now in
    let v = values_in f.value f.operations c.args.numbers.now c.args.frame.now in
    let place : c.rows.j + 1 ≡ suc c.rows.j = omega arith in record {
      table = subst (λ (m : ℕ). HasNumbers f.value f.operations root v c.args.i c.fill_row.new.table m 0) (sym place) c.in_ok-fill_row.ensures.table;
      before = subst (λ (m : ℕ). NumbersFitBefore (f.operations root) v c.args.i m 0) (sym place) c.in_ok-fill_row.ensures.fit;
    }

pub returns-clause-table : goal.returns-clause-table
returns-clause-table g c =
    let f = g.F.Field in
    let root = root_of_tables c.args.frame.now in
    let v = values_in f.value f.operations c.args.numbers.now c.args.frame.now in
    let all : c.rows.j ≡ suc (diameter_of c.args.frame.now) = omega arith in
    subst (λ (m : ℕ). HasNumbers f.value f.operations root v c.args.i c.rows.table m 0) all c.rows.invariant.table

pub returns-clause-fit : goal.returns-clause-fit
returns-clause-fit g c =
    let f = g.F.Field in
    let v = values_in f.value f.operations c.args.numbers.now c.args.frame.now in
    let all : c.rows.j ≡ suc (diameter_of c.args.frame.now) = omega arith in
    before_first v.d (λ i j h. Fits (f.operations (root_of_tables c.args.frame.now)) v (Krein i j h)) c.args.i c.rows.j (suc c.args.i) all refl c.rows.invariant.before
