use Rattle.std.proofs.Common.{◌≡◌, ℕ, suc, ◌+◌, sym, subst, arith}
use Rattle.drg_array.specs.declared.node.Node.TheVariants.{Krein}
use Rattle.drg_matrices.specs.Tables.{root_of_tables}
use Rattle.drg_krein.specs.Values.{values_in}
use Rattle.drg_krein.specs.Fits.{Fits}
use Rattle.drg_krein.specs.Filling.{NumbersFitBefore}
use Rattle.drg_krein.proofs.Orders.{before_all}
use Rattle.drg_krein.proofs.Full.{full_next}
use Rattle.drg_krein.proofs.numbers.tables_of.Goals as goal

pub tables-preserved : goal.tables-preserved
tables-preserved g c =
    let f = g.F.Field in
    let root = root_of_tables c.args.frame.now in
    let v = values_in f.value f.operations c.args.numbers.now c.args.frame.now in
    let place : c.tables.i + 1 ≡ suc c.tables.i = omega arith in record {
      full = full_next f.value f.operations root v c.tables.tables.items c.push.new.self.items c.in_ok-table.table c.tables.i (c.tables.i + 1) place c.in_ok-push.ensures.items c.tables.invariant.full c.in_ok-table.ensures.table;
      before = subst (λ (m : ℕ). NumbersFitBefore (f.operations root) v m 0 0) (sym place) c.in_ok-table.ensures.fit;
    }

pub returns-clause-fit : goal.returns-clause-fit
returns-clause-fit g c =
    let f = g.F.Field in
    let v = values_in f.value f.operations c.args.numbers.now c.args.frame.now in
    before_all v.d (λ i j h. Fits (f.operations (root_of_tables c.args.frame.now)) v (Krein i j h)) c.tables.i (omega arith) c.tables.invariant.before
