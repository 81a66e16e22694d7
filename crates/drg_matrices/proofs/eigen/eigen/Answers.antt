use Rattle.std.proofs.Common.{◌≡◌, ℕ, suc, ◌+◌, arith, sym, subst}
use Rattle.drg_matrices.specs.Values.{item_at}
use Rattle.drg_matrices.specs.Filling.{HasEigen}
use Rattle.drg_matrices.proofs.Multiplicities.{multiplicities_next}
use Rattle.drg_matrices.proofs.eigen.eigen.Goals as goal

pub rows-preserved : goal.rows-preserved
rows-preserved g c =
    let f = g.F.Field in
    let theta = item_at (f.operations c.args.root) f.value c.args.thetas.now in
    let state = c.rows.invariant in
    let row = c.in-Ok.ensures in
    let place : c.rows.i + 1 ≡ suc c.rows.i = omega arith in record {
      table = subst (λ (k : ℕ). HasEigen f.value f.operations f.root_of c.args.root c.args.array.now theta c.fill_row.new.table k 0) (sym place) row.table;
      multiplicities = multiplicities_next f.value f.operations f.root_of c.args.root c.args.array.now theta c.rows.multiplicities.items c.push.new.self.items
          c.rows.i (c.rows.i + 1) c.in-Ok.m place c.in_ok-push.ensures.items state.multiplicities row.root row.value row.fit;
    }
