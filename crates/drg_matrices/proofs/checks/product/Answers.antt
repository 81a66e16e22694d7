use Rattle.std.proofs.Common.{subst, sym}
use Rattle.drg_matrices.specs.Values.{item_at}
use Rattle.drg_matrices.specs.Faults.{IsFault}
use Rattle.drg_matrices.proofs.ProductCells.{product_fits_all, fault_of_product}
use Rattle.drg_matrices.proofs.checks.product.Goals as goal

pub returns-in-Err-clause-fault : goal.returns-in-Err-clause-fault
returns-in-Err-clause-fault g c =
    let f = g.F.Field in
    let o = f.operations c.args.root in
    let theta = item_at o f.value c.args.thetas.now in
    let r = c.requires in
    subst (IsFault o c.args.array.now theta) (sym c.cell_fault.ensures)
    (fault_of_product f.value f.operations f.root_of c.args.root c.args.array.now theta c.args.eigen.now c.args.dual.now r.eigen r.dual r.reached c.in-Err.fault c.in-Err.ensures.fault)

pub returns-clause-fit : goal.returns-clause-fit
returns-clause-fit g c =
    let f = g.F.Field in
    let theta = item_at (f.operations c.args.root) f.value c.args.thetas.now in
    let r = c.requires in record {
      reached = r.reached;
      product = product_fits_all f.value f.operations f.root_of c.args.root c.args.array.now theta c.args.eigen.now c.args.dual.now r.eigen r.dual c.in_default.ensures.fit;
    }
