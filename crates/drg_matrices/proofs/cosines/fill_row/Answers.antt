use Rattle.std.proofs.Common.{◌≡◌, ℕ, suc, ◌+◌, ◌∙◌, arith, subst}
use Rattle.drg_array.specs.declared.node.Node.TheVariants as node
use Rattle.drg_matrices.specs.Values.{item_at}
use Rattle.drg_matrices.specs.declared.fault.FrameFault.TheVariants.{Wide as TooWide}
use Rattle.drg_matrices.proofs.Items.{read_item, read_holds}
use Rattle.drg_matrices.proofs.FirstFaults.{not_fitting, cosine_fault}
use Rattle.drg_matrices.proofs.CosineRows.{next_row}
use Rattle.drg_matrices.proofs.cosines.fill_row.Goals as goal

pub returns-in_default-next_cosine-clause-fault : goal.returns-in_default-next_cosine-clause-fault
returns-in_default-next_cosine-clause-fault g c =
    let f = g.F.Field in
    let theta = c.index-thetas-i.result in
    let root = read_holds (λ x. f.root_of x ≡ c.args.root) c.args.thetas.now c.args.i theta c.requires.roots (omega arith) c.index-thetas-i.is in
    let value = read_item f.value (f.operations c.args.root) c.args.thetas.now c.args.i theta (omega arith) c.index-thetas-i.is in
    let state = c.cosines.invariant in
    let wide = rw (root, value, state.before_value, state.last_value) at c.in_default-next_cosine.ensures.value in
    let place : c.cosines.r + 2 ≡ suc (suc c.cosines.r) = omega arith in
    let o = f.operations c.args.root in
    let thetas = item_at o f.value c.args.thetas.now in
    cosine_fault o c.args.array.now thetas c.args.i (suc (suc c.cosines.r)) c.wide-in_default-next_cosine.result
    (subst (λ (m : ℕ). c.wide-in_default-next_cosine.result ≡ TooWide (node.U c.args.i m)) place c.wide-in_default-next_cosine.ensures)
    c.requires.inside (omega arith) (not_fitting _ wide) state.table.fit

pub cosines-preserved : goal.cosines-preserved
cosines-preserved g c =
    let f = g.F.Field in
    let theta = c.index-thetas-i.result in
    let root = read_holds (λ x. f.root_of x ≡ c.args.root) c.args.thetas.now c.args.i theta c.requires.roots (omega arith) c.index-thetas-i.is in
    let value = read_item f.value (f.operations c.args.root) c.args.thetas.now c.args.i theta (omega arith) c.index-thetas-i.is in
    let state = c.cosines.invariant in
    let next = rw (root, value, state.before_value, state.last_value) at c.in-Ok-next_cosine.ensures.value in
    let set = c.set-in-cosines.ensures in
    next_row f.value f.operations f.root_of c.args.root c.args.array.now (item_at (f.operations c.args.root) f.value c.args.thetas.now)
    c.cosines.table c.set-in-cosines.new.self c.args.i c.cosines.r (c.cosines.r + 1) (c.cosines.r + 2) c.cosines.before c.cosines.last c.in-Ok-next_cosine.next
    (omega arith) (omega arith) c.requires.inside (omega arith) state next.0 next.1 (c.in-Ok-next_cosine.ensures.root ∙ root) set.side set.root set.changed set.others
