use Rattle.std.proofs.Common.{suc, refl, arith}
use Rattle.drg_array.specs.declared.node.Node.TheVariants.{Sign}
use Rattle.drg_matrices.specs.Tables.{root_of_tables}
use Rattle.drg_krein.specs.Values.{values_in}
use Rattle.drg_krein.specs.Fits.{Fits}
use Rattle.drg_krein.proofs.Orders.{before_start, before_first}
use Rattle.drg_krein.proofs.checks.signs_of.Goals as goal

pub seconds-init : goal.seconds-init
seconds-init g c =
    let f = g.F.Field in
    let v = values_in f.value f.operations c.args.numbers.now c.args.frame.now in
    before_start v.d (λ i j h. Fits (f.operations (root_of_tables c.args.frame.now)) v (Sign i j h)) c.args.i c.requires.before

pub returns-clause-fit : goal.returns-clause-fit
returns-clause-fit g c =
    let f = g.F.Field in
    let v = values_in f.value f.operations c.args.numbers.now c.args.frame.now in
    before_first v.d (λ i j h. Fits (f.operations (root_of_tables c.args.frame.now)) v (Sign i j h)) c.args.i c.seconds.j (suc c.args.i) (omega arith) refl c.seconds.invariant
