use Rattle.std.proofs.Common.{suc}
use Rattle.drg_array.specs.Entries.{diameter}
use Rattle.drg_array.specs.declared.node.Node.TheVariants.{Rec}
use Rattle.drg_matrices.specs.Values.{item_at}
use Rattle.drg_matrices.specs.Fits.{Fits}
use Rattle.drg_matrices.specs.Faults.{HoldsBefore}
use Rattle.drg_matrices.proofs.checks.recurrences.Given as goal

abbrev pub invariant-rows : goal.invariant-rows
invariant-rows g l =
    let f = g.F.Field in
    let o = f.operations l.root in
    HoldsBefore (suc (diameter l.array)) (λ i j. Fits o l.array (item_at o f.value l.thetas) (Rec i j)) l.i 0
