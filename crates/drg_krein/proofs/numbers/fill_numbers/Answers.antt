use Rattle.std.proofs.Common.{◌≡◌, ◌≤◌, ◌+◌, ◌∙◌, suc, refl, arith}
use Rattle.drg_array.specs.declared.node.Node.TheVariants.{Krein}
use Rattle.drg_matrices.specs.Tables.{diameter_of, root_of_tables}
use Rattle.drg_krein.specs.declared.copies.Matrix.TheVariants.{Cosines}
use Rattle.drg_krein.specs.Values.{values_in}
use Rattle.drg_krein.specs.Fits.{Fits}
use Rattle.drg_krein.proofs.Orders.{before_next, before_row}
use Rattle.drg_krein.proofs.Cells.{numbers_next, row_of_copy}
use Rattle.drg_krein.proofs.FirstFaults.{not_fitting, number_fault}
use Rattle.drg_krein.proofs.numbers.fill_numbers.Goals as goal

pub returns-in_default-clause-fault : goal.returns-in_default-clause-fault
returns-in_default-clause-fault g c =
    let f = g.F.Field in
    let frame = c.args.frame.now in
    let values = values_in f.value f.operations c.args.numbers.now frame in
    let inside : c.numbers.h ≤ diameter_of frame = omega arith in
    let row = c.row.ensures.values ∙ row_of_copy f.value f.operations frame Cosines c.args.cosines.now c.numbers.h inside c.requires.cosines in
    let wide = rw (c.root-root.ensures, c.requires.terms, row, c.requires.scale) at c.in_default.ensures.value in
    number_fault (f.operations (root_of_tables frame)) values c.args.i c.args.j c.numbers.h c.wide.result c.wide.ensures
    c.requires.ordered c.requires.inside inside (λ k. not_fitting _ wide k.number) c.numbers.invariant.before

pub numbers-preserved : goal.numbers-preserved
numbers-preserved g c =
    let f = g.F.Field in
    let frame = c.args.frame.now in
    let o = f.operations (root_of_tables frame) in
    let values = values_in f.value f.operations c.args.numbers.now frame in
    let inside : c.numbers.h ≤ diameter_of frame = omega arith in
    let row = c.row.ensures.values ∙ row_of_copy f.value f.operations frame Cosines c.args.cosines.now c.numbers.h inside c.requires.cosines in
    let told = rw (c.root-root.ensures, c.requires.terms, row, c.requires.scale) at c.in-Ok.ensures.value in
    let set = c.set.ensures in
    let state = c.numbers.invariant in
    let next : c.numbers.h + 1 ≡ suc c.numbers.h = omega arith in record {
      table = numbers_next f.value f.operations (root_of_tables frame) values c.args.i c.numbers.table c.set.new.self c.args.j c.numbers.h (c.numbers.h + 1) next
          c.requires.inside inside state.table set.side set.root (set.changed ∙ told.1) set.others;
      before = before_next values.d (λ i j h. Fits o values (Krein i j h)) c.args.i c.args.j c.numbers.h (c.numbers.h + 1) next state.before (record { shares = c.requires.shares; number = told.0 });
    }

pub returns-clause-fit : goal.returns-clause-fit
returns-clause-fit g c =
    let f = g.F.Field in
    let v = values_in f.value f.operations c.args.numbers.now c.args.frame.now in
    before_row v.d (λ i j h. Fits (f.operations (root_of_tables c.args.frame.now)) v (Krein i j h)) c.args.i c.args.j c.numbers.h (suc c.args.j) (omega arith) refl c.numbers.invariant.before
