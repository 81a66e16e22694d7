use Rattle.std.proofs.Common.{◌≡◌, ℕ, ◌≤◌, ◌+◌, true, false, not, ap, ap₂, sym, ◌∙◌, arith, inl}
use Rattle.std.specs.Prelude.{is_ok}
use Rattle.drg_array.specs.declared.node.Node.TheVariants.{Sign}
use Rattle.drg_matrices.specs.Tables.{diameter_of, root_of_tables}
use Rattle.drg_krein.specs.Values.{values_in}
use Rattle.drg_krein.specs.Fits.{Fits}
use Rattle.drg_krein.proofs.Orders.{before_next}
use Rattle.drg_krein.proofs.FirstFaults.{not_fitting, sign_fault}
use Rattle.drg_krein.proofs.checks.signs_of_pair.Goals as goal

pub returns-then-is_err-clause-fault : goal.returns-then-is_err-clause-fault
returns-then-is_err-clause-fault g c =
    let f = g.F.Field in
    let frame = c.args.frame.now in
    let v = values_in f.value f.operations c.args.numbers.now frame in
    let r = c.requires in
    let inside : c.thirds.h ≤ diameter_of frame = omega arith in
    let value = c.get.ensures.value ∙ r.table.values c.args.j c.thirds.h r.inside inside (inl (omega arith)) r.ordered in
    let told = ap₂ (λ (n : ℕ) x. (f.operations n).sign_fits x) (c.get.ensures.root ∙ r.table.same_root) value in
    let answer : is_ok c.sign.result ≡ false = c.is_err.ensures.negation ∙ ap not c.if-is_err.true in
    sign_fault (f.operations (root_of_tables frame)) v c.args.i c.args.j c.thirds.h c.wide_sign.result c.wide_sign.ensures r.ordered r.inside inside r.numbers r.products
    (not_fitting _ (sym told ∙ sym c.sign.ensures.wide ∙ answer)) c.thirds.invariant

pub thirds-preserved : goal.thirds-preserved
thirds-preserved g c =
    let f = g.F.Field in
    let frame = c.args.frame.now in
    let o = f.operations (root_of_tables frame) in
    let v = values_in f.value f.operations c.args.numbers.now frame in
    let r = c.requires in
    let inside : c.thirds.h ≤ diameter_of frame = omega arith in
    let value = c.get.ensures.value ∙ r.table.values c.args.j c.thirds.h r.inside inside (inl (omega arith)) r.ordered in
    let told = ap₂ (λ (n : ℕ) x. (f.operations n).sign_fits x) (c.get.ensures.root ∙ r.table.same_root) value in
    let answer : is_ok c.sign.result ≡ true = c.is_err.ensures.negation ∙ ap not c.if-is_err.false in
    before_next v.d (λ i j h. Fits o v (Sign i j h)) c.args.i c.args.j c.thirds.h (c.thirds.h + 1) (omega arith) c.thirds.invariant (sym told ∙ sym c.sign.ensures.wide ∙ answer)
