use Rattle.std.proofs.Common.{◌≡◌, ℕ, ap, sym, ◌∙◌, subst}
use Rattle.drg_algebra.proofs.Beginnings.{on_err}
use Rattle.drg_matrices.specs.Tables.{root_of_tables}
use Rattle.drg_krein.specs.Tables.{krein_in}
use Rattle.drg_bounds.specs.AbsoluteBound.{values_in}
use Rattle.drg_bounds.specs.Totals.{IsTotalBelow}
use Rattle.drg_bounds.proofs.MultiplicitySums.{total_skip, total_first, total_more, total_root, total_wide}
use Rattle.drg_bounds.proofs.sums.with_number.Goals as goal

pub returns-then-vanishes-clause-total : goal.returns-then-vanishes-clause-total
returns-then-vanishes-clause-total g c =
    let f = g.F.Field in
    let root = root_of_tables c.args.frame.now in
    let b = values_in f.value f.operations c.args.frame.now c.args.krein.now in
    let same : c.args.krein.now.root ≡ root = c.requires.root in
    total_skip f.value f.root_of f.operations root b c.args.i c.args.j c.args.h c.args.total
    (c.vanishes.ensures.0 c.if-vanishes.true ∙ ap (λ (r : ℕ). (f.operations r).nil) same) c.requires.before

pub add-requires : goal.add-requires
add-requires g c =
    let f = g.F.Field in
    let root = root_of_tables c.args.frame.now in
    let b = values_in f.value f.operations c.args.frame.now c.args.krein.now in
    let before = subst (IsTotalBelow f.value f.root_of f.operations root b c.args.i c.args.j c.args.h) c.in-Some.is c.requires.before in
    total_root f.value f.root_of f.operations root b c.args.i c.args.j c.args.h c.in-Some.sum before ∙ sym c.m.ensures.root

pub returns-in_err-add-in-Some-clause-wide : goal.returns-in_err-add-in-Some-clause-wide
returns-in_err-add-in-Some-clause-wide g c =
    let f = g.F.Field in
    let root = root_of_tables c.args.frame.now in
    let o = f.operations root in
    let b = values_in f.value f.operations c.args.frame.now c.args.krein.now in
    let same : c.args.krein.now.root ≡ root = c.requires.root in
    let before = subst (IsTotalBelow f.value f.root_of f.operations root b c.args.i c.args.j c.args.h) c.in-Some.is c.requires.before in
    let own = total_root f.value f.root_of f.operations root b c.args.i c.args.j c.args.h c.in-Some.sum before in
    let some : ¬ (krein_in f.value f.operations c.args.krein.now c.args.h c.args.i c.args.j ≡ o.nil) =
    (λ e. (let yes = c.vanishes.ensures.1 (e ∙ sym (ap (λ (r : ℕ). (f.operations r).nil) same)) in let no = c.if-vanishes.false in cc)) in
    let wide = rw (own, c.m.ensures.value) at c.in_err-add-in-Some.ensures.value in
    on_err _ _ (total_wide f.value f.root_of f.operations root b c.args.i c.args.j c.args.h some c.in-Some.sum c.requires.h wide before)

pub returns-in_ok-add-in-Some-clause-total : goal.returns-in_ok-add-in-Some-clause-total
returns-in_ok-add-in-Some-clause-total g c =
    let f = g.F.Field in
    let root = root_of_tables c.args.frame.now in
    let o = f.operations root in
    let b = values_in f.value f.operations c.args.frame.now c.args.krein.now in
    let same : c.args.krein.now.root ≡ root = c.requires.root in
    let before = subst (IsTotalBelow f.value f.root_of f.operations root b c.args.i c.args.j c.args.h) c.in-Some.is c.requires.before in
    let own = total_root f.value f.root_of f.operations root b c.args.i c.args.j c.args.h c.in-Some.sum before in
    let some : ¬ (krein_in f.value f.operations c.args.krein.now c.args.h c.args.i c.args.j ≡ o.nil) =
    (λ e. (let yes = c.vanishes.ensures.1 (e ∙ sym (ap (λ (r : ℕ). (f.operations r).nil) same)) in let no = c.if-vanishes.false in cc)) in
    let told = rw (own, c.m.ensures.value) at c.in_ok-add-in-Some.ensures.value in
    total_more f.value f.root_of f.operations root b c.args.i c.args.j c.args.h some c.in-Some.sum _ told.0 told.1 (c.in_ok-add-in-Some.ensures.root ∙ own) before

pub returns-in-None-clause-total : goal.returns-in-None-clause-total
returns-in-None-clause-total g c =
    let f = g.F.Field in
    let root = root_of_tables c.args.frame.now in
    let o = f.operations root in
    let b = values_in f.value f.operations c.args.frame.now c.args.krein.now in
    let same : c.args.krein.now.root ≡ root = c.requires.root in
    let before = subst (IsTotalBelow f.value f.root_of f.operations root b c.args.i c.args.j c.args.h) c.in-None.is c.requires.before in
    let some : ¬ (krein_in f.value f.operations c.args.krein.now c.args.h c.args.i c.args.j ≡ o.nil) =
    (λ e. (let yes = c.vanishes.ensures.1 (e ∙ sym (ap (λ (r : ℕ). (f.operations r).nil) same)) in let no = c.if-vanishes.false in cc)) in
    total_first f.value f.root_of f.operations root b c.args.i c.args.j c.args.h some _ c.m-in-None.ensures.value c.m-in-None.ensures.root before
