use Rattle.std.proofs.Common.{sym, ◌∙◌}
use Rattle.std.proofs.lemmas.Bool.{false≢true}
use Rattle.drg_algebra.proofs.Beginnings.{on_err}
use Rattle.drg_matrices.specs.Tables.{root_of_tables}
use Rattle.drg_bounds.specs.AbsoluteBound.{values_in}
use Rattle.drg_bounds.specs.AbsoluteFits.{AbsoluteFits}
use Rattle.drg_bounds.proofs.BoundSigns.{positive_by_sign, exceeded_by_total, fits_by_total, rest_of_fits}
use Rattle.drg_bounds.proofs.absolute_bound.is_exceeded.Goals as goal

pub returns-in_err-total-clause-wide : goal.returns-in_err-total-clause-wide
returns-in_err-total-clause-wide g c =
    let f = g.F.Field in
    let b = values_in f.value f.operations c.args.frame.now c.args.krein.now in
    let no : ¬ (AbsoluteFits (f.operations (root_of_tables c.args.frame.now)) b c.args.i c.args.j) =
    (λ fits. c.in_err-total.ensures.wide (record { indices = fits.indices; are = fits.are; sum = fits.sum })) in
    on_err _ _ no

pub returns-in_err-allowed-clause-wide : goal.returns-in_err-allowed-clause-wide
returns-in_err-allowed-clause-wide g c =
    let f = g.F.Field in
    let b = values_in f.value f.operations c.args.frame.now c.args.krein.now in
    let no : ¬ (AbsoluteFits (f.operations (root_of_tables c.args.frame.now)) b c.args.i c.args.j) =
    (λ fits. false≢true (sym c.in_err-allowed.ensures.value ∙ fits.most)) in
    on_err _ _ no

pub returns-in_err-difference-clause-wide : goal.returns-in_err-difference-clause-wide
returns-in_err-difference-clause-wide g c =
    let f = g.F.Field in
    let root = root_of_tables c.args.frame.now in
    let b = values_in f.value f.operations c.args.frame.now c.args.krein.now in
    let wide = rw (c.in_ok-total.ensures.root, c.in_ok-allowed.ensures.value.1) at c.in_err-difference.ensures.value in
    let no : ¬ (AbsoluteFits (f.operations root) b c.args.i c.args.j) =
    (λ fits. false≢true (sym wide ∙ (rest_of_fits f.value f.operations root b c.args.i c.args.j c.in_ok-total.total c.in_ok-total.ensures.total fits).less_fits)) in
    on_err _ _ no

pub returns-in_err-sign-clause-wide : goal.returns-in_err-sign-clause-wide
returns-in_err-sign-clause-wide g c =
    let f = g.F.Field in
    let root = root_of_tables c.args.frame.now in
    let b = values_in f.value f.operations c.args.frame.now c.args.krein.now in
    let own = c.in_ok-difference.ensures.root ∙ c.in_ok-total.ensures.root in
    let value = rw (c.in_ok-total.ensures.root, c.in_ok-allowed.ensures.value.1) at c.in_ok-difference.ensures.value.1 in
    let wide = rw (own, value) at c.in_err-sign.ensures.wide in
    let no : ¬ (AbsoluteFits (f.operations root) b c.args.i c.args.j) =
    (λ fits. false≢true (wide ∙ (rest_of_fits f.value f.operations root b c.args.i c.args.j c.in_ok-total.total c.in_ok-total.ensures.total fits).sign)) in
    on_err _ _ no

pub returns-clause-answer : goal.returns-clause-answer
returns-clause-answer g c =
    let f = g.F.Field in
    let root = root_of_tables c.args.frame.now in
    let b = values_in f.value f.operations c.args.frame.now c.args.krein.now in
    let x = c.in_ok-difference.difference in
    let laws = g.met.F.Field.laws (f.root_of x) (g.met.F.Field.has_root x) in
    let own = c.in_ok-difference.ensures.root ∙ c.in_ok-total.ensures.root in
    let value = rw (c.in_ok-total.ensures.root, c.in_ok-allowed.ensures.value.1) at c.in_ok-difference.ensures.value.1 in
    let sign = positive_by_sign {V = f.V} {o = f.operations (f.root_of x)} {root = f.root_of x} laws (f.value x) c.in_ok-sign.sign c.is_greater.result (g.met.F.Field.over x) c.in_ok-sign.ensures.value c.is_greater.ensures in
    let positive = rw (own, value) at sign in
    let exceeded = exceeded_by_total f.value f.operations root b c.args.i c.args.j c.in_ok-total.total c.in_ok-total.ensures.total in
    (λ t. exceeded.1 (positive.0 t), λ e. positive.1 (exceeded.0 e))

pub returns-clause-fits : goal.returns-clause-fits
returns-clause-fits g c =
    let f = g.F.Field in
    let root = root_of_tables c.args.frame.now in
    let b = values_in f.value f.operations c.args.frame.now c.args.krein.now in
    let own = c.in_ok-difference.ensures.root ∙ c.in_ok-total.ensures.root in
    let less = rw (c.in_ok-total.ensures.root, c.in_ok-allowed.ensures.value.1) at c.in_ok-difference.ensures.value in
    let sign = rw (own, less.1) at c.in_ok-sign.ensures.wide in
    fits_by_total f.value f.operations root b c.args.i c.args.j c.in_ok-total.total c.in_ok-total.ensures.total
    (record { most = c.in_ok-allowed.ensures.value.0; less_fits = less.0; sign = sym sign })
