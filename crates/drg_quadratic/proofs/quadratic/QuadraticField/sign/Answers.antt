use Rattle.std.proofs.Common.{◌≡◌, false, ap, sym, ◌∙◌, subst, rules}
use Rattle.std.specs.declared.cmp.Ordering.TheVariants.{Less, Greater}
use Rattle.drg_quadratic.specs.Quadratic.{value_of, root_of}
use Rattle.drg_quadratic.specs.Values.{norm}
use Rattle.drg_quadratic.specs.Work.{sign_of, are_opposite}
use Rattle.drg_quadratic.specs.Signs.{ValueSign, rational_sign, sign_by_parts, sign_by_norm, sign_by_reverse}
use Rattle.drg_quadratic.proofs.quadratic.QuadraticField.sign.Goals as goal

pub returns-in_ok-norm-in-Greater-Less-clause-value :
    goal.returns-in_ok-norm-in-Greater-Less-clause-value
returns-in_ok-norm-in-Greater-Less-clause-value c =
    let q = c.args.self.now in
    let z = value_of q in
    let s = rational_sign (norm (root_of q) z) _ (c.sign-in-Greater-Less.ensures ∙ ap sign_of c.in_ok-norm-in-Greater-Less.ensures.1) in
    sign_by_norm (root_of q) q.has_root z q.flat
    (rational_sign z.a Greater (sym c.in-Greater-Less.is-0 ∙ c.sign.ensures)) (rational_sign z.b Less (sym c.in-Greater-Less.is-1 ∙ c.sign-2.ensures))
    _ s

pub returns-in_ok-norm-in-Less-Greater-clause-value :
    goal.returns-in_ok-norm-in-Less-Greater-clause-value
returns-in_ok-norm-in-Less-Greater-clause-value c =
    let q = c.args.self.now in
    let z = value_of q in
    let s = rational_sign (norm (root_of q) z) _ (c.sign-in-Less-Greater.ensures ∙ ap sign_of c.in_ok-norm-in-Less-Greater.ensures.1) in
    subst (ValueSign (root_of q) z) (sym c.reverse.ensures)
    (sign_by_reverse (root_of q) q.has_root z q.flat
    (rational_sign z.a Less (sym c.in-Less-Greater.is-0 ∙ c.sign.ensures)) (rational_sign z.b Greater (sym c.in-Less-Greater.is-1 ∙ c.sign-2.ensures))
    _ s)

pub returns-in_default-clause-value : goal.returns-in_default-clause-value
returns-in_default-clause-value c =
    let q = c.args.self.now in
    let z = value_of q in
    let parted : are_opposite c.sign.result c.sign-2.result ≡ false = search rules in
    subst (ValueSign (root_of q) z) (sym c.then.ensures)
    (sign_by_parts (root_of q) z c.sign.result c.sign-2.result parted (rational_sign z.a _ c.sign.ensures) (rational_sign z.b _ c.sign-2.ensures))
