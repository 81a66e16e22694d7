use Rattle.std.proofs.Common.{◌≡◌, ℕ, subst, ap₂, ◌∙◌, rules, to_z, of_z}
use Rattle.std.specs.Int.{w128}
use Rattle.std.proofs.lemmas.Int.{to_z-of_z}
use Rattle.drg_algebra.specs.Rational.{whole}
use Rattle.drg_quadratic.proofs.EigenvalueFields.{is_embedded}
use Rattle.drg_matrices.proofs.terms.theta_of.Goals as goal

pub returns-clause-value : goal.returns-clause-value
returns-clause-value g c =
    let f = g.F.Field in
    let o = f.operations c.args.root in
    let laws = g.met.F.Field.laws c.args.root c.requires.allowed in
    let over = subst (λ (n : ℕ). (f.operations n).IsOver (f.value c.of_halves.result)) c.of_halves.ensures.root (g.met.F.Field.over c.of_halves.result) in
    let s : c.from.result ≡ c.args.theta.s = search rules in
    let t : c.from-2.result ≡ c.args.theta.f = search rules in
    let kept_s : to_z w128 (of_z w128 c.from.result) ≡ c.from.result = to_z-of_z w128 c.from.result (search rules) in
    let kept_t : to_z w128 (of_z w128 c.from-2.result) ≡ c.from-2.result = to_z-of_z w128 c.from-2.result (search rules) in
    is_embedded laws c.args.theta (f.value c.of_halves.result)
    (over, c.of_halves.ensures.value ∙ ap₂ (λ m n. o.plus (o.rational (whole m)) (o.times (o.rational (whole n)) o.square_root)) (kept_s ∙ s) (kept_t ∙ t))
