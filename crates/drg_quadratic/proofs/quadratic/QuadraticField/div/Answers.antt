use Rattle.std.proofs.Common.{◌≡◌, ap, ap₂, sym, ◌∙◌, rules}
use Rattle.drg_algebra.specs.Rational as Rational
use Rattle.drg_algebra.specs.Fields as Fields
use Rattle.drg_algebra.specs.Pairs.{pair_path}
use Rattle.drg_fraction.specs.Fraction.{rational_of}
use Rattle.drg_quadratic.specs.Values.{Value, times, conjugate, norm}
use Rattle.drg_quadratic.specs.Laws.{nil_times, norm_is_nil}
use Rattle.drg_quadratic.specs.Quadratic.{value_of, root_of}
use Rattle.drg_quadratic.proofs.Quotients.{scaled_product}
use Rattle.drg_quadratic.proofs.quadratic.QuadraticField.div.Goals as goal

pub div-requires-clause-nonzero : goal.div-requires-clause-nonzero
div-requires-clause-nonzero c =
    let y = c.args.other in
    λ e. c.requires.nonzero (norm_is_nil (root_of y) y.has_root (value_of y) y.flat (sym c.in_ok-norm.ensures.1 ∙ e))

pub div-requires-2-clause-nonzero : goal.div-requires-2-clause-nonzero
div-requires-2-clause-nonzero c =
    let y = c.args.other in
    λ e. c.requires.nonzero (norm_is_nil (root_of y) y.has_root (value_of y) y.flat (sym c.in_ok-norm.ensures.1 ∙ e))

pub invariant_of-result : goal.invariant_of-result
invariant_of-result c =
    let product = c.in_ok-product.product in
    record {
      has_root = c.args.self.has_root;
      flat = λ e. c.in_ok-div-2.ensures.value.1 ∙ nil_times _ _ (product.flat (c.in_ok-product.ensures.root ∙ e));
    }

pub returns-clause-value : goal.returns-clause-value
returns-clause-value c =
    let x = value_of c.args.self in
    let y = value_of c.args.other in
    let root = root_of c.args.self in
    let product : value_of c.in_ok-product.product ≡ times root x (conjugate y) = c.in_ok-product.ensures.value.1 ∙ ap (times root x) c.conjugate.ensures.value in
    let under : rational_of c.in_ok-norm.norm ≡ norm root y = c.in_ok-norm.ensures.1 ∙ ap (λ d. norm d y) (sym c.requires.root) in
    let a = c.in_ok-div.ensures.value.1 ∙ ap₂ (λ (z : Value) n. Rational.times z.a (Fields.invert n)) product under in
    let b = c.in_ok-div-2.ensures.value.1 ∙ ap₂ (λ (z : Value) n. Rational.times z.b (Fields.invert n)) product under in
    (search rules, pair_path _ _ a b ∙ scaled_product root x y (Fields.invert (norm root y)))
