use Rattle.std.proofs.Common.{◌≡◌, pos, ap, ap₂, sym, ◌∙◌, rules}
use Rattle.drg_algebra.specs.Rational.{whole}
use Rattle.drg_algebra.specs.Rational as Rational
use Rattle.drg_algebra.specs.Pairs.{pair_path}
use Rattle.drg_algebra.proofs.RootValues.{product_of_values}
use Rattle.drg_fraction.specs.Fraction.{rational_of}
use Rattle.drg_quadratic.specs.Values.{Value}
use Rattle.drg_quadratic.specs.Laws.{flat_times}
use Rattle.drg_quadratic.specs.Quadratic.{value_of, root_of}
use Rattle.drg_quadratic.proofs.quadratic.QuadraticField.mul.Goals as goal

pub invariant_of-result : goal.invariant_of-result
invariant_of-result c =
    let x = value_of c.args.self in
    let y = value_of c.args.other in
    let root = root_of c.args.self in
    let b : rational_of c.in_ok-b.b ≡ Rational.plus (Rational.times x.a y.b) (Rational.times x.b y.a) =
    c.in_ok-b.ensures.value.1 ∙ ap₂ Rational.plus c.in_ok-left.ensures.value.1 c.in_ok-right.ensures.value.1 in
    record {
      has_root = c.args.self.has_root;
      flat = λ e. b ∙ sym (ap (λ (z : Value). z.b) (product_of_values root x y)) ∙ flat_times root x y (c.args.self.flat e) (c.args.other.flat (sym c.requires ∙ e));
    }

pub returns-clause-value : goal.returns-clause-value
returns-clause-value c =
    let x = value_of c.args.self in
    let y = value_of c.args.other in
    let root = root_of c.args.self in
    let b : rational_of c.in_ok-b.b ≡ Rational.plus (Rational.times x.a y.b) (Rational.times x.b y.a) =
    c.in_ok-b.ensures.value.1 ∙ ap₂ Rational.plus c.in_ok-left.ensures.value.1 c.in_ok-right.ensures.value.1 in
    let squares : rational_of c.in_ok-squares.squares ≡ Rational.times (whole (pos root)) (Rational.times x.b y.b) =
    c.in_ok-squares.ensures.1 ∙ ap (Rational.times (whole (pos root))) c.in_ok-mul.ensures.value.1 in
    let a = c.in_ok-a.ensures.value.1 ∙ ap₂ Rational.plus c.in_ok-rational.ensures.value.1 squares in
    (search rules, pair_path _ _ a b ∙ sym (product_of_values root x y))
