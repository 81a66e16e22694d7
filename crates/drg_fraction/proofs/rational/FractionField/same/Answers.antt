use Rattle.std.proofs.Common.{◌≡◌, ap₂, arith}
use Rattle.std.proofs.lemmas.Int.{ints}
use Rattle.drg_algebra.specs.Ratio.{ratio}
use Rattle.drg_fraction.specs.Fraction.{rational_of, same_parts}
use Rattle.drg_fraction.proofs.rational.FractionField.same.Goals as goal

pub returns : goal.returns
unfolding rational_of
returns c = (
  λ t. let e : (c.args.self.now.num.value ≡ c.args.other.num.value) × (c.args.self.now.den.value ≡ c.args.other.den.value) = grind (arith, ints, c.eq.ensures) in ap₂ ratio e.0 e.1,
  λ e.
      let p = same_parts c.args.self.now c.args.other e in
      let n : c.args.self.now.num.value ≡ c.args.other.num.value = p.0 in
      let d : c.args.self.now.den.value ≡ c.args.other.den.value = p.1 in
      grind (arith, ints, c.eq.ensures),
)
