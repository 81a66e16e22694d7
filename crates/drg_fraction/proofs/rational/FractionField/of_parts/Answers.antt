use Rattle.std.proofs.Common.{sym, refl}
use Rattle.drg_algebra.specs.Ring.{none, ◌⊕◌, ◌⊗◌, ring2}
use Rattle.drg_algebra.specs.Rational.{rationals}
use Rattle.drg_fraction.specs.Fraction.{rational_of}
use Rattle.drg_fraction.proofs.rational.FractionField.of_parts.Goals as goal

pub returns-clause-value : goal.returns-clause-value
returns-clause-value c = ring2 rationals (λ x y. x) (λ x y. x ⊕ y ⊗ none) refl (rational_of c.args.a) (rational_of c.args._b)

pub returns-clause-root_part : goal.returns-clause-root_part
returns-clause-root_part c = sym (c.requires.flat c.requires.root)
