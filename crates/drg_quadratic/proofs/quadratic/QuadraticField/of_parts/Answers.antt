use Rattle.drg_fraction.specs.Fraction.{rational_of}
use Rattle.drg_quadratic.specs.Laws.{is_its_parts}
use Rattle.drg_quadratic.specs.Values.{Value}
use Rattle.drg_quadratic.proofs.quadratic.QuadraticField.of_parts.Goals as goal

pub returns-clause-value : goal.returns-clause-value
returns-clause-value c =
    let z : Value = record { a = rational_of c.args.a; b = rational_of c.args.b } in
    is_its_parts c.args.root z c.requires.flat
