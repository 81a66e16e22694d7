use Rattle.drg_fraction.specs.Fraction.{rational_of}
use Rattle.drg_fraction.specs.Work.{sum_work}
use Rattle.drg_fraction.proofs.Parts.{fits_is}
use Rattle.drg_fraction.proofs.Sums.{difference_fits_is}
use Rattle.drg_fraction.proofs.rational.FractionField.sub.Goals as goal

pub returns-clause-value : goal.returns-clause-value
returns-clause-value c =
    rw (difference_fits_is (rational_of c.args.self) (rational_of c.args.other), ← c.negated.ensures, fits_is sum_work c.args.self c.negated.result) c.exact_sum.ensures
