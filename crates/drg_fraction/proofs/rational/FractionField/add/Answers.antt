use Rattle.drg_fraction.specs.Work.{sum_work}
use Rattle.drg_fraction.proofs.Parts.{fits_is}
use Rattle.drg_fraction.proofs.rational.FractionField.add.Goals as goal

pub returns-clause-value : goal.returns-clause-value
returns-clause-value c = rw (fits_is sum_work c.args.self c.args.other) c.exact_sum.ensures
