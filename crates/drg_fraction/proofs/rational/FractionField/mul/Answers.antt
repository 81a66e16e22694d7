use Rattle.drg_fraction.specs.Work.{product_work}
use Rattle.drg_fraction.proofs.Parts.{fits_is}
use Rattle.drg_fraction.proofs.rational.FractionField.mul.Goals as goal

pub returns-clause-value : goal.returns-clause-value
returns-clause-value c = rw (fits_is product_work c.args.self c.args.other) c.exact_product.ensures
