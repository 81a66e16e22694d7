use Rattle.drg_fraction.specs.Work.{product_work}
use Rattle.drg_fraction.proofs.Parts.{fits_is}
use Rattle.drg_fraction.proofs.rational.FractionField.div.Goals as goal

pub returns-clause-value : goal.returns-clause-value
returns-clause-value c = rw (← c.inverse.ensures, fits_is product_work c.args.self c.inverse.result) c.exact_product.ensures
