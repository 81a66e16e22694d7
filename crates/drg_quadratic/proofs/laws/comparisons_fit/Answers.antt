use Rattle.drg_quadratic.proofs.Comparisons.{fractions_fit, quadratics_fit}
use Rattle.drg_quadratic.proofs.laws.comparisons_fit.Goals as goal

pub returns-clause-fractions : goal.returns-clause-fractions
returns-clause-fractions c = fractions_fit

pub returns-clause-quadratics : goal.returns-clause-quadratics
returns-clause-quadratics c = quadratics_fit
