use Rattle.drg_census.proofs.Ascending.{one_census}
use Rattle.drg_census.proofs.Fitting.{all_fit}
use Rattle.drg_census.proofs.laws.census_law.Goals as goal

pub returns-clause-fit : goal.returns-clause-fit
returns-clause-fit c = all_fit

pub returns-clause-one : goal.returns-clause-one
returns-clause-one c = one_census
