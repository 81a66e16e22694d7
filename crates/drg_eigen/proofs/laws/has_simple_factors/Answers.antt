use Rattle.drg_eigen.proofs.SimpleFactors.{no_double_factor_of_chain, quadratics_of_chain_are_real}
use Rattle.drg_eigen.proofs.ArrayFactors.{no_double_linear, no_double_quadratic, quadratics_are_real}
use Rattle.drg_eigen.proofs.laws.has_simple_factors.Goals as goal

pub returns : goal.returns
returns c = record {
  linear = no_double_linear;
  quadratic = no_double_quadratic;
  real = quadratics_are_real;
  recurrence = no_double_factor_of_chain;
  recurrence_real = quadratics_of_chain_are_real;
}
