use Rattle.drg_eigen.proofs.Irreducible.{divides_or_not, irreducibles_are_prime}
use Rattle.drg_eigen.proofs.FactorProducts.{factors_commute, degrees_add, factors_of_product, factors_divide}
use Rattle.drg_eigen.proofs.FullProducts.{factors_of_full_product}
use Rattle.drg_eigen.proofs.laws.factor_law.Goals as goal

pub returns : goal.returns
returns c = record {
  told = divides_or_not;
  prime = irreducibles_are_prime;
  commute = factors_commute;
  degrees = degrees_add;
  of_product = factors_of_product;
  of_full_product = factors_of_full_product;
  divide = factors_divide;
}
