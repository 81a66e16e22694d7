use Rattle.drg_algebra.specs.Root.{no_square}
use Rattle.drg_algebra.proofs.Divisors.{gcd_is_greatest, gcd_commutes, gcd_scales, euclids_lemma_holds, coprime_to_product, one_squarefree_part, no_square_of_quotient}
use Rattle.drg_algebra.proofs.greatest_common_divisors.Goals as goal

pub returns : goal.returns
returns c = record {
  greatest = gcd_is_greatest;
  commutes = gcd_commutes;
  scales = gcd_scales;
  euclid = euclids_lemma_holds;
  product = coprime_to_product;
  squarefree = one_squarefree_part;
  no_square = no_square;
  quotient = no_square_of_quotient;
}
