use Rattle.drg_algebra.specs.Ratio.{plus_ratio, times_ratio}
use Rattle.drg_algebra.proofs.RatioLemmas.{equal_by_cross_products, negative_of_ratio, inverse_of_ratio, sign_of_denominator}
use Rattle.drg_algebra.proofs.ratios.Goals as goal

pub returns : goal.returns
returns c = record {
  equal = equal_by_cross_products;
  sum = plus_ratio;
  product = times_ratio;
  negative = negative_of_ratio;
  inverse = inverse_of_ratio;
  sign = sign_of_denominator;
}
