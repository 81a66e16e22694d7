use Rattle.drg_algebra.proofs.NumberOrder.{integers_ordered, rationals_ordered, sign_of_ratio, less_by_cross_products, sign_of_whole}
use Rattle.drg_algebra.proofs.Order.{values_ordered, sign_of_embedded, two_cases_are_three}
use Rattle.drg_algebra.proofs.orders.Goals as goal

pub returns : goal.returns
returns c = record {
  integers = integers_ordered;
  rationals = rationals_ordered;
  values = values_ordered;
  sign = sign_of_ratio;
  less = less_by_cross_products;
  wholes = sign_of_whole;
  embedded = sign_of_embedded;
  two_cases = two_cases_are_three;
}
