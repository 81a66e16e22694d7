-- The operations on the values a + b √root over a root, each with the test of its work numbers.
use Rattle.std.specs.Prelude.{ℕ}
use Rattle.drg_algebra.specs.Order.{IsPositive}
use Rattle.drg_fraction.specs.Operations.{Operations}
use Rattle.drg_quadratic.specs.Values.{Value, IsOver, nil, unit, plus, minus, times, invert, rational, square_root}
use Rattle.drg_quadratic.specs.Work.{sum_fits, difference_fits, product_fits, quotient_fits, sign_fits}

-- over root 0 the part b of each value that belongs to it is 0
abbrev pub value_operations : ℕ → Operations Value
value_operations root = record {
  nil = nil;
  unit = unit;
  plus = plus;
  minus = minus;
  times = times root;
  invert = invert root;
  rational = rational;
  square_root = square_root root;
  rational_part = λ z. z.a;
  root_part = λ z. z.b;
  IsOver = IsOver root;
  IsPositive = IsPositive root;
  sum_fits = sum_fits;
  difference_fits = difference_fits;
  product_fits = product_fits root;
  quotient_fits = quotient_fits root;
  sign_fits = sign_fits root;
}
