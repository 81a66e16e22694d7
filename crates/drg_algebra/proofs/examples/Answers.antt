use Rattle.drg_algebra.specs.Kinds.{ring_of}
use Rattle.drg_algebra.proofs.SmallCases.{square_of_sum_holds, five_is_squarefree, golden_ratio, root_of_two_is_above_one, square_of_table, three_points}
use Rattle.drg_algebra.proofs.examples.Goals as goal

pub returns : goal.returns
returns c = record {
  square = λ k. square_of_sum_holds (ring_of k);
  squarefree = five_is_squarefree;
  golden = golden_ratio;
  positive = root_of_two_is_above_one;
  table = square_of_table;
  points = three_points;
}
