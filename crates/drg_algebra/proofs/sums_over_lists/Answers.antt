use Rattle.drg_algebra.proofs.Sums.{sum-same, sum-le, sum-add, sum-scale, sum-exchange, sum-classes, sum-member, sum-single, sum-first}
use Rattle.drg_algebra.proofs.Tests.{below-in, below-out, below-distinct}
use Rattle.drg_algebra.proofs.sums_over_lists.Goals as goal

pub returns : goal.returns
returns c = record {
  agree = sum-same;
  monotone = sum-le;
  add = sum-add;
  scale = sum-scale;
  exchange = sum-exchange;
  classes = sum-classes;
  member = sum-member;
  one_member = sum-single;
  below = λ n i. (below-in n i, below-out n i);
  distinct = below-distinct;
  first = sum-first;
}
