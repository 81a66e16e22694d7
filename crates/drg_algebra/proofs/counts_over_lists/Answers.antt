use Rattle.drg_algebra.specs.Sums.{bit}
use Rattle.drg_algebra.proofs.Counts.{count-same, count-le, count-classes, count-disjoint, count-some, count-member, count-self, sum-constant, count-edges}
use Rattle.drg_algebra.proofs.Sums.{sum-exchange}
use Rattle.drg_algebra.proofs.counts_over_lists.Goals as goal

pub returns : goal.returns
returns c = record {
  agree = count-same;
  monotone = count-le;
  exchange = λ r. sum-exchange (λ x y. bit (r x y));
  classes = count-classes;
  disjoint = count-disjoint;
  found = count-some;
  member = count-member;
  one = count-self;
  constant = sum-constant;
  edges = count-edges;
}
