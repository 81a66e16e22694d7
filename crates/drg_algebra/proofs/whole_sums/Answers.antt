use Rattle.drg_algebra.proofs.Whole.{whole-same, whole-member, whole-add, multiple-leaves-no-rest}
use Rattle.drg_algebra.proofs.whole_sums.Goals as goal

pub returns : goal.returns
returns c = record {
  naturals = whole-same;
  member = whole-member;
  add = whole-add;
  multiple = multiple-leaves-no-rest;
}
