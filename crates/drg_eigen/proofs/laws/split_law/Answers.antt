use Rattle.drg_eigen.proofs.OneSplit.{one_split}
use Rattle.drg_eigen.proofs.OneSplitFault.{one_split_fault, no_split_fault, fewer_divisions}
use Rattle.drg_eigen.proofs.SimpleProducts.{products_are_simple}
use Rattle.drg_eigen.proofs.laws.split_law.Goals as goal

pub returns : goal.returns
returns c = record {
  one = one_split;
  one_fault = one_split_fault;
  no_fault = no_split_fault;
  fewer = fewer_divisions;
  products = products_are_simple;
}
