use Rattle.drg_algebra.specs.Pairs.{root_values}
use Rattle.drg_algebra.proofs.Maps.{embedded_map}
use Rattle.drg_algebra.proofs.RootValues.{product_of_values, square_of_root, values_are_field}
use Rattle.drg_algebra.proofs.values.Goals as goal

pub returns : goal.returns
returns c = record {
  ring = λ root. (root_values root).laws;
  product = product_of_values;
  root = square_of_root;
  wholes = embedded_map;
  field = values_are_field;
}
