use Rattle.drg_algebra.specs.Fields.{rational_field, invert_is}
use Rattle.drg_algebra.specs.Integer.{integers}
use Rattle.drg_algebra.proofs.Maps.{whole_map}
use Rattle.drg_algebra.proofs.number_rings.Goals as goal

pub returns : goal.returns
returns c = record {
  integers = integers;
  rationals = rational_field;
  wholes = whole_map;
  inverse = invert_is;
}
