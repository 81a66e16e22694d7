use Rattle.drg_algebra.proofs.RootValues.{value_is_its_parts, norm_is_zero_by_parts}
use Rattle.drg_algebra.proofs.zero_by_parts.Goals as goal

pub returns : goal.returns
returns c = record {
  parts = value_is_its_parts;
  norm = norm_is_zero_by_parts;
}
