use Rattle.drg_algebra.proofs.RatioLemmas.{parts_are_reduced, division_reduces, one_reduced_pair}
use Rattle.drg_algebra.proofs.reduced_pairs.Goals as goal

pub returns : goal.returns
returns c = record {
  parts = parts_are_reduced;
  division = division_reduces;
  unique = one_reduced_pair;
}
