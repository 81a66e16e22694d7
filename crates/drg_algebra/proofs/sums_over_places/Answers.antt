use Rattle.drg_algebra.specs.Kinds.{ring_of}
use Rattle.drg_algebra.proofs.Totals.{sum_laws_hold, list_sum_laws_hold}
use Rattle.drg_algebra.proofs.sums_over_places.Goals as goal

pub returns : goal.returns
returns c = record {
  places = λ k. sum_laws_hold (ring_of k);
  lists = λ k. list_sum_laws_hold (ring_of k);
}
