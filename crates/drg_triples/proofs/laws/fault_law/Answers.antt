use Rattle.drg_triples.proofs.Weights.{fits_means_fits_over}
use Rattle.drg_triples.proofs.FaultLaws.{one_fault, no_fault_where_all_fit}
use Rattle.drg_triples.proofs.laws.fault_law.Goals as goal

pub returns : goal.returns
returns c = record { fits = fits_means_fits_over; one = one_fault; none = no_fault_where_all_fit }
