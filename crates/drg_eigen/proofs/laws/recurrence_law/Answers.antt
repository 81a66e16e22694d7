use Rattle.drg_algebra.specs.Kinds.{ring_of}
use Rattle.drg_eigen.proofs.Christoffel.{christoffel_darboux_holds, quotient_form_holds, confluent_holds, confluent_quotient_form_holds, at_dual_holds}
use Rattle.drg_eigen.proofs.PolynomialValues.{chain_gives_values_holds}
use Rattle.drg_eigen.proofs.laws.recurrence_law.Goals as goal

pub returns : goal.returns
returns c = record {
  values = λ k. chain_gives_values_holds (ring_of k);
  division_free = λ k. christoffel_darboux_holds (ring_of k);
  quotients = λ k. quotient_form_holds (ring_of k);
  confluent = λ k. confluent_holds (ring_of k);
  confluent_quotients = λ k. confluent_quotient_form_holds (ring_of k);
  at_dual = λ k. at_dual_holds (ring_of k);
}
