use Rattle.drg_algebra.specs.OrderLaws.{ordered_ring, IsAboveNil}
use Rattle.drg_algebra.proofs.Order.{ordered}
use Rattle.drg_algebra.proofs.Ordered.{linear_order_holds, ordered_ring_laws_hold}
use Rattle.drg_algebra.proofs.ordered_rings.Goals as goal

pub returns : goal.returns
returns c = record {
  linear = λ k. linear_order_holds (ordered_ring k) (IsAboveNil k) (ordered k);
  laws = λ k. ordered_ring_laws_hold (ordered_ring k) (IsAboveNil k) (ordered k);
}
