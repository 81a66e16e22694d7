use Rattle.drg_replay.proofs.Soundness.{excludes}
use Rattle.drg_replay.proofs.laws.graph_law.Goals as goal

pub returns : goal.returns
returns c = excludes c.closed_rooms_law.ensures (record {
  first = c.first_law.ensures;
  degree = c.degree_law.ensures;
  order = c.order_law.ensures;
  cross = c.cross_law.ensures;
  size = c.size_law.ensures;
  intersect = c.intersect_law.ensures;
  handshake = c.handshake_law.ensures;
  induced = c.induced_law.ensures;
  triangles = c.triangles_law.ensures;
})
