use Rattle.drg_graph.proofs.ParityLaws.{handshake_law}
use Rattle.drg_graph.proofs.handshake_law.Goals as goal

pub returns : goal.returns
returns c = handshake_law
