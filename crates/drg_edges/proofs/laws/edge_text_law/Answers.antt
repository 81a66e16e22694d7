use Rattle.drg_edges.proofs.TextLaws.{one_graph, one_fault, no_fault}
use Rattle.drg_edges.proofs.laws.edge_text_law.Goals as goal

pub returns : goal.returns
returns c = record { one = one_graph; one_fault = one_fault; no_fault = no_fault }
