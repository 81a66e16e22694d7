use Rattle.drg_edges.proofs.AnswerLaws.{one_answer, array_law}
use Rattle.drg_edges.proofs.laws.answer_law.Goals as goal

pub returns : goal.returns
returns c = record { one = one_answer; array = array_law }
