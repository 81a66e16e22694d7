use Rattle.drg_words.proofs.Meanings.{one_command}
use Rattle.drg_words.proofs.laws.words_law.Goals as goal

pub returns : goal.returns
returns c = one_command
