use Rattle.std.proofs.Common.{◌∙◌}
use Rattle.clap.specs.Words.{found_of}
use Rattle.clap.proofs.WalkLemmas.{one_text-rows}
use Rattle.drg_words.proofs.reading.has_flag.Goals as goal

pub returns-clause-given : goal.returns-clause-given
returns-clause-given c = λ e. c.get_flag.ensures.value (one_text-rows (found_of c.args.matches.now) c.args.name.now ∙ e)

pub returns-clause-absent : goal.returns-clause-absent
returns-clause-absent c = λ e. c.get_flag.ensures.other (one_text-rows (found_of c.args.matches.now) c.args.name.now ∙ e)
