use Rattle.clap.specs.Words.{found_of, rows_of}
use Rattle.drg_words.proofs.Readings.{none_is_none, word_is_none}
use Rattle.drg_words.proofs.Told.{if_none, none_weaker, some_weaker}
use Rattle.drg_words.proofs.reading.number_in.Goals as goal

pub returns-in_err-word-clause-none : goal.returns-in_err-word-clause-none
returns-in_err-word-clause-none c = if_none c.from_residual.result _ (none_is_none (rows_of (found_of c.args.matches.now)) c.args.name.now c.args.least c.args.most c.in_err-word.ensures)

pub returns-clause-some : goal.returns-clause-some
returns-clause-some c = some_weaker c.number_between.result _ _ (λ n h. (c.in_ok-word.word.now, c.in_ok-word.ensures, h)) c.number_between.ensures.some

pub returns-clause-none : goal.returns-clause-none
returns-clause-none c =
    none_weaker c.number_between.result _ _
    (word_is_none (rows_of (found_of c.args.matches.now)) c.args.name.now c.in_ok-word.word.now c.args.least c.args.most c.in_ok-word.ensures) c.number_between.ensures.none
