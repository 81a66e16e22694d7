use Rattle.clap.specs.Words.{found_of, rows_of}
use Rattle.drg_words.proofs.Readings.{sample_count, sample_read, sample_seed}
use Rattle.drg_words.proofs.Told.{if_none}
use Rattle.drg_words.proofs.reading.sample_of.Goals as goal

pub returns-in_err-seed-clause-none : goal.returns-in_err-seed-clause-none
returns-in_err-seed-clause-none c = if_none c.from_residual.result _ (sample_seed (rows_of (found_of c.args.matches.now)) c.in_err-seed.ensures.none)

pub returns-in_err-count-clause-none : goal.returns-in_err-count-clause-none
returns-in_err-count-clause-none c = if_none c.from_residual-in_err-count.result _ (sample_count (rows_of (found_of c.args.matches.now)) c.in_err-count.ensures.none)

pub returns-clause-some : goal.returns-clause-some
returns-clause-some c = sample_read (rows_of (found_of c.args.matches.now)) c.in_ok-seed.seed c.in_ok-count.count c.in_ok-seed.ensures.some c.in_ok-count.ensures.some
