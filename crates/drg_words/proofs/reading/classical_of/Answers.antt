use Rattle.clap.specs.Words.{found_of, rows_of}
use Rattle.drg_words.proofs.Readings.{classical_file, classical_read}
use Rattle.drg_words.proofs.Told.{if_none}
use Rattle.drg_words.proofs.reading.classical_of.Goals as goal

pub returns-in_err-file-clause-none : goal.returns-in_err-file-clause-none
returns-in_err-file-clause-none c = if_none c.from_residual.result _ (classical_file (rows_of (found_of c.args.matches.now)) c.in_err-file.ensures)

pub returns-clause-some : goal.returns-clause-some
returns-clause-some c = classical_read (rows_of (found_of c.args.matches.now)) c.in_ok-file.file c.in_ok-file.ensures
