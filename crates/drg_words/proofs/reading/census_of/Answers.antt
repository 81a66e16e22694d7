use Rattle.std.proofs.Common.{sym, subst}
use Rattle.clap.specs.Words.{found_of, rows_of}
use Rattle.drg_words.specs.Commands.{census_grammar}
use Rattle.drg_words.specs.Matches.{Reads, SaysCensus}
use Rattle.drg_words.proofs.Readings.{census_d, census_k, census_n, census_read}
use Rattle.drg_words.proofs.Told.{if_none}
use Rattle.drg_words.proofs.reading.census_of.Goals as goal

pub returns-in_err-d-clause-none : goal.returns-in_err-d-clause-none
returns-in_err-d-clause-none c = if_none c.from_residual.result _ (census_d (rows_of (found_of c.args.matches.now)) c.in_err-d.ensures.none)

pub returns-in_err-k-clause-none : goal.returns-in_err-k-clause-none
returns-in_err-k-clause-none c = if_none c.from_residual-in_err-k.result _ (census_k (rows_of (found_of c.args.matches.now)) c.in_err-k.ensures.none)

pub returns-in_err-n-clause-none : goal.returns-in_err-n-clause-none
returns-in_err-n-clause-none c = if_none c.from_residual-in_err-n.result _ (census_n (rows_of (found_of c.args.matches.now)) c.in_err-n.ensures.none)

pub returns-clause-some : goal.returns-clause-some
returns-clause-some c =
    let rows = rows_of (found_of c.args.matches.now) in
    subst (Reads census_grammar rows SaysCensus) (sym c.census.ensures)
    (census_read rows c.in_ok-d.d c.in_ok-k.k c.in_ok-n.n c.in_ok-d.ensures.some c.in_ok-k.ensures.some c.in_ok-n.ensures.some)
