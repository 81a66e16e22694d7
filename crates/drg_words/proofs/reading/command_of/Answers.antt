use Rattle.std.proofs.Common.{codes, refl, sym}
use Rattle.clap.specs.Words.{found_of, rows_of}
use Rattle.drg_words.specs.Commands.{census_grammar, check_grammar, file_grammar, sample_grammar, table_grammar}
use Rattle.drg_words.specs.Matches.{SaysCensus, SaysCheck, SaysClassical, SaysGraph, SaysReplay, SaysSample, SaysTable}
use Rattle.drg_words.proofs.Arms.{arm_none, arm_some, other_none}
use Rattle.drg_words.proofs.reading.command_of.Goals as goal

pub returns-in-check-clause-some : goal.returns-in-check-clause-some
returns-in-check-clause-some c =
    arm_some (rows_of (found_of c.args.matches.now)) c.args.name.now (codes "check") check_grammar SaysCheck refl (sym c.in-check.is) (λ parts last command says. says)
    c.check_of.result c.check_of.ensures.some

pub returns-in-check-clause-none : goal.returns-in-check-clause-none
returns-in-check-clause-none c =
    arm_none (rows_of (found_of c.args.matches.now)) c.args.name.now (codes "check") check_grammar SaysCheck refl (sym c.in-check.is) (λ parts last command says. says)
    c.check_of.result c.check_of.ensures.none

pub returns-in-replay-clause-some : goal.returns-in-replay-clause-some
returns-in-replay-clause-some c =
    arm_some (rows_of (found_of c.args.matches.now)) c.args.name.now (codes "replay") file_grammar SaysReplay refl (sym c.in-replay.is) (λ parts last command says. says)
    c.replay_of.result c.replay_of.ensures.some

pub returns-in-replay-clause-none : goal.returns-in-replay-clause-none
returns-in-replay-clause-none c =
    arm_none (rows_of (found_of c.args.matches.now)) c.args.name.now (codes "replay") file_grammar SaysReplay refl (sym c.in-replay.is) (λ parts last command says. says)
    c.replay_of.result c.replay_of.ensures.none

pub returns-in-table-clause-some : goal.returns-in-table-clause-some
returns-in-table-clause-some c =
    arm_some (rows_of (found_of c.args.matches.now)) c.args.name.now (codes "table") table_grammar SaysTable refl (sym c.in-table.is) (λ parts last command says. says)
    c.table_of.result c.table_of.ensures.some

pub returns-in-table-clause-none : goal.returns-in-table-clause-none
returns-in-table-clause-none c =
    arm_none (rows_of (found_of c.args.matches.now)) c.args.name.now (codes "table") table_grammar SaysTable refl (sym c.in-table.is) (λ parts last command says. says)
    c.table_of.result c.table_of.ensures.none

pub returns-in-sample-clause-some : goal.returns-in-sample-clause-some
returns-in-sample-clause-some c =
    arm_some (rows_of (found_of c.args.matches.now)) c.args.name.now (codes "sample") sample_grammar SaysSample refl (sym c.in-sample.is) (λ parts last command says. says)
    c.sample_of.result c.sample_of.ensures.some

pub returns-in-sample-clause-none : goal.returns-in-sample-clause-none
returns-in-sample-clause-none c =
    arm_none (rows_of (found_of c.args.matches.now)) c.args.name.now (codes "sample") sample_grammar SaysSample refl (sym c.in-sample.is) (λ parts last command says. says)
    c.sample_of.result c.sample_of.ensures.none

pub returns-in-graph-clause-some : goal.returns-in-graph-clause-some
returns-in-graph-clause-some c =
    arm_some (rows_of (found_of c.args.matches.now)) c.args.name.now (codes "graph") file_grammar SaysGraph refl (sym c.in-graph.is) (λ parts last command says. says)
    c.graph_of.result c.graph_of.ensures.some

pub returns-in-graph-clause-none : goal.returns-in-graph-clause-none
returns-in-graph-clause-none c =
    arm_none (rows_of (found_of c.args.matches.now)) c.args.name.now (codes "graph") file_grammar SaysGraph refl (sym c.in-graph.is) (λ parts last command says. says)
    c.graph_of.result c.graph_of.ensures.none

pub returns-in-census-clause-some : goal.returns-in-census-clause-some
returns-in-census-clause-some c =
    arm_some (rows_of (found_of c.args.matches.now)) c.args.name.now (codes "census") census_grammar SaysCensus refl (sym c.in-census.is) (λ parts last command says. says)
    c.census_of.result c.census_of.ensures.some

pub returns-in-census-clause-none : goal.returns-in-census-clause-none
returns-in-census-clause-none c =
    arm_none (rows_of (found_of c.args.matches.now)) c.args.name.now (codes "census") census_grammar SaysCensus refl (sym c.in-census.is) (λ parts last command says. says)
    c.census_of.result c.census_of.ensures.none

pub returns-in-classical-clause-some : goal.returns-in-classical-clause-some
returns-in-classical-clause-some c =
    arm_some (rows_of (found_of c.args.matches.now)) c.args.name.now (codes "classical") file_grammar SaysClassical refl (sym c.in-classical.is) (λ parts last command says. says)
    c.classical_of.result c.classical_of.ensures.some

pub returns-in-classical-clause-none : goal.returns-in-classical-clause-none
returns-in-classical-clause-none c =
    arm_none (rows_of (found_of c.args.matches.now)) c.args.name.now (codes "classical") file_grammar SaysClassical refl (sym c.in-classical.is) (λ parts last command says. says)
    c.classical_of.result c.classical_of.ensures.none

pub returns-in_default-clause-none : goal.returns-in_default-clause-none
returns-in_default-clause-none c =
    let n = c.in_default in
    other_none (rows_of (found_of c.args.matches.now)) c.args.name.now n.not-check n.not-replay n.not-table n.not-sample n.not-graph n.not-census n.not-classical
