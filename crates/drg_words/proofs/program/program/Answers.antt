use Rattle.std.proofs.Common.{ap, ap₂, ◌∙◌}
use Rattle.std.proofs.lemmas.Result.{IfOk-weaker}
use Rattle.clap.specs.Words.{App, Shape, with_subcommand}
use Rattle.drg_words.proofs.program.program.Goals as goal

abbrev top_of : App → Shape
top_of a = a.top

pub returns : goal.returns
returns c =
    let one = c.in_ok-subcommand.ensures.shape c.in_ok-check.ensures.1 ∙ ap₂ with_subcommand c.bare.ensures (ap top_of c.in_ok-check.ensures.0) in
    let two = c.in_ok-subcommand-2.ensures.shape c.in_ok-replay.ensures.1 ∙ ap₂ with_subcommand one (ap top_of c.in_ok-replay.ensures.0) in
    let three = c.in_ok-subcommand-3.ensures.shape c.in_ok-table.ensures.1 ∙ ap₂ with_subcommand two (ap top_of c.in_ok-table.ensures.0) in
    let four = c.in_ok-subcommand-4.ensures.shape c.in_ok-sample.ensures.1 ∙ ap₂ with_subcommand three (ap top_of c.in_ok-sample.ensures.0) in
    let five = c.in_ok-subcommand-5.ensures.shape c.in_ok-graph.ensures.1 ∙ ap₂ with_subcommand four (ap top_of c.in_ok-graph.ensures.0) in
    let six = c.in_ok-subcommand-6.ensures.shape c.in_ok-census.ensures.1 ∙ ap₂ with_subcommand five (ap top_of c.in_ok-census.ensures.0) in
    IfOk-weaker c.subcommand-7.result _ _ (λ r h. h.shape c.in_ok-classical.ensures.1 ∙ ap₂ with_subcommand six (ap top_of c.in_ok-classical.ensures.0)) c.subcommand-7.ensures
