use Rattle.std.proofs.Common.{◌≡◌, ◌∙◌, ap}
use Rattle.clap.specs.Words.{found_of, is_simple_and_free, rows_of}
use Rattle.drg_words.specs.Commands.{AreWordsOf, IsCommand, words_of}
use Rattle.drg_words.specs.declared.fault.WordsFault.{WordsFault}
use Rattle.drg_words.specs.declared.fault.WordsFault.TheVariants.{Memory, Usage}
use Rattle.drg_words.proofs.Built.{drg_is_simple}
use Rattle.drg_words.proofs.Entering.{are_utf8, err_usage, no_sub, ok_command, ok_usage}
use Rattle.drg_words.proofs.Told.{fault_of as is_fault, none_weaker, ok_of, some_weaker}
use Rattle.drg_words.proofs.reading.read.Goals as goal
use Rattle.drg_words.proofs.reading.read.Goals.{in-OutOfMemory, in_default}

pub returns-in-Some-clause-command : goal.returns-in-Some-clause-command
returns-in-Some-clause-command c =
    let e = c.in_ok-program.ensures in
    let all = words_of c.args.words.now in
    let f = c.in-Ok.ensures.kinds (ap is_simple_and_free e ∙ drg_is_simple) in
    let rows = rows_of (found_of c.in-Some.matches.now) in
    ok_of c.command_of.result Usage c.ok_or.result c.ok_or.ensures.value (λ command. AreWordsOf command all)
    (some_weaker c.command_of.result _ _
    (λ command reads.
    ok_command _ all e (are_utf8 c.args.words.now) c.in-Ok.matches f c.in-Ok.ensures.matches c.in-Some.name.now rows c.in-Some.ensures.name c.in-Some.ensures.rows command reads)
    c.command_of.ensures.some)

pub returns-in-Some-clause-usage : goal.returns-in-Some-clause-usage
returns-in-Some-clause-usage c =
    let e = c.in_ok-program.ensures in
    let all = words_of c.args.words.now in
    let f = c.in-Ok.ensures.kinds (ap is_simple_and_free e ∙ drg_is_simple) in
    let rows = rows_of (found_of c.in-Some.matches.now) in
    is_fault c.command_of.result Usage c.ok_or.result c.ok_or.ensures.value (λ fault. fault ≡ Usage → IsCommand all → ⊥)
    (none_weaker c.command_of.result _ _
    (λ none same is.
    ok_usage _ all e (are_utf8 c.args.words.now) c.in-Ok.matches f c.in-Ok.ensures.matches c.in-Some.name.now rows c.in-Some.ensures.name c.in-Some.ensures.rows none is)
    c.command_of.ensures.none)

pub returns-in-Ok-clause-usage : goal.returns-in-Ok-clause-usage
returns-in-Ok-clause-usage c = λ same is.
    let e = c.in_ok-program.ensures in
    let f = c.in-Ok.ensures.kinds (ap is_simple_and_free e ∙ drg_is_simple) in
    no_sub _ (words_of c.args.words.now) e (are_utf8 c.args.words.now) c.in-Ok.matches f c.in-Ok.ensures.matches c.in-None.ensures.name

memory_is_usage : (fault : WordsFault) → fault ≡ Memory → fault ≡ Usage → ⊥
memory_is_usage fault e h = cc (e, h)

pub returns-clause-usage : goal.returns-clause-usage
returns-clause-usage c = λ usage is.
    let e = c.in_ok-program.ensures in
    let h = c.in-Err.ensures.kinds (ap is_simple_and_free e ∙ drg_is_simple) in
    elim c.match-kind.branch [
      | in-OutOfMemory w ↦ memory_is_usage c.match-kind.result w.result-is usage
      | in_default w ↦ err_usage _ (words_of c.args.words.now) e (are_utf8 c.args.words.now) c.in-Err.error h (λ o. w.in_default.not-OutOfMemory (c.kind.ensures ∙ o)) is
    ]
