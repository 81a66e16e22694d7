use Rattle.std.proofs.Common.{◌≡◌, ◌⊎◌, ℕ, List, subst}
use Rattle.drg_outside.specs.Causes.{Rose}
use Rattle.drg_program.specs.Input.{AreInputOf, IsFileMissing, IsToldInput}
use Rattle.drg_program.specs.Run.{Answers, Decides}
use Rattle.drg_program.specs.Words.{file_of}
use Rattle.drg_program.specs.declared.status.Status.TheVariants.{OpenFault, Memory}
use Rattle.drg_words.specs.Commands.{words_of}
use Rattle.drg_words.specs.declared.command.Command.{Command}
use Rattle.drg_program.proofs.InputLemmas.{input_is_there, same_input, some_input}
use Rattle.drg_program.proofs.RunLemmas.{decided}
use Rattle.drg_program.proofs.WordLemmas.{of_each_command}
use Rattle.drg_program.proofs.run.Goals as goal

pub returns-in-Ok-clause-missing : goal.returns-in-Ok-clause-missing
returns-in-Ok-clause-missing g c = λ command is.
    of_each_command (words_of c.args.words.now)
    (λ (other : Command). IsFileMissing (g.I.Inputs.files c.args.inputs.now) (file_of other)
    → (c.carry_out.result ≡ OpenFault) ⊎ (c.carry_out.result ≡ Memory))
    c.in-Ok.command command c.words_law.ensures c.in-Ok.ensures.command is c.carry_out.ensures.missing

pub returns-in-Ok-clause-answer : goal.returns-in-Ok-clause-answer
returns-in-Ok-clause-answer g c = λ command is.
    of_each_command (words_of c.args.words.now)
    (λ (other : Command). (bytes : List ℕ) × AreInputOf (g.I.Inputs.files c.args.inputs.now) (file_of other) bytes
    × Answers other bytes c.carry_out.result (g.K.Sink.bytes c.args.sink.now) (g.K.Sink.bytes c.carry_out.new.sink))
    c.in-Ok.command command c.words_law.ensures c.in-Ok.ensures.command is c.carry_out.ensures.answer

pub returns-in-Ok-clause-complete : goal.returns-in-Ok-clause-complete
returns-in-Ok-clause-complete g c = λ command bytes is told opened read write memory. (
    let found = c.carry_out.ensures.answer in
    let files = g.I.Inputs.files c.args.inputs.now in
    let asked = c.in-Ok.command in
    of_each_command (words_of c.args.words.now)
    (λ (other : Command). IsToldInput files (file_of other) bytes → Decides other bytes c.carry_out.result)
    asked command c.words_law.ensures c.in-Ok.ensures.command is
    (λ known. subst (λ (input : List ℕ). Decides asked input c.carry_out.result) (same_input files (file_of asked) found.0 bytes found.1 known)
    (decided asked found.0 c.carry_out.result _ _ found.2
    (λ e. input_is_there files (file_of asked) bytes (Rose _ _) known opened (c.carry_out.ensures.open e))
    (λ e. read (c.carry_out.ensures.read e))
    (λ e. write (c.carry_out.ensures.write e))
    memory))
    told)

pub returns-in-Err-Memory-clause-answer : goal.returns-in-Err-Memory-clause-answer
returns-in-Err-Memory-clause-answer g c = λ command is. (
    let bytes = some_input (g.I.Inputs.files c.args.inputs.now) (file_of command) in
    (bytes.0, bytes.1, tt))

pub carry_out-requires : goal.carry_out-requires
carry_out-requires g c = (words_of c.args.words.now, c.in-Ok.ensures.command)
