use Rattle.std.proofs.Common.{sym, ap, Err}
use Rattle.drg_program.specs.Input.{input_limit}
use Rattle.drg_program.proofs.InputLemmas.{some_bytes, long_input}
use Rattle.drg_program.proofs.input.read_input.Goals as goal

pub returns-then-is_err-clause-bytes : goal.returns-then-is_err-clause-bytes
returns-then-is_err-clause-bytes g c =
    let found = some_bytes (g.I.Inputs.files c.args.inputs.now) c.args.name.now in
    (found.0, found.1, tt)

pub returns-in-Err-TooLong-clause-bytes : goal.returns-in-Err-TooLong-clause-bytes
returns-in-Err-TooLong-clause-bytes g c =
    long_input (g.I.Inputs.files c.args.inputs.now) _ _ c.args.name.now input_limit c.open.result (sym c.if-is_err.ensures.value) c.open.ensures.bytes
    (c.in-Err-TooLong.ensures.too_long_takes (ap Err c.in-Err-TooLong.field-0-is))
