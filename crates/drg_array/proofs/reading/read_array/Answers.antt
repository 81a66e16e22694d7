use Rattle.std.proofs.Common.{◌+◌, ◌∙◌, refl, sym}
use Rattle.drg_array.specs.Reader.{state_of}
use Rattle.drg_array.proofs.Steps.{sound}
use Rattle.drg_array.proofs.FaultLaws.{reading-step}
use Rattle.drg_array.proofs.reading.read_array.Goals as goal

pub bytes-preserved : goal.bytes-preserved
bytes-preserved c = record {
  sound = sound (state_of c.bytes.reader) _ (state_of c.step.new.self) c.bytes.invariant.sound c.in_default.ensures.ok;
  read =
      sym (reading-step (c.bytes.place + 1) c.bytes.place (state_of c.bytes.reader) (state_of c.step.new.self) c.args.bytes.now _ c.bytes-test.true refl c.in_default.ensures.ok)
      ∙ c.bytes.invariant.read;
}
