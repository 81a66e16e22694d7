use Rattle.drg_replay.proofs.KnownLaws.{known_sizes}
use Rattle.drg_replay.proofs.Soundness.{met_sizes}
use Rattle.drg_replay.proofs.laws.met_sizes_law.Goals as goal

pub returns : goal.returns
returns c = record { stated = known_sizes; counts = met_sizes c.sizes_law.ensures }
