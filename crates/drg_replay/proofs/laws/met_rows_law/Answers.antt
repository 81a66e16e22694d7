use Rattle.drg_replay.proofs.KnownLaws.{known_rows}
use Rattle.drg_replay.proofs.Soundness.{met_rows}
use Rattle.drg_replay.proofs.laws.met_rows_law.Goals as goal

pub returns : goal.returns
returns c = record { stated = known_rows; counts = met_rows c.rows_law.ensures }
