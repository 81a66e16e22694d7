use Rattle.drg_replay.proofs.Covers.{closed_rooms}
use Rattle.drg_replay.proofs.laws.closed_rooms_law.Goals as goal

pub returns : goal.returns
returns c = closed_rooms
