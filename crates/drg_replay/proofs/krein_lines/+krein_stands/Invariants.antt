use Rattle.std.proofs.Common.{length}
use Rattle.drg_replay.proofs.krein_lines.+krein_stands.Given as goal

abbrev pub decreases-krein_stands : goal.decreases-krein_stands
decreases-krein_stands l = length l.lines.now
