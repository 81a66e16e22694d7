use Rattle.std.proofs.Common.{length}
use Rattle.drg_replay.proofs.krein_lines.+krein_numbers.Given as goal

abbrev pub decreases-krein_numbers : goal.decreases-krein_numbers
decreases-krein_numbers l = length l.lines.now
