use Rattle.std.proofs.Common.{◌≡◌, ◌+◌, reverse, take}
use Rattle.drg_replay.specs.HasJudged.{HasJudged}
use Rattle.drg_replay.proofs.judge.replay_lines.Given as goal

abbrev pub invariant-lines : goal.invariant-lines
invariant-lines l = record {
  number : l.judge.line ≡ l.line-index + 4;
  judged : HasJudged l.judge l.array l.fn.claim (reverse (take l.line-index l.lines));
}
