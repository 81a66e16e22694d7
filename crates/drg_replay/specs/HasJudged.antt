-- A judge has judged the lines that it has taken.
use Rattle.std.specs.Prelude.{◌≡◌, ◌+◌, List, length}
use Rattle.drg_array.specs.Entries.{Entries}
use Rattle.drg_array.specs.declared.claim.Claim.{Claim}
use Rattle.drg_derivation.specs.declared.line.Line.{Line}
use Rattle.drg_replay.specs.declared.judge.Judge.{Judge}
use Rattle.drg_replay.specs.Answers.{progress_of}

-- the lines have the newest first
pub record HasJudged (judge : Judge) (a : Entries) (claim : Claim) (lines : List Line) : Type 0 where
  -- what the lines come to
  pub progress : judge.progress ≡ progress_of a claim lines
  -- the number of the next line
  pub line : judge.line ≡ length lines + 4
