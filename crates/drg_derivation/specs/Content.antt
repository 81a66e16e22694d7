-- A derivation: an array, what it fails, and the lines that show it.
use Rattle.std.specs.Prelude.{List}
use Rattle.drg_array.specs.Entries.{Entries}
use Rattle.drg_array.specs.declared.claim.Claim.{Claim}
use Rattle.drg_derivation.specs.declared.line.Line.{Line}

pub record Content : Type 0 where
  pub array : Entries
  pub claim : Claim
  pub lines : List Line
