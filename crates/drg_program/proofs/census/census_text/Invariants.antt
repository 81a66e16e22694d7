use Rattle.std.proofs.Common.{◌≡◌, take}
use Rattle.drg_program.specs.Census.{census_text}
use Rattle.drg_program.proofs.census.census_text.Given as goal

abbrev pub invariant-arrays : goal.invariant-arrays
invariant-arrays l = l.text.items ≡ census_text (take l.array-index l.arrays)
