-- How a run ends: the exit number of a status, its text, and which statuses are refusals.
use Rattle.std.specs.Prelude.{ℕ, List, ◌++◌, codes, decimal, ⊤}
use Rattle.drg_program.specs.declared.status.Status.{Status}
use Rattle.drg_program.specs.declared.status.Status.TheVariants.{Survivor, Infeasible, RefusedSpectrum, Undecided, Accepted, Rejected, Done, Usage, BadInput, TooLong, OpenFault, ReadFault, WriteFault, Memory}

-- the number with which the program ends
abbrev pub exit_of : Status → ℕ
exit_of Survivor = 0
exit_of Infeasible = 1
exit_of RefusedSpectrum = 2
exit_of Undecided = 3
exit_of Accepted = 0
exit_of Rejected = 5
exit_of Done = 0
exit_of Usage = 64
exit_of (BadInput line at) = 65
exit_of TooLong = 66
exit_of OpenFault = 67
exit_of ReadFault = 68
exit_of WriteFault = 69
exit_of Memory = 71

-- the words that tell the status, as standard error has them of a refusal
abbrev pub status_text : Status → List ℕ
status_text Survivor = codes "survivor"
status_text Infeasible = codes "infeasible"
status_text RefusedSpectrum = codes "refused-spectrum"
status_text Undecided = codes "undecided"
status_text Accepted = codes "accepted"
status_text Rejected = codes "rejected"
status_text Done = codes "done"
status_text Usage = codes "usage"
status_text (BadInput line at) = codes "bad input, line " ++ decimal line ++ codes ", place " ++ decimal at
status_text TooLong = codes "input too long"
status_text OpenFault = codes "cannot open"
status_text ReadFault = codes "cannot read"
status_text WriteFault = codes "cannot write"
status_text Memory = codes "no memory"

-- the run ended without its whole report
abbrev pub IsRefusal : Status → Type 0
IsRefusal Usage = ⊤
IsRefusal (BadInput line at) = ⊤
IsRefusal TooLong = ⊤
IsRefusal OpenFault = ⊤
IsRefusal ReadFault = ⊤
IsRefusal WriteFault = ⊤
IsRefusal Memory = ⊤
IsRefusal status = ⊥

-- a refusal before the writing began
abbrev pub IsEarly : Status → Type 0
IsEarly WriteFault = ⊥
IsEarly status = IsRefusal status
