-- What a line asks of the rooms that stand, and what it makes of them, by the rules of drg_rooms.
use Rattle.std.specs.Prelude.{Bool, false, not, List, [], ◌∷◌, map, Option, Some, None}
use Rattle.drg_derivation.specs.declared.line.Line.{Line}
use Rattle.drg_rooms.specs.Content.{BranchesContent}
use Rattle.drg_rooms.specs.Lines as room_lines
use Rattle.drg_rooms.specs.Steps as room_step
use Rattle.drg_rooms.specs.declared.fault.RoomFault.{RoomFault}
use Rattle.drg_rooms.specs.declared.fault.RoomFault.TheVariants as room_fault
use Rattle.drg_replay.specs.declared.refusal.Refusal.TheVariants.{NotMet, Wide}
use Rattle.drg_replay.specs.declared.refusal.Fault.{Fault}
use Rattle.drg_replay.specs.declared.refusal.Fault.TheVariants.{Refused, Memory}
use Rattle.drg_replay.specs.Steps.{Step, Holds, Fits}

-- a step of drg_rooms as one of the replay
abbrev pub as_step : room_step.Step → Step
as_step (room_step.Holds condition) = Holds condition
as_step (room_step.Fits numbers) = Fits numbers

-- what a room line asks; none is met before the first equation of the claim's type
abbrev pub room_steps : Option BranchesContent → Line → List Step
room_steps None line = Holds false ∷ []
room_steps (Some b) line = map as_step (room_lines.steps_of b line)

-- what it makes
abbrev pub room_after : Line → Option BranchesContent → Option BranchesContent
room_after line None = None
room_after line (Some b) = Some (room_lines.after line b)

-- rooms stand, and no branch of them is open
abbrev pub are_closed : Option BranchesContent → Bool
are_closed None = false
are_closed (Some b) = not (room_lines.is_open b.branches)

-- why a room line isn't taken, as a fault of the replay
abbrev pub fault_of_room : RoomFault → Fault
fault_of_room room_fault.NotMet = Refused NotMet
fault_of_room room_fault.Wide = Refused Wide
fault_of_room room_fault.Memory = Memory
