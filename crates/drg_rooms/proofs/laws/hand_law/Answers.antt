use Rattle.drg_rooms.proofs.HandLaws.{answer_of_the_room, effect_on_the_room}
use Rattle.drg_rooms.proofs.laws.hand_law.Goals as goal

pub returns : goal.returns
returns c = record { answer = answer_of_the_room; effect = effect_on_the_room }
