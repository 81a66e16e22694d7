-- What a line comes to, and what it makes, depends on the room in hand alone.
use Rattle.std.proofs.Common.{refl}
use Rattle.drg_derivation.specs.declared.line.Line.TheVariants.{Comb, Low, High, Split, Miss, Mod, Void}
use Rattle.drg_rooms.specs.Laws.{AnswerOfTheRoom, EffectOnTheRoom}

pub answer_of_the_room : AnswerOfTheRoom
answer_of_the_room d equations room kept (Comb m values) = refl
answer_of_the_room d equations room kept (Low r s t v n) = refl
answer_of_the_room d equations room kept (High r s t v n) = refl
answer_of_the_room d equations room kept (Split r s t v) = refl
answer_of_the_room d equations room kept (Miss n) = refl
answer_of_the_room d equations room kept (Mod n g) = refl
answer_of_the_room d equations room kept (Void r s t) = refl
answer_of_the_room d equations room kept _ = refl

pub effect_on_the_room : EffectOnTheRoom
effect_on_the_room d equations room kept (Comb m values) = refl
effect_on_the_room d equations room kept (Low r s t v n) = refl
effect_on_the_room d equations room kept (High r s t v n) = refl
effect_on_the_room d equations room kept (Split r s t v) = refl
effect_on_the_room d equations room kept (Miss n) = refl
effect_on_the_room d equations room kept (Mod n g) = refl
effect_on_the_room d equations room kept (Void r s t) = refl
effect_on_the_room d equations room kept _ = refl
