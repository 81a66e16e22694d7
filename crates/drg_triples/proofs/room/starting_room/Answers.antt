use Rattle.std.proofs.Common.{◌∙◌}
use Rattle.drg_triples.proofs.Steps.{is_room, room_is}
use Rattle.drg_triples.proofs.room.starting_room.Goals as goal

pub make-requires : goal.make-requires
make-requires c = is_room c.args.numbers.now c.args.ty _ _ c.d-d.ensures.value c.in_ok-bounds.ensures c.d-d.ensures.short

pub returns : goal.returns
returns c = c.make.ensures ∙ room_is c.args.numbers.now c.args.ty _ _ c.d-d.ensures.value c.in_ok-bounds.ensures
