use Rattle.std.proofs.Common.{pos, [], ◌∷◌, ◌++◌, ap, ap₂, sym, ◌∙◌}
use Rattle.drg_linear.specs.declared.unknown.Unknown.{Unknown}
use Rattle.drg_linear.specs.Rooms.{Bounds, RoomBounds}
use Rattle.drg_linear.specs.Triples.{high_bound}
use Rattle.drg_triples.specs.LiveTypes.{number_in}
use Rattle.drg_triples.proofs.Steps.{room_more}
use Rattle.drg_triples.proofs.room.starting_bounds.Goals as goal

pub places-preserved : goal.places-preserved
places-preserved c =
    let p = number_in c.args.numbers.now in
    let bounds = c.bounds_of.ensures ∙ ap (λ (n : Unknown). (pos 0, high_bound p c.args.ty n)) c.unknown_at.ensures.value in
    c.in_ok-push.ensures.items
    ∙ (ap₂ (λ (l : RoomBounds) (b : Bounds). l ++ b ∷ []) c.places.invariant bounds ∙ sym (room_more c.args.d p c.args.ty c.places.place))
