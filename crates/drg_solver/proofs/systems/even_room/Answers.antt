use Rattle.std.proofs.Common.{◌≡◌, ℕ, zero, suc, ◌*◌, rules, pos, true, replicate, refl, sym, subst}
use Rattle.std.proofs.lemmas.List.{length-replicate}
use Rattle.drg_linear.specs.Rooms.{RoomBounds, Bounds, IsRoom, are_ordered}
use Rattle.drg_solver.proofs.systems.even_room.Goals as goal

abbrev even : Bounds
even = (pos 0, pos 2)

ordered : (n : ℕ) → are_ordered (replicate n even) ≡ true
ordered zero = refl
ordered (suc n) = ordered n

pub make-requires : goal.make-requires
make-requires c =
    let size = c.args.d * c.args.d * c.args.d in
    let all : c.in_ok-bounds.bounds.items ≡ replicate size even = c.in_ok-bounds.ensures.items_if_clones_equal (search rules) in
    subst (λ (bounds : RoomBounds). IsRoom (record { d = c.args.d; bounds = bounds })) (sym all) (record { d = c.requires; each = length-replicate size even; ordered = ordered size })
