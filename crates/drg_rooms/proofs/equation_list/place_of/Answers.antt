use Rattle.drg_linear.specs.Sameness.{same_equation}
use Rattle.std.specs.List.{list_any}
use Rattle.drg_rooms.proofs.StoreLaws.{places_after, stands_in}
use Rattle.drg_rooms.proofs.equation_list.place_of.Goals as goal

pub returns-clause-place : goal.returns-clause-place
returns-clause-place c =
    let found = c.in_ok-place.ensures.stored in
    stands_in c.insert_full.new.self.keys c.in_ok-place.place c.args.equation found.0 c.in_ok-place.ensures.within found.1 found.2

pub returns-clause-others : goal.returns-clause-others
returns-clause-others c =
    rw c.in_ok-place.ensures.keys (places_after (list_any (same_equation c.args.equation) c.args.distinct.now.keys) c.args.distinct.now.keys c.args.equation)
