use Rattle.drg_rooms.proofs.StoreLaws.{view_kept, view_pushed}
use Rattle.drg_rooms.proofs.equation_list.EquationList.push.Goals as goal
use Rattle.drg_rooms.proofs.equation_list.EquationList.push.Goals.{in-Ok-push, in-Err-push}

pub returns-in-Err : goal.returns-in-Err
returns-in-Err c = rw (← c.self.view_is) (view_kept c.self.inside.distinct.keys c.place_of.new.distinct.keys c.self.inside.order.items c.in-Err.ensures.others c.self.invariant)

pub returns-after-push : goal.returns-after-push
returns-after-push c =
    elim c.match-push.branch [
      | in-Ok-push w ↦ rw (w.result-is, w.in-Ok-push.ensures.items, ← c.self.view_is)
          (view_pushed c.self.inside.distinct.keys c.place_of.new.distinct.keys c.self.inside.order.items c.in-Ok.place c.args.equation c.in-Ok.ensures.others c.self.invariant c.in-Ok.ensures.place)
      | in-Err-push w ↦ rw (w.result-is, w.in-Err-push.ensures.items, ← c.self.view_is)
          (view_kept c.self.inside.distinct.keys c.place_of.new.distinct.keys c.self.inside.order.items c.in-Ok.ensures.others c.self.invariant)
    ]
