use Rattle.drg_solver.proofs.Prunings.{is_closing}
use Rattle.drg_solver.proofs.pruning.pruned.Goals as goal

pub returns-clause-closing : goal.returns-clause-closing
returns-clause-closing c =
    let followed = rw c.in-Some.is at c.in_ok-followed.ensures in
    is_closing c.args.system.now c.in_ok-all.all.items c.in-Some.followed.items c.append.new.self.items c.name_used.new.branches c.in_ok-branches.ensures.room c.in_ok-all.ensures followed c.requires c.in_ok-append.ensures.items
