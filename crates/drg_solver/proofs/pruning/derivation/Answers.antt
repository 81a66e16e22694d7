use Rattle.drg_solver.proofs.Prunings.{is_whole_closing}
use Rattle.drg_solver.proofs.pruning.derivation.Goals as goal

pub returns : goal.returns
returns c =
    is_whole_closing c.args.system.now c.in_ok-all-2.all.items c.args.lines.items c.append.new.self.items c.in_ok-all.ensures.room c.in_ok-all-2.ensures c.requires.closed c.requires.none c.in_ok-append.ensures.items
