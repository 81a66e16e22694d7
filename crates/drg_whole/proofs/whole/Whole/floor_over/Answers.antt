use Rattle.std.proofs.Common.{sym, subst, rules}
use Rattle.drg_whole.specs.Division.{IsFloor}
use Rattle.drg_whole.proofs.Floors.{floor_is}
use Rattle.drg_whole.proofs.whole.Whole.floor_over.Goals as goal

pub returns-clause-value : goal.returns-clause-value
returns-clause-value c = search rules

pub returns-clause-floor : goal.returns-clause-floor
returns-clause-floor c =
    subst (IsFloor c.args.self.value c.args.divisor.value) (sym (returns-clause-value c)) (floor_is c.args.self.value c.args.divisor.value c.requires)
