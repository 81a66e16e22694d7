use Rattle.std.proofs.Common.{sym, subst}
use Rattle.drg_intersection.specs.Numbers.{Numbers, AreNumbersOf}
use Rattle.drg_intersection.proofs.Views.{first_are}
use Rattle.drg_intersection.proofs.numbers.Numbers.first.Goals as goal

pub returns-clause-are : goal.returns-clause-are
returns-clause-are c = λ a are.
    let table : Numbers = record { d = c.self.inside.first.d; sizes = c.self.inside.first.sizes; vertices = c.self.inside.n; table = c.self.inside.first.table } in
    first_are a table c.self.invariant (subst (AreNumbersOf a) (sym c.self.view_is) are)
