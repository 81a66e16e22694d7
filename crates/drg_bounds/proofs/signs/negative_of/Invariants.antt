use Rattle.drg_bounds.specs.Signs.{NoneNegativeBefore}
use Rattle.drg_bounds.proofs.signs.negative_of.Given as goal

abbrev pub invariant-seconds : goal.invariant-seconds
invariant-seconds g l =
    let f = g.F.Field in
    NoneNegativeBefore f.value f.operations l.krein l.i l.j 0
