use Rattle.drg_bounds.specs.Signs.{NoneNegativeBefore}
use Rattle.drg_bounds.proofs.signs.negative_of_pair.Given as goal

abbrev pub invariant-thirds : goal.invariant-thirds
invariant-thirds g l =
    let f = g.F.Field in
    NoneNegativeBefore f.value f.operations l.krein l.i l.j l.h
