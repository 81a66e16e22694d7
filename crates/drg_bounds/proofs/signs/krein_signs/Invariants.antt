use Rattle.drg_bounds.specs.Signs.{NoneNegativeBefore}
use Rattle.drg_bounds.proofs.signs.krein_signs.Given as goal

abbrev pub invariant-firsts : goal.invariant-firsts
invariant-firsts g l =
    let f = g.F.Field in
    NoneNegativeBefore f.value f.operations l.krein l.i 0 0
