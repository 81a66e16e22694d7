use Rattle.drg_krein.specs.Vanishing.{AreVanishingBefore}
use Rattle.drg_krein.proofs.vanishing.vanishing_of.Given as goal

abbrev pub invariant-firsts : goal.invariant-firsts
invariant-firsts g l =
    let f = g.F.Field in
    AreVanishingBefore f.value f.operations l.krein l.i 0 0 l.found.items
