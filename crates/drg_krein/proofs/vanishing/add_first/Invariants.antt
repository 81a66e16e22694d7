use Rattle.drg_krein.specs.Vanishing.{AreVanishingBefore}
use Rattle.drg_krein.proofs.vanishing.add_first.Given as goal

abbrev pub invariant-seconds : goal.invariant-seconds
invariant-seconds g l =
    let f = g.F.Field in
    AreVanishingBefore f.value f.operations l.krein l.i l.j 0 l.found.items
