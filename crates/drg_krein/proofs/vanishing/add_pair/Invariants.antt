use Rattle.drg_krein.specs.Vanishing.{AreVanishingBefore}
use Rattle.drg_krein.proofs.vanishing.add_pair.Given as goal

abbrev pub invariant-thirds : goal.invariant-thirds
invariant-thirds g l =
    let f = g.F.Field in
    AreVanishingBefore f.value f.operations l.krein l.i l.j l.h l.found.items
