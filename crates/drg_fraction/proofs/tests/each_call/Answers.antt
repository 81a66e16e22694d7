use Rattle.std.proofs.Common.{◌∙◌}
use Rattle.drg_fraction.proofs.tests.each_call.Goals as goal

pub of_parts-requires-clause-flat : goal.of_parts-requires-clause-flat
of_parts-requires-clause-flat g c = λ e.
    let x = c.args.x in
    let root = g.F.Field.root_of x in
    c.parts-2.ensures.root_part ∙ (g.met.F.Field.laws root (g.met.F.Field.has_root x)).flat (c.requires.x ∙ e) (g.F.Field.value x) (g.met.F.Field.over x)
