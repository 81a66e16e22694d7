use Rattle.drg_bounds.proofs.BoundSigns.{negative_by_sign}
use Rattle.drg_bounds.proofs.signs.is_below.Goals as goal

pub returns : goal.returns
returns g c =
    let f = g.F.Field in
    let laws = g.met.F.Field.laws (f.root_of c.args.value) (g.met.F.Field.has_root c.args.value) in
    negative_by_sign laws (f.value c.args.value) c.in-Ok.sign c.is_less.result (g.met.F.Field.over c.args.value) c.in-Ok.ensures.value c.is_less.ensures
