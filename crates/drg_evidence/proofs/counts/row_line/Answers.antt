use Rattle.std.proofs.Common.{rules, arith, ◌≡◌, sym, subst, ◌∙◌}
use Rattle.std.proofs.lemmas.Int.{to_z_pos, to_z-of_z}
use mir.Syntax.{w128}
use Rattle.drg_intersection.specs.FirstNumbers.{IsRowOf}
use Rattle.drg_evidence.proofs.LineLists.{row_is}
use Rattle.drg_evidence.proofs.counts.row_line.Goals as goal

pub returns : goal.returns
returns c = λ a are.
    let first = c.args.first.now in
    let values : c.new.result ≡ c.row.result.now = c.new.ensures ∙ c.in_ok-values.ensures.items in
    let read = subst (λ h. IsRowOf c.args.first.now h c.args.i c.row.result.now) c.from.ensures c.row.ensures in
    let row = row_is a first c.args.h c.args.i c.new.result c.requires.h c.requires.i c.requires.made (subst (IsRowOf c.args.first.now c.args.h c.args.i) (sym values) read) are in (
      to_z-of_z w128 c.from-2.result (search rules) ∙ c.from-2.ensures,
      to_z_pos w128 c.args.i (omega (arith, c.ranges.i.fits)),
      row.0,
      row.1,
    )
