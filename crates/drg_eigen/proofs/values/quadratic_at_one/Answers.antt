use Rattle.std.proofs.Common.{◌≡◌, rules, ◌∙◌, sym, subst}
use Rattle.std.proofs.lemmas.Int.{to_z-of_z}
use mir.Val.{to_z, of_z}
use mir.Syntax.{w32, w128}
use Rattle.drg_whole.specs.Range.{InRange}
use Rattle.drg_eigen.proofs.SmallNumbers.{less_and_more, less_in_range}
use Rattle.drg_eigen.proofs.values.quadratic_at_one.Goals as goal

pub new-requires : goal.new-requires
new-requires c =
    let s : to_z w128 (of_z w128 c.from.result) ≡ c.args.s = to_z-of_z w128 c.from.result (search rules) ∙ (c.from.ensures ∙ to_z-of_z w32 c.args.s (search rules)) in
    let t : to_z w128 (of_z w128 c.from-2.result) ≡ c.args.t = to_z-of_z w128 c.from-2.result (search rules) ∙ (c.from-2.ensures ∙ to_z-of_z w32 c.args.t (search rules)) in
    subst InRange (sym (less_and_more c.args.s c.args.t c.from.result c.from-2.result c.ranges.s c.ranges.t s t)) (less_in_range c.args.s c.args.t c.from.result c.from-2.result c.ranges.s c.ranges.t s t)

pub returns : goal.returns
returns c =
    let s : to_z w128 (of_z w128 c.from.result) ≡ c.args.s = to_z-of_z w128 c.from.result (search rules) ∙ (c.from.ensures ∙ to_z-of_z w32 c.args.s (search rules)) in
    let t : to_z w128 (of_z w128 c.from-2.result) ≡ c.args.t = to_z-of_z w128 c.from-2.result (search rules) ∙ (c.from-2.ensures ∙ to_z-of_z w32 c.args.t (search rules)) in
    c.new.ensures ∙ less_and_more c.args.s c.args.t c.from.result c.from-2.result c.ranges.s c.ranges.t s t
