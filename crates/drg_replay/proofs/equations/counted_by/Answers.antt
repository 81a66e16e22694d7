use Rattle.std.proofs.Common.{rules, ◌≡◌, to_z, of_z, refl, ap, ◌∙◌}
use Rattle.std.specs.Int.{w128}
use Rattle.std.proofs.lemmas.Int.{to_z-of_z}
use Rattle.drg_replay.specs.Systems.{vertex_of}
use Rattle.drg_replay.proofs.LineLaws.{condition_holds, index_found}
use Rattle.drg_replay.proofs.equations.counted_by.Goals as goal

pub returns : goal.returns
returns c =
    let n : to_z w128 (of_z w128 c.args.n) ≡ c.args.n = to_z-of_z w128 _ (search rules) in
    let x : to_z w128 (of_z w128 c.args.x) ≡ c.args.x = to_z-of_z w128 _ (search rules) in
    let y : to_z w128 (of_z w128 c.args.y) ≡ c.args.y = to_z-of_z w128 _ (search rules) in
    let live = c.is_live.ensures in
    let holds = condition_holds _ c.in_ok-met_where.ensures in
    let vertex = index_found 1 3 3 _ _ _ c.in_ok-index.ensures n refl in
    let first = index_found 1 _ _ _ _ _ c.in_ok-index-2.ensures x c.d-d.ensures.value in
    let second = index_found 1 _ _ _ _ _ c.in_ok-index-3.ensures y c.d-d.ensures.value in (
      cc,
      vertex.0,
      first.0,
      second.0,
      c.vertex_of.ensures ∙ ap vertex_of n,
      c.as_byte-x.ensures ∙ first.1,
      c.as_byte-y.ensures ∙ second.1,
    )
