use Rattle.std.proofs.Common.{◌≡◌, ◌∙◌, ◌<◌, arith, rules, to_z, of_z, length, length-set, ℤ}
use Rattle.std.specs.Int.{w128}
use Rattle.std.proofs.lemmas.Int.{to_z-of_z}
use Rattle.drg_derivation.proofs.ListLaws.{leading-step, next-at}
use Rattle.drg_derivation.proofs.evidence.take_leading.Goals as goal

pub leading-preserved : goal.leading-preserved
leading-preserved c =
    let v : to_z w128 (of_z w128 c.unwrap_or.result) ≡ c.unwrap_or.result = to_z-of_z w128 _ (search rules) in
    let five = c.leading.invariant.five in
    let within = c.requires.within in
    let few = c.requires.few in
    let inside : c.leading.place < length c.args.numbers.now = omega arith in
    let room : c.leading.place < length c.leading.leading = omega arith in
    let next = next-at _ _ _ _ c.leading.place c.next.ensures.steps c.leading.invariant.rest inside in
    record {
      five = omega (arith, length-set {A = ℤ});
      leading = leading-step _ _ _ _ room inside (v ∙ (c.unwrap_or.ensures ∙ next.0)) c.leading.invariant.leading;
      rest = next.1;
    }
