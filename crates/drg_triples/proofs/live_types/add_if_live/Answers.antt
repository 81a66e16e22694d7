use Rattle.std.proofs.Common.{rules, ◌≡◌, [], ◌∷◌, ◌++◌, suc, refl, ap, ◌∙◌, to_z, of_z}
use Rattle.std.specs.Int.{w128}
use Rattle.std.proofs.lemmas.Int.{to_z-of_z}
use Rattle.drg_linear.specs.declared.triple.TripleType.{TripleType}
use Rattle.drg_triples.specs.LiveTypes.{IsLiveType}
use Rattle.drg_triples.proofs.TypeLists.{live_skip, live_push, is_positive, not_positive}
use Rattle.drg_triples.proofs.live_types.add_if_live.Goals as goal

pub returns-in_ok-push : goal.returns-in_ok-push
returns-in_ok-push c =
    let same : to_z w128 (of_z w128 c.p.result) ≡ c.p.result = to_z-of_z w128 _ (search rules) in
    let named : IsLiveType c.args.numbers.now (record { u = c.args.u; v = c.args.v; w = c.args.w }) = record {
      some = c.requires.some;
      first = c.requires.first;
      second = c.requires.second;
      inside = c.requires.inside;
      live = is_positive _ _ _ same c.p.ensures c.if-p-gt0.true;
    } in
    live_push c.args.numbers.now c.args.u c.args.v c.args.w (suc c.args.w) refl c.args.found.now.items c.requires.before _
    (c.in_ok-push.ensures.items ∙ ap (λ (s : TripleType). c.args.found.now.items ++ s ∷ []) c.triple.ensures) named

pub returns-else-p-gt0 : goal.returns-else-p-gt0
returns-else-p-gt0 c =
    let same : to_z w128 (of_z w128 c.p.result) ≡ c.p.result = to_z-of_z w128 _ (search rules) in
    live_skip c.args.numbers.now c.args.u c.args.v c.args.w (suc c.args.w) refl c.args.found.now.items c.requires.before
    (not_positive _ _ _ same c.p.ensures c.if-p-gt0.false)
