use Rattle.std.proofs.Common.{◌≡◌, ℕ, suc, ◌+◌, ◌-◌, [], ◌∷◌, ◌++◌, map, ◌∙◌, ap, arith, append_assoc}
use Rattle.serde_json.specs.View.{view}
use Rattle.drg_json.specs.Tables.{pair_data, pairs_of_index}
use Rattle.drg_json.proofs.Steps.{pushed}
use Rattle.drg_json.proofs.krein.push_pairs.Goals as goal

pub seconds-preserved : goal.seconds-preserved
seconds-preserved g c =
    let f = g.F.Field in
    let t = c.args.krein.now in
    let i = c.args.i in
    let j = c.seconds.j in
    let old = map view c.args.list.now.items in
    let here : j ≡ i + (j - i) = omega (arith, c.seconds.auto.j) in
    let next : suc (j - i) ≡ j + 1 - i = omega (arith, c.seconds.auto.j) in
    let same = ap (λ (l : ℕ). pair_data f.value f.operations t i l) here in
    let front = pairs_of_index f.value f.operations t i (j - i) in
    let item = pair_data f.value f.operations t i (i + (j - i)) in
    pushed c.seconds.list.items (old ++ front) c.in_ok-pair.field-0 item c.seconds.invariant c.in_ok-push.ensures.items (c.in_ok-pair.ensures ∙ same)
    ∙ (append_assoc old front (item ∷ []) ∙ ap (λ (m : ℕ). old ++ pairs_of_index f.value f.operations t i m) next)
