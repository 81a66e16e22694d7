use Rattle.std.proofs.Common.{◌≡◌, ◌+◌, length, replicate, None, add-one, sym, ap, subst, ◌∙◌, arith, rules}
use Rattle.std.proofs.lemmas.List.{length-replicate}
use Rattle.drg_edges.specs.References.{AreAlike, AreReferences}
use Rattle.drg_edges.proofs.Neighbours.{rows_length, length-below, refilled}
use Rattle.drg_edges.proofs.PairByPair.{references_start, alike_start}
use Rattle.drg_edges.proofs.search.array_of.Goals as goal

pub first_apart-requires-clause-several : goal.first_apart-requires-clause-several
first_apart-requires-clause-several c =
    let count = ap length c.count-count.ensures.vertices ∙ length-below c.count-count.result in
    let least = c.count-count.ensures.range.0 in
    omega (arith, count, least)

pub vertices-init : goal.vertices-init
vertices-init c =
    let made = c.in_ok-references.references in
    let all : made.items ≡ replicate c.from.result None = c.in_ok-references.ensures.items_if_clones_equal (search rules) in
    let long = ap length all ∙ length-replicate c.from.result None in
    let count = ap length c.count-count.ensures.vertices ∙ length-below c.count-count.result in
    let same = rows_length c.args.graph.now c.in_ok-rows.rows.items c.in_ok-rows.ensures in
    let at = c.from.ensures in
    record {
      long = omega (arith, long, count, same, at);
      references = references_start c.args.graph.now made.items c.from.result all;
      alike = alike_start c.args.graph.now;
    }

pub vertices-preserved : goal.vertices-preserved
vertices-preserved c =
    let g = c.args.graph.now in
    let x = c.vertices.x in
    let references = c.vertices.references in
    let new = c.compare.new.references in
    let before = c.vertices.invariant in
    let long : length new ≡ length references.items = c.compare.ensures.length ∙ ap length c.deref_mut.ensures.value in
    let same = refilled references.len new references.items long (omega (arith, references.ok.0)) in
    record {
      long = ap length same ∙ (long ∙ before.long);
      references = subst (λ rs. AreReferences g (x + 1) 0 rs) (sym same) (subst (λ k. AreReferences g k 0 new) (sym (add-one x)) c.in_default-compare.ensures.references);
      alike = subst (λ k. AreAlike g k 0) (sym (add-one x)) c.in_default-compare.ensures.alike;
    }

pub regular-requires-clause-alike : goal.regular-requires-clause-alike
regular-requires-clause-alike c =
    let g = c.args.graph.now in
    let count = ap length c.count-count.ensures.vertices ∙ length-below c.count-count.result in
    let same = rows_length g c.in_ok-rows.rows.items c.in_ok-rows.ensures in
    let long = c.vertices.invariant.long in
    let lent = ap length c.deref-2.ensures.value in
    let end : c.vertices.x ≡ length c.deref-2.result.now = omega (arith, count, same, long, lent, c.vertices.auto.x-end, c.vertices-test.false) in
    subst (λ k. AreAlike g k 0) end c.vertices.invariant.alike
