use Rattle.std.proofs.Common.{◌≡◌, rules, arith, suc, ◌+◌, length, ap, subst, sym, ◌∙◌}
use Rattle.std.proofs.lemmas.Int.{to_z-of_z}
use mir.Val.{to_z, of_z}
use mir.Syntax.{w128}
use Rattle.drg_array.specs.declared.node.Node.TheVariants.{K}
use Rattle.drg_whole.specs.Range.{InRange}
use Rattle.drg_intersection.specs.Faults.{IsReached}
use Rattle.drg_intersection.specs.FirstNumbers.{AreSizes, IsSizeAt}
use Rattle.drg_intersection.specs.Table.{AreInRange}
use Rattle.drg_intersection.proofs.Places.{one_more}
use Rattle.drg_intersection.proofs.Filling.{size_more, range_more}
use Rattle.drg_intersection.proofs.Reached.{next_size}
use Rattle.drg_intersection.proofs.sizes.fill_sizes.Goals as goal

pub sizes-preserved : goal.sizes-preserved
sizes-preserved c =
    let a = c.args.array.now in
    let x : to_z w128 (of_z w128 c.in_ok-size.size.value) ≡ c.in_ok-size.size.value = to_z-of_z w128 c.in_ok-size.size.value (search rules) in
    let one : suc c.sizes.i ≡ c.sizes.i + 1 = omega arith in
    let items = c.in_ok-push.ensures.items in
    let is = subst (λ z. IsSizeAt a c.sizes.i z) (sym x) c.in_ok-size.ensures.size in
    let range = subst InRange (sym x) c.in_ok-size.size.in_range in
    record {
      long = ap length items ∙ (one_more c.sizes.sizes.items _ ∙ (ap suc c.sizes.invariant.long ∙ one));
      sizes = subst (λ s. AreSizes a s) (sym items) (size_more a c.sizes.sizes.items c.sizes.i _ c.sizes.invariant.sizes c.sizes.invariant.long is);
      in_range = subst AreInRange (sym items) (range_more c.sizes.sizes.items _ c.sizes.invariant.in_range range);
      reached = subst (λ n. IsReached a (K n)) one (next_size a c.sizes.i c.sizes.invariant.reached c.in_ok-size.ensures.passes);
    }
