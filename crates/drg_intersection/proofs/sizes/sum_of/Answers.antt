use Rattle.std.proofs.Common.{◌≡◌, ◌≤◌, rules, arith, suc, ◌+◌, ap, subst, sym, ◌∙◌, true, false, inl, inr}
use Rattle.std.specs.Prelude.{pos, ◌+ℤ◌, ◌≤ℤ◌, slice_index_or}
use Rattle.std.proofs.lemmas.Int.{ints, to_z-of_z}
use mir.Val.{to_z, of_z}
use mir.Syntax.{w128}
use Rattle.drg_algebra.specs.Rational.{whole, plus}
use Rattle.drg_algebra.specs.Tables.{total}
use Rattle.drg_array.specs.Entries.{diameter}
use Rattle.drg_array.specs.Numbers.{size, IsWhole}
use Rattle.drg_whole.specs.Range.{in_range}
use Rattle.drg_intersection.specs.Fits.{IsInRange}
use Rattle.drg_intersection.proofs.Places.{two_cases}
use Rattle.drg_intersection.proofs.Ranges.{range_in, range_out, is_whole}
use Rattle.drg_intersection.proofs.SizeLaws.{sum_next}
use Rattle.drg_intersection.proofs.sizes.sum_of.Goals as goal

pub returns-in_default-clause-fault : goal.returns-in_default-clause-fault
returns-in_default-clause-fault c =
    let here = c.requires.sizes c.sizes.size-index c.sizes-test.true in
    let x : to_z w128 (of_z w128 (slice_index_or c.args.sizes.now c.sizes.size-index (pos 0))) ≡ slice_index_or c.args.sizes.now c.sizes.size-index (pos 0) = to_z-of_z w128 _ (search rules) in
    let wide : in_range (c.sizes.sum.value +ℤ slice_index_or c.args.sizes.now c.sizes.size-index (pos 0)) ≡ false =
    subst (λ z. in_range (c.sizes.sum.value +ℤ z) ≡ false) (c.new.ensures ∙ x) c.in_default.ensures in
    let within : c.sizes.size-index ≤ diameter c.args.array.now = omega (arith, c.sizes-test.true, c.requires.length) in
    record {
      is_node = tt;
      reached = c.requires.reached;
      wide = λ f. range_out _ _ (sum_next (size c.args.array.now) c.sizes.size-index c.sizes.sum.value _ c.sizes.invariant.sum here.is) wide (f c.sizes.size-index within);
    }

pub sizes-preserved : goal.sizes-preserved
sizes-preserved c =
    let a = c.args.array.now in
    let here = c.requires.sizes c.sizes.size-index c.sizes-test.true in
    let x : to_z w128 (of_z w128 (slice_index_or c.args.sizes.now c.sizes.size-index (pos 0))) ≡ slice_index_or c.args.sizes.now c.sizes.size-index (pos 0) = to_z-of_z w128 _ (search rules) in
    let fits : in_range (c.sizes.sum.value +ℤ slice_index_or c.args.sizes.now c.sizes.size-index (pos 0)) ≡ true =
    subst (λ z. in_range (c.sizes.sum.value +ℤ z) ≡ true) (c.new.ensures ∙ x) c.in-Ok.ensures.0 in
    let next : c.in-Ok.next.value ≡ c.sizes.sum.value +ℤ slice_index_or c.args.sizes.now c.sizes.size-index (pos 0) =
    c.in-Ok.ensures.1 ∙ ap (λ z. c.sizes.sum.value +ℤ z) (c.new.ensures ∙ x) in
    let sum : total (whole (pos 0)) plus (suc c.sizes.size-index) (size c.args.array.now) ≡ whole (c.sizes.sum.value +ℤ slice_index_or c.args.sizes.now c.sizes.size-index (pos 0)) =
    sum_next (size c.args.array.now) c.sizes.size-index c.sizes.sum.value _ c.sizes.invariant.sum here.is in
    let one : suc c.sizes.size-index ≡ c.sizes.size-index + 1 = omega arith in
    let above : pos 0 ≤ℤ slice_index_or c.args.sizes.now c.sizes.size-index (pos 0) = here.natural in
    let natural : pos 0 ≤ℤ (c.sizes.sum.value +ℤ slice_index_or c.args.sizes.now c.sizes.size-index (pos 0)) = omega (arith, ints, c.sizes.invariant.natural, above) in
    record {
      sum = subst (λ m. total (whole (pos 0)) plus m (size a) ≡ whole c.in-Ok.next.value) one (sum ∙ ap whole (sym next));
      natural = subst (λ z. pos 0 ≤ℤ z) (sym next) natural;
      fits = λ i less. elim (two_cases i c.sizes.size-index (omega (arith, less))) [
        | inl same ↦ subst (λ m. IsInRange (total (whole (pos 0)) plus (suc m) (size a))) (sym same) (range_in _ _ sum fits)
        | inr below ↦ c.sizes.invariant.fits i below
      ];
    }

pub returns-clause-sum : goal.returns-clause-sum
returns-clause-sum c =
    let all : c.sizes.size-index ≡ suc (diameter c.args.array.now) = omega (arith, c.sizes-test.false, c.sizes.auto.size-index-end, c.requires.length) in
    let x : to_z w128 (of_z w128 c.sizes.sum.value) ≡ c.sizes.sum.value = to_z-of_z w128 c.sizes.sum.value (search rules) in
    subst (λ m. total (whole (pos 0)) plus m (size c.args.array.now) ≡ whole (to_z w128 (of_z w128 c.sizes.sum.value))) all (c.sizes.invariant.sum ∙ ap whole (sym x))

pub returns-clause-passes : goal.returns-clause-passes
returns-clause-passes c =
    let all : c.sizes.size-index ≡ suc (diameter c.args.array.now) = omega (arith, c.sizes-test.false, c.sizes.auto.size-index-end, c.requires.length) in
    let sum = subst (λ m. total (whole (pos 0)) plus m (size c.args.array.now) ≡ whole c.sizes.sum.value) all c.sizes.invariant.sum in
    record {
      fits = λ i within. c.sizes.invariant.fits i (omega (arith, within, all));
      right = subst IsWhole (sym sum) (is_whole c.sizes.sum.value);
    }
