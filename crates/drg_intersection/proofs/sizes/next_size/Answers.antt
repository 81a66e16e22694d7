use Rattle.std.proofs.Common.{◌≡◌, arith, suc, ap, subst, sym, ◌∙◌}
use Rattle.std.specs.Prelude.{pos, ◌*ℤ◌}
use Rattle.drg_array.specs.Entries.{b_at, c_at}
use Rattle.drg_array.specs.declared.claim.Claim.TheVariants.{Size}
use Rattle.drg_array.specs.declared.node.Node.TheVariants.{K}
use Rattle.drg_intersection.specs.Faults.{IsNumbersFault}
use Rattle.drg_intersection.specs.declared.fault.NumbersFault.TheVariants.{Fall, Wide}
use Rattle.drg_intersection.proofs.SizeLaws.{size_wide, size_falls, size_next, size_passes}
use Rattle.drg_intersection.proofs.sizes.next_size.Goals as goal

pub returns-in_default-clause-fault : goal.returns-in_default-clause-fault
returns-in_default-clause-fault c =
    let next : suc c.args.i ≡ c.index-i_next.result = omega (arith, c.index-i_next.ensures) in
    subst (λ n. IsNumbersFault c.args.array.now (Wide (K n))) next
    (size_wide c.args.array.now c.args.i c.args.last.value c.requires.array c.requires.inside c.requires.last c.requires.reached c.in_default.ensures)

pub returns-in-Some-clause-size : goal.returns-in-Some-clause-size
returns-in-Some-clause-size c =
    let meet : pos (c_at c.args.array.now (suc c.args.i)) *ℤ c.in-Some.size.value ≡ c.args.last.value *ℤ pos (b_at c.args.array.now c.args.i) =
    ap (λ z. z *ℤ c.in-Some.size.value) (sym c.divisor.ensures.value) ∙ (c.in-Some.ensures.some ∙ c.in-Ok.ensures.1) in
    size_next c.args.array.now c.args.i c.args.last.value c.requires.array c.requires.inside c.requires.last c.requires.reached c.in-Some.size.value meet

pub returns-in-Some-clause-passes : goal.returns-in-Some-clause-passes
returns-in-Some-clause-passes c =
    let meet : pos (c_at c.args.array.now (suc c.args.i)) *ℤ c.in-Some.size.value ≡ c.args.last.value *ℤ pos (b_at c.args.array.now c.args.i) =
    ap (λ z. z *ℤ c.in-Some.size.value) (sym c.divisor.ensures.value) ∙ (c.in-Some.ensures.some ∙ c.in-Ok.ensures.1) in
    size_passes c.args.array.now c.args.i c.args.last.value c.requires.array c.requires.inside c.requires.last c.requires.reached c.in-Some.size.value c.in-Ok.ensures.0 meet

pub returns-in-None-clause-fault : goal.returns-in-None-clause-fault
returns-in-None-clause-fault c =
    let next : suc c.args.i ≡ c.index-i_next.result = omega (arith, c.index-i_next.ensures) in
    subst (λ n. IsNumbersFault c.args.array.now (Fall (Size n))) next
    (size_falls c.args.array.now c.args.i c.args.last.value c.requires.array c.requires.inside c.requires.last c.requires.reached c.in-Ok.ensures.0
    (λ q e. c.in-None.ensures.none q (ap (λ z. z *ℤ q) c.divisor.ensures.value ∙ (e ∙ sym c.in-Ok.ensures.1))))
