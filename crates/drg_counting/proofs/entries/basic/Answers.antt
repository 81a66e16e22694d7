use Rattle.std.proofs.Common.{◌≡◌}
use Rattle.drg_array.specs.Entries.{c_at}
use Rattle.drg_counting.proofs.ClaimLaws.{before_order, before_cross, none_fails}
use Rattle.drg_counting.proofs.entries.basic.Goals as goal

pub returns-in-Some-first_order-clause-first : goal.returns-in-Some-first_order-clause-first
returns-in-Some-first_order-clause-first c =
    let first : c_at c.args.array.now 1 ≡ 1 = cc in
    before_order c.args.array.now first c.in_default.ensures.none c.in-Some-first_order.i c.in-Some-first_order.ensures.first

pub returns-in-Some-first_cross-clause-first : goal.returns-in-Some-first_cross-clause-first
returns-in-Some-first_cross-clause-first c =
    let first : c_at c.args.array.now 1 ≡ 1 = cc in
    let at = c.in-Some-first_cross.at in
    before_cross c.args.array.now first c.in_default.ensures.none c.in_default-first_order.ensures.none at.i at.j c.in-Some-first_cross.ensures.first c.in-Some-first_cross.ensures.same

pub returns-in-None-clause-none : goal.returns-in-None-clause-none
returns-in-None-clause-none c =
    let first : c_at c.args.array.now 1 ≡ 1 = cc in
    none_fails c.args.array.now first c.in_default.ensures.none c.in_default-first_order.ensures.none c.in-None.ensures.none
