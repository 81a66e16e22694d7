use Rattle.std.proofs.Common.{◌≡◌, sym, ap, subst, ◌∙◌, arith}
use Rattle.drg_array.specs.Entries.{b_at, diameter}
use Rattle.drg_intersection.specs.Faults.{IsNumbersFault}
use Rattle.drg_census.proofs.Deciding.{basic_fails, fault_fails, never_wide, late_of, member}
use Rattle.drg_census.proofs.member.is_member.Goals as goal

pub returns-in-Some : goal.returns-in-Some
returns-in-Some c =
    let a = c.args.array.now in
    (λ t. cc, λ is. absurd (basic_fails c.condition_law.ensures.fails (diameter a) (b_at a 0) c.args.n a c.in-Some._claim c.in-Some.ensures.basic c.in-Some.ensures.fails is))

pub returns-in-Ok : goal.returns-in-Ok
returns-in-Ok c =
    let a = c.args.array.now in
    let told = c.numbers_pass.ensures a c.known_valid.ensures c.in-Ok.ensures.numbers in (
      λ t. member c.condition_law.ensures.holds c.args.n a c.known_valid.ensures c.in_default.ensures.none c.in-Ok.ensures.size c.in-Ok.ensures.intersect (told.0 t),
      λ is. told.1 (late_of (diameter a) (b_at a 0) c.args.n a is),
    )

pub returns-in-Err-Fall : goal.returns-in-Err-Fall
returns-in-Err-Fall c =
    let a = c.args.array.now in
    let fault = subst (IsNumbersFault a) c.in-Err-Fall.field-0-is c.in-Err-Fall.ensures.fault in
    (λ t. cc, λ is. absurd (fault_fails c.condition_law.ensures.fails (diameter a) (b_at a 0) c.args.n a c.in-Err-Fall.field-0-0 fault is))

pub returns-in-Err-Wide : goal.returns-in-Err-Wide
returns-in-Err-Wide c =
    let a = c.args.array.now in
    let fault = subst (IsNumbersFault a) c.in-Err-Wide.field-0-is c.in-Err-Wide.ensures.fault in
    (λ t. cc, λ is. absurd (never_wide (diameter a) (b_at a 0) c.args.n a c.in-Err-Wide.field-0-0 c.requires fault is))
