use Rattle.std.proofs.Common.{◌≡◌, ℕ, ◌+◌, ◌-◌, ◌≤◌, ◌<◌, length, refl, sym, ap, subst, ◌∙◌, arith}
use Rattle.std.specs.Option.{MatchOption}
use Rattle.std.proofs.lemmas.Bool.Decides.{nat_tests}
use Rattle.drg_census.proofs.Sizes.{first_size, next_sizes, no_size, other_count, too_many}
use Rattle.drg_census.proofs.beginning.sizes_allow.Goals as goal

pub sizes-init : goal.sizes-init
sizes-init c =
    let s = c.args.sought in
    record { known = first_size s.d s.k s.n c.args.beginning.now; within = omega arith; most = (let m = c.requires.limits.some_vertices in omega arith) }

pub returns-in_default : goal.returns-in_default
returns-in_default c = λ e.
    let s = c.args.sought in
    no_size s.d s.k s.n c.args.beginning.now c.requires c.sizes.i c.sizes.size c.sizes.sum (omega arith) c.sizes.invariant.known c.in_default.ensures

pub returns-then-next-sought : goal.returns-then-next-sought
returns-then-next-sought c = λ e.
    let s = c.args.sought in
    let l = c.requires.short in
    let next = next_sizes s.d s.k s.n c.args.beginning.now c.requires c.sizes.i c.sizes.size c.sizes.sum (omega arith) c.sizes.invariant.known c.in-Some.next c.in-Some.ensures in
    too_many s.d s.k s.n c.args.beginning.now c.requires (c.sizes.i + 1) c.in-Some.next (c.sizes.sum + c.in-Some.next) next (omega arith) (omega arith)

pub sizes-preserved : goal.sizes-preserved
sizes-preserved c =
    let s = c.args.sought in
    record {
      known = next_sizes s.d s.k s.n c.args.beginning.now c.requires c.sizes.i c.sizes.size c.sizes.sum (omega arith) c.sizes.invariant.known c.in-Some.next c.in-Some.ensures;
      within = omega arith;
      most = omega arith;
    }

pub returns-else-sizes-sought : goal.returns-else-sizes-sought
returns-else-sizes-sought c = λ e.
    let s = c.args.sought in
    let l = c.requires.short in
    other_count s.d s.k s.n c.args.beginning.now c.requires c.sizes.i c.sizes.size c.sizes.sum c.sizes.invariant.known (omega arith) (λ same. grind (arith, nat_tests, e, same))
