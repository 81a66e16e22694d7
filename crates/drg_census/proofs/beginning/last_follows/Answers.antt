use Rattle.std.proofs.Common.{◌≡◌, ℕ, ◌-◌, ◌<◌, length, ap, ◌∙◌, arith}
use Rattle.std.specs.Prelude.{slice_index}
use Rattle.std.proofs.lemmas.Bool.Decides.{nat_tests}
use Rattle.drg_census.proofs.Cuts.{b_descends_at, c_ascends_at, c_first}
use Rattle.drg_census.proofs.beginning.last_follows.Goals as goal

pub returns-then-last-sought : goal.returns-then-last-sought
returns-then-last-sought c = λ e a is b.
    let xs = c.args.beginning.now in
    let s = c.args.sought in
    let h = b_descends_at s.d s.k s.n xs a c.requires is b (length xs - 1) (length xs - 1 - 1) (omega arith) (omega arith) (omega arith) in
    grind (arith, nat_tests, e, h)

pub returns-then-last-sought-2 : goal.returns-then-last-sought-2
returns-then-last-sought-2 c = λ e a is b.
    let xs = c.args.beginning.now in
    let s = c.args.sought in
    let at : length xs - 1 ≡ s.d = omega arith in
    let h = ap (slice_index xs) at ∙ c_first s.d s.k s.n xs a c.requires is b (omega arith) in
    grind (arith, nat_tests, e, h)

pub returns-else-beginning-last : goal.returns-else-beginning-last
returns-else-beginning-last c = λ e a is b.
    let xs = c.args.beginning.now in
    let s = c.args.sought in
    let h = c_ascends_at s.d s.k s.n xs a c.requires is b (length xs - 1) (length xs - 1 - 1) (omega arith) (omega arith) (omega arith) in
    grind (arith, nat_tests, e, h)
