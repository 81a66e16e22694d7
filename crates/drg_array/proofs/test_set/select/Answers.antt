use Rattle.std.proofs.Common.{rules, sym, arith}
use Rattle.std.specs.Prelude.{Contains}
use Rattle.drg_array.proofs.TestListLaws.{built-found, room-for, twice, next}
use Rattle.drg_array.proofs.test_set.select.Goals as goal

pub returns-then-contains-clause-none : goal.returns-then-contains-clause-none
returns-then-contains-clause-none c =
    let among : Contains c.args.selected.now.items c.in_ok-test.test = search rules in
    let found = built-found c.args.name.now c.in_ok-test.test (sym c.in_ok-test.ensures) in
    λ tests h. twice c.args.selected.now.items tests c.in_ok-test.test c.args.name.now found.0 among h

pub push-requires : goal.push-requires
push-requires c =
    let apart : ¬ Contains c.args.selected.now.items c.in_ok-test.test = search rules in
    let found = built-found c.args.name.now c.in_ok-test.test (sym c.in_ok-test.ensures) in
    (omega arith, room-for c.args.selected.now.items c.in_ok-test.test c.requires found.1 apart)

pub returns-clause-some : goal.returns-clause-some
returns-clause-some c =
    let apart : ¬ Contains c.args.selected.now.items c.in_ok-test.test = search rules in
    next c.args.selected.now.items c.push.new.self.items c.in_ok-test.test c.args.name.now c.push.ensures.items (sym c.in_ok-test.ensures) apart
