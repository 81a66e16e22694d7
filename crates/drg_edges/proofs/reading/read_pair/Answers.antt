use Rattle.std.proofs.Common.{sym, ◌∙◌, arith}
use Rattle.std.proofs.lemmas.Fmt.{decimal_injective}
use Rattle.drg_edges.proofs.Numbers.{no_space, pair_parts}
use Rattle.drg_edges.proofs.reading.read_pair.Goals as goal

pub returns-in_err-x-clause-none : goal.returns-in_err-x-clause-none
returns-in_err-x-clause-none c =
    rw c.from_residual.ensures (λ p h e. no_space c.args.count c.args.line.now p c.in_err-x.ensures.none h e)

pub returns-in_err-x-2-clause-none : goal.returns-in_err-x-2-clause-none
returns-in_err-x-2-clause-none c =
    rw c.from_residual-in_err-x-2.ensures (λ p h e.
    (let parts = pair_parts c.args.count c.args.line.now c.in_ok-x.x.now c.in_ok-x.y.now p c.requires h c.in_ok-x.ensures.whole c.in_ok-x.ensures.before e in
    let less = h.0 in
    c.in_err-x-2.ensures.none p.0 (omega (arith, less)) parts.0))

pub returns-in_err-y-clause-none : goal.returns-in_err-y-clause-none
returns-in_err-y-clause-none c =
    rw c.from_residual-in_err-y.ensures (λ p h e.
    (let parts = pair_parts c.args.count c.args.line.now c.in_ok-x.x.now c.in_ok-x.y.now p c.requires h c.in_ok-x.ensures.whole c.in_ok-x.ensures.before e in
    let less = h.1 in
    c.in_err-y.ensures.none p.1 (omega (arith, less)) parts.1))

pub returns-then-x-y-clause-none : goal.returns-then-x-y-clause-none
returns-then-x-y-clause-none c =
    λ p h e. (let parts = pair_parts c.args.count c.args.line.now c.in_ok-x.x.now c.in_ok-x.y.now p c.requires h c.in_ok-x.ensures.whole c.in_ok-x.ensures.before e in
    let most = c.requires.1 in
    let left = h.0 in
    let right = h.1 in
    let small_x = c.in_ok-x-2.ensures.small in
    let small_y = c.in_ok-y.ensures.small in
    let one = decimal_injective c.in_ok-x-2.x p.0 (omega (arith, most, small_x)) (omega (arith, most, left)) (sym c.in_ok-x-2.ensures.whole ∙ parts.0) in
    let two = decimal_injective c.in_ok-y.y p.1 (omega (arith, most, small_y)) (omega (arith, most, right)) (sym c.in_ok-y.ensures.whole ∙ parts.1) in
    h.2 (sym one ∙ (c.if-x-y.true ∙ two)))
