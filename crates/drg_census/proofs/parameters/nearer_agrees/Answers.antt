use Rattle.std.proofs.Common.{◌≡◌, ℕ, suc, ◌+◌, ◌∙◌, ap, sym, arith, pos}
use Rattle.drg_algebra.specs.Rational.{whole}
use Rattle.drg_array.specs.Entries.{c_at}
use Rattle.drg_fraction.specs.Fraction.{rational_of}
use Rattle.drg_census.proofs.Composed.{nearer_passes, nearer_refuted}
use Rattle.drg_census.proofs.parameters.nearer_agrees.Goals as goal

pub returns-then-same-clause-ok : goal.returns-then-same-clause-ok
returns-then-same-clause-ok c =
    let a = c.args.array.now in
    let one : c.args.i + 1 ≡ suc c.args.i = omega arith in
    let entry : rational_of c.entry.result ≡ whole (pos (c_at a (suc c.args.i))) = c.entry.ensures ∙ ap (λ (n : ℕ). whole (pos n)) (c.c.ensures ∙ ap (c_at a) one) in
    nearer_passes a (rational_of c.args.base) (rational_of c.args.alpha) c.args.i (rational_of c.args.last) (rational_of c.in_ok-next.next)
    (rational_of c.in_ok-made.made) (rational_of c.entry.result) c.requires.last c.in_ok-next.ensures.0 c.in_ok-next.ensures.1
    c.in_ok-made.ensures.0 c.in_ok-made.ensures.1 entry (c.same.ensures.0 c.if-same.true)

pub returns-else-same-clause-ok : goal.returns-else-same-clause-ok
returns-else-same-clause-ok c =
    let a = c.args.array.now in
    let one : c.args.i + 1 ≡ suc c.args.i = omega arith in
    let entry : rational_of c.entry.result ≡ whole (pos (c_at a (suc c.args.i))) = c.entry.ensures ∙ ap (λ (n : ℕ). whole (pos n)) (c.c.ensures ∙ ap (c_at a) one) in
    nearer_refuted a (rational_of c.args.base) (rational_of c.args.alpha) c.args.i (rational_of c.args.last) (rational_of c.in_ok-next.next)
    (rational_of c.in_ok-made.made) (rational_of c.entry.result) c.requires.last c.in_ok-next.ensures.0 c.in_ok-next.ensures.1
    c.in_ok-made.ensures.0 c.in_ok-made.ensures.1 entry (λ e. let yes = c.same.ensures.1 e in let not = c.if-same.false in cc)
