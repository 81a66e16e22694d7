use Rattle.std.proofs.Common.{◌≡◌, ℕ, ◌∙◌, ap, sym, arith, pos}
use Rattle.drg_algebra.specs.Rational.{whole}
use Rattle.drg_array.specs.Entries.{b_at}
use Rattle.drg_fraction.specs.Fraction.{rational_of}
use Rattle.drg_census.proofs.Composed.{further_passes, further_refuted, match_told}
use Rattle.drg_census.proofs.parameters.further_agrees.Goals as goal

pub returns-clause-ok : goal.returns-clause-ok
returns-clause-ok c =
    let a = c.args.array.now in
    let p = c.args.pair in
    let entry : rational_of c.entry.result ≡ whole (pos (b_at a c.args.i)) = c.entry.ensures ∙ ap (λ (n : ℕ). whole (pos n)) c.b.ensures in
    match_told c.same.result
    (λ t. further_passes a (rational_of c.args.base) (rational_of p.alpha) (rational_of p.beta) c.args.i (rational_of c.args.last) (rational_of c.args.part)
    (rational_of c.in_ok-made.made) (rational_of c.entry.result) c.requires.last c.requires.part c.in_ok-made.ensures.0 c.in_ok-made.ensures.1 entry (c.same.ensures.0 t))
    (λ f. further_refuted a (rational_of c.args.base) (rational_of p.alpha) (rational_of p.beta) c.args.i (rational_of c.args.last) (rational_of c.args.part)
    (rational_of c.in_ok-made.made) (rational_of c.entry.result) c.requires.last c.requires.part c.in_ok-made.ensures.0 c.in_ok-made.ensures.1 entry
    (λ e. let yes = c.same.ensures.1 e in cc))
