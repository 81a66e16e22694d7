use Rattle.std.proofs.Common.{◌≡◌, rules, to_z, of_z, false, pos}
use mir.Syntax.{w128}
use mir.Facts.{to_z-of_z}
use Rattle.drg_linear.specs.Equations.{Term}
use Rattle.drg_linear.specs.Moduli.{is_free}
use Rattle.drg_solver.proofs.Terms.{unknown_at}
use Rattle.drg_solver.proofs.Comparisons.{less}
use Rattle.drg_solver.proofs.Passes.{one_more}
use Rattle.drg_solver.proofs.finding.free_term.Goals as goal

pub low-requires : goal.low-requires
low-requires c = unknown_at c.args.room.now.d c.args.terms.now c.terms.term-index _ c.requires c.terms-test.true

pub high-requires : goal.high-requires
high-requires c = unknown_at c.args.room.now.d c.args.terms.now c.terms.term-index _ c.requires c.terms-test.true

pub returns-then-low-high-clause-some : goal.returns-then-low-high-clause-some
returns-then-low-high-clause-some c =
    let low : to_z w128 (of_z w128 c.low.result) ≡ c.low.result = to_z-of_z {w = w128} (search rules) in
    let high : to_z w128 (of_z w128 c.high.result) ≡ c.high.result = to_z-of_z {w = w128} (search rules) in
    record {
      unknown = unknown_at c.args.room.now.d c.args.terms.now c.terms.term-index _ c.requires c.terms-test.true;
      bounds = rw (← c.low.ensures, ← c.high.ensures) (less _ _ (rw (low, high) at c.if-low-high.true));
    }

pub terms-preserved : goal.terms-preserved
terms-preserved c =
    let low : to_z w128 (of_z w128 c.low.result) ≡ c.low.result = to_z-of_z {w = w128} (search rules) in
    let high : to_z w128 (of_z w128 c.high.result) ≡ c.high.result = to_z-of_z {w = w128} (search rules) in
    let outside : Term = (record { r = 0; s = 0; t = 0 }, pos 0) in
    one_more (λ t. is_free c.args.room.now.d c.args.room.now.bounds t ≡ false) c.args.terms.now c.terms.term-index outside c.terms.invariant
    (rw (← c.low.ensures, ← c.high.ensures) (rw (low, high) at c.if-low-high.false))
