use Rattle.std.proofs.Common.{rules, ap, arith, ℕ, ◌≤◌, ◌+◌, length}
use Rattle.std.proofs.lemmas.Iterator.Adapters.{serves_from_places}
use borrow.Author.Tests.{tests}
use Rattle.drg_orderings.specs.Orderings.{EntryFits}
use Rattle.drg_orderings.proofs.Pairs.{pairs_come, pairs_below, told_by_all, decided_by_pairs}
use Rattle.drg_orderings.proofs.search.all_fit.Goals as goal

pub all-requires-clause-callable : goal.all-requires-clause-callable
all-requires-clause-callable g c =
    let side = length c.args.order.now + 1 in
    serves_from_places (pairs_come side c.cartesian_product.result c.cartesian_product.ensures.rows) (λ x q h. search (rules, tests))
    (λ x k l e.
    let b = pairs_below side k x l in
    let first : x.0 ≤ length c.args.order.now = (let f = ap (λ (p : ℕ × ℕ). p.0) e in omega arith) in
    let second : x.1 ≤ length c.args.order.now = (let f = ap (λ (p : ℕ × ℕ). p.1) e in omega arith) in
    search rules)

pub returns : goal.returns
returns g c =
    let side = length c.args.order.now + 1 in
    let Z = g.T.ZeroTable.IsZero c.args.table.now in
    let Fits : ℕ → ℕ → Type 0 = λ h j. EntryFits Z c.args.order.now h j in
    let told = told_by_all (pairs_come side c.cartesian_product.result c.cartesian_product.ensures.rows) c.all.result
    (λ (p : ℕ × ℕ). Fits p.0 p.1) (λ (p : ℕ × ℕ). ¬ Fits p.0 p.1) c.all.ensures.ran
    (λ x q k. search (rules, tests)) (λ x q k. search (rules, tests)) in
    let both = decided_by_pairs side Fits c.all.result told in
    (λ t h j l m. both.0 t h j (omega arith) (omega arith), λ fits. both.1 (λ h j l m. fits h j (omega arith) (omega arith)))
