-- The laws of intersection numbers.
use Rattle.std.proofs.Common.{◌≡◌, ℕ, suc, arith, inl, inr}
use Rattle.std.specs.Prelude.{ℤ, pos, ◌<ℤ◌}
use Rattle.std.proofs.lemmas.Int.{ints}
use Rattle.drg_graph.specs.Graph.{pairs_at}
use Rattle.drg_graph.specs.Numbers.{numerator}
use Rattle.drg_graph.specs.RowLaws.{CountsLaw, RowsLaw, IntersectLaw}
use Rattle.drg_graph.proofs.Regular.{first_vertex, occurs}
use Rattle.drg_graph.proofs.Rows.{counts-are, rows-forced, next-count}

pub counts_law : CountsLaw
counts_law g a h x y array r e = counts-are g a r array h x y e

pub rows_law : RowsLaw
rows_law g a p h m x y i j array r small are e hi hj = rows-forced g a r array h m p small are x y e i hi i j (omega arith) hj

not-negative : (z : ℤ) (n : ℕ) → z ≡ pos n → z <ℤ pos 0 → ⊥
not-negative z n e h = omega (arith, ints)

pub intersect_law : IntersectLaw
intersect_law a p h m j array hh hm hj are fails g r =
    let start = first_vertex g a r in
    let found = occurs g a r array start.0 start.1 h hh in
    let number = next-count g a r array h m p hm are start.0 found.0 found.1 j hj in
    elim fails [
      | inl negative ↦ not-negative (numerator a p m j) _ number negative
      | inr broken ↦ broken (pos (pairs_at g (suc m) j start.0 found.0), number)
    ]
