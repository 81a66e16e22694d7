-- The laws of distances.
use Rattle.std.proofs.Common.{◌≡◌, ℕ, zero, suc, ◌+◌, ◌≤◌, true, subst, arith, inl, inr}
use Rattle.std.specs.Prelude.{pos, ◌-ℤ◌, ◌<ℤ◌, ◌||◌}
use Rattle.std.proofs.lemmas.Int.{ints}
use Rattle.drg_algebra.proofs.Tests.{either, or-left, or-right, differ-test, differ}
use Rattle.drg_array.specs.Entries.{b_at, c_at}
use Rattle.drg_graph.specs.Graph.{Graph, is_pair, is_adjacent, is_at_distance}
use Rattle.drg_graph.specs.DistanceLaws.{IsEdge, AdjacentLaw, ShortestLaw, MetricLaw, DistancesLaw, ValencyLaw, EqualLaw, FirstLaw, DegreeLaw, OrderLaw, CrossLaw}
use Rattle.drg_graph.proofs.Walks.{adjacent-parts, adjacent-pair, adjacent-in}
use Rattle.drg_graph.proofs.Distances.{distance-walk, distance-least, distance-in, distance-unique, distance-back, distance-left, zero-self, zero-same, one-adjacent, adjacent-one, triangle}
use Rattle.drg_graph.proofs.Regular.{occurs, valency, first, stays, degree, order-b, order-c, cross}

edge-in : (g : Graph) (x y : ℕ) → is_adjacent g x y ≡ true → IsEdge g x y
edge-in g x y e =
    let parts = adjacent-parts g x y e in
    record { left = parts.left; right = parts.right; differ = differ x y parts.differ; pair = either (is_pair g x y) _ (adjacent-pair g x y e) }

edge-out : (g : Graph) (x y : ℕ) → IsEdge g x y → is_adjacent g x y ≡ true
edge-out g x y edge =
    let pair : (is_pair g x y || is_pair g y x) ≡ true = elim edge.pair [
      | inl one ↦ or-left (is_pair g x y) _ one
      | inr other ↦ or-right (is_pair g x y) _ other
    ] in
    adjacent-in g x y edge.left edge.right (differ-test x y edge.differ) pair

pub adjacent_law : AdjacentLaw
adjacent_law g x y = (edge-in g x y, edge-out g x y)

pub shortest_law : ShortestLaw
shortest_law g t x y = (
  λ e. record { walk = distance-walk g t x y e; least = λ s w. distance-least g s t x y e w },
  λ short. distance-in g t x y short.walk short.least,
)

pub metric_law : MetricLaw
metric_law g =
    record {
      one = λ s t x y e f. distance-unique g s t x y e f;
      zero = λ x y. (
        λ e. (distance-left g 0 x y e, zero-same g x y e),
        λ (v, same). (let P : ℕ → Type 0 = λ z. is_at_distance g 0 x z ≡ true in subst P same (zero-self g x v)),
      );
      neighbours = λ x y. (adjacent-one g x y, one-adjacent g x y);
      symmetric = λ t x y e. distance-back g t x y e;
      triangle = λ r s t x y z e f h. triangle g r s t x y z e f h;
    }

whole : (b0 b c n : ℕ) → b + (n + c) ≡ b0 → pos b0 -ℤ pos b -ℤ pos c ≡ pos n
whole b0 b c n h = omega (arith, ints)

pub equal_law : EqualLaw
equal_law g a i x y r e = whole (b_at a 0) (b_at a i) (c_at a i) _ (stays g a r i x y e)

pub distances_law : DistancesLaw
distances_law g a x i array r v h = occurs g a r array x v i h

pub valency_law : ValencyLaw
valency_law g a x r v = valency g a r x v

pub first_law : FirstLaw
first_law a array differs g r = differs (first g a r array)

not-negative : (b0 b c : ℕ) → b + c ≤ b0 → (pos b0 -ℤ pos b -ℤ pos c) <ℤ pos 0 → ⊥
not-negative b0 b c h n = omega (arith, ints)

pub degree_law : DegreeLaw
degree_law a i array low high negative g r = not-negative (b_at a 0) (b_at a i) (c_at a i) (degree g a r array i high) negative

pub order_law : OrderLaw
order_law a zero array low high fails g r = absurd (omega (arith, low))
order_law a (suc i) array low high (inl rises) g r = (let holds = order-b g a r array (suc i) high in omega (arith, rises, holds))
order_law a (suc i) array low high (inr falls) g r = (let holds = order-c g a r array i high in omega (arith, falls, holds))

pub cross_law : CrossLaw
cross_law a zero j array low high fails g r = absurd (omega (arith, low))
cross_law a (suc i) j array low high fails g r = (let holds = cross g a r array i j high in omega (arith, fails, holds))
