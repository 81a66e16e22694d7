-- From the vertices at one distance to those at the next.
use Rattle.std.proofs.Common.{◌≡◌, ℕ, zero, suc, ◌+◌, ◌-◌, ◌≤◌, ◌<◌, Bool, true, false, List, [], ◌∷◌, length, refl, subst, ◌∙◌, arith, inl, inr}
use Rattle.std.specs.Prelude.{◌&&◌, ◌||◌, not, ◌⊎◌}
use Rattle.std.specs.List.{list_any}
use Rattle.drg_algebra.specs.Sums.{bit, count_of}
use Rattle.drg_algebra.proofs.Counts.{count-member, count-disjoint}
use Rattle.drg_algebra.proofs.Tests.{both, and-in, never, decided, not-true, not-in, not-false, or-left, or-right, same-test, any-in, any-out}
use Rattle.drg_graph.specs.Graph.{Graph, is_vertex, is_adjacent, has_walk, has_shorter, is_at_distance}
use Rattle.drg_graph.proofs.Walks.{adjacent-back, walk-join, walk-last, shorter-in, shorter-out}
use Rattle.drg_graph.proofs.Distances.{distance-walk, distance-back, distance-right, step-down, middle}

pub count-most : (p : ℕ → Bool) (xs : List ℕ) → count_of p xs ≤ length xs
count-most p [] = omega arith
count-most p (x ∷ xs) = (let rest = count-most p xs in let one = bit-most (p x) in omega (arith, rest, one))
  where
    bit-most : (b : Bool) → bit b ≤ 1
    bit-most true = omega arith
    bit-most false = omega arith

joined : (w s : Bool) → (w || s) ≡ (s || (w && not s))
joined true true = refl
joined true false = refl
joined false true = refl
joined false false = refl

module _ (g : Graph) (x : ℕ) where
  -- a neighbour of y that is one step nearer to x
  pub nearer_neighbour : (i y : ℕ) → is_at_distance g (suc i) x y ≡ true → (v : ℕ) × (is_at_distance g i x v ≡ true) × (is_adjacent g v y ≡ true)
  nearer_neighbour i y e =
      let down = step-down g i y x (distance-back g (suc i) x y e) in
      (down.0, distance-back g i down.0 x down.2, adjacent-back g y down.0 down.1)

  -- a vertex is at the next distance where a neighbour of it is at this one, and no walk to it is shorter
  pub next_layer : (i u : ℕ)
      → is_at_distance g (suc i) x u ≡ (list_any (λ v. is_at_distance g i x v && is_adjacent g v u) g.vertices && not (has_shorter g (suc i) x u))
  next_layer i u = same-test _ _ forth back
    where
      forth : is_at_distance g (suc i) x u ≡ true → (list_any (λ v. is_at_distance g i x v && is_adjacent g v u) g.vertices && not (has_shorter g (suc i) x u)) ≡ true
      forth e =
          let near = nearer_neighbour i u e in
          let parts = both (has_walk g (suc i) x u) _ e in
          and-in _ _ (any-in (λ v. is_at_distance g i x v && is_adjacent g v u) g.vertices near.0 (distance-right g i x near.0 near.1) (and-in _ _ near.1 near.2)) parts.1

      back : (list_any (λ v. is_at_distance g i x v && is_adjacent g v u) g.vertices && not (has_shorter g (suc i) x u)) ≡ true → is_at_distance g (suc i) x u ≡ true
      back e =
          let parts = both (list_any (λ v. is_at_distance g i x v && is_adjacent g v u) g.vertices) _ e in
          let found = any-out (λ v. is_at_distance g i x v && is_adjacent g v u) g.vertices parts.0 in
          let at = both (is_at_distance g i x found.0) _ found.2 in
          and-in _ _ (walk-last g i x found.0 u (distance-walk g i x found.0 at.0) at.1) parts.1

  -- a walk of fewer steps than one more, or of that many
  pub next_seen : (i u : ℕ) → has_shorter g (suc i) x u ≡ (has_shorter g i x u || is_at_distance g i x u)
  next_seen i u = joined (has_walk g i x u) (has_shorter g i x u)

  -- there are more vertices than the distance of two is
  seen_many : (t v : ℕ) → is_at_distance g t x v ≡ true → suc t ≤ count_of (has_shorter g (suc t) x) g.vertices
  seen_many zero v e = count-member (has_shorter g 1 x) v g.vertices (distance-right g 0 x v e) (shorter-in g 0 1 x v (omega arith) (distance-walk g 0 x v e))
  seen_many (suc t) v e =
      let near = nearer_neighbour t v e in
      let fewer = seen_many t near.0 near.1 in
      let one = count-member (is_at_distance g (suc t) x) v g.vertices (distance-right g (suc t) x v e) e in
      let sum =
      count-disjoint (has_shorter g (suc t) x) (is_at_distance g (suc t) x) (has_shorter g (suc (suc t)) x) g.vertices
      (λ z h. next_seen (suc t) z ∙ or-left (has_shorter g (suc t) x z) (is_at_distance g (suc t) x z) h)
      (λ z h. next_seen (suc t) z ∙ or-right (has_shorter g (suc t) x z) (is_at_distance g (suc t) x z) h)
      (λ z h. not-false (is_at_distance g (suc t) x z) (λ f. (let none = (both (has_walk g (suc t) x z) _ f).1 in never (has_shorter g (suc t) x z) h (not-true _ none)))) in
      omega (arith, fewer, one, sum)

  pub distance_small : (t v : ℕ) → is_at_distance g t x v ≡ true → t < length g.vertices
  distance_small t v e = (let many = seen_many t v e in let most = count-most (has_shorter g (suc t) x) g.vertices in omega (arith, many, most))

  -- where no vertex is at a distance, none is further
  pub none_further : (k t v : ℕ) → ((u : ℕ) → is_at_distance g k x u ≡ false) → k ≤ t → is_at_distance g t x v ≡ false
  none_further k t v none more =
      not-false _ (λ e.
      let whole : t ≡ k + (t - k) = omega (arith, more) in
      let P : ℕ → Type 0 = λ n. is_at_distance g n x v ≡ true in
      let between = middle g k (t - k) x v (subst P whole e) in
      never (is_at_distance g k x between.0) between.1 (none between.0))

  -- a vertex without a walk of fewer steps, where none is at that distance, has no distance
  pub none_at_all : (k t v : ℕ) → ((u : ℕ) → is_at_distance g k x u ≡ false) → has_shorter g k x v ≡ false → is_at_distance g t x v ≡ false
  none_at_all k t v none far =
      not-false _ (λ e. elim (split t k) [
        | inl less ↦ never (has_shorter g k x v) (shorter-in g t k x v less (distance-walk g t x v e)) far
        | inr more ↦ never (is_at_distance g t x v) e (none_further k t v none more)
      ])
    where
      split : (m n : ℕ) → (m < n) ⊎ (n ≤ m)
      split m zero = inr (omega arith)
      split zero (suc n) = inl (omega arith)
      split (suc m) (suc n) = elim (split m n) [ inl e ↦ inl (omega (arith, e)) | inr e ↦ inr (omega (arith, e)) ]

-- ---- connected graphs
-- a walk has a distance below it
least_walk : (g : Graph) (n x y : ℕ) → has_walk g n x y ≡ true → (t : ℕ) × (is_at_distance g t x y ≡ true)
least_walk g n x y w = go n n (omega arith) w
  where
    go : (fuel t : ℕ) → t ≤ fuel → has_walk g t x y ≡ true → (s : ℕ) × (is_at_distance g s x y ≡ true)
    go zero t small w = (t, and-in _ _ w (rest t small))
      where
        rest : (t : ℕ) → t ≤ 0 → not (has_shorter g t x y) ≡ true
        rest zero h = refl
        rest (suc t) h = absurd (omega (arith, h))
    go (suc fuel) t small w = elim (decided (has_shorter g t x y)) [
      | inl less ↦ (let found = shorter-out g t x y less in let fewer = found.1 in go fuel found.0 (omega (arith, fewer, small)) found.2)
      | inr none ↦ (t, and-in _ _ w (not-in (has_shorter g t x y) none))
    ]

-- where each vertex has a distance from x, each two have one
pub all_near : (g : Graph) (x : ℕ) → ((v : ℕ) → is_vertex g v ≡ true → (t : ℕ) × (is_at_distance g t x v ≡ true))
    → (u v : ℕ) → is_vertex g u ≡ true → is_vertex g v ≡ true → (t : ℕ) × (is_at_distance g t u v ≡ true)
all_near g x near u v hu hv =
    let one = near u hu in
    let two = near v hv in
    least_walk g (one.0 + two.0) u v
    (walk-join g one.0 two.0 u x v (distance-walk g one.0 u x (distance-back g one.0 x u one.1)) (distance-walk g two.0 x v two.1))
