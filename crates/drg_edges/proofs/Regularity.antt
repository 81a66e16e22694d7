-- Where no pair differs from the reference of its distance, the counts of the references are an array of the graph.
use Rattle.std.proofs.Common.{◌≡◌, ℕ, zero, suc, ◌+◌, ◌-◌, ◌≤◌, ◌<◌, true, sym, subst, ◌∙◌, arith, inl, inr}
use Rattle.std.specs.Prelude.{◌⊎◌, ◌==◌, ◌&&◌}
use Rattle.drg_algebra.specs.Sums.{AreDistinct}
use Rattle.drg_algebra.proofs.Tests.{decided, same-number, differ, and-in, both, not-false}
use Rattle.drg_algebra.proofs.Counts.{count-member, count-zero}
use Rattle.drg_array.specs.Entries.{Entries, diameter, b_at, c_at}
use Rattle.drg_graph.specs.Graph.{Graph, is_adjacent, is_at_distance, HasDistance, IsDistanceRegular}
use Rattle.drg_graph.proofs.Walks.{adjacent-back}
use Rattle.drg_graph.proofs.Distances.{distance-right, middle}
use Rattle.drg_edges.specs.Pairs.{down_count, up_count, HasDistances, IsReference, Differs}
use Rattle.drg_edges.proofs.Reaching.{nearer_neighbour}

module _ (g : Graph) (alike : (i u v : ℕ) → Differs g i u v → ⊥) where
  pub same_down : (i x y u v : ℕ) → IsReference g i x y → HasDistance g i u v → down_count g i x y ≡ down_count g i u v
  same_down i x y u v reference at = elim (decided (down_count g i x y == down_count g i u v)) [
    | inl e ↦ same-number _ _ e
    | inr e ↦ absurd (alike i u v (record { at = at; x_reference = x; y_reference = y; reference = reference; unlike = inl (differ _ _ e) }))
  ]

  pub same_up : (i x y u v : ℕ) → IsReference g i x y → HasDistance g i u v → up_count g i x y ≡ up_count g i u v
  same_up i x y u v reference at = elim (decided (up_count g i x y == up_count g i u v)) [
    | inl e ↦ same-number _ _ e
    | inr e ↦ absurd (alike i u v (record { at = at; x_reference = x; y_reference = y; reference = reference; unlike = inr (differ _ _ e) }))
  ]

  -- a pair that isn't one vertex twice has a neighbour nearer
  pub some_down : (i x y : ℕ) → HasDistance g (suc i) x y → 1 ≤ down_count g (suc i) x y
  some_down i x y e =
      let near = nearer_neighbour g x i y e in
      count-member (λ z. is_adjacent g y z && is_at_distance g i x z) near.0 g.vertices (distance-right g i x near.0 near.1)
      (and-in _ _ (adjacent-back g near.0 y near.2) near.1)

  -- and below the distance of some pair each reference has one further
  pub some_up : (i d x y u v : ℕ) → IsReference g i x y → HasDistance g d u v → i < d → 1 ≤ up_count g i x y
  some_up i d x y u v reference far less =
      let whole : d ≡ suc i + (d - suc i) = omega (arith, less) in
      let P : ℕ → Type 0 = λ n. is_at_distance g n u v ≡ true in
      let between = middle g (suc i) (d - suc i) u v (subst P whole far) in
      let w = between.0 in
      let near = nearer_neighbour g u i w between.1 in
      let z = near.0 in
      let count = count-member (λ t. is_adjacent g z t && is_at_distance g (suc i) u t) w g.vertices (distance-right g (suc i) u w between.1) (and-in _ _ near.2 between.1) in
      let same = same_up i x y u z reference near.1 in
      omega (arith, count, same)

-- no vertex is further than the greatest distance
pub none_up : (g : Graph) (i x y : ℕ) → ((u v : ℕ) → is_at_distance g (suc i) u v ≡ true → ⊥) → up_count g i x y ≡ 0
none_up g i x y none =
    count-zero (λ z. is_adjacent g y z && is_at_distance g (suc i) x z) g.vertices
    (λ z h. not-false _ (λ e. none x z (both (is_adjacent g y z) _ e).1))

-- the graph of an array whose entries are the counts of the references
pub regular_with : (g : Graph) (a : Entries) → AreDistinct g.vertices → HasDistances g → ((i u v : ℕ) → Differs g i u v → ⊥)
    → ((i : ℕ) → i ≤ diameter a → (x : ℕ) × (y : ℕ) × IsReference g i x y × (up_count g i x y ≡ b_at a i) × (down_count g i x y ≡ c_at a i))
    → ((u v : ℕ) → is_at_distance g (suc (diameter a)) u v ≡ true → ⊥) → IsDistanceRegular g a
regular_with g a distinct connected alike references none = record {
  some = (let several = connected.several in omega (arith, several));
  distinct = distinct;
  near = λ x y hx hy.
      (let d = connected.near x y hx hy in
      (d.0, small d.0 x y d.1, d.1));
  far = (let last = references (diameter a) (omega arith) in (last.0, last.1, last.2.at));
  further = λ i x y e. (let r = references i (small i x y e) in sym (same_up g alike i r.0 r.1 x y r.2 e) ∙ r.3);
  nearer = λ i x y e. (let r = references (suc i) (small (suc i) x y e) in sym (same_down g alike (suc i) r.0 r.1 x y r.2 e) ∙ r.4);
}
  where
    small : (t x y : ℕ) → is_at_distance g t x y ≡ true → t ≤ diameter a
    small t x y e = elim (order t (suc (diameter a))) [
      | inl less ↦ omega (arith, less)
      | inr more ↦ (let whole : t ≡ suc (diameter a) + (t - suc (diameter a)) = omega (arith, more) in
          let P : ℕ → Type 0 = λ n. is_at_distance g n x y ≡ true in
          let between = middle g (suc (diameter a)) (t - suc (diameter a)) x y (subst P whole e) in
          absurd (none x between.0 between.1))
    ]
      where
        order : (m n : ℕ) → (m < n) ⊎ (n ≤ m)
        order m zero = inr (omega arith)
        order zero (suc n) = inl (omega arith)
        order (suc m) (suc n) = elim (order m n) [ inl h ↦ inl (omega (arith, h)) | inr h ↦ inr (omega (arith, h)) ]
