-- Distances, degrees and inequalities of a distance-regular graph.
use Rattle.std.proofs.Common.{◌≡◌, ℕ, zero, suc, ◌+◌, ◌≤◌, Bool, true, false, refl, sym, subst, ◌∙◌, arith, inl, inr}
use Rattle.std.specs.Prelude.{◌==◌, ◌&&◌}
use Rattle.drg_algebra.specs.Sums.{bit, count_of, below}
use Rattle.drg_algebra.proofs.Tests.{both, and-in, never, decided, not-false, same-test, same-number, below-in, below-distinct, differ, equal-test}
use Rattle.drg_algebra.proofs.Counts.{bit-true, bit-false, count-same, count-le, count-zero, count-one, count-some, count-three}
use Rattle.drg_array.specs.Entries.{Entries, IsArray, diameter, b_at, c_at}
use Rattle.drg_graph.specs.Graph.{Graph, is_vertex, is_adjacent, is_at_distance, neighbours_at, IsDistanceRegular}
use Rattle.drg_array.proofs.EntryLemmas.{b-positive}
use Rattle.drg_graph.proofs.Walks.{adjacent-parts, adjacent-back}
use Rattle.drg_graph.proofs.Distances.{distance-unique, distance-other, distance-back, distance-left, distance-right, zero-self, zero-same, one-adjacent, adjacent-one, triangle, band, band-back, step-down, middle}

module _ (g : Graph) (a : Entries) (r : IsDistanceRegular g a) where
  pub first_vertex : (x : ℕ) × (is_vertex g x ≡ true)
  first_vertex = (r.far.0, distance-left g (diameter a) r.far.0 r.far.1 r.far.2)

  -- each two vertices have one distance
  pub one-distance : (x y : ℕ) → is_vertex g x ≡ true → is_vertex g y ≡ true
      → count_of (λ l. is_at_distance g l x y) (below (suc (diameter a))) ≡ 1
  one-distance x y vx vy =
      let near = r.near x y vx vy in
      let t = near.0 in
      let small = near.1 in
      count-one (λ l. is_at_distance g l x y) t (below (suc (diameter a))) (below-distinct (suc (diameter a))) (below-in (suc (diameter a)) t (omega (arith, small))) near.2
      (λ l e. distance-unique g t l x y near.2 e)

  pub distance-small : (t x y : ℕ) → is_at_distance g t x y ≡ true → t ≤ diameter a
  distance-small t x y e =
      let near = r.near x y (distance-left g t x y e) (distance-right g t x y e) in
      let small = near.1 in
      let same = distance-unique g t near.0 x y e near.2 in
      omega (arith, small, same)

  pub valency : (x : ℕ) → is_vertex g x ≡ true → count_of (is_adjacent g x) g.vertices ≡ b_at a 0
  valency x v =
      let same : (z : ℕ) → is_adjacent g x z ≡ (is_adjacent g x z && is_at_distance g 1 x z) =
      λ z. same-test _ _ (λ e. and-in _ _ e (one-adjacent g x z e)) (λ e. (both (is_adjacent g x z) _ e).0) in
      count-same (is_adjacent g x) _ g.vertices (λ z h. same z) ∙ r.further 0 x x (zero-self g x v)

  pub occurs : IsArray a → (x : ℕ) → is_vertex g x ≡ true → (i : ℕ) → i ≤ diameter a → (y : ℕ) × (is_at_distance g i x y ≡ true)
  occurs array x v zero h = (x, zero-self g x v)
  occurs array x v (suc i) h =
      let found = occurs array x v i (omega (arith, h)) in
      let y = found.0 in
      let number = r.further i x y found.1 in
      let positive = b-positive a i array (omega (arith, h)) in
      let next = count-some (λ z. is_adjacent g y z && is_at_distance g (suc i) x z) g.vertices (omega (arith, number, positive)) in
      (next.0, (both (is_adjacent g y next.0) _ next.2).1)

  -- no neighbour of x is x
  none-nearer : (x y : ℕ) → is_at_distance g 0 x y ≡ true → neighbours_at g 0 x y ≡ 0
  none-nearer x y e =
      let no : (z : ℕ) → (is_adjacent g y z && is_at_distance g 0 x z) ≡ false =
      λ z. not-false _ (λ p. let parts = both (is_adjacent g y z) _ p in
      let same = sym (zero-same g x y e) ∙ zero-same g x z parts.1 in
      never (y == z) (equal-test y z same) (adjacent-parts g y z parts.0).differ) in
      count-zero _ g.vertices (λ z h. no z)

  pub first : IsArray a → c_at a 1 ≡ 1
  first array =
      let start = first_vertex in
      let x = start.0 in
      let some = array.some in
      let found = occurs array x start.1 1 some in
      let y = found.0 in
      let near = found.1 in
      let adjacent = adjacent-one g x y near in
      let parts = adjacent-parts g x y adjacent in
      let one : neighbours_at g 0 x y ≡ 1 =
      count-one _ x g.vertices r.distinct parts.left (and-in _ _ (adjacent-back g x y adjacent) (zero-self g x parts.left))
      (λ z p. zero-same g x z (both (is_adjacent g y z) _ p).1) in
      sym (r.nearer 0 x y near) ∙ one

  bits-class : (e p q s : Bool) → (e ≡ true → bit p + (bit q + bit s) ≡ 1) → bit e ≡ bit (e && p) + (bit (e && q) + bit (e && s))
  bits-class true p q s one = sym (one refl)
  bits-class false p q s one = refl

  -- a neighbour of y is one step further, as far, or one step nearer
  three-classes : (i x y z : ℕ) → is_at_distance g (suc i) x y ≡ true → is_adjacent g y z ≡ true
      → bit (is_at_distance g (suc (suc i)) x z) + (bit (is_at_distance g (suc i) x z) + bit (is_at_distance g i x z)) ≡ 1
  three-classes i x y z e adjacent =
      let near = r.near x z (distance-left g (suc i) x y e) (adjacent-parts g y z adjacent).right in
      let t = near.0 in
      let high = band g (suc i) t x y z adjacent e near.2 in
      let low = band-back g (suc i) t x y z adjacent e near.2 in
      let here : (l : ℕ) → t ≡ l → bit (is_at_distance g l x z) ≡ 1 =
      λ l same. bit-true _ (let P : ℕ → Type 0 = λ u. is_at_distance g u x z ≡ true in subst P same near.2) in
      let off : (l : ℕ) → (t ≡ l → ⊥) → bit (is_at_distance g l x z) ≡ 0 = λ l apart. bit-false _ (distance-other g t l x z apart near.2) in
      elim (decided (t == i)) [
        | inl a ↦ (let same = same-number t i a in
            let two = off (suc (suc i)) (λ f. omega (arith, f, same)) in
            let one = off (suc i) (λ f. omega (arith, f, same)) in
            let none = here i same in omega (arith, two, one, none))
        | inr a ↦ (elim (decided (t == suc i)) [
          | inl b ↦ (let same = same-number t (suc i) b in
              let two = off (suc (suc i)) (λ f. omega (arith, f, same)) in
              let one = here (suc i) same in
              let none = off i (λ f. omega (arith, f, same)) in omega (arith, two, one, none))
          | inr b ↦ (let not_i = differ t i a in
              let not_j = differ t (suc i) b in
              let same : t ≡ suc (suc i) = omega (arith, not_i, not_j, high, low) in
              let two = here (suc (suc i)) same in
              let one = off (suc i) (λ f. omega (arith, f, same)) in
              let none = off i (λ f. omega (arith, f, same)) in omega (arith, two, one, none))
        ])
      ]

  -- b_i further, c_i nearer, and the others as far
  pub stays : (i x y : ℕ) → is_at_distance g i x y ≡ true → b_at a i + (neighbours_at g i x y + c_at a i) ≡ b_at a 0
  stays zero x y e = (let none = none-nearer x y e in omega (arith, none))
  stays (suc i) x y e =
      let v = distance-right g (suc i) x y e in
      let whole = valency y v in
      let more = r.further (suc i) x y e in
      let less = r.nearer i x y e in
      let split =
      count-three (is_adjacent g y) (λ z. is_adjacent g y z && is_at_distance g (suc (suc i)) x z) (λ z. is_adjacent g y z && is_at_distance g (suc i) x z) (λ z. is_adjacent g y z && is_at_distance g i x z) g.vertices
      (λ z h. bits-class (is_adjacent g y z) _ _ _ (three-classes i x y z e)) in
      omega (arith, whole, more, less, split)

  pub degree : IsArray a → (i : ℕ) → i ≤ diameter a → b_at a i + c_at a i ≤ b_at a 0
  degree array i h =
      let start = first_vertex in
      let found = occurs array start.0 start.1 i h in
      let sum = stays i start.0 found.0 found.1 in omega (arith, sum)

  -- two vertices at distance i + 1, and a neighbour of the first that is nearer to the second
  pub order-b : IsArray a → (i : ℕ) → suc i ≤ diameter a → b_at a (suc i) ≤ b_at a i
  order-b array i h =
      let start = first_vertex in
      let x = start.0 in
      let found = occurs array x start.1 (suc i) h in
      let y = found.0 in
      let down = step-down g i x y found.1 in
      let w = down.0 in
      let more = r.further (suc i) x y found.1 in
      let less = r.further i w y down.2 in
      let at : (z : ℕ) → (is_adjacent g y z && is_at_distance g (suc (suc i)) x z) ≡ true → (is_adjacent g y z && is_at_distance g (suc i) w z) ≡ true =
      λ z p. (let parts = both (is_adjacent g y z) _ p in
      let near = r.near w z (adjacent-parts g x w down.1).right (adjacent-parts g y z parts.0).right in
      let t = near.0 in
      let low = triangle g 1 t (suc (suc i)) x w z (one-adjacent g x w down.1) near.2 parts.1 in
      let high = band g i t w y z parts.0 down.2 near.2 in
      let same : t ≡ suc i = omega (arith, low, high) in
      let P : ℕ → Type 0 = λ u. is_at_distance g u w z ≡ true in
      and-in _ _ parts.0 (subst P same near.2)) in
      let fewer = count-le _ _ g.vertices (λ z m. at z) in
      omega (arith, more, less, fewer)

  pub order-c : IsArray a → (i : ℕ) → suc (suc i) ≤ diameter a → c_at a (suc i) ≤ c_at a (suc (suc i))
  order-c array i h =
      let start = first_vertex in
      let x = start.0 in
      let found = occurs array x start.1 (suc (suc i)) h in
      let y = found.0 in
      let down = step-down g (suc i) x y found.1 in
      let w = down.0 in
      let more = r.nearer (suc i) x y found.1 in
      let less = r.nearer i w y down.2 in
      let at : (z : ℕ) → (is_adjacent g y z && is_at_distance g i w z) ≡ true → (is_adjacent g y z && is_at_distance g (suc i) x z) ≡ true =
      λ z p. (let parts = both (is_adjacent g y z) _ p in
      let near = r.near x z start.1 (adjacent-parts g y z parts.0).right in
      let t = near.0 in
      let high = triangle g 1 i t x w z (one-adjacent g x w down.1) parts.1 near.2 in
      let low = band-back g (suc (suc i)) t x y z parts.0 found.1 near.2 in
      let same : t ≡ suc i = omega (arith, low, high) in
      let P : ℕ → Type 0 = λ u. is_at_distance g u x z ≡ true in
      and-in _ _ parts.0 (subst P same near.2)) in
      let fewer = count-le _ _ g.vertices (λ z m. at z) in
      omega (arith, more, less, fewer)

  pub cross : IsArray a → (i j : ℕ) → suc i + j ≤ diameter a → c_at a (suc i) ≤ b_at a j
  cross array i j h =
      let start = first_vertex in
      let x = start.0 in
      let found = occurs array x start.1 (suc i + j) h in
      let z = found.0 in
      let between = middle g (suc i) j x z found.1 in
      let y = between.0 in
      let back = distance-back g j y z between.2 in
      let less = r.nearer i x y between.1 in
      let more = r.further j z y back in
      let at : (w : ℕ) → (is_adjacent g y w && is_at_distance g i x w) ≡ true → (is_adjacent g y w && is_at_distance g (suc j) z w) ≡ true =
      λ w p. (let parts = both (is_adjacent g y w) _ p in
      let near = r.near z w (distance-left g j z y back) (adjacent-parts g y w parts.0).right in
      let t = near.0 in
      let low = triangle g i t (suc i + j) x w z parts.1 (distance-back g t z w near.2) found.1 in
      let high = band g j t z y w parts.0 back near.2 in
      let same : t ≡ suc j = omega (arith, low, high) in
      let P : ℕ → Type 0 = λ u. is_at_distance g u z w ≡ true in
      and-in _ _ parts.0 (subst P same near.2)) in
      let fewer = count-le _ _ g.vertices (λ w m. at w) in
      omega (arith, less, more, fewer)
