-- The balance equation for two vertices.
use Rattle.std.proofs.Common.{◌≡◌, ℕ, suc, ◌-◌, ◌*◌, ◌≤◌, Bool, true, false, refl, sym, subst, ◌∙◌, arith, inl, inr}
use Rattle.std.specs.Prelude.{◌==◌, ◌&&◌}
use Rattle.drg_algebra.specs.Sums.{bit, sum_over, below}
use Rattle.drg_algebra.specs.Steps.{step_weight, three_terms}
use Rattle.drg_algebra.proofs.Tests.{both, decided, not-false, and-comm, same-number, equal-self, differ, differ-test}
use Rattle.drg_algebra.proofs.Sums.{sum-same, sum-classes, sum-scale}
use Rattle.drg_algebra.proofs.Steps.{three-terms, three-same}
use Rattle.drg_algebra.proofs.Counts.{bit-true, bit-false, count-edges, count-one, count-zero, count-same}
use Rattle.drg_array.specs.Entries.{Entries, IsArray, diameter, b_at, c_at}
use Rattle.drg_graph.specs.Graph.{Graph, is_vertex, is_adjacent, is_at_distance, neighbours_at, pairs_at, IsDistanceRegular}
use Rattle.drg_array.proofs.EntryLemmas.{c-end}
use Rattle.drg_graph.proofs.Walks.{adjacent-sym}
use Rattle.drg_graph.proofs.Distances.{distance-unique, distance-left, distance-back, zero-self, zero-same, band, band-back}
use Rattle.drg_graph.proofs.Regular.{one-distance, stays}

-- as a natural number
abbrev pub stay_at : Entries → ℕ → ℕ
stay_at a i = b_at a 0 - b_at a i - c_at a i

abbrev pub weight : Entries → ℕ → ℕ → ℕ
weight a l j = step_weight (b_at a) (stay_at a) (c_at a) l j

abbrev pub terms : Entries → (ℕ → ℕ) → ℕ → ℕ
terms a f j = three_terms (b_at a) (stay_at a) (c_at a) f j

-- the weight of a step, by cases
weight-up : (a : Entries) (l : ℕ) → weight a l (suc l) ≡ b_at a l
weight-up a l =
    let one = bit-true (suc l == suc l) (equal-self (suc l)) in
    let two = bit-false (l == suc l) (differ-test l (suc l) (λ e. omega (arith, e))) in
    let three = bit-false (l == suc (suc l)) (differ-test l (suc (suc l)) (λ e. omega (arith, e))) in
    rw (one, two, three) (omega arith)

weight-stay : (a : Entries) (l : ℕ) → weight a l l ≡ stay_at a l
weight-stay a l =
    let one = bit-false (suc l == l) (differ-test (suc l) l (λ e. omega (arith, e))) in
    let two = bit-true (l == l) (equal-self l) in
    let three = bit-false (l == suc l) (differ-test l (suc l) (λ e. omega (arith, e))) in
    rw (one, two, three) (omega arith)

weight-down : (a : Entries) (j : ℕ) → weight a (suc j) j ≡ c_at a (suc j)
weight-down a j =
    let one = bit-false (suc (suc j) == j) (differ-test (suc (suc j)) j (λ e. omega (arith, e))) in
    let two = bit-false (suc j == j) (differ-test (suc j) j (λ e. omega (arith, e))) in
    let three = bit-true (suc j == suc j) (equal-self (suc j)) in
    rw (one, two, three) (omega arith)

weight-none : (a : Entries) (l j : ℕ) → (suc l == j) ≡ false → (l == j) ≡ false → (l == suc j) ≡ false → weight a l j ≡ 0
weight-none a l j up stay down =
    let one = bit-false (suc l == j) up in
    let two = bit-false (l == j) stay in
    let three = bit-false (l == suc j) down in
    rw (one, two, three) (omega arith)

two-bits : (p q : Bool) (m n : ℕ) → (q ≡ true → m ≡ n) → bit q * (bit p * m) ≡ bit (p && q) * n
two-bits true true m n same = (let e = same refl in omega (arith, e))
two-bits true false m n same = omega arith
two-bits false true m n same = omega arith
two-bits false false m n same = omega arith

module _ (g : Graph) (a : Entries) (r : IsDistanceRegular g a) where
  -- how many neighbours of z are at distance j from y
  pub one-step : (y z l j : ℕ) → is_at_distance g l y z ≡ true → neighbours_at g j y z ≡ weight a l j
  one-step y z l j e =
      elim (decided (suc l == j)) [
        | inl up ↦ (let same = same-number (suc l) j up in
            let P : ℕ → Type 0 = λ t. neighbours_at g t y z ≡ weight a l t in
            subst P same (r.further l y z e ∙ sym (weight-up a l)))
        | inr not_up ↦ (elim (decided (l == j)) [
          | inl stay ↦ (let same = same-number l j stay in
              let sum = stays g a r l y z e in
              let as_far : neighbours_at g l y z ≡ stay_at a l = omega (arith, sum) in
              let P : ℕ → Type 0 = λ t. neighbours_at g t y z ≡ weight a l t in
              subst P same (as_far ∙ sym (weight-stay a l)))
          | inr not_stay ↦ (elim (decided (l == suc j)) [
            | inl down ↦ (let same = same-number l (suc j) down in
                let P : ℕ → Type 0 = λ t. is_at_distance g t y z ≡ true in
                let Q : ℕ → Type 0 = λ t. neighbours_at g j y z ≡ weight a t j in
                subst Q (sym same) (r.nearer j y z (subst P same e) ∙ sym (weight-down a j)))
            | inr not_down ↦ (let apart_up = differ (suc l) j not_up in
                let apart_stay = differ l j not_stay in
                let apart_down = differ l (suc j) not_down in
                let no : (w : ℕ) → (is_adjacent g z w && is_at_distance g j y w) ≡ false =
                λ w. not-false _ (λ p. let parts = both (is_adjacent g z w) _ p in
                let high = band g l j y z w parts.0 e parts.1 in
                let low = band-back g l j y z w parts.0 e parts.1 in
                omega (arith, high, low, apart_up, apart_stay, apart_down)) in
                count-zero _ g.vertices (λ w m. no w) ∙ sym (weight-none a l j not_up not_stay not_down))
          ])
        ])
      ]

  -- the neighbours at distance j from y of all z at distance i from x
  half : IsArray a → (x y i j : ℕ) → is_vertex g y ≡ true → j ≤ diameter a
      → sum_over (λ z. bit (is_at_distance g i x z) * neighbours_at g j y z) g.vertices ≡ terms a (λ l. pairs_at g i l x y) j
  half array x y i j v h =
      let ls = below (suc (diameter a)) in
      let f = λ (z : ℕ). bit (is_at_distance g i x z) * neighbours_at g j y z in
      let classes = sum-classes f (λ z l. is_at_distance g l y z) g.vertices ls (λ z m. one-distance g a r y z v m) in
      let each : (l : ℕ) → sum_over (λ z. bit (is_at_distance g l y z) * f z) g.vertices ≡ weight a l j * pairs_at g i l x y =
      λ l. sum-same _ (λ z. bit (is_at_distance g i x z && is_at_distance g l y z) * weight a l j) g.vertices
      (λ z m. two-bits (is_at_distance g i x z) (is_at_distance g l y z) _ _ (one-step y z l j))
      ∙ (sum-scale (weight a l j) (λ z. bit (is_at_distance g i x z && is_at_distance g l y z)) g.vertices ∙ omega arith) in
      let last = c-end a (diameter a) array (omega arith) in
      classes ∙ (sum-same _ _ ls (λ l m. each l) ∙ three-terms (b_at a) (stay_at a) (c_at a) (λ l. pairs_at g i l x y) j (suc (diameter a)) (omega (arith, h)) last)

  pub pairs-swap : (i j x y : ℕ) → pairs_at g i j x y ≡ pairs_at g j i y x
  pairs-swap i j x y = count-same _ _ g.vertices (λ z m. and-comm (is_at_distance g i x z) (is_at_distance g j y z))

  -- the balance equation
  pub balance : IsArray a → (x y i j : ℕ) → is_vertex g x ≡ true → is_vertex g y ≡ true → i ≤ diameter a → j ≤ diameter a
      → terms a (λ l. pairs_at g i l x y) j ≡ terms a (λ l. pairs_at g l j x y) i
  balance array x y i j vx vy hi hj =
      let edges = count-edges (is_at_distance g i x) (is_at_distance g j y) (is_adjacent g) g.vertices (adjacent-sym g) in
      let left = half array x y i j vy hj in
      let right = half array y x j i vx hi in
      sym left ∙ (edges ∙ (right ∙ three-same (b_at a) (stay_at a) (c_at a) _ _ i (λ l. pairs-swap j l y x)))

  -- the row of 0
  pub pairs-start : (h j x y : ℕ) → is_at_distance g h x y ≡ true → pairs_at g 0 j x y ≡ bit (j == h)
  pairs-start h j x y e =
      let v = distance-left g h x y e in
      let back = distance-back g h x y e in
      elim (decided (j == h)) [
        | inl is ↦ (let same = same-number j h is in
            let P : ℕ → Type 0 = λ t. is_at_distance g t y x ≡ true in
            let at : is_at_distance g j y x ≡ true = subst P (sym same) back in
            count-one _ x g.vertices r.distinct v (rw (zero-self g x v, at) refl) (λ z p. zero-same g x z (both (is_at_distance g 0 x z) _ p).0)
            ∙ sym (bit-true (j == h) is))
        | inr not ↦ (let no : (z : ℕ) → (is_at_distance g 0 x z && is_at_distance g j y z) ≡ false =
            λ z. not-false _ (λ p. let parts = both (is_at_distance g 0 x z) _ p in
            let P : ℕ → Type 0 = λ t. is_at_distance g j y t ≡ true in
            let at = subst P (sym (zero-same g x z parts.0)) parts.1 in
            differ j h not (distance-unique g j h y x at back)) in
            count-zero _ g.vertices (λ z m. no z) ∙ sym (bit-false (j == h) not))
      ]
