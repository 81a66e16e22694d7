-- Triples of vertices of a graph, and their triple intersection numbers.
use Rattle.std.proofs.Common.{◌≡◌, ℕ, zero, suc, ◌+◌, ◌*◌, ◌≤◌, ◌<◌, Bool, true, false, List, refl, sym, subst, ap, ◌∙◌, arith, inl, inr}
use Rattle.std.specs.Prelude.{ℤ, pos, ◌+ℤ◌, ◌-ℤ◌, ◌*ℤ◌, ◌≤ℤ◌, ◌==◌, ◌&&◌, nat_lt, if◌then◌else◌, map}
use Rattle.std.specs.List.{range_with_len}
use Rattle.std.proofs.lemmas.Int.{ints}
use Rattle.std.proofs.lemmas.Bool.Decides.{nat_tests}
use Rattle.drg_algebra.specs.Sums.{bit, sum_over, count_of, below}
use Rattle.drg_algebra.proofs.Tests.{both, and-in, decided, not-false, never, same-number, equal-test}
use Rattle.drg_algebra.proofs.Sums.{sum-same, sum-first}
use Rattle.drg_algebra.proofs.Counts.{bit-true, bit-false, count-same, count-zero, count-one, count-some, count-classes}
use Rattle.drg_algebra.proofs.Parity.{turn}
use Rattle.drg_array.specs.Entries.{Entries, IsArray, diameter}
use Rattle.drg_graph.specs.Graph.{Graph, is_vertex, is_at_distance, pairs_at, IsDistanceRegular}
use Rattle.drg_graph.specs.Numbers.{AreRows}
use Rattle.drg_graph.proofs.Distances.{distance-unique, distance-right, distance-back, zero-self, zero-same}
use Rattle.drg_graph.proofs.Regular.{first_vertex, occurs, one-distance}
use Rattle.drg_graph.proofs.Rows.{rows-forced}
use Rattle.drg_linear.specs.declared.triple.TripleType.{TripleType}
use Rattle.drg_linear.specs.declared.triple.Vertex.{Vertex}
use Rattle.drg_linear.specs.declared.triple.Vertex.TheVariants.{First, Second, Third}
use Rattle.drg_linear.specs.Unknowns.{is_unknown, place}
use Rattle.drg_linear.specs.Equations.{Term, value_from, Meets}
use Rattle.drg_linear.specs.Triples.{unknown_over, sum_over as terms_over, counting_equation, MeetsCounting, IsTripleSolution}
use Rattle.drg_linear.proofs.Counting.{equations_bound}
use Rattle.drg_triple_numbers.specs.TripleNumbers.{AreApart, Triple, triple_at, number_of, numbers_at, IsWithin, AreNumbers, IsLive}
use Rattle.drg_triple_numbers.specs.Laws.{NumbersStandAtPlaces, TriplesExist, NumbersAreSolution, NoSolutionNoGraph}
use Rattle.drg_triple_numbers.proofs.Places.{unknowns_have_places}

rotate : (a b c : Bool) → (a && (b && c)) ≡ (c && (a && b))
rotate true true true = refl
rotate true true false = refl
rotate true false true = refl
rotate true false false = refl
rotate false b true = refl
rotate false b false = refl

-- ---- the numbers at their places
less_test : (m n : ℕ) → m < n → nat_lt m n ≡ true
less_test m n h = grind (arith, nat_tests)

chosen : (b : Bool) (x y : ℤ) → b ≡ true → (if b then x else y) ≡ x
chosen true x y h = refl
chosen false x y h = cc

pub stand_at_places : NumbersStandAtPlaces
stand_at_places g d u v w n h =
    chosen _ _ _ (less_test (place d n) (d * d * d) (unknowns_have_places.within d n h)) ∙ ap (number_of g u v w) (unknowns_have_places.back d n h)

natural_or : (b : Bool) (m : ℕ) → pos 0 ≤ℤ (if b then pos m else pos 0)
natural_or true m = omega (arith, ints)
natural_or false m = omega (arith, ints)

pub not_negative : (g : Graph) (d u v w k : ℕ) → pos 0 ≤ℤ numbers_at g d u v w k
not_negative g d u v w k = natural_or _ _

-- ---- sums over the unknowns with two of their distances given
terms_from : Vertex → ℕ → ℕ → ℕ → ℕ → List Term
terms_from vertex x y q n = map (λ q. (unknown_over vertex x y q, pos 1)) (range_with_len q n)

one_more : (t z : ℤ) (f s m : ℕ) → z ≡ pos f → m ≡ s + f → ((t +ℤ pos 1 *ℤ z) +ℤ pos s) ≡ (t +ℤ pos m)
one_more t z f s m e h = omega (arith, ints)

sum_is : (d : ℕ) (x : ℕ → ℤ) (vertex : Vertex) (i j q n : ℕ) (f : ℕ → ℕ) (total : ℤ) → ((k : ℕ) → q ≤ k → k < q + n → x (place d (unknown_over vertex i j k)) ≡ pos (f k))
    → value_from d x total (terms_from vertex i j q n) ≡ (total +ℤ pos (sum_over (λ l. f (q + l)) (below n)))
unfolding terms_from
sum_is d x vertex i j q zero f total are = omega (arith, ints)
sum_is d x vertex i j q (suc n) f total are =
    let z = x (place d (unknown_over vertex i j q)) in
    let rest = sum_is d x vertex i j (q + 1) n f (total +ℤ pos 1 *ℤ z) (λ k l m. are k (omega (arith, l)) (omega (arith, m))) in
    let same = sum-same (λ l. f (q + suc l)) (λ l. f (q + 1 + l)) (below n) (λ l h. ap f (omega arith)) in
    let here : f (q + 0) ≡ f q = ap f (omega arith) in
    rest ∙ one_more total z (f q) _ _ (are q (omega arith) (omega arith)) (sum-first (λ l. f (q + l)) n ∙ (ap (λ m. m + f (q + 0)) same ∙ ap (λ m. sum_over (λ l. f (q + 1 + l)) (below n) + m) here))

module _ (g : Graph) (a : Entries) (r : IsDistanceRegular g a) where
  -- over all distances from u, the others fixed
  sum-out : (u : ℕ) (p : ℕ → Bool) → is_vertex g u ≡ true
      → sum_over (λ l. count_of (λ x. is_at_distance g l u x && p x) g.vertices) (below (suc (diameter a))) ≡ count_of p g.vertices
  sum-out u p vu =
      count-classes p (λ l x. is_at_distance g l u x) g.vertices (below (suc (diameter a))) (λ x m. one-distance g a r u x vu m)

  -- only u is at distance 0 from u
  at-zero : (u i j s t v w : ℕ) → is_at_distance g i v u ≡ true → is_at_distance g j w u ≡ true
      → count_of (λ x. is_at_distance g 0 u x && (is_at_distance g s v x && is_at_distance g t w x)) g.vertices ≡ bit (s == i && t == j)
  at-zero u i j s t v w ev ew =
      let vu = distance-right g i v u ev in
      elim (decided (s == i && t == j)) [
        | inl is ↦ (let parts = both (s == i) (t == j) is in
            let P : ℕ → Type 0 = λ l. is_at_distance g l v u ≡ true in
            let Q : ℕ → Type 0 = λ l. is_at_distance g l w u ≡ true in
            let here = subst P (sym (same-number s i parts.0)) ev in
            let there = subst Q (sym (same-number t j parts.1)) ew in
            count-one _ u g.vertices r.distinct vu (rw (zero-self g u vu, here, there) refl) (λ x e. zero-same g u x (both (is_at_distance g 0 u x) _ e).0)
            ∙ sym (bit-true (s == i && t == j) is))
        | inr not ↦ (let no : (x : ℕ) → (is_at_distance g 0 u x && (is_at_distance g s v x && is_at_distance g t w x)) ≡ false =
            λ x. not-false _ (λ e. let outer = both (is_at_distance g 0 u x) _ e in
            let inner = both (is_at_distance g s v x) (is_at_distance g t w x) outer.1 in
            let same = sym (zero-same g u x outer.0) in
            let P : ℕ → Type 0 = λ z. is_at_distance g s v z ≡ true in
            let Q : ℕ → Type 0 = λ z. is_at_distance g t w z ≡ true in
            let one = equal-test s i (distance-unique g s i v u (subst P same inner.0) ev) in
            let two = equal-test t j (distance-unique g t j w u (subst Q same inner.1) ew) in
            never (s == i && t == j) (and-in (s == i) (t == j) one two) not) in
            count-zero _ g.vertices (λ x m. no x) ∙ sym (bit-false (s == i && t == j) not))
      ]

  -- over the distances from 1
  positive-out : (u i j s t v w : ℕ) → is_at_distance g i v u ≡ true → is_at_distance g j w u ≡ true
      → sum_over (λ l. count_of (λ x. is_at_distance g (suc l) u x && (is_at_distance g s v x && is_at_distance g t w x)) g.vertices) (below (diameter a)) + bit (s == i && t == j)
      ≡ pairs_at g s t v w
  positive-out u i j s t v w ev ew =
      let all = sum-out u (λ x. is_at_distance g s v x && is_at_distance g t w x) (distance-right g i v u ev) in
      let f = λ (l : ℕ). count_of (λ x. is_at_distance g l u x && (is_at_distance g s v x && is_at_distance g t w x)) g.vertices in
      let first = sum-first f (diameter a) in
      let fixed = at-zero u i j s t v w ev ew in
      ap (λ n. sum_over (λ l. f (suc l)) (below (diameter a)) + n) (sym fixed) ∙ (sym first ∙ all)

  signed : (n m k : ℕ) (z : ℤ) → n + m ≡ k → z ≡ pos k → (pos 0 +ℤ pos n) ≡ z -ℤ pos m
  signed n m k z e is = omega (arith, ints)

  -- a sum of triple numbers from distance 1 on, where each is a count
  counted : (x : ℕ → ℤ) (vertex : Vertex) (i j : ℕ) (f h : ℕ → ℕ) (b k : ℕ) (z : ℤ) → ((q : ℕ) → 1 ≤ q → q ≤ diameter a → x (place (diameter a) (unknown_over vertex i j q)) ≡ pos (f q))
      → ((q : ℕ) → f (suc q) ≡ h (suc q)) → sum_over (λ l. h (suc l)) (below (diameter a)) + b ≡ k → z ≡ pos k
      → value_from (diameter a) x (pos 0) (terms_over (diameter a) vertex i j) ≡ z -ℤ pos b
  unfolding terms_from
  counted x vertex i j f h b k z are same e is =
      let d = diameter a in
      let sum = sum_is d x vertex i j 1 d f (pos 0) (λ q l m. are q l (omega (arith, m))) in
      let turned = sum-same (λ l. f (1 + l)) (λ l. h (suc l)) (below d) (λ l m. (let up : 1 + l ≡ suc l = omega arith in ap f up ∙ same l)) in
      sum ∙ signed (sum_over (λ l. f (1 + l)) (below d)) b k z (ap (λ n. n + b) turned ∙ e) is

  index_tests : (d i j q : ℕ) (vertex : Vertex) → 1 ≤ i → i ≤ d → 1 ≤ j → j ≤ d → 1 ≤ q → q ≤ d → is_unknown d (unknown_over vertex i j q) ≡ true
  index_tests d i j q First a b e f g h = grind (arith, nat_tests)
  index_tests d i j q Second a b e f g h = grind (arith, nat_tests)
  index_tests d i j q Third a b e f g h = grind (arith, nat_tests)

  module _ (array : IsArray a) (p : ℕ → ℕ → ℕ → ℤ) (ty : TripleType) (inside : IsWithin a ty) (numbers : AreNumbers a p ty) where
    pub solution : (u v w : ℕ) → AreApart g ty u v w → IsTripleSolution (diameter a) p ty (numbers_at g (diameter a) u v w)
    solution u v w apart =
        let d = diameter a in
        let x = numbers_at g d u v w in
        let wu = distance-back g ty.v u w apart.uw in
        let wv = distance-back g ty.u v w apart.vw in
        let vu = distance-back g ty.w u v apart.uv in
        let number : (h y z i j : ℕ) → AreRows a h d (p h) → is_at_distance g h y z ≡ true → i ≤ d → j ≤ d → p h i j ≡ pos (pairs_at g i j y z) =
        λ h y z i j rows e hi hj. rows-forced g a r array h d (p h) (omega arith) rows y z e i hi i j (omega arith) hj in
        let at : (vertex : Vertex) (i j q : ℕ) → 1 ≤ i → i ≤ d → 1 ≤ j → j ≤ d → 1 ≤ q → q ≤ d → x (place d (unknown_over vertex i j q)) ≡ number_of g u v w (unknown_over vertex i j q) =
        λ vertex i j q li hi lj hj lq hq. stand_at_places g d u v w (unknown_over vertex i j q) (index_tests d i j q vertex li hi lj hj lq hq) in
        let counts : MeetsCounting d p ty x = λ vertex i j li hi lj hj. elim vertex as (λ vertex. Meets d x (counting_equation d p ty vertex i j)) [
          | First ↦ counted x First i j (λ q. triple_at g u v w q i j) (λ q. triple_at g u v w q i j) (bit (i == ty.w && j == ty.v)) _ (p ty.u i j)
              (λ q lq hq. at First i j q li hi lj hj lq hq) (λ q. refl) (positive-out u ty.w ty.v i j v w vu wu) (number ty.u v w i j numbers.first apart.vw hi hj)
          | Second ↦ counted x Second i j (λ q. triple_at g u v w i q j)
              (λ q. count_of (λ z. is_at_distance g q v z && (is_at_distance g i u z && is_at_distance g j w z)) g.vertices) (bit (i == ty.w && j == ty.u)) _ (p ty.v i j)
              (λ q lq hq. at Second i j q li hi lj hj lq hq)
              (λ q. count-same _ _ g.vertices (λ z m. turn (is_at_distance g i u z) (is_at_distance g (suc q) v z) (is_at_distance g j w z)))
              (positive-out v ty.w ty.u i j u w apart.uv wv) (number ty.v u w i j numbers.second apart.uw hi hj)
          | Third ↦ counted x Third i j (λ q. triple_at g u v w i j q)
              (λ q. count_of (λ z. is_at_distance g q w z && (is_at_distance g i u z && is_at_distance g j v z)) g.vertices) (bit (i == ty.v && j == ty.u)) _ (p ty.w i j)
              (λ q lq hq. at Third i j q li hi lj hj lq hq)
              (λ q. count-same _ _ g.vertices (λ z m. rotate (is_at_distance g i u z) (is_at_distance g j v z) (is_at_distance g (suc q) w z)))
              (positive-out w ty.v ty.u i j u v apart.uw apart.vw) (number ty.w u v i j numbers.third apart.uv hi hj)
        ] in
        equations_bound d p ty x (λ n h. not_negative g d u v w (place d n)) counts

    pub exist : IsLive p ty → Triple g ty
    exist live =
        let start = first_vertex g a r in
        let u = start.0 in
        let found = occurs g a r array u start.1 ty.w inside.w in
        let v = found.0 in
        let number = rows-forced g a r array ty.w (diameter a) (p ty.w) (omega arith) numbers.third u v found.1 ty.v inside.v ty.v ty.u (omega arith) inside.u in
        let some : 0 < pairs_at g ty.v ty.u u v = omega (arith, ints, number, live) in
        let third = count-some (λ z. is_at_distance g ty.v u z && is_at_distance g ty.u v z) g.vertices some in
        let parts = both (is_at_distance g ty.v u third.0) _ third.2 in
        record { u = u; v = v; w = third.0; apart = record { vw = parts.1; uw = parts.0; uv = found.1 } }

pub triples_exist : TriplesExist
triples_exist g a p ty array regular inside numbers live = exist g a regular array p ty inside numbers live

pub numbers_are_solution : NumbersAreSolution
numbers_are_solution g a p ty u v w array regular inside numbers apart = solution g a regular array p ty inside numbers u v w apart

pub no_solution_no_graph : NoSolutionNoGraph
no_solution_no_graph a p ty array inside numbers live none g regular =
    let three = exist g a regular array p ty inside numbers live in
    none (numbers_at g (diameter a) three.u three.v three.w) (solution g a regular array p ty inside numbers three.u three.v three.w three.apart)
