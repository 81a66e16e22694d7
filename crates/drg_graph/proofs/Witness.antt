-- The test of a graph against an array is true exactly of the graphs of the array, and a graph has one array.
use Rattle.std.proofs.Common.{◌≡◌, ℕ, suc, ◌≤◌, ◌<◌, Bool, true, List, [], ◌∷◌, length, refl, sym, ◌∙◌, arith, inl, inr}
use Rattle.std.specs.Prelude.{◌==◌, ◌&&◌, not, zero}
use Rattle.drg_algebra.specs.Sums.{is_among, below, AreDistinct}
use Rattle.drg_algebra.proofs.Tests.{both, and-in, either, or-left, or-right, never, not-true, not-in, decided, same-number, equal-test, any-out, any-in, among-first, among-later, below-in, below-out}
use Rattle.drg_array.specs.Entries.{Entries, IsArray, diameter, b_at, c_at}
use Rattle.drg_graph.specs.Graph.{Graph, is_vertex, is_adjacent, is_at_distance, neighbours_at, IsDistanceRegular}
use Rattle.drg_graph.specs.Witness.{all_of, are_distinct, is_near, has_far, nearer_right, is_right, is_regular, belongs, CheckLaw, OneArrayLaw}
use Rattle.drg_graph.specs.Witness.{petersen, PetersenLaw, heptagon, HeptagonLaw, edge, EdgeLaw, complete, CompleteLaw, octahedron, OctahedronLaw, cube, CubeLaw}
use Rattle.drg_graph.proofs.Distances.{distance-unique, distance-left, distance-right}
use Rattle.drg_graph.proofs.DistanceLaws.{distances_law}

all-out : (p : ℕ → Bool) (xs : List ℕ) (x : ℕ) → all_of p xs ≡ true → is_among x xs ≡ true → p x ≡ true
all-out p [] x e among = (let f = among in cc)
all-out p (y ∷ ys) x e among =
    let parts = both (p y) _ e in
    elim (either (y == x) (is_among x ys) among) [
      | inl here ↦ (let same = same-number y x here in rw (sym same) parts.0)
      | inr later ↦ all-out p ys x parts.1 later
    ]

all-in : (p : ℕ → Bool) (xs : List ℕ) → ((x : ℕ) → is_among x xs ≡ true → p x ≡ true) → all_of p xs ≡ true
all-in p [] h = refl
all-in p (y ∷ ys) h = and-in (p y) _ (h y (among-first y ys)) (all-in p ys (λ x among. h x (among-later x y ys among)))

distinct-out : (xs : List ℕ) → are_distinct xs ≡ true → AreDistinct xs
distinct-out [] e = tt
distinct-out (x ∷ xs) e = (let parts = both (not (is_among x xs)) _ e in (not-true (is_among x xs) parts.0, distinct-out xs parts.1))

distinct-in : (xs : List ℕ) → AreDistinct xs → are_distinct xs ≡ true
distinct-in [] d = refl
distinct-in (x ∷ xs) d = and-in (not (is_among x xs)) _ (not-in (is_among x xs) d.0) (distinct-in xs d.1)

some-length : (x : ℕ) (xs : List ℕ) → is_among x xs ≡ true → 0 < length xs
some-length x [] e = (let f = e in cc)
some-length x (y ∷ ys) e = omega arith

module _ (g : Graph) (a : Entries) (e : is_regular g a ≡ true) where
  at : (x y : ℕ) → is_vertex g x ≡ true → is_vertex g y ≡ true → (is_near g a x y && all_of (is_right g a x y) (below (suc (diameter a)))) ≡ true
  at x y vx vy = all-out _ g.vertices y (all-out _ g.vertices x e vx) vy

  close : (x y : ℕ) → is_vertex g x ≡ true → is_vertex g y ≡ true → (t : ℕ) × (t ≤ diameter a) × (is_at_distance g t x y ≡ true)
  close x y vx vy =
      let found = any-out (λ t. is_at_distance g t x y) (below (suc (diameter a))) (both (is_near g a x y) _ (at x y vx vy)).0 in
      let small = below-out (suc (diameter a)) found.0 found.1 in
      (found.0, omega (arith, small), found.2)

  numbers : (i x y : ℕ) → is_at_distance g i x y ≡ true → (neighbours_at g (suc i) x y ≡ b_at a i) × (nearer_right g a x y i ≡ true)
  numbers i x y f =
      let vx = distance-left g i x y f in
      let vy = distance-right g i x y f in
      let near = close x y vx vy in
      let small = near.1 in
      let same = distance-unique g i near.0 x y f near.2 in
      let right = all-out (is_right g a x y) (below (suc (diameter a))) i (both (is_near g a x y) _ (at x y vx vy)).1 (below-in (suc (diameter a)) i (omega (arith, small, same))) in
      elim (either (not (is_at_distance g i x y)) _ right) [
        | inl off ↦ absurd (never (is_at_distance g i x y) f (not-true _ off))
        | inr good ↦ (let parts = both (neighbours_at g (suc i) x y == b_at a i) _ good in (same-number _ _ parts.0, parts.1))
      ]

passes : (g : Graph) (a : Entries) → belongs g a ≡ true → IsDistanceRegular g a
passes g a e =
    let outer = both (are_distinct g.vertices && has_far g a) _ e in
    let inner = both (are_distinct g.vertices) _ outer.0 in
    let first = any-out _ g.vertices inner.1 in
    let x = first.0 in
    let second = any-out (is_at_distance g (diameter a) x) g.vertices first.2 in
    let far = second.2 in
    let regular = outer.1 in
    record {
      some = some-length x g.vertices (distance-left g (diameter a) x second.0 far);
      distinct = distinct-out g.vertices inner.0;
      near = λ u v vu vv. close g a regular u v vu vv;
      far = (x, second.0, far);
      further = λ i u v f. (numbers g a regular i u v f).0;
      nearer = λ i u v f. same-number _ _ (numbers g a regular (suc i) u v f).1;
    }

module _ (g : Graph) (a : Entries) (r : IsDistanceRegular g a) where
  far-in : has_far g a ≡ true
  far-in =
      let f = r.far in
      let second = any-in (is_at_distance g (diameter a) f.0) g.vertices f.1 (distance-right g (diameter a) f.0 f.1 f.2) f.2 in
      any-in _ g.vertices f.0 (distance-left g (diameter a) f.0 f.1 f.2) second

  near-in : (x y : ℕ) → is_vertex g x ≡ true → is_vertex g y ≡ true → is_near g a x y ≡ true
  near-in x y vx vy =
      let near = r.near x y vx vy in
      let small = near.1 in
      any-in (λ t. is_at_distance g t x y) (below (suc (diameter a))) near.0 (below-in (suc (diameter a)) near.0 (omega (arith, small))) near.2

  nearer-in : (x y i : ℕ) → is_at_distance g i x y ≡ true → nearer_right g a x y i ≡ true
  nearer-in x y zero f = refl
  nearer-in x y (suc i) f = equal-test _ _ (r.nearer i x y f)

  right-in : (x y i : ℕ) → is_right g a x y i ≡ true
  right-in x y i =
      elim (decided (is_at_distance g i x y)) [
        | inl f ↦ or-right (not (is_at_distance g i x y)) _ (and-in (neighbours_at g (suc i) x y == b_at a i) _ (equal-test _ _ (r.further i x y f)) (nearer-in x y i f))
        | inr off ↦ or-left (not (is_at_distance g i x y)) _ (not-in (is_at_distance g i x y) off)
      ]

  regular-in : is_regular g a ≡ true
  regular-in = all-in _ g.vertices (λ x vx. all-in _ g.vertices (λ y vy. and-in (is_near g a x y) _ (near-in x y vx vy) (all-in (is_right g a x y) (below (suc (diameter a))) (λ i h. right-in x y i))))

  is-passed : belongs g a ≡ true
  is-passed = and-in (are_distinct g.vertices && has_far g a) _ (and-in (are_distinct g.vertices) _ (distinct-in g.vertices r.distinct) far-in) regular-in

pub check_law : CheckLaw
check_law g a = (passes g a, is-passed g a)

shallow : (g : Graph) (a b : Entries) → IsDistanceRegular g a → IsDistanceRegular g b → diameter a ≤ diameter b
shallow g a b ra rb =
    let f = ra.far in
    let n = rb.near f.0 f.1 (distance-left g (diameter a) f.0 f.1 f.2) (distance-right g (diameter a) f.0 f.1 f.2) in
    let same = distance-unique g (diameter a) n.0 f.0 f.1 f.2 n.2 in
    let small = n.1 in
    omega (arith, same, small)

nearer_same : (g : Graph) (a b : Entries) → IsArray a → IsDistanceRegular g a → IsDistanceRegular g b → (i : ℕ) → i ≤ diameter a → c_at a i ≡ c_at b i
nearer_same g a b ia ra rb zero h = refl
nearer_same g a b ia ra rb (suc i) h =
    let f = ra.far in
    let y = distances_law g a f.0 (suc i) ia ra (distance-left g (diameter a) f.0 f.1 f.2) h in
    sym (ra.nearer i f.0 y.0 y.1) ∙ rb.nearer i f.0 y.0 y.1

pub one_array_law : OneArrayLaw
one_array_law g a b ia ra rb =
    let one = shallow g a b ra rb in
    let two = shallow g b a rb ra in (
      omega (arith, one, two),
      λ i h.
          let f = ra.far in
          let y = distances_law g a f.0 i ia ra (distance-left g (diameter a) f.0 f.1 f.2) h in
          (sym (ra.further i f.0 y.0 y.1) ∙ rb.further i f.0 y.0 y.1, nearer_same g a b ia ra rb i h),
    )

pub petersen_law : PetersenLaw
unfolding is_adjacent
petersen_law = passes petersen (record { b = 3 ∷ 2 ∷ []; c = 1 ∷ 1 ∷ [] }) refl

pub heptagon_law : HeptagonLaw
unfolding is_adjacent
heptagon_law = passes heptagon (record { b = 2 ∷ 1 ∷ 1 ∷ []; c = 1 ∷ 1 ∷ 1 ∷ [] }) refl

pub edge_law : EdgeLaw
unfolding is_adjacent
edge_law = passes edge (record { b = 1 ∷ []; c = 1 ∷ [] }) refl

pub complete_law : CompleteLaw
unfolding is_adjacent
complete_law = passes complete (record { b = 3 ∷ []; c = 1 ∷ [] }) refl

pub octahedron_law : OctahedronLaw
unfolding is_adjacent
octahedron_law = passes octahedron (record { b = 4 ∷ 1 ∷ []; c = 1 ∷ 4 ∷ [] }) refl

pub cube_law : CubeLaw
unfolding is_adjacent
cube_law = passes cube (record { b = 3 ∷ 2 ∷ 1 ∷ []; c = 1 ∷ 2 ∷ 3 ∷ [] }) refl
