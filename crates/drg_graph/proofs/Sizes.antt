-- The sizes of the spheres, and the number of vertices.
use Rattle.std.proofs.Common.{◌≡◌, ℕ, zero, suc, ◌*◌, ◌≤◌, true, List, [], ◌∷◌, length, refl, sym, ap, ◌∙◌, arith}
use Rattle.std.specs.Prelude.{ℤ, pos, ◌*ℤ◌}
use Rattle.std.proofs.lemmas.Int.{ints}
use Rattle.drg_algebra.proofs.Whole.{cancel-right}
use Rattle.drg_algebra.specs.Sums.{bit, sum_over, below}
use Rattle.drg_algebra.proofs.Sums.{sum-same, sum-classes}
use Rattle.drg_algebra.proofs.Counts.{count-edges, count-one, sum-constant}
use Rattle.drg_array.specs.Entries.{Entries, IsArray, diameter, b_at, c_at}
use Rattle.drg_graph.specs.Graph.{Graph, is_vertex, is_adjacent, is_at_distance, neighbours_at, sphere, IsDistanceRegular}
use Rattle.drg_graph.specs.Numbers.{AreSizes}
use Rattle.drg_array.proofs.EntryLemmas.{c-positive}
use Rattle.drg_graph.proofs.Walks.{adjacent-sym}
use Rattle.drg_graph.proofs.Distances.{zero-self, zero-same}
use Rattle.drg_graph.proofs.Regular.{one-distance}

length-ones : (xs : List ℕ) → length xs ≡ sum_over (λ x. 1) xs
length-ones [] = refl
length-ones (x ∷ xs) = (let rest = length-ones xs in omega (arith, rest))

module _ (g : Graph) (a : Entries) (r : IsDistanceRegular g a) where
  pub sphere-start : (x : ℕ) → is_vertex g x ≡ true → sphere g 0 x ≡ 1
  sphere-start x v = count-one (is_at_distance g 0 x) x g.vertices r.distinct v (zero-self g x v) (zero-same g x)

  -- the edges between two neighbouring spheres, from both sides
  pub sphere-next : (x i : ℕ) → sphere g i x * b_at a i ≡ sphere g (suc i) x * c_at a (suc i)
  sphere-next x i =
      let p = is_at_distance g i x in
      let q = is_at_distance g (suc i) x in
      let up = sum-constant p (neighbours_at g (suc i) x) (b_at a i) g.vertices (λ z m e. r.further i x z e) in
      let down = sum-constant q (neighbours_at g i x) (c_at a (suc i)) g.vertices (λ z m e. r.nearer i x z e) in
      let edges = count-edges p q (is_adjacent g) g.vertices (adjacent-sym g) in
      sym up ∙ (edges ∙ down)

  pub sizes : (k : ℕ → ℤ) (m x : ℕ) → IsArray a → m ≤ diameter a → AreSizes a m k → is_vertex g x ≡ true
      → (i : ℕ) → i ≤ m → k i ≡ pos (sphere g i x)
  sizes k m x array small are v zero h = are.start ∙ ap pos (sym (sphere-start x v))
  sizes k m x array small are v (suc i) h =
      let before = sizes k m x array small are v i (omega (arith, h)) in
      let positive = c-positive a i array (omega (arith, h, small)) in
      cancel-right (k (suc i)) (c_at a (suc i)) (sphere g (suc i) x) positive
      (are.next i h ∙ (ap (λ z. z *ℤ pos (b_at a i)) before ∙ ap pos (sphere-next x i)))

  pub vertices : (x : ℕ) → is_vertex g x ≡ true → length g.vertices ≡ sum_over (λ i. sphere g i x) (below (suc (diameter a)))
  vertices x v =
      let classes = sum-classes (λ z. 1) (λ z l. is_at_distance g l x z) g.vertices (below (suc (diameter a))) (λ z m. one-distance g a r x z v m) in
      let ones : (l : ℕ) → sum_over (λ z. bit (is_at_distance g l x z) * 1) g.vertices ≡ sphere g l x =
      λ l. sum-same _ _ g.vertices (λ z m. omega arith) in
      length-ones g.vertices ∙ (classes ∙ sum-same _ _ (below (suc (diameter a))) (λ l m. ones l))

  -- a sphere has the same size at each vertex
  pub same-sphere : IsArray a → (i x y : ℕ) → i ≤ diameter a → is_vertex g x ≡ true → is_vertex g y ≡ true → sphere g i x ≡ sphere g i y
  same-sphere array i x y h vx vy =
      let are : AreSizes a (diameter a) (λ l. pos (sphere g l x)) = record { start = ap pos (sphere-start x vx); next = λ l hl. ap pos (sym (sphere-next x l)) } in
      let same = sizes (λ l. pos (sphere g l x)) (diameter a) y array (omega arith) are vy i h in
      omega (arith, ints, same)
