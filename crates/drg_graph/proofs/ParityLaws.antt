-- The laws of parity: pairs and triangles of a distance.
use Rattle.std.proofs.Common.{◌≡◌, ℕ, zero, suc, ◌*◌, ◌≤◌, true, List, [], ◌∷◌, length, sym, ap, ◌∙◌, arith}
use Rattle.std.specs.Prelude.{ℤ, pos, ◌*ℤ◌, ◌&&◌}
use Rattle.drg_algebra.specs.Sums.{bit, sum_over, count_of, is_among, IsMultiple}
use Rattle.drg_algebra.proofs.Sums.{sum-same, sum-scale}
use Rattle.drg_algebra.proofs.Counts.{bit-and, sum-constant}
use Rattle.drg_algebra.proofs.Parity.{pairs-even, triangles-six as six-orders, loop-third, turn}
use Rattle.drg_array.specs.Entries.{Entries, IsArray, diameter}
use Rattle.drg_graph.specs.Graph.{Graph, is_vertex, is_at_distance, sphere, pairs_at, IsDistanceRegular}
use Rattle.drg_graph.specs.ParityLaws.{HandshakeLaw, InducedLaw, TrianglesLaw}
use Rattle.drg_graph.proofs.Distances.{distance-sym, distance-left, no-loop}
use Rattle.drg_graph.proofs.Regular.{first_vertex, occurs}
use Rattle.drg_graph.proofs.Sizes.{sizes, same-sphere}
use Rattle.drg_graph.proofs.SizeLaws.{sum-sizes}
use Rattle.drg_graph.proofs.Rows.{rows-forced, same-pairs}

all : (c : ℕ) (xs : List ℕ) → sum_over (λ x. c) xs ≡ length xs * c
all c [] = omega arith
all c (x ∷ xs) = (let rest = all c xs in omega (arith, rest))

sum-all : (f : ℕ → ℕ) (c : ℕ) (xs : List ℕ) → ((x : ℕ) → is_among x xs ≡ true → f x ≡ c) → sum_over f xs ≡ length xs * c
sum-all f c xs same = sum-same f (λ x. c) xs same ∙ all c xs

module _ (g : Graph) where
  -- every vertex has s vertices at distance i
  sphere-pairs : (i s : ℕ) → ((x : ℕ) → is_vertex g x ≡ true → sphere g (suc i) x ≡ s) → (m : ℕ) × (length g.vertices * s ≡ 2 * m)
  sphere-pairs i s same =
      let even = pairs-even (is_at_distance g (suc i)) g.vertices (distance-sym g (suc i)) (no-loop g i) in
      (even.0, sym (sum-all (sphere g (suc i)) s g.vertices same) ∙ even.1)

  -- the sum over the y in the sphere of x of the z in both spheres
  cut : (i j x y : ℕ) → count_of (λ z. is_at_distance g i x y && (is_at_distance g i x z && is_at_distance g j y z)) g.vertices
      ≡ bit (is_at_distance g i x y) * pairs_at g i j x y
  cut i j x y =
      sum-same _ (λ z. bit (is_at_distance g i x z && is_at_distance g j y z) * bit (is_at_distance g i x y)) g.vertices
      (λ z h. bit-and (is_at_distance g i x y) (is_at_distance g i x z && is_at_distance g j y z) ∙ omega arith)
      ∙ (sum-scale (bit (is_at_distance g i x y)) (λ z. bit (is_at_distance g i x z && is_at_distance g j y z)) g.vertices ∙ omega arith)

  -- in the sphere of x, each y has q vertices at distance j
  sphere-inside : (i j q x : ℕ) → ((y : ℕ) → is_at_distance g i x y ≡ true → pairs_at g i (suc j) x y ≡ q)
      → (m : ℕ) × (sphere g i x * q ≡ 2 * m)
  sphere-inside i j q x same =
      let rel = λ (y z : ℕ). is_at_distance g i x y && (is_at_distance g i x z && is_at_distance g (suc j) y z) in
      let swap : (y z : ℕ) → rel y z ≡ rel z y =
      λ y z. rw (distance-sym g (suc j) y z) (turn (is_at_distance g i x y) (is_at_distance g i x z) (is_at_distance g (suc j) z y)) in
      let even = pairs-even rel g.vertices swap (λ y. loop-third (is_at_distance g i x y) (is_at_distance g i x y) _ (no-loop g j y)) in
      let counts = sum-constant (is_at_distance g i x) (pairs_at g i (suc j) x) q g.vertices (λ y h e. same y e) in
      (even.0, sym counts ∙ (sym (sum-same _ _ g.vertices (λ y h. cut i (suc j) x y)) ∙ even.1))

  sphere-triangles : (i s q : ℕ) → ((x : ℕ) → is_vertex g x ≡ true → sphere g (suc i) x ≡ s)
      → ((x y : ℕ) → is_at_distance g (suc i) x y ≡ true → pairs_at g (suc i) (suc i) x y ≡ q)
      → (m : ℕ) × (length g.vertices * (s * q) ≡ 6 * m)
  sphere-triangles i s q size same =
      let six = six-orders (is_at_distance g (suc i)) (distance-sym g (suc i)) (no-loop g i) g.vertices in
      let each : (x : ℕ) → is_among x g.vertices ≡ true
      → sum_over (λ y. count_of (λ z. is_at_distance g (suc i) x y && (is_at_distance g (suc i) x z && is_at_distance g (suc i) y z)) g.vertices) g.vertices ≡ s * q =
      λ x v. sum-same _ _ g.vertices (λ y h. cut (suc i) (suc i) x y)
      ∙ (sum-constant (is_at_distance g (suc i) x) (pairs_at g (suc i) (suc i) x) q g.vertices (λ y h e. same x y e) ∙ ap (λ t. t * q) (size x v)) in
      (six.0, sym (sum-all _ (s * q) g.vertices each) ∙ six.1)

module _ (g : Graph) (a : Entries) (r : IsDistanceRegular g a) (array : IsArray a) where
  -- n times the size of a sphere
  pub handshake-even : (i x : ℕ) → 1 ≤ i → i ≤ diameter a → is_vertex g x ≡ true → (m : ℕ) × (length g.vertices * sphere g i x ≡ 2 * m)
  handshake-even zero x low high v = absurd (omega (arith, low))
  handshake-even (suc i) x low high v = sphere-pairs g i (sphere g (suc i) x) (λ y vy. same-sphere g a r array (suc i) y x high vy v)

  -- the size of a sphere times the number in it at distance j from a member
  pub induced-even : (i j x y : ℕ) → 1 ≤ j → i ≤ diameter a → j ≤ diameter a → is_at_distance g i x y ≡ true
      → (m : ℕ) × (sphere g i x * pairs_at g i j x y ≡ 2 * m)
  induced-even i zero x y low hi hj e = absurd (omega (arith, low))
  induced-even i (suc j) x y low hi hj e = sphere-inside g i j (pairs_at g i (suc j) x y) x (λ z f. same-pairs g a r array i i (suc j) x z x y hi hj f e)

  -- the ordered triples with all distances i
  pub triangles-six : (i x y : ℕ) → 1 ≤ i → i ≤ diameter a → is_at_distance g i x y ≡ true
      → (m : ℕ) × (length g.vertices * (sphere g i x * pairs_at g i i x y) ≡ 6 * m)
  triangles-six zero x y low high e = absurd (omega (arith, low))
  triangles-six (suc i) x y low high e =
      sphere-triangles g i (sphere g (suc i) x) (pairs_at g (suc i) (suc i) x y)
      (λ u v. same-sphere g a r array (suc i) u x high v (distance-left g (suc i) x y e))
      (λ u v f. same-pairs g a r array (suc i) (suc i) (suc i) u v x y high high f e)

-- a product of counts that is a multiple
product-two : (x y : ℤ) (n m t q : ℕ) → x ≡ pos n → y ≡ pos m → n * m ≡ t * q → IsMultiple t (x *ℤ y)
product-two x y n m t q one two e = (pos q, rw (one, two) (ap pos e))

product-three : (x y z : ℤ) (n m l t q : ℕ) → x ≡ pos n → y ≡ pos m → z ≡ pos l → n * (m * l) ≡ t * q → IsMultiple t (x *ℤ y *ℤ z)
product-three x y z n m l t q one two three e =
    let flat : n * m * l ≡ t * q = omega (arith, e) in (pos q, rw (one, two, three) (ap pos flat))

pub handshake_law : HandshakeLaw
handshake_law a k i array are low high odd g r =
    let start = first_vertex g a r in
    let even = handshake-even g a r array i start.0 low high start.1 in
    let size = sizes g a r k (diameter a) start.0 array (omega arith) are start.1 i high in
    odd (product-two _ (k i) _ _ 2 even.0 (sym (sum-sizes g a k array r are)) size even.1)

pub induced_law : InducedLaw
induced_law a k p i j array are rows low hi hj odd g r =
    let start = first_vertex g a r in
    let x = start.0 in
    let found = occurs g a r array x start.1 i hi in
    let y = found.0 in
    let even = induced-even g a r array i j x y low hi hj found.1 in
    let size = sizes g a r k i x array hi are start.1 i (omega arith) in
    let row = rows-forced g a r array i i p hi rows x y found.1 i (omega arith) i j (omega arith) hj in
    odd (product-two (k i) (p i j) _ _ 2 even.0 size row even.1)

pub triangles_law : TrianglesLaw
triangles_law a k p i array are rows low high odd g r =
    let start = first_vertex g a r in
    let x = start.0 in
    let found = occurs g a r array x start.1 i high in
    let y = found.0 in
    let six = triangles-six g a r array i x y low high found.1 in
    let size = sizes g a r k (diameter a) x array (omega arith) are start.1 i high in
    let row = rows-forced g a r array i i p high rows x y found.1 i (omega arith) i i (omega arith) high in
    odd (product-three _ (k i) (p i i) _ _ _ 6 six.0 (sym (sum-sizes g a k array r are)) size row six.1)
