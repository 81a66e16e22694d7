-- Ordered pairs of a symmetric relation without loops are even in number; its ordered triangles are divisible by 6.
use Rattle.std.proofs.Common.{◌≡◌, ℕ, ◌+◌, ◌*◌, Bool, true, false, List, [], ◌∷◌, refl, ap, ◌∙◌, arith}
use Rattle.std.specs.Prelude.{◌&&◌}
use Rattle.drg_algebra.specs.Sums.{bit, sum_over, count_of, is_triangle, triangles}
use Rattle.drg_algebra.proofs.Tests.{and-comm}
use Rattle.drg_algebra.proofs.Sums.{sum-same, sum-add, sum-zero}
use Rattle.drg_algebra.proofs.Counts.{count-same, bit-false}

-- the sum over a list with one more member, in both places
square-more : (f : ℕ → ℕ → ℕ) (v : ℕ) (vs : List ℕ)
    → sum_over (λ x. sum_over (f x) (v ∷ vs)) (v ∷ vs) ≡ f v v + sum_over (f v) vs + (sum_over (λ x. f x v) vs + sum_over (λ x. sum_over (f x) vs) vs)
square-more f v vs = (let split = sum-add (λ x. f x v) (λ x. sum_over (f x) vs) vs in rw split refl)

pub pairs-even : (r : ℕ → ℕ → Bool) (xs : List ℕ) → ((x y : ℕ) → r x y ≡ r y x) → ((x : ℕ) → r x x ≡ false)
    → (m : ℕ) × (sum_over (λ x. count_of (r x) xs) xs ≡ 2 * m)
pairs-even r [] swap loop = (0, refl)
pairs-even r (v ∷ vs) swap loop =
    let rest = pairs-even r vs swap loop in
    let more = square-more (λ x y. bit (r x y)) v vs in
    let none = bit-false (r v v) (loop v) in
    let same = count-same (λ x. r x v) (r v) vs (λ x h. swap x v) in
    let even = rest.1 in
    (count_of (r v) vs + rest.0, more ∙ rw (none, same, even) (omega arith))

loop-first : (a b c : Bool) → a ≡ false → (a && (b && c)) ≡ false
loop-first true b c h = (let e = h in cc)
loop-first false b c h = refl

loop-second : (a b c : Bool) → b ≡ false → (a && (b && c)) ≡ false
loop-second true true c h = (let e = h in cc)
loop-second true false c h = refl
loop-second false b c h = refl

pub loop-third : (a b c : Bool) → c ≡ false → (a && (b && c)) ≡ false
loop-third true true c h = h
loop-third true false c h = refl
loop-third false b c h = refl

pub turn : (a b c : Bool) → (a && (b && c)) ≡ (b && (a && c))
turn true true c = refl
turn true false c = refl
turn false true c = refl
turn false false c = refl

swing : (a b c : Bool) → (a && (b && c)) ≡ (b && (c && a))
swing true true true = refl
swing true true false = refl
swing true false c = refl
swing false true true = refl
swing false true false = refl
swing false false c = refl

module _ (r : ℕ → ℕ → Bool) (swap : (x y : ℕ) → r x y ≡ r y x) (loop : (x : ℕ) → r x x ≡ false) where
  -- with two places equal there is none
  same-xy : (x z : ℕ) → bit (is_triangle r x x z) ≡ 0
  same-xy x z = bit-false _ (loop-first (r x x) (r x z) (r x z) (loop x))

  same-xz : (x y : ℕ) → bit (is_triangle r x y x) ≡ 0
  same-xz x y = bit-false _ (loop-second (r x y) (r x x) (r y x) (loop x))

  same-yz : (x y : ℕ) → bit (is_triangle r x y y) ≡ 0
  same-yz x y = bit-false _ (loop-third (r x y) (r x y) (r y y) (loop y))

  -- the first place goes to the second, and to the third
  to-second : (v x z : ℕ) → is_triangle r x v z ≡ is_triangle r v x z
  to-second v x z = rw (swap x v) (ap (λ b. r v x && b) (and-comm (r x z) (r v z)))

  to-third : (v x y : ℕ) → is_triangle r x y v ≡ is_triangle r v x y
  to-third v x y = rw (swap x v, swap y v) (swing (r x y) (r v x) (r v y))

  -- the triangles at v, as a relation of two
  abbrev at : ℕ → ℕ → ℕ → Bool
  at v y z = is_triangle r v y z

  at-swap : (v y z : ℕ) → is_triangle r v y z ≡ is_triangle r v z y
  at-swap v y z = rw (swap y z) (turn (r v y) (r v z) (r z y))

  at-even : (v : ℕ) (xs : List ℕ) → (m : ℕ) × (sum_over (λ y. count_of (is_triangle r v y) xs) xs ≡ 2 * m)
  at-even v xs =
      pairs-even (is_triangle r v) xs (at-swap v) (λ y. loop-third (r v y) (r v y) (r y y) (loop y))

  -- one more member: three times the triangles at it
  triangles-more : (v : ℕ) (vs : List ℕ) → triangles r (v ∷ vs) ≡ triangles r vs + 3 * sum_over (λ y. count_of (is_triangle r v y) vs) vs
  triangles-more v vs =
      let pairs = λ (x : ℕ) (xs : List ℕ). sum_over (λ y. count_of (is_triangle r x y) xs) xs in
      let inner : (x : ℕ) → pairs x (v ∷ vs) ≡ bit (is_triangle r x v v) + count_of (is_triangle r x v) vs + (count_of (λ y. is_triangle r x y v) vs + pairs x vs) =
      λ x. square-more (λ y z. bit (is_triangle r x y z)) v vs in
      let first : pairs v (v ∷ vs) ≡ pairs v vs =
      inner v ∙ rw (same-xy v v, sum-zero _ vs (λ z h. same-xy v z), sum-zero _ vs (λ y h. same-xz v y)) (omega arith) in
      let each : (x : ℕ) → pairs x (v ∷ vs) ≡ count_of (is_triangle r v x) vs + (count_of (is_triangle r v x) vs + pairs x vs) =
      λ x. inner x ∙ rw (same-yz x v, count-same _ _ vs (λ z h. to-second v x z), count-same _ _ vs (λ y h. to-third v x y)) (omega arith) in
      let rest = sum-same (λ x. pairs x (v ∷ vs)) _ vs (λ x h. each x) in
      let outer = sum-add (λ x. count_of (is_triangle r v x) vs) (λ x. count_of (is_triangle r v x) vs + pairs x vs) vs in
      let deeper = sum-add (λ x. count_of (is_triangle r v x) vs) (λ x. pairs x vs) vs in
      rw (first, rest, outer, deeper) (omega arith)

  pub triangles-six : (xs : List ℕ) → (m : ℕ) × (triangles r xs ≡ 6 * m)
  triangles-six [] = (0, refl)
  triangles-six (v ∷ vs) =
      let rest = triangles-six vs in
      let half = at-even v vs in
      let before = rest.1 in
      let pairs = half.1 in
      (rest.0 + half.0, triangles-more v vs ∙ rw (before, pairs) (omega arith))
