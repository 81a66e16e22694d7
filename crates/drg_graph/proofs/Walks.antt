-- Adjacency and walks.
use Rattle.std.proofs.Common.{◌≡◌, ℕ, zero, suc, ◌+◌, ◌<◌, true, false, refl, sym, subst, ◌∙◌, arith, inl, inr}
use Rattle.std.specs.Prelude.{◌==◌, ◌&&◌, ◌||◌, not}
use Rattle.drg_algebra.proofs.Tests.{both, either, or-left, or-right, or-comm, not-true, decided, same-test, same-number, equal-self, differ-test, differ, any-out, any-in}
use Rattle.drg_graph.specs.Graph.{Graph, is_vertex, is_pair, is_adjacent, has_walk, has_shorter}

pub record Parts (g : Graph) (x y : ℕ) : Type 0 where
  pub left : is_vertex g x ≡ true
  pub right : is_vertex g y ≡ true
  pub differ : (x == y) ≡ false

pub adjacent-parts : (g : Graph) (x y : ℕ) → is_adjacent g x y ≡ true → Parts g x y
unfolding is_adjacent
adjacent-parts g x y e =
    let outer = both (is_vertex g x && is_vertex g y && not (x == y)) _ e in
    let inner = both (is_vertex g x && is_vertex g y) _ outer.0 in
    let ends = both (is_vertex g x) _ inner.0 in
    record { left = ends.0; right = ends.1; differ = not-true _ inner.1 }

-- and the pair stands in the list, in one order or the other
pub adjacent-pair : (g : Graph) (x y : ℕ) → is_adjacent g x y ≡ true → (is_pair g x y || is_pair g y x) ≡ true
unfolding is_adjacent
adjacent-pair g x y e = (both (is_vertex g x && is_vertex g y && not (x == y)) _ e).1

pub adjacent-in : (g : Graph) (x y : ℕ) → is_vertex g x ≡ true → is_vertex g y ≡ true → (x == y) ≡ false → (is_pair g x y || is_pair g y x) ≡ true
    → is_adjacent g x y ≡ true
unfolding is_adjacent
adjacent-in g x y left right apart pair = rw (left, right, apart, pair) refl

swapped : (x y : ℕ) → (x == y) ≡ false → (y == x) ≡ false
swapped x y e = differ-test y x (λ h. differ x y e (sym h))

pub adjacent-back : (g : Graph) (x y : ℕ) → is_adjacent g x y ≡ true → is_adjacent g y x ≡ true
adjacent-back g x y e =
    let parts = adjacent-parts g x y e in
    adjacent-in g y x parts.right parts.left (swapped x y parts.differ) (or-comm (is_pair g y x) (is_pair g x y) ∙ adjacent-pair g x y e)

pub adjacent-sym : (g : Graph) (x y : ℕ) → is_adjacent g x y ≡ is_adjacent g y x
adjacent-sym g x y = same-test _ _ (adjacent-back g x y) (adjacent-back g y x)

module _ (g : Graph) where
  -- a walk of no step
  pub walk-none : (x : ℕ) → is_vertex g x ≡ true → has_walk g 0 x x ≡ true
  walk-none x v = rw (v, equal-self x) refl

  pub walk-same : (x y : ℕ) → has_walk g 0 x y ≡ true → x ≡ y
  walk-same x y w = same-number x y (both (is_vertex g x) _ w).1

  -- a step before a walk
  pub walk-first : (t x z y : ℕ) → is_adjacent g x z ≡ true → has_walk g t z y ≡ true → has_walk g (suc t) x y ≡ true
  walk-first t x z y a w =
      any-in (λ u. is_adjacent g x u && has_walk g t u y) g.vertices z (adjacent-parts g x z a).right (rw (a, w) refl)

  -- the first step of a walk
  pub walk-split : (t x y : ℕ) → has_walk g (suc t) x y ≡ true → (z : ℕ) × (is_adjacent g x z ≡ true) × (has_walk g t z y ≡ true)
  walk-split t x y w =
      let found = any-out (λ u. is_adjacent g x u && has_walk g t u y) g.vertices w in
      let parts = both (is_adjacent g x found.0) _ found.2 in (found.0, parts.0, parts.1)

  pub walk-start : (t x y : ℕ) → has_walk g t x y ≡ true → is_vertex g x ≡ true
  walk-start zero x y w = (both (is_vertex g x) _ w).0
  walk-start (suc t) x y w = (let step = walk-split t x y w in (adjacent-parts g x step.0 step.1).left)

  pub walk-join : (s t x y z : ℕ) → has_walk g s x y ≡ true → has_walk g t y z ≡ true → has_walk g (s + t) x z ≡ true
  walk-join zero t x y z w v =
      let P : ℕ → Type 0 = λ u. has_walk g t u z ≡ true in
      let n : 0 + t ≡ t = omega arith in
      rw n (subst P (sym (walk-same x y w)) v)
  walk-join (suc s) t x y z w v =
      let step = walk-split s x y w in
      let rest = walk-join s t step.0 y z step.2 v in
      let n : suc s + t ≡ suc (s + t) = omega arith in
      rw n (walk-first (s + t) x step.0 z step.1 rest)

  pub walk-one : (x y : ℕ) → is_adjacent g x y ≡ true → has_walk g 1 x y ≡ true
  walk-one x y a = walk-first 0 x y y a (walk-none y (adjacent-parts g x y a).right)

  pub walk-last : (t x y z : ℕ) → has_walk g t x y ≡ true → is_adjacent g y z ≡ true → has_walk g (suc t) x z ≡ true
  walk-last t x y z w a =
      let n : t + 1 ≡ suc t = omega arith in
      let P : ℕ → Type 0 = λ u. has_walk g u x z ≡ true in
      subst P n (walk-join t 1 x y z w (walk-one y z a))

  pub walk-back : (t x y : ℕ) → has_walk g t x y ≡ true → has_walk g t y x ≡ true
  walk-back zero x y w =
      let P : ℕ → Type 0 = λ u. has_walk g 0 u x ≡ true in
      subst P (walk-same x y w) (walk-none x (walk-start 0 x y w))
  walk-back (suc t) x y w =
      let step = walk-split t x y w in
      walk-last t y step.0 x (walk-back t step.0 y step.2) (adjacent-back g x step.0 step.1)

  pub walk-end : (t x y : ℕ) → has_walk g t x y ≡ true → is_vertex g y ≡ true
  walk-end t x y w = walk-start t y x (walk-back t x y w)

  -- a shorter walk is a walk of some smaller length
  pub shorter-in : (s t x y : ℕ) → s < t → has_walk g s x y ≡ true → has_shorter g t x y ≡ true
  shorter-in s zero x y h w = absurd (omega (arith, h))
  shorter-in s (suc t) x y h w =
      elim (decided (s == t)) [
        | inl here ↦ (let P : ℕ → Type 0 = λ u. has_walk g u x y ≡ true in
            or-left (has_walk g t x y) _ (subst P (same-number s t here) w))
        | inr other ↦ (let apart = differ s t other in
            or-right (has_walk g t x y) _ (shorter-in s t x y (omega (arith, h, apart)) w))
      ]

  pub shorter-out : (t x y : ℕ) → has_shorter g t x y ≡ true → (s : ℕ) × (s < t) × (has_walk g s x y ≡ true)
  shorter-out zero x y h = (let e = h in cc)
  shorter-out (suc t) x y h =
      elim (either (has_walk g t x y) (has_shorter g t x y) h) [
        | inl now ↦ (t, omega arith, now)
        | inr less ↦ (let found = shorter-out t x y less in
            let small = found.1 in (found.0, omega (arith, small), found.2))
      ]
