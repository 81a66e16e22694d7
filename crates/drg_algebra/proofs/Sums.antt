-- Sums over lists.
use Rattle.std.proofs.Common.{◌≡◌, ℕ, zero, suc, ◌+◌, ◌*◌, ◌≤◌, Bool, true, false, List, [], ◌∷◌, refl, sym, ap, ◌∙◌, arith, inl, inr}
use Rattle.std.specs.Prelude.{◌==◌}
use Rattle.drg_algebra.specs.Sums.{bit, sum_over, count_of, is_among, AreDistinct, below}
use Rattle.drg_algebra.proofs.Tests.{either, never, same-number, among-first, among-later}

-- equal at each member
pub sum-same : (f g : ℕ → ℕ) (xs : List ℕ) → ((x : ℕ) → is_among x xs ≡ true → f x ≡ g x) → sum_over f xs ≡ sum_over g xs
sum-same f g [] same = refl
sum-same f g (x ∷ xs) same =
    let here = same x (among-first x xs) in
    let rest = sum-same f g xs (λ y h. same y (among-later y x xs h)) in
    rw (here, rest) refl

-- at most, at each member
pub sum-le : (f g : ℕ → ℕ) (xs : List ℕ) → ((x : ℕ) → is_among x xs ≡ true → f x ≤ g x) → sum_over f xs ≤ sum_over g xs
sum-le f g [] at = omega arith
sum-le f g (x ∷ xs) at =
    let here = at x (among-first x xs) in
    let rest = sum-le f g xs (λ y h. at y (among-later y x xs h)) in
    omega (arith, here, rest)

pub sum-add : (f g : ℕ → ℕ) (xs : List ℕ) → sum_over (λ x. f x + g x) xs ≡ sum_over f xs + sum_over g xs
sum-add f g [] = refl
sum-add f g (x ∷ xs) = (let rest = sum-add f g xs in omega (arith, rest))

pub sum-scale : (c : ℕ) (f : ℕ → ℕ) (xs : List ℕ) → sum_over (λ x. f x * c) xs ≡ sum_over f xs * c
sum-scale c f [] = omega arith
sum-scale c f (x ∷ xs) = (let rest = sum-scale c f xs in omega (arith, rest))

pub sum-zero : (f : ℕ → ℕ) (xs : List ℕ) → ((x : ℕ) → is_among x xs ≡ true → f x ≡ 0) → sum_over f xs ≡ 0
sum-zero f [] none = refl
sum-zero f (x ∷ xs) none =
    let here = none x (among-first x xs) in
    let rest = sum-zero f xs (λ y h. none y (among-later y x xs h)) in
    omega (arith, here, rest)

pub sum-exchange : (f : ℕ → ℕ → ℕ) (xs ys : List ℕ) → sum_over (λ x. sum_over (f x) ys) xs ≡ sum_over (λ y. sum_over (λ x. f x y) xs) ys
sum-exchange f [] ys = sym (sum-zero (λ y. 0) ys (λ y h. refl))
sum-exchange f (x ∷ xs) ys =
    let rest = sum-exchange f xs ys in
    rw rest (sym (sum-add (f x) (λ y. sum_over (λ z. f z y) xs) ys))

-- all but one member give 0
pub sum-single : (f : ℕ → ℕ) (v : ℕ) (xs : List ℕ) → AreDistinct xs → is_among v xs ≡ true → ((x : ℕ) → (v ≡ x → ⊥) → f x ≡ 0) → sum_over f xs ≡ f v
sum-single f v [] d among only = (let e = among in cc)
sum-single f v (x ∷ xs) (fresh, distinct) among only =
    elim (either (x == v) (is_among v xs) among) [
      | inl here ↦ (let same = same-number x v here in
          let out : is_among v xs ≡ false = rw same at fresh in
          let rest = sum-zero f xs (λ y h. only y (λ e. never (is_among v xs) (rw e h) out)) in
          let first : f x ≡ f v = ap f same in
          omega (arith, first, rest))
      | inr later ↦ (let first = only x (λ e. never (is_among v xs) later (rw e fresh)) in
          let rest = sum-single f v xs distinct later only in omega (arith, first, rest))
    ]

-- a member's number is at most the sum
pub sum-member : (f : ℕ → ℕ) (v : ℕ) (xs : List ℕ) → is_among v xs ≡ true → f v ≤ sum_over f xs
sum-member f v [] among = (let e = among in cc)
sum-member f v (x ∷ xs) among =
    elim (either (x == v) (is_among v xs) among) [
      | inl here ↦ (let first : f x ≡ f v = ap f (same-number x v here) in omega (arith, first))
      | inr later ↦ (let rest = sum-member f v xs later in omega (arith, rest))
    ]

-- each member has one class
pub sum-classes : (f : ℕ → ℕ) (class : ℕ → ℕ → Bool) (xs classes : List ℕ) → ((x : ℕ) → is_among x xs ≡ true → count_of (class x) classes ≡ 1)
    → sum_over f xs ≡ sum_over (λ l. sum_over (λ x. bit (class x l) * f x) xs) classes
sum-classes f class xs classes one =
    let each : (x : ℕ) → is_among x xs ≡ true → f x ≡ sum_over (λ l. bit (class x l) * f x) classes =
    λ x h. (let scaled = sum-scale (f x) (λ l. bit (class x l)) classes in let c = one x h in rw (scaled, c) (omega arith)) in
    sum-same f _ xs each ∙ sum-exchange (λ x l. bit (class x l) * f x) xs classes

-- the term of 0 by itself, the last of the numbers below n + 1
pub sum-first : (f : ℕ → ℕ) (n : ℕ) → sum_over f (below (suc n)) ≡ sum_over (λ l. f (suc l)) (below n) + f 0
sum-first f zero = omega arith
sum-first f (suc n) = (let rest = sum-first f n in omega (arith, rest))
