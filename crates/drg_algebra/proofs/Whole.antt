-- Sums of whole numbers with a sign.
use Rattle.std.proofs.Common.{◌≡◌, ℕ, zero, suc, ◌*◌, ◌/◌, ◌%◌, ◌≤◌, true, List, [], ◌∷◌, refl, sym, ap, ◌∙◌, arith, inl, inr}
use Rattle.std.specs.Prelude.{ℤ, pos, negsuc, ◌+ℤ◌, ◌*ℤ◌, ◌≤ℤ◌, ◌==◌}
use Rattle.std.proofs.Math.Nat.{mul-div_cancel, mul-mod_left}
use Rattle.std.proofs.Math.IntN.{*ℤ_comm}
use Rattle.std.proofs.lemmas.Int.{ints}
use native.Mathlib.Nat.{div-add-mod}
use Rattle.drg_algebra.specs.Sums.{sum_over, whole_sum, is_among, IsMultiple}
use Rattle.drg_algebra.specs.CountLaws.{MultipleLeavesNoRest}
use Rattle.drg_algebra.proofs.Tests.{either, same-number, among-first, among-later}

-- a factor that isn't 0 is cancelled
pub cancel : (m n c : ℕ) → 1 ≤ c → m * c ≡ n * c → m ≡ n
cancel m n c positive e = sym (mul-div_cancel m positive) ∙ (ap (λ t. t / c) e ∙ mul-div_cancel n positive)

pub cancel-left : (c : ℕ) (z : ℤ) (n : ℕ) → 1 ≤ c → pos c *ℤ z ≡ pos (c * n) → z ≡ pos n
cancel-left c (pos m) n positive e =
    let plain : c * m ≡ c * n = omega (arith, ints, e) in
    ap pos (cancel m n c positive (omega (arith, plain)))
cancel-left zero (negsuc m) n positive e = absurd (omega (arith, positive))
cancel-left (suc c) (negsuc m) n positive e = absurd (omega (arith, ints, e))

pub cancel-right : (z : ℤ) (c n : ℕ) → 1 ≤ c → z *ℤ pos c ≡ pos (n * c) → z ≡ pos n
cancel-right z c n positive e =
    let turn : n * c ≡ c * n = omega arith in
    cancel-left c z n positive (*ℤ_comm (pos c) z ∙ (e ∙ ap pos turn))

pub whole-same : (f : ℕ → ℤ) (g : ℕ → ℕ) (xs : List ℕ) → ((x : ℕ) → is_among x xs ≡ true → f x ≡ pos (g x)) → whole_sum f xs ≡ pos (sum_over g xs)
whole-same f g [] same = refl
whole-same f g (x ∷ xs) same =
    let here = same x (among-first x xs) in
    let rest = whole-same f g xs (λ y h. same y (among-later y x xs h)) in
    rw (here, rest) refl

pub whole-add : (f g : ℕ → ℤ) (xs : List ℕ) → whole_sum (λ x. f x +ℤ g x) xs ≡ whole_sum f xs +ℤ whole_sum g xs
whole-add f g [] = refl
whole-add f g (x ∷ xs) = (let rest = whole-add f g xs in omega (arith, ints, rest))

pub whole-natural : (f : ℕ → ℤ) (xs : List ℕ) → ((x : ℕ) → is_among x xs ≡ true → pos 0 ≤ℤ f x) → pos 0 ≤ℤ whole_sum f xs
whole-natural f [] natural = omega (arith, ints)
whole-natural f (x ∷ xs) natural =
    let here = natural x (among-first x xs) in
    let rest = whole-natural f xs (λ y h. natural y (among-later y x xs h)) in
    omega (arith, ints, here, rest)

-- a member of a sum of numbers that aren't negative is at most the sum
pub whole-member : (f : ℕ → ℤ) (v : ℕ) (xs : List ℕ) → is_among v xs ≡ true → ((x : ℕ) → is_among x xs ≡ true → pos 0 ≤ℤ f x) → f v ≤ℤ whole_sum f xs
whole-member f v [] among natural = (let e = among in cc)
whole-member f v (x ∷ xs) among natural =
    elim (either (x == v) (is_among v xs) among) [
      | inl here ↦ (let first : f x ≡ f v = ap f (same-number x v here) in
          let rest = whole-natural f xs (λ y h. natural y (among-later y x xs h)) in omega (arith, ints, first, rest))
      | inr later ↦ (let first = natural x (among-first x xs) in
          let rest = whole-member f v xs later (λ y h. natural y (among-later y x xs h)) in omega (arith, ints, first, rest))
    ]

-- a natural number that is a multiple leaves no rest
pub multiple-rest : (t n : ℕ) → 1 ≤ t → IsMultiple t (pos n) → n % t ≡ 0
multiple-rest t n positive (pos q, e) =
    let is : n ≡ q * t = omega (arith, ints, e) in rw is (mul-mod_left q t)
multiple-rest zero n positive (negsuc q, e) = absurd (omega (arith, positive))
multiple-rest (suc t) n positive (negsuc q, e) = absurd (omega (arith, ints, e))

pub multiple-leaves-no-rest : MultipleLeavesNoRest
multiple-leaves-no-rest t n positive = (multiple-rest t n positive, λ e. (pos (n / t), let parts = div-add-mod n t in let is : n ≡ t * (n / t) = omega (arith, parts, e) in ap pos is))
