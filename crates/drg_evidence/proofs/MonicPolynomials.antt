-- The polynomials of an array are monic.
use Rattle.std.proofs.Common.{◌≡◌, ℕ, zero, suc, ◌-◌, ◌≤◌, refl, ap, subst, arith, ℤ, pos, List, [], ◌∷◌, length, Some}
use Rattle.std.specs.Prelude.{neg_ℤ, slice_get}
use Rattle.drg_algebra.specs.Integer.{whole_numbers}
use Rattle.drg_array.specs.Entries.{Entries, diameter, a_at}
use Rattle.drg_eigen.specs.Characteristic.{characteristic, polynomial, weight_at}
use Rattle.drg_eigen.specs.Monic.{IsMonic}
use Rattle.drg_eigen.specs.Polynomial.{add, scale, times_linear}

-- the coefficient of x^n is 1, and it is the last one
abbrev EndsAt : ℕ → List ℤ → Type 0
EndsAt n [] = ⊥
EndsAt zero (x ∷ []) = x ≡ pos 1
EndsAt zero (x ∷ (y ∷ f)) = ⊥
EndsAt (suc n) (x ∷ f) = EndsAt n f

ends_length : (n : ℕ) (f : List ℤ) → EndsAt n f → length f ≡ suc n
ends_length n [] h = absurd h
ends_length zero (x ∷ []) h = refl
ends_length zero (x ∷ (y ∷ f)) h = absurd h
ends_length (suc n) (x ∷ f) h = ap suc (ends_length n f h)

ends_add : (n : ℕ) (f g : List ℤ) → EndsAt n f → length g ≤ n → EndsAt n (add whole_numbers f g)
ends_add n [] g h short = absurd h
ends_add n (x ∷ f) [] h short = h
ends_add zero (x ∷ f) (y ∷ g) h short = absurd (omega (arith, short))
ends_add (suc n) (x ∷ f) (y ∷ g) h short = ends_add n f g h (omega (arith, short))

length_scale : (c : ℤ) (f : List ℤ) → length (scale whole_numbers c f) ≡ length f
length_scale c [] = refl
length_scale c (x ∷ f) = ap suc (length_scale c f)

ends_next : (n : ℕ) (u w : ℤ) (f g : List ℤ) → EndsAt (suc n) f → EndsAt n g
    → EndsAt (suc (suc n)) (add whole_numbers (times_linear whole_numbers u f) (scale whole_numbers (neg_ℤ w) g))
ends_next n u w f g h k =
    let long = ends_length (suc n) f h in
    let same = length_scale (neg_ℤ u) f in
    let short = ends_length n g k in
    let other = length_scale (neg_ℤ w) g in
    ends_add (suc (suc n)) (times_linear whole_numbers u f) (scale whole_numbers (neg_ℤ w) g)
    (ends_add (suc (suc n)) (pos 0 ∷ f) (scale whole_numbers (neg_ℤ u) f) h (omega (arith, long, same)))
    (omega (arith, short, other))

polynomial_ends : (a : Entries) (j : ℕ) → EndsAt j (polynomial a j)
polynomial_ends a zero = refl
polynomial_ends a (suc zero) = refl
polynomial_ends a (suc (suc j)) =
    ends_next j (a_at a (suc j)) (weight_at a (suc j)) (polynomial a (suc j)) (polynomial a j) (polynomial_ends a (suc j)) (polynomial_ends a j)

last_is_one : (n : ℕ) (f : List ℤ) → EndsAt n f → slice_get f n ≡ Some (pos 1)
last_is_one n [] h = absurd h
last_is_one zero (x ∷ []) h = ap Some h
last_is_one zero (x ∷ (y ∷ f)) h = absurd h
last_is_one (suc n) (x ∷ f) h = last_is_one n f h

pub characteristic_is_monic : (a : Entries) → IsMonic (characteristic a)
characteristic_is_monic a =
    let j = suc (diameter a) in
    let ends = polynomial_ends a j in
    let long = ends_length j (polynomial a j) ends in
    let at : j ≡ length (polynomial a j) - 1 = omega (arith, long) in
    subst (λ (n : ℕ). slice_get (polynomial a j) n ≡ Some (pos 1)) at (last_is_one j (polynomial a j) ends)

pub characteristic_length : (a : Entries) → length (characteristic a) ≡ suc (suc (diameter a))
characteristic_length a = ends_length (suc (diameter a)) (characteristic a) (polynomial_ends a (suc (diameter a)))
