-- The polynomials F_j of an array, coefficient by coefficient.
use Rattle.std.proofs.Common.{◌≡◌, ℕ, zero, suc, ◌-◌, ◌<◌, ◌≤◌, refl, ap, ap₂, sym, ◌∙◌, subst, arith, ℤ, pos, List, [], ◌∷◌, ◌++◌, length}
use Rattle.std.specs.Prelude.{◌+ℤ◌, ◌-ℤ◌, ◌*ℤ◌, neg_ℤ, slice_get, Some}
use Rattle.std.specs.List.{AllByRecursion}
use Rattle.std.proofs.lemmas.Int.{ints}
use Rattle.drg_algebra.specs.Ring.{none, ◌⊗◌, neg, ring2}
use Rattle.drg_algebra.specs.Integer.{integers, whole_numbers}
use Rattle.drg_array.specs.Entries.{Entries, a_at}
use Rattle.drg_eigen.specs.Polynomial.{add, scale, times_linear}
use Rattle.drg_eigen.specs.Characteristic.{weight_at, polynomial}
use Rattle.drg_eigen.specs.Fits.{coefficient, coefficient_before, next_coefficient}
use Rattle.drg_eigen.specs.Monic.{IsMonic}

-- ---- lists by their places
-- f 0, .., f (n - 1)
abbrev pub tabulate : ℕ → (ℕ → ℤ) → List ℤ
tabulate zero f = []
tabulate (suc n) f = f 0 ∷ tabulate n (λ i. f (suc i))

pub one_more : (n : ℕ) (f : ℕ → ℤ) → tabulate n f ++ f n ∷ [] ≡ tabulate (suc n) f
one_more zero f = refl
one_more (suc n) f = ap (λ (l : List ℤ). f 0 ∷ l) (one_more n (λ i. f (suc i)))

tabulated : (l : List ℤ) (n : ℕ) (f : ℕ → ℤ) → length l ≡ n → ((i : ℕ) → f i ≡ coefficient l i) → tabulate n f ≡ l
tabulated [] zero f e h = refl
tabulated [] (suc n) f e h = absurd (omega arith)
tabulated (x ∷ l) zero f e h = absurd (omega arith)
tabulated (x ∷ l) (suc n) f e h = ap₂ (λ (a : ℤ) (l : List ℤ). a ∷ l) (h 0) (tabulated l n (λ i. f (suc i)) (omega (arith, e)) (λ i. h (suc i)))

past : (l : List ℤ) (t : ℕ) → length l ≤ t → coefficient l t ≡ pos 0
past [] t h = refl
past (x ∷ l) zero h = absurd (omega arith)
past (x ∷ l) (suc t) h = past l t (omega (arith, h))

found : (l : List ℤ) (t : ℕ) → t < length l → slice_get l t ≡ Some (coefficient l t)
found [] t h = absurd (omega arith)
found (x ∷ l) zero h = refl
found (x ∷ l) (suc t) h = found l t (omega (arith, h))

pub all_more : {A : Type 0} (P : A → Type 0) (l : List A) (x : A) → AllByRecursion P l → P x → AllByRecursion P (l ++ x ∷ [])
all_more P [] x h p = (p, tt)
all_more P (y ∷ l) x h p = (h.0, all_more P l x h.1 p)

-- ---- sums, multiples and shifts
of_add : (f g : List ℤ) (t : ℕ) → coefficient (add whole_numbers f g) t ≡ coefficient f t +ℤ coefficient g t
of_add [] g t = zero_left (coefficient g t)
  where
    zero_left : (z : ℤ) → z ≡ pos 0 +ℤ z
    zero_left z = omega (arith, ints)
of_add (x ∷ f) [] t = zero_right (coefficient (x ∷ f) t)
  where
    zero_right : (z : ℤ) → z ≡ z +ℤ pos 0
    zero_right z = omega (arith, ints)
of_add (x ∷ f) (y ∷ g) zero = refl
of_add (x ∷ f) (y ∷ g) (suc t) = of_add f g t

of_scale : (c : ℤ) (f : List ℤ) (t : ℕ) → coefficient (scale whole_numbers c f) t ≡ c *ℤ coefficient f t
of_scale c [] t = ring2 integers (λ x y. none) (λ x y. x ⊗ none) refl c c
of_scale c (x ∷ f) zero = refl
of_scale c (x ∷ f) (suc t) = of_scale c f t

of_shift : (f : List ℤ) (t : ℕ) → coefficient (pos 0 ∷ f) t ≡ coefficient_before f t
of_shift f zero = refl
of_shift f (suc t) = refl

length_scale : (c : ℤ) (f : List ℤ) → length (scale whole_numbers c f) ≡ length f
length_scale c [] = refl
length_scale c (x ∷ f) = ap suc (length_scale c f)

length_add : (f g : List ℤ) → length g ≤ length f → length (add whole_numbers f g) ≡ length f
length_add [] [] h = refl
length_add [] (y ∷ g) h = absurd (omega arith)
length_add (x ∷ f) [] h = refl
length_add (x ∷ f) (y ∷ g) h = ap suc (length_add f g (omega arith))

lengths : (f g : List ℤ) (u w : ℤ) (j : ℕ) → length f ≡ suc (suc j) → length g ≡ suc j
    → length (add whole_numbers (times_linear whole_numbers u f) (scale whole_numbers (neg_ℤ w) g)) ≡ suc (suc (suc j))
lengths f g u w j lf lg =
    let sf = length_scale (neg_ℤ u) f in
    let sg = length_scale (neg_ℤ w) g in
    let lin = length_add (pos 0 ∷ f) (scale whole_numbers (neg_ℤ u) f) (omega (arith, sf)) in
    let all = length_add (times_linear whole_numbers u f) (scale whole_numbers (neg_ℤ w) g) (omega (arith, sg, lin, lf, lg)) in
    omega (arith, all, lin, lf)

-- ---- the polynomials F_j
less : (x y : ℤ) → neg_ℤ x *ℤ y ≡ neg_ℤ (x *ℤ y)
less x y = ring2 integers (λ x y. neg x ⊗ y) (λ x y. neg (x ⊗ y)) refl x y

module _ (a : Entries) where
  pub length_polynomial : (j : ℕ) → length (polynomial a j) ≡ suc j
  length_polynomial zero = refl
  length_polynomial (suc zero) = refl
  length_polynomial (suc (suc j)) =
      lengths (polynomial a (suc j)) (polynomial a j) (a_at a (suc j)) (weight_at a (suc j)) j (length_polynomial (suc j)) (length_polynomial j)

  -- each coefficient of F_(j+2) is what the formula says
  pub next_is : (j t : ℕ) → next_coefficient a j (polynomial a j) (polynomial a (suc j)) t ≡ coefficient (polynomial a (suc (suc j))) t
  next_is j t =
      let f = polynomial a (suc j) in
      let g = polynomial a j in
      let u = a_at a (suc j) in
      let w = weight_at a (suc j) in
      let s = of_shift f t in
      let e = of_add (times_linear whole_numbers u f) (scale whole_numbers (neg_ℤ w) g) t in
      let h = of_add (pos 0 ∷ f) (scale whole_numbers (neg_ℤ u) f) t in
      let k = of_scale (neg_ℤ u) f t ∙ less u (coefficient f t) in
      let l = of_scale (neg_ℤ w) g t ∙ less w (coefficient g t) in
      sym (e ∙ ap₂ (λ (x y : ℤ). x +ℤ y) (h ∙ ap₂ (λ (x y : ℤ). x +ℤ y) s k) l)

  pub polynomial_is : (j : ℕ) → tabulate (suc (suc (suc j))) (next_coefficient a j (polynomial a j) (polynomial a (suc j))) ≡ polynomial a (suc (suc j))
  polynomial_is j = tabulated (polynomial a (suc (suc j))) (suc (suc (suc j))) _ (length_polynomial (suc (suc j))) (next_is j)

  -- the last coefficient is 1
  leading : (j : ℕ) → coefficient (polynomial a j) j ≡ pos 1
  leading zero = refl
  leading (suc zero) = refl
  leading (suc (suc j)) =
      let f = polynomial a (suc j) in
      let g = polynomial a j in
      let u = a_at a (suc j) in
      let w = weight_at a (suc j) in
      let lf : length (polynomial a (suc j)) ≡ suc (suc j) = length_polynomial (suc j) in
      let lg : length (polynomial a j) ≡ suc j = length_polynomial j in
      let no_f : coefficient (polynomial a (suc j)) (suc (suc j)) ≡ pos 0 = past f (suc (suc j)) (omega (arith, lf)) in
      let no_g : coefficient (polynomial a j) (suc (suc j)) ≡ pos 0 = past g (suc (suc j)) (omega (arith, lg)) in
      sym (next_is j (suc (suc j)))
      ∙ ap₂ (λ (x y : ℤ). (coefficient (polynomial a (suc j)) (suc j) -ℤ a_at a (suc j) *ℤ x) -ℤ weight_at a (suc j) *ℤ y) no_f no_g
      ∙ ap (λ (x : ℤ). (x -ℤ a_at a (suc j) *ℤ pos 0) -ℤ weight_at a (suc j) *ℤ pos 0) (leading (suc j))
      ∙ one_left u w
    where
      one_left : (u w : ℤ) → (pos 1 -ℤ u *ℤ pos 0) -ℤ w *ℤ pos 0 ≡ pos 1
      one_left u w =
          let p : u *ℤ pos 0 ≡ pos 0 = ring2 integers (λ x y. x ⊗ none) (λ x y. none) refl u u in
          let q : w *ℤ pos 0 ≡ pos 0 = ring2 integers (λ x y. x ⊗ none) (λ x y. none) refl w w in
          omega (arith, ints)

  pub is_monic : (j : ℕ) → IsMonic (polynomial a j)
  is_monic j =
      let l : length (polynomial a j) ≡ suc j = length_polynomial j in
      let at : j ≡ length (polynomial a j) - 1 = omega (arith, l) in
      subst (λ (n : ℕ). slice_get (polynomial a j) n ≡ Some (pos 1)) at (found (polynomial a j) j (omega (arith, l)) ∙ ap Some (leading j))
