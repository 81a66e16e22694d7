-- The factors of a product of factors.
use Rattle.std.proofs.Common.{◌≡◌, ◌≤◌, refl, ap, ap₂, sym, ◌∙◌, arith, ℤ, pos, List, [], ◌∷◌, ◌++◌, length, ◌⊎◌, inl, inr}
use Rattle.std.specs.Prelude.{◌+ℤ◌, ◌*ℤ◌, neg_ℤ}
use Rattle.std.proofs.lemmas.Int.{ints}
use Rattle.drg_algebra.specs.Ring.{none, ◌⊕◌, ◌⊗◌, neg, ring2, ring4}
use Rattle.drg_algebra.specs.Integer.{integers}
use Rattle.drg_eigen.specs.Factor.{Factor, linear, quadratic, degree, times_factor, Divides, product, IsAmong}
use Rattle.drg_eigen.specs.FactorLaws.{FactorsOfFullProduct}
use Rattle.drg_eigen.proofs.FactorProducts.{factors_of_product, degrees_add}
use Rattle.drg_eigen.proofs.Quotients.{carried_linear, carried_quadratic, quadratic_is}

-- ---- a zero behind the last coefficient
linear_padded : (r q : ℤ) (us : List ℤ) → carried_linear r q (us ++ pos 0 ∷ []) ≡ carried_linear r q us ++ pos 0 ∷ []
linear_padded r q [] = ap (λ (z : ℤ). z ∷ pos 0 ∷ []) (ring2 integers (λ q r. q ⊕ neg r ⊗ none) (λ q r. q) refl q r)
linear_padded r q (u ∷ us) = ap (λ (l : List ℤ). (q +ℤ neg_ℤ r *ℤ u) ∷ l) (linear_padded r u us)

quadratic_padded : (s t p q : ℤ) (us : List ℤ) → carried_quadratic s t p q (us ++ pos 0 ∷ []) ≡ carried_quadratic s t p q us ++ pos 0 ∷ []
quadratic_padded s t p q [] = ap₂ (λ (y z : ℤ). y ∷ z ∷ pos 0 ∷ [])
    (ring4 integers (λ s t p q. p ⊕ (neg s ⊗ q ⊕ t ⊗ none)) (λ s t p q. p ⊕ neg s ⊗ q) refl s t p q)
    (ring2 integers (λ s q. q ⊕ neg s ⊗ none) (λ s q. q) refl s q)
quadratic_padded s t p q (u ∷ us) = ap (λ (l : List ℤ). (p +ℤ (neg_ℤ s *ℤ q +ℤ t *ℤ u)) ∷ l) (quadratic_padded s t q u us)

padded : (c : Factor) (us : List ℤ) → times_factor c (us ++ pos 0 ∷ []) ≡ times_factor c us ++ pos 0 ∷ []
padded (linear r) us = linear_padded r (pos 0) us
padded (quadratic s t) us =
    sym (quadratic_is s t (us ++ pos 0 ∷ [])) ∙ (quadratic_padded s t (pos 0) (pos 0) us ∙ ap (λ (l : List ℤ). l ++ pos 0 ∷ []) (quadratic_is s t us))

product_padded : (es : List Factor) (g : List ℤ) → product es (g ++ pos 0 ∷ []) ≡ product es g ++ pos 0 ∷ []
product_padded [] g = refl
product_padded (e ∷ es) g = ap (times_factor e) (product_padded es g) ∙ padded e (product es g)

-- ---- no factor divides 1
abbrev head_of : List ℤ → ℤ
head_of [] = pos 0
head_of (x ∷ l) = x

not_one : (x y : ℤ) → x ≡ pos 0 → y ≡ pos 1 → x ≡ y → ⊥
not_one x y a b e = omega (arith, ints, a, b, e)

abbrev second_of : List ℤ → ℤ
second_of [] = pos 0
second_of (x ∷ l) = head_of l

none_times : (r x : ℤ) → x ≡ pos 0 → pos 0 +ℤ neg_ℤ r *ℤ x ≡ pos 0
none_times r x e = ap (λ (z : ℤ). pos 0 +ℤ neg_ℤ r *ℤ z) e ∙ ring2 integers (λ r x. none ⊕ neg r ⊗ none) (λ r x. none) refl r x

same_length : (l m : List ℤ) → l ≡ m → length l ≡ length m
same_length l m e = ap (λ (k : List ℤ). length k) e

not_divides_one : (c : Factor) (q : List ℤ) → ¬ (times_factor c q ≡ pos 1 ∷ pos 0 ∷ [])
not_divides_one (linear r) [] e = absurd (omega (arith, same_length (times_factor (linear r) []) (pos 1 ∷ pos 0 ∷ []) e))
not_divides_one (linear r) (x ∷ []) e = not_one (pos 0 +ℤ neg_ℤ r *ℤ x) (pos 1) (none_times r x (ap second_of e)) refl (ap head_of e)
not_divides_one (linear r) (x ∷ y ∷ q) e =
    let l = same_length (times_factor (linear r) (x ∷ y ∷ q)) (pos 1 ∷ pos 0 ∷ []) e in
    let d = degrees_add (linear r) (x ∷ y ∷ q) in
    absurd (omega (arith, l, d))
not_divides_one (quadratic s t) [] e = not_one (pos 0) (pos 1) refl refl (ap head_of e)
not_divides_one (quadratic s t) (x ∷ q) e =
    let l = same_length (times_factor (quadratic s t) (x ∷ q)) (pos 1 ∷ pos 0 ∷ []) e in
    let d = degrees_add (quadratic s t) (x ∷ q) in
    absurd (omega (arith, l, d))

pub factors_of_full_product : FactorsOfFullProduct
factors_of_full_product c es i js (q, e) =
    go (factors_of_product c es (pos 1 ∷ pos 0 ∷ []) i js (small c)
    (q ++ pos 0 ∷ [], padded c q ∙ (ap (λ (l : List ℤ). l ++ pos 0 ∷ []) e ∙ sym (product_padded es (pos 1 ∷ [])))))
  where
    small : (c : Factor) → degree c ≤ 2
    small (linear r) = omega arith
    small (quadratic s t) = omega arith

    go : IsAmong c es ⊎ Divides c (pos 1 ∷ pos 0 ∷ []) → IsAmong c es
    go (inl a) = a
    go (inr d) = absurd (not_divides_one c d.0 d.1)

pub no_factor_of_one : (c : Factor) → ¬ Divides c (pos 1 ∷ [])
no_factor_of_one c (q, e) = not_divides_one c (q ++ pos 0 ∷ []) (padded c q ∙ ap (λ (l : List ℤ). l ++ pos 0 ∷ []) e)
