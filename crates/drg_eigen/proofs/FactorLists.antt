-- Lists of divisors, their factors and the polynomials of these.
use Rattle.std.proofs.Common.{◌≡◌, ℕ, zero, suc, ◌+◌, ◌<◌, ◌≤◌, ap, ap₂, sym, ◌∙◌, arith, ℤ, List, [], ◌∷◌, ◌++◌, length, take, get_or, map}
use Rattle.std.proofs.lemmas.List.{take_more, take_all, map-append}
use Rattle.std.specs.List.{AllByRecursion}
use Rattle.drg_eigen.specs.Factor.{Factor, polynomial_of}
use Rattle.drg_eigen.specs.Step.{factor_of, factors_of}
use Rattle.drg_eigen.specs.declared.divisor.Divisor.{Divisor}

module _ (ds : List Divisor) (i : ℕ) (d : Divisor) (inside : i < length ds) where
  pub factors_more : factors_of (take (i + 1) ds) ≡ factors_of (take i ds) ++ factor_of (get_or ds i d) ∷ []
  factors_more = ap factors_of (take_more ds i d inside) ∙ map-append factor_of (take i ds) (get_or ds i d ∷ [])

  pub polynomials_more : (ps : List (List ℤ)) (p : List ℤ) → ps ≡ map polynomial_of (factors_of (take i ds)) → p ≡ polynomial_of (factor_of (get_or ds i d))
      → ps ++ p ∷ [] ≡ map polynomial_of (factors_of (take (i + 1) ds))
  polynomials_more ps p e h =
      ap₂ (λ (l : List (List ℤ)) (q : List ℤ). l ++ q ∷ []) e h
      ∙ sym (map-append polynomial_of (factors_of (take i ds)) (factor_of (get_or ds i d) ∷ []))
      ∙ ap (map polynomial_of) (sym factors_more)

pub all_taken : (ds : List Divisor) (i : ℕ) → length ds ≤ i → take i ds ≡ ds
all_taken ds i h = take_all i ds h

pub one_of_all : (P : Factor → Type 0) (ds : List Divisor) (i : ℕ) (d : Divisor) → i < length ds → AllByRecursion P (factors_of ds) → P (factor_of (get_or ds i d))
one_of_all P [] i d h all = absurd (omega (arith, h))
one_of_all P (e ∷ ds) zero d h all = all.0
one_of_all P (e ∷ ds) (suc i) d h all = one_of_all P ds i d (omega (arith, h)) all.1
