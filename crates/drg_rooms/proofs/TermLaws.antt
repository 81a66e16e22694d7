-- The value of terms, and of one term beside the rest.
use Rattle.std.proofs.Common.{◌≡◌, ℕ, ℤ, ◌*ℤ◌, ◌+ℤ◌, Bool, true, false, List, [], ◌∷◌, arith, refl, ap, ◌∙◌}
use Rattle.std.specs.Prelude.{if◌then◌else◌}
use Rattle.std.proofs.lemmas.Int.{ints}
use Rattle.drg_algebra.proofs.Tests.{both, same-number}
use Rattle.drg_linear.specs.declared.unknown.Unknown.{Unknown}
use Rattle.drg_linear.specs.Unknowns.{place, is_same}
use Rattle.drg_linear.specs.Equations.{Term, value_from, coefficient_of, rest_of}

-- two unknowns with the same numbers are one
pub same_unknown : (u v : Unknown) → is_same u v ≡ true → u ≡ v
same_unknown u v h =
    let s = both _ _ h in
    let t = both _ _ s.0 in
    let r : u.r ≡ v.r = same-number u.r v.r t.0 in
    let q : u.s ≡ v.s = same-number u.s v.s t.1 in
    let p : u.t ≡ v.t = same-number u.t v.t s.1 in
    rebuilt u v r q p
  where
    rebuilt : (u v : Unknown) → u.r ≡ v.r → u.s ≡ v.s → u.t ≡ v.t → u ≡ v
    rebuilt u v r q p =
        let made : ℕ → ℕ → ℕ → Unknown = λ r s t. record { r = r; s = s; t = t } in
        ap (λ (n : ℕ). made n u.s u.t) r ∙ ap (λ (n : ℕ). made v.r n u.t) q ∙ ap (λ (n : ℕ). made v.r v.s n) p

-- a number added to the total is added to the sum
pub value_shift : (d : ℕ) (x : ℕ → ℤ) (s a : ℤ) (ts : List Term) → value_from d x (s +ℤ a) ts ≡ value_from d x s ts +ℤ a
value_shift d x s a [] = refl
value_shift d x s a (t ∷ ts) =
    let p = t.1 *ℤ x (place d t.0) in
    let e : (s +ℤ a) +ℤ p ≡ (s +ℤ p) +ℤ a = omega (arith, ints) in
    ap (λ (z : ℤ). value_from d x z ts) e ∙ value_shift d x (s +ℤ p) a ts

beside_at : (d : ℕ) (x : ℕ → ℤ) (u : Unknown) (s : ℤ) (t : Term) (ts : List Term) (b : Bool) → is_same t.0 u ≡ b
    → value_from d x (s +ℤ (t.1 *ℤ x (place d t.0))) ts ≡ value_from d x (s +ℤ (t.1 *ℤ x (place d t.0))) (rest_of u ts) +ℤ (coefficient_of u ts *ℤ x (place d u))
    → value_from d x s (t ∷ ts) ≡ value_from d x s (if b then ts else t ∷ rest_of u ts) +ℤ ((if b then t.1 else coefficient_of u ts) *ℤ x (place d u))
beside_at d x u s t ts true e h = value_shift d x s (t.1 *ℤ x (place d t.0)) ts ∙ ap (λ (v : Unknown). value_from d x s ts +ℤ (t.1 *ℤ x (place d v))) (same_unknown t.0 u e)
beside_at d x u s t ts false e h = h

-- a sum is its term of an unknown and the rest
pub beside : (d : ℕ) (x : ℕ → ℤ) (u : Unknown) (s : ℤ) (ts : List Term) → value_from d x s ts ≡ value_from d x s (rest_of u ts) +ℤ (coefficient_of u ts *ℤ x (place d u))
beside d x u s [] = omega (arith, ints)
beside d x u s (t ∷ ts) = beside_at d x u s t ts (is_same t.0 u) refl (beside d x u (s +ℤ (t.1 *ℤ x (place d t.0))) ts)
