-- The identity of Christoffel and Darboux in any commutative ring.
use Rattle.std.proofs.Common.{◌≡◌, ◌<◌, ℕ, zero, suc, refl, ap, ap₂, sym, ◌∙◌, arith}
use Rattle.drg_algebra.specs.Ring.{CommutativeRing, sub, none, one, ◌⊕◌, ◌⊗◌, neg, from_one, ring2, ring3, ring5, ring8, ring10}
use Rattle.drg_algebra.specs.Pairs.{Pair, pair_path, constant, duals}
use Rattle.drg_eigen.specs.Recurrence.{at, slope, weighted, quotients}
use Rattle.drg_eigen.specs.RecurrenceLaws.{ChristoffelDarboux, QuotientForm, Confluent, ConfluentQuotientForm, AtDual}

pub christoffel_darboux_holds : (r : CommutativeRing) → ChristoffelDarboux r
christoffel_darboux_holds r a w x y zero = ring2 r.laws (λ x y. (x ⊕ neg y) ⊗ one) (λ x y. x ⊗ one ⊕ neg (one ⊗ y)) refl x y
christoffel_darboux_holds r a w x y (suc m) =
    let f = at r a w x in
    let g = at r a w y in
    from_one r.laws _ _ (w (suc m)) _ _ (christoffel_darboux_holds r a w x y m)
    (ring10 r.laws
    (λ x y a w t f1 f0 g1 g0 u. (x ⊕ neg y) ⊗ (w ⊗ t ⊕ f1 ⊗ g1) ⊕ w ⊗ (f1 ⊗ g0 ⊕ neg (f0 ⊗ g1)))
    (λ x y a w t f1 f0 g1 g0 u. (((x ⊕ neg a) ⊗ f1 ⊕ neg (w ⊗ f0)) ⊗ g1 ⊕ neg (f1 ⊗ ((y ⊕ neg a) ⊗ g1 ⊕ neg (w ⊗ g0)))) ⊕ w ⊗ ((x ⊕ neg y) ⊗ t))
    refl x y (a (suc m)) (w (suc m)) (weighted r a w x y m) (f (suc m)) (f m) (g (suc m)) (g m) x)

pub at_dual_holds : (r : CommutativeRing) → AtDual r
at_dual_holds r a w x y zero = pair_path _ _ refl (ring2 r.laws (λ x y. none) (λ x y. y ⊗ none) refl x y)
at_dual_holds r a w x y (suc zero) = pair_path _ _ refl (ring2 r.laws (λ x y. y) (λ x y. y ⊗ one) refl x y)
at_dual_holds r a w x y (suc (suc m)) =
    ap₂ (λ (p q : Pair r.Of). sub (duals r) ((duals r).times (sub (duals r) (record { a = x; b = y }) (constant r (a (suc m)))) p) ((duals r).times (constant r (w (suc m))) q))
    (at_dual_holds r a w x y (suc m)) (at_dual_holds r a w x y m)
    ∙ pair_path _ _
    (ring8 r.laws
    (λ x y a w f1 f0 d1 d0. ((x ⊕ neg a) ⊗ f1 ⊕ neg (none ⊗ ((y ⊕ neg none) ⊗ (y ⊗ d1)))) ⊕ neg (w ⊗ f0 ⊕ neg (none ⊗ (none ⊗ (y ⊗ d0)))))
    (λ x y a w f1 f0 d1 d0. (x ⊕ neg a) ⊗ f1 ⊕ neg (w ⊗ f0))
    refl x y (a (suc m)) (w (suc m)) (at r a w x (suc m)) (at r a w x m) (slope r a w x (suc m)) (slope r a w x m))
    (ring8 r.laws
    (λ x y a w f1 f0 d1 d0. ((x ⊕ neg a) ⊗ (y ⊗ d1) ⊕ (y ⊕ neg none) ⊗ f1 ⊕ none ⊗ ((y ⊕ neg none) ⊗ (y ⊗ d1))) ⊕ neg (w ⊗ (y ⊗ d0) ⊕ none ⊗ f0 ⊕ none ⊗ (none ⊗ (y ⊗ d0))))
    (λ x y a w f1 f0 d1 d0. y ⊗ ((f1 ⊕ (x ⊕ neg a) ⊗ d1) ⊕ neg (w ⊗ d0)))
    refl x y (a (suc m)) (w (suc m)) (at r a w x (suc m)) (at r a w x m) (slope r a w x (suc m)) (slope r a w x m))

pub confluent_holds : (r : CommutativeRing) → Confluent r
confluent_holds r a w x zero = ring2 r.laws (λ x y. one) (λ x y. one ⊗ one ⊕ neg (none ⊗ x)) refl x x
confluent_holds r a w x (suc m) =
    from_one r.laws _ _ (w (suc m)) _ _ (confluent_holds r a w x m)
    (ring8 r.laws
    (λ x a w t f1 f0 d1 d0. (w ⊗ t ⊕ f1 ⊗ f1) ⊕ w ⊗ (d1 ⊗ f0 ⊕ neg (d0 ⊗ f1)))
    (λ x a w t f1 f0 d1 d0. (((f1 ⊕ (x ⊕ neg a) ⊗ d1) ⊕ neg (w ⊗ d0)) ⊗ f1 ⊕ neg (d1 ⊗ ((x ⊕ neg a) ⊗ f1 ⊕ neg (w ⊗ f0)))) ⊕ w ⊗ t)
    refl x (a (suc m)) (w (suc m)) (weighted r a w x x m) (at r a w x (suc m)) (at r a w x m) (slope r a w x (suc m)) (slope r a w x m))

-- the sum with quotients is the last one times the weighted sum
quotients_are : (r : CommutativeRing) (a w g : ℕ → r.Of) (x y : r.Of) (m : ℕ) → ((j : ℕ) → j < m → r.times (g (suc j)) (w (suc j)) ≡ g j)
    → quotients r a w g x y m ≡ r.times (g m) (weighted r a w x y m)
quotients_are r a w g x y zero h = sym (r.laws.times_unit (g 0))
quotients_are r a w g x y (suc m) h =
    let t = weighted r a w x y m in
    let last = r.times (at r a w x (suc m)) (at r a w y (suc m)) in
    ap (λ z. r.plus z (r.times (g (suc m)) last))
    (quotients_are r a w g x y m (λ j i. h j (omega arith)) ∙ ap (λ z. r.times z t) (sym (h m (omega arith))))
    ∙ ring5 r.laws
    (λ g w t f u. (g ⊗ w) ⊗ t ⊕ g ⊗ f)
    (λ g w t f u. g ⊗ (w ⊗ t ⊕ f))
    refl (g (suc m)) (w (suc m)) t last t

pub quotient_form_holds : (r : CommutativeRing) → QuotientForm r
quotient_form_holds r a w g x y m h =
    ap (r.times (sub r x y)) (quotients_are r a w g x y m h)
    ∙ ring3 r.laws (λ d g t. d ⊗ (g ⊗ t)) (λ d g t. g ⊗ (d ⊗ t)) refl (sub r x y) (g m) (weighted r a w x y m)
    ∙ ap (r.times (g m)) (christoffel_darboux_holds r a w x y m)

pub confluent_quotient_form_holds : (r : CommutativeRing) → ConfluentQuotientForm r
confluent_quotient_form_holds r a w g x m h = quotients_are r a w g x x m h ∙ ap (r.times (g m)) (confluent_holds r a w x m)
