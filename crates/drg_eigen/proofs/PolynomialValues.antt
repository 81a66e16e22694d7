-- Values of products of polynomials, and of the polynomials F_j.
use Rattle.std.proofs.Common.{◌≡◌, ℕ, zero, suc, refl, ap, ap₂, ◌∙◌, List, [], ◌∷◌}
use Rattle.drg_algebra.specs.Ring.{CommutativeRing, sub, none, one, ◌⊕◌, ◌⊗◌, neg, ring2, ring3, ring4, ring5}
use Rattle.drg_algebra.specs.Maps.{IsMap}
use Rattle.drg_algebra.proofs.Maps.{same_map}
use Rattle.drg_eigen.specs.Polynomial.{add, scale, times_linear, times_quadratic, eval}
use Rattle.drg_eigen.specs.Recurrence.{at, chain}
use Rattle.drg_eigen.specs.RecurrenceLaws.{ChainGivesValues}

module _ (r q : CommutativeRing) (m : r.Of → q.Of) (h : IsMap r q m) (z : q.Of) where
  pub eval_add : (f g : List r.Of) → eval r q m z (add r f g) ≡ q.plus (eval r q m z f) (eval r q m z g)
  eval_add [] g = ring2 q.laws (λ x y. x) (λ x y. none ⊕ x) refl (eval r q m z g) z
  eval_add (x ∷ f) [] = ring2 q.laws (λ x y. x) (λ x y. x ⊕ none) refl (eval r q m z (x ∷ f)) z
  eval_add (x ∷ f) (y ∷ g) =
      ap₂ (λ (u v : q.Of). q.plus u (q.times z v)) (h.plus x y) (eval_add f g)
      ∙ ring5 q.laws (λ x y z u v. (x ⊕ y) ⊕ z ⊗ (u ⊕ v)) (λ x y z u v. (x ⊕ z ⊗ u) ⊕ (y ⊕ z ⊗ v)) refl (m x) (m y) z (eval r q m z f) (eval r q m z g)

  pub eval_scale : (c : r.Of) (f : List r.Of) → eval r q m z (scale r c f) ≡ q.times (m c) (eval r q m z f)
  eval_scale c [] = ring2 q.laws (λ x y. none) (λ x y. x ⊗ none) refl (m c) z
  eval_scale c (x ∷ f) =
      ap₂ (λ (u v : q.Of). q.plus u (q.times z v)) (h.times c x) (eval_scale c f)
      ∙ ring4 q.laws (λ c x z u. c ⊗ x ⊕ z ⊗ (c ⊗ u)) (λ c x z u. c ⊗ (x ⊕ z ⊗ u)) refl (m c) (m x) z (eval r q m z f)

  eval_shift : (f : List r.Of) → eval r q m z (r.nil ∷ f) ≡ q.times z (eval r q m z f)
  eval_shift f = ap (λ u. q.plus u (q.times z (eval r q m z f))) h.nil ∙ ring2 q.laws (λ x y. none ⊕ x ⊗ y) (λ x y. x ⊗ y) refl z (eval r q m z f)

  eval_minus : (c : r.Of) (f : List r.Of) → eval r q m z (scale r (r.minus c) f) ≡ q.minus (q.times (m c) (eval r q m z f))
  eval_minus c f = eval_scale (r.minus c) f ∙ ap (λ u. q.times u (eval r q m z f)) (h.minus c) ∙ ring2 q.laws (λ x y. neg x ⊗ y) (λ x y. neg (x ⊗ y)) refl (m c) (eval r q m z f)

  pub eval_linear : (c : r.Of) (f : List r.Of) → eval r q m z (times_linear r c f) ≡ q.times (sub q z (m c)) (eval r q m z f)
  eval_linear c f =
      eval_add (r.nil ∷ f) (scale r (r.minus c) f) ∙ ap₂ q.plus (eval_shift f) (eval_minus c f)
      ∙ ring3 q.laws (λ z c f. z ⊗ f ⊕ neg (c ⊗ f)) (λ z c f. (z ⊕ neg c) ⊗ f) refl z (m c) (eval r q m z f)

  abbrev pub quadratic_at : r.Of → r.Of → q.Of
  quadratic_at s t = q.plus (sub q (q.times z z) (q.times (m s) z)) (m t)

  pub eval_quadratic : (s t : r.Of) (f : List r.Of) → eval r q m z (times_quadratic r s t f) ≡ q.times (quadratic_at s t) (eval r q m z f)
  eval_quadratic s t f =
      eval_add (r.nil ∷ r.nil ∷ f) (add r (r.nil ∷ scale r (r.minus s) f) (scale r t f))
      ∙ ap₂ q.plus (eval_shift (r.nil ∷ f) ∙ ap (q.times z) (eval_shift f))
      (eval_add (r.nil ∷ scale r (r.minus s) f) (scale r t f) ∙ ap₂ q.plus (eval_shift (scale r (r.minus s) f) ∙ ap (q.times z) (eval_minus s f)) (eval_scale t f))
      ∙ ring4 q.laws (λ z s t f. z ⊗ (z ⊗ f) ⊕ (z ⊗ neg (s ⊗ f) ⊕ t ⊗ f)) (λ z s t f. ((z ⊗ z ⊕ neg (s ⊗ z)) ⊕ t) ⊗ f) refl z (m s) (m t) (eval r q m z f)

  -- the list of F_j has the value F_j
  pub eval_chain : (a w : ℕ → r.Of) (j : ℕ) → eval r q m z (chain r a w j) ≡ at q (λ i. m (a i)) (λ i. m (w i)) z j
  eval_chain a w zero = ap (λ u. q.plus u (q.times z q.nil)) h.unit ∙ ring2 q.laws (λ x y. one ⊕ x ⊗ none) (λ x y. one) refl z z
  eval_chain a w (suc zero) =
      eval_shift (r.unit ∷ []) ∙ ap (λ u. q.times z (q.plus u (q.times z q.nil))) h.unit ∙ ring2 q.laws (λ x y. x ⊗ (one ⊕ x ⊗ none)) (λ x y. x) refl z z
  eval_chain a w (suc (suc j)) =
      eval_add (times_linear r (a (suc j)) (chain r a w (suc j))) (scale r (r.minus (w (suc j))) (chain r a w j))
      ∙ ap₂ q.plus (eval_linear (a (suc j)) (chain r a w (suc j))) (eval_minus (w (suc j)) (chain r a w j))
      ∙ ap₂ (λ (u v : q.Of). sub q (q.times (sub q z (m (a (suc j)))) u) (q.times (m (w (suc j))) v)) (eval_chain a w (suc j)) (eval_chain a w j)

pub chain_gives_values_holds : (r : CommutativeRing) → ChainGivesValues r
chain_gives_values_holds r a w x j = eval_chain r r (λ z. z) (same_map r) x a w j
