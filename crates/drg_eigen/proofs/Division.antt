-- A factor divides a polynomial where its root is a root.
use Rattle.std.proofs.Common.{◌≡◌, refl, ap, ap₂, sym, ◌∙◌, List, [], ◌∷◌}
use Rattle.drg_algebra.specs.Ring.{CommutativeRing, none, one, ◌⊕◌, ◌⊗◌, neg, ring2, ring3, ring4, ring5}
use Rattle.drg_algebra.specs.Pairs.{Pair, pairs, constant}
use Rattle.drg_eigen.specs.Polynomial.{add, scale, times_linear, times_quadratic, eval}

module _ (r : CommutativeRing) where
  -- f + u
  abbrev pub head_plus : r.Of → List r.Of → List r.Of
  head_plus u [] = []
  head_plus u (x ∷ f) = r.plus x u ∷ f

  -- f + u + v x
  abbrev pub two_plus : r.Of → r.Of → List r.Of → List r.Of
  two_plus u v [] = []
  two_plus u v (x ∷ f) = r.plus x u ∷ head_plus v f

  -- ---- division by x - c
  abbrev pub linear_quotient : r.Of → List r.Of → List r.Of
  linear_quotient c [] = []
  linear_quotient c (x ∷ []) = []
  linear_quotient c (x ∷ y ∷ f) = eval r r (λ z. z) c (y ∷ f) ∷ linear_quotient c (y ∷ f)

  add_nil : (f : List r.Of) → add r f [] ≡ f
  add_nil [] = refl
  add_nil (x ∷ f) = refl

  shift_head : (u : r.Of) (f g : List r.Of) → add r (u ∷ f) g ≡ head_plus u (add r (r.nil ∷ f) g)
  shift_head u f [] = ap (λ z. z ∷ f) (ring2 r.laws (λ u v. u) (λ u v. none ⊕ u) refl u u)
  shift_head u f (x ∷ g) = ap (λ z. z ∷ add r f g) (ring2 r.laws (λ u x. u ⊕ x) (λ u x. none ⊕ x ⊕ u) refl u x)

  -- f = (x - c) q + f(c)
  pub linear_division : (c x : r.Of) (f : List r.Of) → head_plus (eval r r (λ z. z) c (x ∷ f)) (times_linear r c (linear_quotient c (x ∷ f))) ≡ x ∷ f
  linear_division c x [] = ap (λ z. z ∷ []) (ring2 r.laws (λ c x. none ⊕ (x ⊕ c ⊗ none)) (λ c x. x) refl c x)
  linear_division c x (y ∷ f) =
      let u = eval r r (λ z. z) c (y ∷ f) in
      let q = linear_quotient c (y ∷ f) in
      ap₂ (λ (a : r.Of) (l : List r.Of). a ∷ l)
      (ring3 r.laws (λ c x u. none ⊕ neg c ⊗ u ⊕ (x ⊕ c ⊗ u)) (λ c x u. x) refl c x u)
      (shift_head u q (scale r (r.minus c) q) ∙ linear_division c y f)

  pub divides_linear : (c x : r.Of) (f : List r.Of) → eval r r (λ z. z) c (x ∷ f) ≡ r.nil → times_linear r c (linear_quotient c (x ∷ f)) ≡ x ∷ f
  divides_linear c x f e = sym (no_head (times_linear r c (linear_quotient c (x ∷ f)))) ∙ ap (λ u. head_plus u (times_linear r c (linear_quotient c (x ∷ f)))) (sym e) ∙ linear_division c x f
    where
      no_head : (g : List r.Of) → head_plus r.nil g ≡ g
      no_head [] = refl
      no_head (x ∷ g) = ap (λ z. z ∷ g) (r.laws.plus_nil x)

  -- ---- division by x² - s x + t
  module _ (s t : r.Of) where
    abbrev pub at_alpha : List r.Of → Pair r.Of
    at_alpha f = eval r (pairs r s t) (constant r) (record { a = r.nil; b = r.unit }) f

    abbrev pub quadratic_quotient : List r.Of → List r.Of
    quadratic_quotient [] = []
    quadratic_quotient (x ∷ []) = []
    quadratic_quotient (x ∷ y ∷ []) = []
    quadratic_quotient (x ∷ y ∷ z ∷ f) = (at_alpha (y ∷ z ∷ f)).b ∷ quadratic_quotient (y ∷ z ∷ f)

    -- the value at α of x + X f
    step_a : (x : r.Of) (f : List r.Of) → (at_alpha (x ∷ f)).a ≡ r.plus x (r.minus (r.times t (at_alpha f).b))
    step_a x f = ring4 r.laws (λ x t u v. x ⊕ (none ⊗ u ⊕ neg (t ⊗ (one ⊗ v)))) (λ x t u v. x ⊕ neg (t ⊗ v)) refl x t (at_alpha f).a (at_alpha f).b

    step_b : (x : r.Of) (f : List r.Of) → (at_alpha (x ∷ f)).b ≡ r.plus (at_alpha f).a (r.times s (at_alpha f).b)
    step_b x f = ring4 r.laws (λ x s u v. none ⊕ (none ⊗ v ⊕ one ⊗ u ⊕ s ⊗ (one ⊗ v))) (λ x s u v. u ⊕ s ⊗ v) refl x s (at_alpha f).a (at_alpha f).b

    tail_of : (u v : r.Of) (q : List r.Of) → head_plus (r.plus u (r.times s v)) (add r (r.nil ∷ v ∷ q) (add r (r.times (r.minus s) v ∷ scale r (r.minus s) q) (scale r t q))) ≡ two_plus u v (times_quadratic r s t q)
    tail_of u v [] = ap₂ (λ (x y : r.Of). x ∷ y ∷ [])
        (ring3 r.laws (λ u v s. none ⊕ neg s ⊗ v ⊕ (u ⊕ s ⊗ v)) (λ u v s. none ⊕ none ⊕ u) refl u v s)
        (ring2 r.laws (λ u v. v) (λ u v. none ⊕ v) refl u v)
    tail_of u v (x ∷ []) = ap₂ (λ (a b : r.Of). a ∷ b ∷ x ∷ [])
        (ring5 r.laws (λ u v s t x. none ⊕ (neg s ⊗ v ⊕ t ⊗ x) ⊕ (u ⊕ s ⊗ v)) (λ u v s t x. none ⊕ (none ⊕ t ⊗ x) ⊕ u) refl u v s t x)
        (ring5 r.laws (λ u v s t x. v ⊕ neg s ⊗ x) (λ u v s t x. none ⊕ neg s ⊗ x ⊕ v) refl u v s t x)
    tail_of u v (x ∷ y ∷ q) = ap₂ (λ (a b : r.Of). a ∷ b ∷ add r (x ∷ y ∷ q) (add r (r.times (r.minus s) y ∷ scale r (r.minus s) q) (scale r t q)))
        (ring5 r.laws (λ u v s t x. none ⊕ (neg s ⊗ v ⊕ t ⊗ x) ⊕ (u ⊕ s ⊗ v)) (λ u v s t x. none ⊕ (none ⊕ t ⊗ x) ⊕ u) refl u v s t x)
        (ring5 r.laws (λ v s t x y. v ⊕ (neg s ⊗ x ⊕ t ⊗ y)) (λ v s t x y. none ⊕ (neg s ⊗ x ⊕ t ⊗ y) ⊕ v) refl v s t x y)

    -- f = (x² - s x + t) q + u + v x, where f(α) = u + v α
    pub quadratic_division : (x y : r.Of) (f : List r.Of) → two_plus (at_alpha (x ∷ y ∷ f)).a (at_alpha (x ∷ y ∷ f)).b (times_quadratic r s t (quadratic_quotient (x ∷ y ∷ f))) ≡ x ∷ y ∷ f
    quadratic_division x y [] = ap₂ (λ (a b : r.Of). a ∷ b ∷ [])
        (ap (r.plus (r.plus r.nil r.nil)) (step_a x (y ∷ []) ∙ ap (λ z. r.plus x (r.minus (r.times t z))) (step_b y [])) ∙ ring3 r.laws (λ x s t. none ⊕ none ⊕ (x ⊕ neg (t ⊗ (none ⊕ s ⊗ none)))) (λ x s t. x) refl x s t)
        (ap (r.plus r.nil) (step_b x (y ∷ []) ∙ ap₂ (λ (a b : r.Of). r.plus a (r.times s b)) (step_a y []) (step_b y [])) ∙ ring3 r.laws (λ y s t. none ⊕ (y ⊕ neg (t ⊗ none) ⊕ s ⊗ (none ⊕ s ⊗ none))) (λ y s t. y) refl y s t)
    quadratic_division x y (z ∷ f) =
        let w = at_alpha (y ∷ z ∷ f) in
        let q = quadratic_quotient (y ∷ z ∷ f) in
        ap₂ (λ (a b : r.Of). two_plus a b (times_quadratic r s t (w.b ∷ q))) (step_a x (y ∷ z ∷ f)) (step_b x (y ∷ z ∷ f))
        ∙ ap₂ (λ (a : r.Of) (l : List r.Of). a ∷ l)
        (ring3 r.laws (λ x t v. none ⊕ (none ⊕ t ⊗ v) ⊕ (x ⊕ neg (t ⊗ v))) (λ x t v. x) refl x t w.b)
        (tail_of w.a w.b q ∙ quadratic_division y z f)

    pub divides_quadratic : (x y : r.Of) (f : List r.Of) → at_alpha (x ∷ y ∷ f) ≡ (pairs r s t).nil → times_quadratic r s t (quadratic_quotient (x ∷ y ∷ f)) ≡ x ∷ y ∷ f
    divides_quadratic x y f e =
        let g = times_quadratic r s t (quadratic_quotient (x ∷ y ∷ f)) in
        sym (no_head g) ∙ ap (λ (w : Pair r.Of). two_plus w.a w.b g) (sym e) ∙ quadratic_division x y f
      where
        no_head : (g : List r.Of) → two_plus r.nil r.nil g ≡ g
        no_head [] = refl
        no_head (x ∷ []) = ap (λ z. z ∷ []) (r.laws.plus_nil x)
        no_head (x ∷ y ∷ g) = ap₂ (λ (a b : r.Of). a ∷ b ∷ g) (r.laws.plus_nil x) (r.laws.plus_nil y)
