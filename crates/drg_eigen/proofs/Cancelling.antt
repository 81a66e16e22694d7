-- A factor times a polynomial determines the polynomial.
use Rattle.std.proofs.Common.{◌≡◌, refl, ap, ap₂, sym, ◌∙◌, arith, ℤ, pos, List, [], ◌∷◌}
use Rattle.std.specs.Prelude.{◌+ℤ◌, ◌*ℤ◌, neg_ℤ}
use Rattle.std.proofs.lemmas.Int.{ints}
use Rattle.drg_eigen.specs.Factor.{Factor, linear, quadratic, times_factor, product}
use Rattle.drg_eigen.proofs.Quotients.{carried_linear, carried_quadratic, quadratic_is}

head_same : (x y : ℤ) (l m : List ℤ) → x ∷ l ≡ y ∷ m → x ≡ y
head_same x y l m e = (let h = e in cc)

tail_same : (x y : ℤ) (l m : List ℤ) → x ∷ l ≡ y ∷ m → l ≡ m
tail_same x y l m e = (let h = e in cc)

never_none : (x : ℤ) (l : List ℤ) → ¬ ([] ≡ x ∷ l)
never_none x l e = (let h = e in cc)

-- ---- q + (x - r) us
less_same : (q p r u v : ℤ) → u ≡ v → q +ℤ neg_ℤ r *ℤ u ≡ p +ℤ neg_ℤ r *ℤ v → q ≡ p
less_same q p r u v e h = (let k : neg_ℤ r *ℤ u ≡ neg_ℤ r *ℤ v = ap (λ (z : ℤ). neg_ℤ r *ℤ z) e in omega (arith, ints, h, k))

record Same (p q : ℤ) (us vs : List ℤ) : Type 0 where
  pub head : p ≡ q
  pub rest : us ≡ vs

linear_same : (r q p : ℤ) (us vs : List ℤ) → carried_linear r q us ≡ carried_linear r p vs → Same q p us vs
linear_same r q p [] [] e = record { head = head_same q p [] [] e; rest = refl }
linear_same r q p [] (v ∷ vs) e = absurd (go vs (tail_same _ _ _ _ e))
  where
    go : (vs : List ℤ) → ¬ ([] ≡ carried_linear r v vs)
    go [] h = never_none _ _ h
    go (w ∷ vs) h = never_none _ _ h
linear_same r q p (u ∷ us) [] e = absurd (go us (sym (tail_same _ _ _ _ e)))
  where
    go : (us : List ℤ) → ¬ ([] ≡ carried_linear r u us)
    go [] h = never_none _ _ h
    go (w ∷ us) h = never_none _ _ h
linear_same r q p (u ∷ us) (v ∷ vs) e =
    let rest = linear_same r u v us vs (tail_same _ _ _ _ e) in
    record { head = less_same q p r u v rest.head (head_same _ _ _ _ e); rest = ap₂ (λ (z : ℤ) (l : List ℤ). z ∷ l) rest.head rest.rest }

-- ---- p - s q + q x + (x² - s x + t) us
record BothSame (p p' q q' : ℤ) (us vs : List ℤ) : Type 0 where
  pub first : p ≡ p'
  pub second : q ≡ q'
  pub rest : us ≡ vs

quadratic_some : (s t p q : ℤ) (us : List ℤ) → ¬ ([] ≡ carried_quadratic s t p q us)
quadratic_some s t p q [] h = never_none _ _ h
quadratic_some s t p q (u ∷ us) h = never_none _ _ h

quadratic_more : (s t p q x : ℤ) (us : List ℤ) → ¬ (x ∷ [] ≡ carried_quadratic s t p q us)
quadratic_more s t p q x [] h = never_none _ _ (tail_same _ _ _ _ h)
quadratic_more s t p q x (u ∷ us) h = quadratic_some s t q u us (tail_same _ _ _ _ h)

end_same : (p p' s q q' : ℤ) → q ≡ q' → p +ℤ neg_ℤ s *ℤ q ≡ p' +ℤ neg_ℤ s *ℤ q' → p ≡ p'
end_same p p' s q q' e h = (let k : neg_ℤ s *ℤ q ≡ neg_ℤ s *ℤ q' = ap (λ (z : ℤ). neg_ℤ s *ℤ z) e in omega (arith, ints, h, k))

step_same : (p p' s t q q' u v : ℤ) → q ≡ q' → u ≡ v → p +ℤ (neg_ℤ s *ℤ q +ℤ t *ℤ u) ≡ p' +ℤ (neg_ℤ s *ℤ q' +ℤ t *ℤ v) → p ≡ p'
step_same p p' s t q q' u v e f h =
    let k : neg_ℤ s *ℤ q ≡ neg_ℤ s *ℤ q' = ap (λ (z : ℤ). neg_ℤ s *ℤ z) e in
    let l : t *ℤ u ≡ t *ℤ v = ap (λ (z : ℤ). t *ℤ z) f in
    omega (arith, ints, h, k, l)

quadratic_same : (s t p p' q q' : ℤ) (us vs : List ℤ) → carried_quadratic s t p q us ≡ carried_quadratic s t p' q' vs → BothSame p p' q q' us vs
quadratic_same s t p p' q q' [] [] e =
    let second = head_same _ _ _ _ (tail_same _ _ _ _ e) in
    record { first = end_same p p' s q q' second (head_same _ _ _ _ e); second = second; rest = refl }
quadratic_same s t p p' q q' [] (v ∷ vs) e = absurd (quadratic_more s t q' v q vs (tail_same _ _ _ _ e))
quadratic_same s t p p' q q' (u ∷ us) [] e = absurd (quadratic_more s t q u q' us (sym (tail_same _ _ _ _ e)))
quadratic_same s t p p' q q' (u ∷ us) (v ∷ vs) e =
    let rest = quadratic_same s t q q' u v us vs (tail_same _ _ _ _ e) in
    record {
      first = step_same p p' s t q q' u v rest.first rest.second (head_same _ _ _ _ e);
      second = rest.first;
      rest = ap₂ (λ (z : ℤ) (l : List ℤ). z ∷ l) rest.second rest.rest;
    }

pub factor_cancels : (c : Factor) (us vs : List ℤ) → times_factor c us ≡ times_factor c vs → us ≡ vs
factor_cancels (linear r) us vs e = (linear_same r (pos 0) (pos 0) us vs e).rest
factor_cancels (quadratic s t) us vs e = (quadratic_same s t (pos 0) (pos 0) (pos 0) (pos 0) us vs (quadratic_is s t us ∙ e ∙ sym (quadratic_is s t vs))).rest

pub product_cancels : (es : List Factor) (g h : List ℤ) → product es g ≡ product es h → g ≡ h
product_cancels [] g h e = e
product_cancels (c ∷ es) g h e = product_cancels es g h (factor_cancels c (product es g) (product es h) e)
