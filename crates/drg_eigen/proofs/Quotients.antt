-- The quotient of a polynomial by a factor, coefficient by coefficient from the low end.
use Rattle.std.proofs.Common.{◌≡◌, ◌≢◌, ℕ, zero, suc, ◌-◌, ◌≤◌, refl, ap, ap₂, sym, ◌∙◌, subst, arith, ℤ, pos, List, [], ◌∷◌, ◌++◌, length, take, drop, get_or, ◌+◌, ◌<◌, inl, inr}
use Rattle.std.specs.Prelude.{◌+ℤ◌, ◌-ℤ◌, ◌*ℤ◌, neg_ℤ, slice_get, Option, Some, None}
use Rattle.std.specs.List.{AllByRecursion}
use Rattle.std.proofs.lemmas.Int.{ints}
use Rattle.std.proofs.lemmas.List.{append_assoc, drop_more}
use Rattle.drg_algebra.specs.Ring.{none, ◌⊕◌, ◌⊗◌, neg, ring2, ring3}
use Rattle.drg_algebra.specs.Integer.{integers, whole_numbers}
use Rattle.drg_eigen.specs.Polynomial.{add, scale, times_linear, times_quadratic}
use Rattle.drg_eigen.specs.Factor.{Factor, linear, quadratic, times_factor, Divides}
use Rattle.drg_eigen.specs.Division.{divisor, numerator, work_numbers, FitsFrom}
use Rattle.drg_whole.specs.Range.{InRange}
use Rattle.drg_eigen.specs.Monic.{IsMonic}
use Rattle.drg_eigen.specs.Step.{IsOver, but_last, shortened}
use Rattle.drg_eigen.proofs.Irreducible.{whole_domain}

-- the quotients of the coefficients in the list, after p and q, and nothing is carried at the end
abbrev pub Ends : Factor → ℤ → ℤ → List ℤ → List ℤ → Type 0
Ends c p q [] [] = IsOver c p q
Ends c p q [] (u ∷ us) = ⊥
Ends c p q (g ∷ gs) [] = ⊥
Ends c p q (g ∷ gs) (u ∷ us) = (divisor c *ℤ u ≡ numerator c p q g) × Ends c q u gs us

-- ---- a division on its way: us are found, p and q are the last two, gs are the coefficients to come
pub record Reached (c : Factor) (f us : List ℤ) (p q : ℤ) (gs : List ℤ) : Type 0 where
  pub further : (vs : List ℤ) → Ends c p q gs vs → Ends c (pos 0) (pos 0) f (us ++ vs)
  pub closed : (vs : List ℤ) → Ends c (pos 0) (pos 0) f vs → (ws : List ℤ) × Ends c p q gs ws
  pub fit : FitsFrom c p q gs → FitsFrom c (pos 0) (pos 0) f
  pub unfit : FitsFrom c (pos 0) (pos 0) f → FitsFrom c p q gs

pub start : (c : Factor) (f : List ℤ) → Reached c f [] (pos 0) (pos 0) f
start c f = record { further = λ vs e. e; closed = λ vs e. (vs, e); fit = λ h. h; unfit = λ h. h }

times_less : (d u v : ℤ) → d *ℤ (u +ℤ neg_ℤ v) ≡ d *ℤ u +ℤ neg_ℤ (d *ℤ v)
times_less d u v = ring3 integers (λ d u v. d ⊗ (u ⊕ neg v)) (λ d u v. d ⊗ u ⊕ neg (d ⊗ v)) refl d u v

nil_less : (x y : ℤ) → x ≡ y → x +ℤ neg_ℤ y ≡ pos 0
nil_less x y e = omega (arith, ints, e)

same_of : (u v : ℤ) → u +ℤ neg_ℤ v ≡ pos 0 → u ≡ v
same_of u v e = omega (arith, ints, e)

-- a quotient by what isn't 0 is one
pub one_quotient : (d u v z : ℤ) → d ≢ pos 0 → d *ℤ u ≡ z → d *ℤ v ≡ z → u ≡ v
one_quotient d u v z ne e h =
    elim (whole_domain d (u +ℤ neg_ℤ v) (times_less d u v ∙ nil_less (d *ℤ u) (d *ℤ v) (e ∙ sym h))) [
      | inl zero_d ↦ absurd (ne zero_d)
      | inr same ↦ same_of u v same
    ]

module _ (c : Factor) (f us : List ℤ) (p q g : ℤ) (gs : List ℤ) (here : Reached c f us p q (g ∷ gs)) where
  pub step : (u : ℤ) → divisor c ≢ pos 0 → AllByRecursion InRange (work_numbers c p q g) → divisor c *ℤ u ≡ numerator c p q g → Reached c f (us ++ u ∷ []) q u gs
  step u ne range e = record {
    further = λ vs h. subst (Ends c (pos 0) (pos 0) f) (sym (append_assoc us (u ∷ []) vs)) (here.further (u ∷ vs) (e, h));
    closed = λ vs h. after (here.closed vs h);
    fit = λ h. here.fit (range, λ v ev. subst (λ (z : ℤ). FitsFrom c q z gs) (one_quotient (divisor c) u v (numerator c p q g) ne e ev) h);
    unfit = λ h. (here.unfit h).1 u e;
  }
    where
      after : ((ws : List ℤ) × Ends c p q (g ∷ gs) ws) → (ws : List ℤ) × Ends c q u gs ws
      after ([], h) = absurd h
      after (v ∷ ws, h) = (ws, subst (λ (z : ℤ). Ends c q z gs ws) (one_quotient (divisor c) v u (numerator c p q g) ne h.0 e) h.1)

  pub stops_wide : (¬ AllByRecursion InRange (work_numbers c p q g)) → ¬ FitsFrom c (pos 0) (pos 0) f
  stops_wide wide h = wide (here.unfit h).0

  pub stops_fits : AllByRecursion InRange (work_numbers c p q g) → ((u : ℤ) → ¬ (divisor c *ℤ u ≡ numerator c p q g)) → FitsFrom c (pos 0) (pos 0) f
  stops_fits range none_whole = here.fit (range, λ u e. absurd (none_whole u e))

  pub stops : ((u : ℤ) → ¬ (divisor c *ℤ u ≡ numerator c p q g)) → (vs : List ℤ) → ¬ Ends c (pos 0) (pos 0) f vs
  stops none_whole vs h = after (here.closed vs h)
    where
      after : ((ws : List ℤ) × Ends c p q (g ∷ gs) ws) → ⊥
      after ([], e) = e
      after (u ∷ ws, e) = none_whole u e.0

append_nil : (l : List ℤ) → l ++ [] ≡ l
append_nil [] = refl
append_nil (x ∷ l) = ap (λ (m : List ℤ). x ∷ m) (append_nil l)

module _ (c : Factor) (f us : List ℤ) (p q : ℤ) (here : Reached c f us p q []) where
  pub end_fits : FitsFrom c (pos 0) (pos 0) f
  end_fits = here.fit tt

  pub end_over : IsOver c p q → Ends c (pos 0) (pos 0) f us
  end_over over = subst (Ends c (pos 0) (pos 0) f) (append_nil us) (here.further [] over)

  pub end_not_over : (¬ IsOver c p q) → (vs : List ℤ) → ¬ Ends c (pos 0) (pos 0) f vs
  end_not_over not_over vs h = after (here.closed vs h)
    where
      after : ((ws : List ℤ) × Ends c p q [] ws) → ⊥
      after ([], e) = not_over e
      after (u ∷ ws, e) = e

-- ---- q + (x - r) us, and p - s q + q x + (x² - s x + t) us
abbrev pub carried_linear : ℤ → ℤ → List ℤ → List ℤ
carried_linear r q us = add whole_numbers (q ∷ us) (scale whole_numbers (neg_ℤ r) us)

abbrev pub carried_quadratic : ℤ → ℤ → ℤ → ℤ → List ℤ → List ℤ
carried_quadratic s t p q us = add whole_numbers (p ∷ q ∷ us) (add whole_numbers ((neg_ℤ s *ℤ q) ∷ scale whole_numbers (neg_ℤ s) us) (scale whole_numbers t us))

times_none : (x : ℤ) → x *ℤ pos 0 ≡ pos 0
times_none x = ring2 integers (λ x y. x ⊗ none) (λ x y. none) refl x x

neg_times : (x y : ℤ) → neg_ℤ x *ℤ y ≡ neg_ℤ (x *ℤ y)
neg_times x y = ring2 integers (λ x y. neg x ⊗ y) (λ x y. neg (x ⊗ y)) refl x y

pub quadratic_is : (s t : ℤ) (us : List ℤ) → carried_quadratic s t (pos 0) (pos 0) us ≡ times_quadratic whole_numbers s t us
quadratic_is s t us = ap (λ (z : ℤ). add whole_numbers (pos 0 ∷ pos 0 ∷ us) (add whole_numbers (z ∷ scale whole_numbers (neg_ℤ s) us) (scale whole_numbers t us))) (times_none (neg_ℤ s))

-- ---- a product has these quotients
linear_ends : (r : ℤ) (us : List ℤ) (p q : ℤ) → (vs : List ℤ) × Ends (linear r) p q (carried_linear r q us) vs
linear_ends r [] p q = (pos 0 ∷ [], (times_none r ∙ none_left q, refl))
  where
    none_left : (z : ℤ) → pos 0 ≡ z -ℤ z
    none_left z = omega (arith, ints)
linear_ends r (u ∷ us) p q =
    let rest = linear_ends r us q u in
    (u ∷ rest.0, (turned (r *ℤ u) (neg_ℤ r *ℤ u) q (neg_times r u), rest.1))
  where
    turned : (x y z : ℤ) → y ≡ neg_ℤ x → x ≡ z -ℤ (z +ℤ y)
    turned x y z e = omega (arith, ints, e)

quadratic_ends : (s t : ℤ) (us : List ℤ) (p q : ℤ) → (vs : List ℤ) × Ends (quadratic s t) p q (carried_quadratic s t p q us) vs
quadratic_ends s t [] p q = (
  pos 0 ∷ pos 0 ∷ [],
  (
    times_none t ∙ first (s *ℤ q) (neg_ℤ s *ℤ q) p (neg_times s q),
    (times_none t ∙ second (s *ℤ pos 0) q (times_none s), (refl, refl)),
  ),
)
  where
    first : (x y z : ℤ) → y ≡ neg_ℤ x → pos 0 ≡ ((z +ℤ y) +ℤ x) -ℤ z
    first x y z e = omega (arith, ints, e)

    second : (x z : ℤ) → x ≡ pos 0 → pos 0 ≡ (z +ℤ x) -ℤ z
    second x z e = omega (arith, ints, e)
quadratic_ends s t (u ∷ us) p q =
    let rest = quadratic_ends s t us q u in
    (u ∷ rest.0, (turned (s *ℤ q) (neg_ℤ s *ℤ q) p (t *ℤ u) (neg_times s q), rest.1))
  where
    turned : (x y z w : ℤ) → y ≡ neg_ℤ x → w ≡ ((z +ℤ (y +ℤ w)) +ℤ x) -ℤ z
    turned x y z w e = omega (arith, ints, e)

pub complete : (c : Factor) (f : List ℤ) → Divides c f → (vs : List ℤ) × Ends c (pos 0) (pos 0) f vs
complete (linear r) f (h, e) = subst (λ (l : List ℤ). (vs : List ℤ) × Ends (linear r) (pos 0) (pos 0) l vs) e (linear_ends r h (pos 0) (pos 0))
complete (quadratic s t) f (h, e) =
    subst (λ (l : List ℤ). (vs : List ℤ) × Ends (quadratic s t) (pos 0) (pos 0) l vs) (quadratic_is s t h ∙ e) (quadratic_ends s t h (pos 0) (pos 0))

-- ---- and where nothing is carried, the polynomial is the product
linear_sound : (r : ℤ) (p q g : ℤ) (gs us : List ℤ) → Ends (linear r) p q (g ∷ gs) us → carried_linear r q (but_last us) ≡ g ∷ gs
linear_sound r p q g gs [] h = absurd h
linear_sound r p q g [] (u ∷ []) h = ap (λ (z : ℤ). z ∷ []) (same (r *ℤ u) q g (ap (λ (z : ℤ). r *ℤ z) h.1 ∙ times_none r) h.0)
  where
    same : (x y z : ℤ) → x ≡ pos 0 → x ≡ y -ℤ z → y ≡ z
    same x y z e h = omega (arith, ints, e, h)
linear_sound r p q g [] (u ∷ v ∷ us) h = absurd h.1
linear_sound r p q g (k ∷ gs) (u ∷ []) h = absurd h.1
linear_sound r p q g (k ∷ gs) (u ∷ v ∷ us) h =
    ap₂ (λ (z : ℤ) (l : List ℤ). z ∷ l) (turned (r *ℤ u) (neg_ℤ r *ℤ u) q g (neg_times r u) h.0) (linear_sound r q u k gs (v ∷ us) h.1)
  where
    turned : (x y z w : ℤ) → y ≡ neg_ℤ x → x ≡ z -ℤ w → z +ℤ y ≡ w
    turned x y z w e h = omega (arith, ints, e, h)

quadratic_sound : (s t : ℤ) (p q g k : ℤ) (gs us : List ℤ) → Ends (quadratic s t) p q (g ∷ k ∷ gs) us → carried_quadratic s t p q (but_last (but_last us)) ≡ g ∷ k ∷ gs
quadratic_sound s t p q g k gs [] h = absurd h
quadratic_sound s t p q g k gs (u ∷ []) h = absurd h.1
quadratic_sound s t p q g k [] (u ∷ v ∷ []) h =
    ap₂ (λ (y z : ℤ). y ∷ z ∷ [])
    (first (t *ℤ u) (s *ℤ q) (neg_ℤ s *ℤ q) p g (neg_times s q) (ap (λ (z : ℤ). t *ℤ z) h.1.1.0 ∙ times_none t) h.0)
    (second (t *ℤ v) (s *ℤ u) q k (ap (λ (z : ℤ). s *ℤ z) h.1.1.0 ∙ times_none s) (ap (λ (z : ℤ). t *ℤ z) h.1.1.1 ∙ times_none t) h.1.0)
  where
    first : (w x y z g : ℤ) → y ≡ neg_ℤ x → w ≡ pos 0 → w ≡ (g +ℤ x) -ℤ z → z +ℤ y ≡ g
    first w x y z g e h k = omega (arith, ints, e, h, k)

    second : (w x z g : ℤ) → x ≡ pos 0 → w ≡ pos 0 → w ≡ (g +ℤ x) -ℤ z → z ≡ g
    second w x z g e h k = omega (arith, ints, e, h, k)
quadratic_sound s t p q g k [] (u ∷ v ∷ w ∷ us) h = absurd h.1.1
quadratic_sound s t p q g k (j ∷ gs) (u ∷ v ∷ []) h = absurd h.1.1
quadratic_sound s t p q g k (j ∷ gs) (u ∷ v ∷ w ∷ us) h =
    ap₂ (λ (z : ℤ) (l : List ℤ). z ∷ l) (turned (t *ℤ u) (s *ℤ q) (neg_ℤ s *ℤ q) p g (neg_times s q) h.0) (quadratic_sound s t q u k j gs (v ∷ w ∷ us) h.1)
  where
    turned : (w x y z g : ℤ) → y ≡ neg_ℤ x → w ≡ (g +ℤ x) -ℤ z → z +ℤ (y +ℤ w) ≡ g
    turned w x y z g e h = omega (arith, ints, e, h)

one_not_none : pos 1 ≡ pos 0 → ⊥
one_not_none e = omega (arith, ints, e)

some_same : (x y : ℤ) → Some x ≡ Some y → x ≡ y
some_same x y e = ap (λ (o : Option ℤ). value o) e
  where
    value : Option ℤ → ℤ
    value (Some z) = z
    value None = pos 0

pub sound : (c : Factor) (f us : List ℤ) → IsMonic f → Ends c (pos 0) (pos 0) f us → times_factor c (shortened c us) ≡ f
sound c [] us m h = absurd (none_some m)
  where
    none_some : None ≡ Some (pos 1) → ⊥
    none_some e = (let h = e in cc)
sound (linear r) (g ∷ gs) us m h = linear_sound r (pos 0) (pos 0) g gs us h
sound (quadratic s t) (g ∷ []) [] m h = absurd h
sound (quadratic s t) (g ∷ []) (u ∷ []) m h =
    absurd (never g (t *ℤ u) (s *ℤ pos 0) (some_same g (pos 1) m) (times_none s) (ap (λ (z : ℤ). t *ℤ z) h.1.1 ∙ times_none t) h.0)
  where
    never : (g w x : ℤ) → g ≡ pos 1 → x ≡ pos 0 → w ≡ pos 0 → w ≡ (g +ℤ x) -ℤ pos 0 → ⊥
    never g w x a b c d = omega (arith, ints, a, b, c, d)
sound (quadratic s t) (g ∷ []) (u ∷ v ∷ us) m h = absurd h.1
sound (quadratic s t) (g ∷ k ∷ gs) us m h = sym (quadratic_is s t (but_last (but_last us))) ∙ quadratic_sound s t (pos 0) (pos 0) g k gs us h

-- ---- the quotient is monic and in range
abbrev last_of : List ℤ → Option ℤ
last_of [] = None
last_of (x ∷ []) = Some x
last_of (x ∷ y ∷ l) = last_of (y ∷ l)

one_less : (n : ℕ) → suc n - 1 ≡ n
one_less n = omega arith

last_is : (l : List ℤ) → slice_get l (length l - 1) ≡ last_of l
last_is [] = refl
last_is (x ∷ []) = refl
last_is (x ∷ y ∷ l) = ap (slice_get (x ∷ y ∷ l)) (one_less (suc (length l))) ∙ (sym (ap (slice_get (y ∷ l)) (one_less (length l))) ∙ last_is (y ∷ l))

linear_last : (r q : ℤ) (us : List ℤ) → last_of (carried_linear r q us) ≡ last_of (q ∷ us)
linear_last r q [] = refl
linear_last r q (u ∷ []) = refl
linear_last r q (u ∷ v ∷ us) = linear_last r u (v ∷ us)

quadratic_last : (s t p q : ℤ) (us : List ℤ) → last_of (carried_quadratic s t p q us) ≡ last_of (q ∷ us)
quadratic_last s t p q [] = refl
quadratic_last s t p q (u ∷ []) = refl
quadratic_last s t p q (u ∷ v ∷ us) = quadratic_last s t q u (v ∷ us)

without_head : (us : List ℤ) → last_of (pos 0 ∷ us) ≡ Some (pos 1) → IsMonic us
without_head [] e = absurd (one_not_none (sym (some_same (pos 0) (pos 1) e)))
without_head (u ∷ us) e = last_is (u ∷ us) ∙ e

pub monic_quotient : (c : Factor) (us f : List ℤ) → times_factor c us ≡ f → IsMonic f → IsMonic us
monic_quotient (linear r) us f e m = without_head us (sym (linear_last r (pos 0) us) ∙ (ap last_of e ∙ (sym (last_is f) ∙ m)))
monic_quotient (quadratic s t) us f e m = without_head us (sym (quadratic_last s t (pos 0) (pos 0) us) ∙ (ap last_of (quadratic_is s t us ∙ e) ∙ (sym (last_is f) ∙ m)))

pub all_but_last : (P : ℤ → Type 0) (l : List ℤ) → AllByRecursion P l → AllByRecursion P (but_last l)
all_but_last P [] h = tt
all_but_last P (x ∷ []) h = tt
all_but_last P (x ∷ y ∷ l) h = (h.0, all_but_last P (y ∷ l) h.1)

pub all_shortened : (c : Factor) (P : ℤ → Type 0) (l : List ℤ) → AllByRecursion P l → AllByRecursion P (shortened c l)
all_shortened (linear r) P l h = all_but_last P l h
all_shortened (quadratic s t) P l h = all_but_last P (but_last l) (all_but_last P l h)

pub taken : (l : List ℤ) → take (length l - 1) l ≡ but_last l
taken [] = refl
taken (x ∷ []) = refl
taken (x ∷ y ∷ l) =
    ap (λ (n : ℕ). take n (x ∷ y ∷ l)) (one_less (suc (length l)))
    ∙ ap (λ (m : List ℤ). x ∷ m) (sym (ap (λ (n : ℕ). take n (y ∷ l)) (one_less (length l))) ∙ taken (y ∷ l))

-- ---- by x: the polynomial without its constant
by_nil : (q : ℤ) (us : List ℤ) → carried_linear (pos 0) q us ≡ q ∷ us
by_nil q [] = refl
by_nil q (u ∷ us) = ap₂ (λ (z : ℤ) (l : List ℤ). z ∷ l) (ring2 integers (λ q u. q ⊕ none ⊗ u) (λ q u. q) refl q u) (by_nil u us)

pub by_x : (us : List ℤ) → times_linear whole_numbers (pos 0) us ≡ pos 0 ∷ us
by_x us = by_nil (pos 0) us

-- ---- places of the loop
module _ (c : Factor) (f us : List ℤ) (p q : ℤ) (i : ℕ) (here : Reached c f us p q (drop i f)) where
  pub at_place : (g : ℤ) → i < length f → g ≡ get_or f i (pos 0) → Reached c f us p q (g ∷ drop (i + 1) f)
  at_place g h e = subst (Reached c f us p q) (drop_more f i (pos 0) h ∙ ap (λ (z : ℤ). z ∷ drop (i + 1) f) (sym e)) here

  pub at_end : length f ≤ i → Reached c f us p q []
  at_end h = subst (Reached c f us p q) (none_left f i h) here
    where
      none_left : (l : List ℤ) (i : ℕ) → length l ≤ i → drop i l ≡ []
      none_left [] zero h = refl
      none_left [] (suc i) h = refl
      none_left (x ∷ l) zero h = absurd (omega (arith, h))
      none_left (x ∷ l) (suc i) h = none_left l i (omega (arith, h))

-- a list that begins with 0 is 0 and its rest
pub begins : (l : List ℤ) → IsMonic l → get_or l 0 (pos 0) ≡ pos 0 → pos 0 ∷ take (length l - 1) (drop 1 l) ≡ l
begins [] m e = absurd (none_some m)
  where
    none_some : None ≡ Some (pos 1) → ⊥
    none_some e = (let h = e in cc)
begins (x ∷ l) m e = ap₂ (λ (z : ℤ) (k : List ℤ). z ∷ k) (sym e) (ap (λ (n : ℕ). take n l) (one_less (length l)) ∙ take_all l)
  where
    take_all : (l : List ℤ) → take (length l) l ≡ l
    take_all [] = refl
    take_all (x ∷ l) = ap (λ (k : List ℤ). x ∷ k) (take_all l)
