-- Over a field, n + 1 vectors of n places are dependent, and a one-sided inverse of a square table is two-sided.
pub use Rattle.drg_algebra.proofs.Quotients.{cancel_left}
use Rattle.std.proofs.Common.{◌≡◌, ℕ, zero, suc, ◌<◌, refl, ap, ap₂, sym, ◌∙◌, subst, arith, ◌⊎◌, inl, inr}
use Rattle.drg_algebra.specs.Ring.{IsField, Field, none, one, ◌⊕◌, ◌⊗◌, neg, from_one, from_two, ring2, ring3, ring4, ring6}
use Rattle.drg_algebra.specs.Tables.{total, delta}
use Rattle.drg_algebra.specs.TableLaws.{Dependence, RightInverseIsLeft}
use Rattle.drg_algebra.proofs.Totals.{same_sum, nil_sum, split_sum, scale_sum, add_sum, swap_sums, delta_sum}

-- the places but q, in order
abbrev pub skip : ℕ → ℕ → ℕ
skip zero k = suc k
skip (suc q) zero = zero
skip (suc q) (suc k) = suc (skip q k)

-- each place is q or one of the others
placed : (n q k : ℕ) → k < suc n → q < suc n → (k ≡ q) ⊎ ((j : ℕ) × (j < n) × (skip q j ≡ k))
placed n zero zero h g = inl refl
placed n zero (suc k) h g = inr (k, omega arith, refl)
placed zero (suc q) zero h g = absurd (omega arith)
placed (suc n) (suc q) zero h g = inr (0, omega arith, refl)
placed zero (suc q) (suc k) h g = absurd (omega arith)
placed (suc n) (suc q) (suc k) h g = go (placed n q k (omega arith) (omega arith))
  where
    go : (k ≡ q) ⊎ ((j : ℕ) × (j < n) × (skip q j ≡ k)) → (suc k ≡ suc q) ⊎ ((j : ℕ) × (j < suc n) × (skip (suc q) j ≡ suc k))
    go (inl e) = inl (ap suc e)
    go (inr p) = inr (suc p.0, omega (arith, p.1), ap suc p.2)

module _ {R : Type 0} {nil unit : R} {plus times : R → R → R} {minus : R → R} (f : IsField nil unit plus times minus) where
  find : (n : ℕ) (a : ℕ → R) → ((q : ℕ) × (q < n) × (¬ (a q ≡ nil))) ⊎ ((i : ℕ) → i < n → a i ≡ nil)
  find zero a = inr (λ i h. absurd (omega arith))
  find (suc n) a = go (f.test (a 0)) (find n (λ i. a (suc i)))
    where
      all : (a 0 ≡ nil) → ((i : ℕ) → i < n → a (suc i) ≡ nil) → (i : ℕ) → i < suc n → a i ≡ nil
      all e h zero k = e
      all e h (suc i) k = h i (omega arith)

      go : (a 0 ≡ nil) ⊎ (¬ (a 0 ≡ nil)) → ((q : ℕ) × (q < n) × (¬ (a (suc q) ≡ nil))) ⊎ ((i : ℕ) → i < n → a (suc i) ≡ nil)
          → ((q : ℕ) × (q < suc n) × (¬ (a q ≡ nil))) ⊎ ((i : ℕ) → i < suc n → a i ≡ nil)
      go (inr n) s = inl (0, omega arith, n)
      go (inl e) (inl p) = inl (suc p.0, omega (arith, p.1), p.2)
      go (inl e) (inr h) = inr (all e h)

  -- weights, not all nil, under which the n + 1 vectors sum to nil at each of n places
  abbrev pub Dependent : ℕ → (ℕ → ℕ → R) → Type 0
  Dependent n v = (c : ℕ → R) × (j : ℕ) × (j < suc n) × (¬ (c j ≡ nil)) × ((k : ℕ) → k < n → total nil plus (suc n) (λ i. times (c i) (v i k)) ≡ nil)

  weights : R → (ℕ → R) → ℕ → R
  weights x d zero = x
  weights x d (suc i) = d i

  cleared : (d a b r : R) → times b r ≡ unit → times d (plus a (minus (times (times a r) b))) ≡ nil
  cleared d a b r e =
      from_one f.ring _ _ (times d a) _ _ (sym e)
      (ring4 f.ring (λ d a b r. d ⊗ (a ⊕ neg (a ⊗ r ⊗ b)) ⊕ d ⊗ a ⊗ (b ⊗ r)) (λ d a b r. none ⊕ d ⊗ a ⊗ one) refl d a b r)

  step : (m : ℕ) (v : ℕ → ℕ → R) → ((u : ℕ → ℕ → R) → Dependent m u)
      → ((q : ℕ) × (q < suc m) × (¬ (v 0 q ≡ nil))) ⊎ ((i : ℕ) → i < suc m → v 0 i ≡ nil) → Dependent (suc m) v
  unfolding weights
  step m v rec (inr h) = (
    weights unit (λ i. nil),
    0,
    omega arith,
    f.apart,
    λ k g.
        ap₂ plus (ap (times unit) (h k g) ∙ ring2 f.ring (λ x y. one ⊗ none) (λ x y. none) refl nil nil)
        (nil_sum f.ring (suc m) (λ i. times nil (v (suc i) k)) (λ i l. ring2 f.ring
        (λ x y. none ⊗ x)
        (λ x y. none)
        refl (v (suc i) k) nil)) ∙ f.ring.plus_nil nil,
  )
  step m v rec (inl p) =
      let q = p.0 in
      let r = f.inverse (v 0 q) p.2 in
      let d = rec (λ i k. plus (v (suc i) (skip q k)) (minus (times (times (v (suc i) q) r.0) (v 0 (skip q k))))) in (
        weights (minus (total nil plus (suc m) (λ i. times (d.0 i) (times (v (suc i) q) r.0)))) d.0,
        suc d.1,
        omega (arith, d.2),
        d.3,
        λ k g.
            sym (split_sum f.ring (suc m) d.0 (λ i. v (suc i) k) (λ i. times (v (suc i) q) r.0) (v 0 k)) ∙ at q r.0 r.1 d.0 d.4 k (placed m q k g p.1),
      )
    where
      at : (q : ℕ) (r : R) → times (v 0 q) r ≡ unit → (d : ℕ → R)
          → ((k : ℕ) → k < m → total nil plus (suc m) (λ i. times (d i) (plus (v (suc i) (skip q k)) (minus (times (times (v (suc i) q) r) (v 0 (skip q k)))))) ≡ nil)
          → (k : ℕ) → (k ≡ q) ⊎ ((j : ℕ) × (j < m) × (skip q j ≡ k))
          → total nil plus (suc m) (λ i. times (d i) (plus (v (suc i) k) (minus (times (times (v (suc i) q) r) (v 0 k))))) ≡ nil
      at q r e d z k (inl s) =
          subst (λ (k : ℕ). total nil plus (suc m) (λ i. times (d i) (plus (v (suc i) k) (minus (times (times (v (suc i) q) r) (v 0 k))))) ≡ nil) (sym s)
          (nil_sum f.ring (suc m) _ (λ i l. cleared (d i) (v (suc i) q) (v 0 q) r e))
      at q r e d z k (inr j) =
          subst (λ (k : ℕ). total nil plus (suc m) (λ i. times (d i) (plus (v (suc i) k) (minus (times (times (v (suc i) q) r) (v 0 k))))) ≡ nil) j.2 (z j.0 j.1)

  -- n + 1 vectors of n places are dependent
  pub dependent : (n : ℕ) (v : ℕ → ℕ → R) → Dependent n v
  dependent zero v = (λ i. unit, 0, omega arith, f.apart, λ k h. absurd (omega arith))
  dependent (suc m) v = step m v (λ u. dependent m u) (find (suc m) (v 0))

  pub delta_turned : (i j : ℕ) → delta nil unit i j ≡ delta nil unit j i
  delta_turned zero zero = refl
  delta_turned zero (suc j) = refl
  delta_turned (suc i) zero = refl
  delta_turned (suc i) (suc j) = delta_turned i j

  -- A B = s I gives B A = s I
  module _ (n : ℕ) (s : R) (some : ¬ (s ≡ nil)) (a b : ℕ → ℕ → R) (ab : (i j : ℕ) → i < n → j < n → total nil plus n (λ k. times (a i k) (b k j)) ≡ times s (delta nil unit i j)) where
    vectors : ℕ → ℕ → ℕ → R
    vectors j zero k = delta nil unit j k
    vectors j (suc i) k = b k i

    -- what a makes of the dependence of column j of the unit table on the columns of b
    applied : (j : ℕ) → j < n → (c : ℕ → R)
        → ((k : ℕ) → k < n → plus (times (c 0) (delta nil unit j k)) (total nil plus n (λ i. times (c (suc i)) (b k i))) ≡ nil)
        → (l : ℕ) → l < n → plus (times (c 0) (a l j)) (times s (c (suc l))) ≡ nil
    applied j h c z l g =
        let first : total nil plus n (λ k. times (a l k) (times (c 0) (delta nil unit j k))) ≡ times (a l j) (c 0) =
        same_sum f.ring n (λ k. times (a l k) (times (c 0) (delta nil unit j k))) (λ k. times (times (a l k) (c 0)) (delta nil unit j k)) (λ k i. sym (f.ring.times_assoc (a l k) (c 0) (delta nil unit j k)))
        ∙ delta_sum f.ring n j (λ k. times (a l k) (c 0)) h in
        let second : total nil plus n (λ k. times (a l k) (total nil plus n (λ i. times (c (suc i)) (b k i)))) ≡ times (c (suc l)) s =
        same_sum f.ring n (λ k. times (a l k) (total nil plus n (λ i. times (c (suc i)) (b k i)))) (λ k. total nil plus n (λ i. times (a l k) (times (c (suc i)) (b k i)))) (λ k q. scale_sum f.ring n (a l k) (λ i. times (c (suc i)) (b k i)))
        ∙ swap_sums f.ring n n (λ k i. times (a l k) (times (c (suc i)) (b k i)))
        ∙ same_sum f.ring n (λ i. total nil plus n (λ k. times (a l k) (times (c (suc i)) (b k i)))) (λ i. times (times (c (suc i)) s) (delta nil unit l i)) (λ i q.
        same_sum f.ring n (λ k. times (a l k) (times (c (suc i)) (b k i))) (λ k. times (c (suc i)) (times (a l k) (b k i))) (λ k y. ring3 f.ring
        (λ x c y. x ⊗ (c ⊗ y))
        (λ x c y. c ⊗ (x ⊗ y))
        refl (a l k) (c (suc i)) (b k i))
        ∙ sym (scale_sum f.ring n (c (suc i)) (λ k. times (a l k) (b k i)))
        ∙ ap (times (c (suc i))) (ab l i g q)
        ∙ sym (f.ring.times_assoc (c (suc i)) s (delta nil unit l i)))
        ∙ delta_sum f.ring n l (λ i. times (c (suc i)) s) g in
        ap₂ plus (f.ring.times_comm (c 0) (a l j)) (f.ring.times_comm s (c (suc l)))
        ∙ sym (ap₂ plus first second)
        ∙ sym (add_sum f.ring n (λ k. times (a l k) (times (c 0) (delta nil unit j k))) (λ k. times (a l k) (total nil plus n (λ i. times (c (suc i)) (b k i)))))
        ∙ nil_sum f.ring n _ (λ k q. sym (f.ring.times_plus (a l k) (times (c 0) (delta nil unit j k)) (total nil plus n (λ i. times (c (suc i)) (b k i)))) ∙ ap (times (a l k)) (z k q) ∙ ring2 f.ring
        (λ x y. x ⊗ none)
        (λ x y. none)
        refl (a l k) nil)

    -- the weight of the unit column is not nil
    leads : (c : ℕ → R) (p : ℕ) → p < suc n → ¬ (c p ≡ nil) → (g : ℕ → R)
        → ((l : ℕ) → l < n → plus (times (c 0) (g l)) (times s (c (suc l))) ≡ nil) → ¬ (c 0 ≡ nil)
    leads c zero h ne g z e = ne e
    leads c (suc p) h ne g z e =
        ne (cancel_left f s (c (suc p)) nil some
        (from_two f.ring _ _ (minus (g p)) _ _ unit _ _ e (z p (omega arith))
        (ring4 f.ring
        (λ s x g y. s ⊗ x ⊕ neg g ⊗ none ⊕ one ⊗ none)
        (λ s x g y. s ⊗ none ⊕ neg g ⊗ y ⊕ one ⊗ (y ⊗ g ⊕ s ⊗ x))
        refl s (c (suc p)) (g p) (c 0))))

    turned : (i j : ℕ) → i < n → j < n → Dependent n (vectors j) → total nil plus n (λ k. times (b i k) (a k j)) ≡ times s (delta nil unit i j)
    unfolding vectors
    turned i j h g d =
        let c = d.0 in
        let z = applied j g c d.4 in
        let lead = leads c d.1 d.2 d.3 (λ l. a l j) z in
        let x = total nil plus n (λ k. times (b i k) (a k j)) in
        let t = total nil plus n (λ k. times (c (suc k)) (b i k)) in
        let e : times s t ≡ times (minus (c 0)) x =
        scale_sum f.ring n s (λ k. times (c (suc k)) (b i k))
        ∙ same_sum f.ring n (λ k. times s (times (c (suc k)) (b i k))) (λ k. times (minus (c 0)) (times (b i k) (a k j))) (λ k q. from_one f.ring _ _ (b i k) _ _ (z k q)
        (ring6 f.ring
        (λ s w y x v u. s ⊗ (w ⊗ y) ⊕ y ⊗ none)
        (λ s w y x v u. neg x ⊗ (y ⊗ v) ⊕ y ⊗ (x ⊗ v ⊕ s ⊗ w))
        refl s (c (suc k)) (b i k) (c 0) (a k j) s))
        ∙ sym (scale_sum f.ring n (minus (c 0)) (λ k. times (b i k) (a k j))) in
        cancel_left f (c 0) x (times s (delta nil unit j i)) lead
        (from_two f.ring _ _ (minus s) _ _ unit _ _ (d.4 i h) e
        (ring6 f.ring
        (λ c x s t y u. c ⊗ x ⊕ neg s ⊗ none ⊕ one ⊗ (neg c ⊗ x))
        (λ c x s t y u. c ⊗ (s ⊗ y) ⊕ neg s ⊗ (c ⊗ y ⊕ t) ⊕ one ⊗ (s ⊗ t))
        refl (c 0) x s t (delta nil unit j i) s))
        ∙ ap (times s) (delta_turned j i)

    pub two_sided : (i j : ℕ) → i < n → j < n → total nil plus n (λ k. times (b i k) (a k j)) ≡ times s (delta nil unit i j)
    two_sided i j h g = turned i j h g (dependent n (vectors j))

pub dependence_holds : (f : Field) → Dependence f
dependence_holds f n v =
    let d = dependent f.laws n v in record { weight = d.0; leader = d.1; within = d.2; apart = d.3; vanishes = d.4 }

pub right_inverse_is_left_holds : (f : Field) → RightInverseIsLeft f
right_inverse_is_left_holds f n p q x some h = two_sided f.laws n x some p q h
