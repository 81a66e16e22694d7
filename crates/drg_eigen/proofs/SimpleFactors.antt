-- The polynomials F_j have simple factors, and their irreducible quadratic factors have real roots.
use Rattle.std.proofs.Common.{◌≡◌, ℕ, zero, suc, refl, ap, ap₂, sym, ◌∙◌, subst, arith, ℤ, pos, negsuc, List, ◌⊎◌, inl, inr}
use Rattle.std.specs.Prelude.{◌+ℤ◌, ◌*ℤ◌, neg_ℤ, ◌≤ℤ◌, ◌<ℤ◌}
use Rattle.std.proofs.lemmas.Int.{ints}
use Rattle.drg_algebra.specs.Ring.{CommutativeRing, sub, none, one, ◌⊕◌, ◌⊗◌, neg, from_two, ring2, ring3, ring4, ring7}
use Rattle.drg_algebra.specs.Integer.{integers, above_times, whole_numbers}
use Rattle.drg_algebra.specs.Pairs.{Pair, pair_path, pairs, constant, alpha, duals, norm, trace, conjugate}
use Rattle.drg_algebra.proofs.Maps.{constant_map, map_of_map}
use Rattle.drg_algebra.proofs.Pairs.{pair_laws_hold}
use Rattle.drg_eigen.specs.Polynomial.{times_linear, times_quadratic, eval}
use Rattle.drg_eigen.specs.Recurrence.{at, slope, weighted, chain}
use Rattle.drg_eigen.specs.Factor.{linear, quadratic, discriminant}
use Rattle.drg_eigen.specs.FactorLaws.{IsPositive, NoDoubleFactorOfChain, QuadraticsOfChainAreReal}
use Rattle.drg_eigen.proofs.PolynomialValues.{eval_linear, eval_quadratic, quadratic_at, eval_chain}
use Rattle.drg_eigen.proofs.Christoffel.{christoffel_darboux_holds, confluent_holds, at_dual_holds}

-- ---- signs of whole numbers
pub square_least : (z : ℤ) → pos 0 ≤ℤ (z *ℤ z)
square_least (pos n) = omega (arith, ints)
square_least (negsuc n) = omega (arith, ints)

pub times_least : (a b : ℤ) → pos 0 ≤ℤ a → pos 0 ≤ℤ b → pos 0 ≤ℤ (a *ℤ b)
times_least (pos n) (pos m) h k = omega (arith, ints)
times_least (pos n) (negsuc m) h k = absurd (omega (arith, ints))
times_least (negsuc n) b h k = absurd (omega (arith, ints))

above_plus : (a b : ℤ) → pos 0 <ℤ a → pos 0 ≤ℤ b → pos 0 <ℤ (a +ℤ b)
above_plus a b h k = omega (arith, ints)

-- ---- a double factor makes the weighted sum nil
module _ (r : CommutativeRing) (a w : ℕ → r.Of) (d : ℕ) where
  double_root : (x u : r.Of) (y : Pair r.Of)
      → at (duals r) (λ j. constant r (a j)) (λ j. constant r (w j)) (record { a = x; b = r.unit }) (suc d)
      ≡ (duals r).times (record { a = r.nil; b = u }) ((duals r).times (record { a = r.nil; b = u }) y)
      → weighted r a w x x d ≡ r.nil
  double_root x u y e =
      let f = sym (at_dual_holds r a w x r.unit (suc d)) ∙ e in
      let zero_at : at r a w x (suc d) ≡ r.nil =
      ap (λ (p : Pair r.Of). p.a) f ∙ ring3 r.laws (λ u a b. none ⊗ (none ⊗ a ⊕ neg (none ⊗ (u ⊗ b))) ⊕ neg (none ⊗ (u ⊗ (none ⊗ b ⊕ u ⊗ a ⊕ none ⊗ (u ⊗ b))))) (λ u a b. none) refl u y.a y.b in
      let zero_slope : r.times r.unit (slope r a w x (suc d)) ≡ r.nil =
      ap (λ (p : Pair r.Of). p.b) f ∙ ring3 r.laws (λ u a b. (none ⊗ (none ⊗ b ⊕ u ⊗ a ⊕ none ⊗ (u ⊗ b)) ⊕ u ⊗ (none ⊗ a ⊕ neg (none ⊗ (u ⊗ b)))) ⊕ none ⊗ (u ⊗ (none ⊗ b ⊕ u ⊗ a ⊕ none ⊗ (u ⊗ b)))) (λ u a b. none) refl u y.a y.b in
      confluent_holds r a w x d
      ∙ from_two r.laws _ _ (at r a w x d) _ _ (r.minus (slope r a w x d)) _ _ zero_slope zero_at
      (ring4 r.laws (λ s f t g. ((s ⊗ f ⊕ neg (t ⊗ g)) ⊕ f ⊗ none) ⊕ neg t ⊗ none) (λ s f t g. (none ⊕ f ⊗ (one ⊗ s)) ⊕ neg t ⊗ g) refl (slope r a w x (suc d)) (at r a w x d) (slope r a w x d) (at r a w x (suc d)))

-- ---- no double whole root
module _ (a w : ℕ → ℤ) (c : ℤ) where
  weighted_above : (d : ℕ) → IsPositive d w → pos 0 <ℤ weighted whole_numbers a w c c d
  weighted_above zero h = omega (arith, ints)
  weighted_above (suc d) h =
      above_plus _ _ (above_times (w (suc d)) (weighted whole_numbers a w c c d) (h d (omega arith)) (weighted_above d (λ j k. h j (omega arith)))) (square_least (at whole_numbers a w c (suc d)))

no_double_root : (a w : ℕ → ℤ) (d : ℕ) → IsPositive d w → (c : ℤ) (f : List ℤ)
    → ¬ (chain whole_numbers a w (suc d) ≡ times_linear whole_numbers c (times_linear whole_numbers c f))
no_double_root a w d h c f e =
    let m = constant_map whole_numbers (pos 0) (pos 0) in
    let z : Pair ℤ = record { a = c; b = pos 1 } in
    let v = eval whole_numbers (duals whole_numbers) (constant whole_numbers) z f in
    let values = sym (eval_chain whole_numbers (duals whole_numbers) (constant whole_numbers) m z a w (suc d))
    ∙ ap (eval whole_numbers (duals whole_numbers) (constant whole_numbers) z) e
    ∙ eval_linear whole_numbers (duals whole_numbers) (constant whole_numbers) m z c (times_linear whole_numbers c f)
    ∙ ap ((duals whole_numbers).times (sub (duals whole_numbers) z (constant whole_numbers c))) (eval_linear whole_numbers (duals whole_numbers) (constant whole_numbers) m z c f) in
    let epsilon : sub (duals whole_numbers) z (constant whole_numbers c) ≡ record { a = pos 0; b = pos 1 } = pair_path _ _ (integers.plus_minus c) refl in
    let none_left : weighted whole_numbers a w c c d ≡ pos 0 = double_root whole_numbers a w d c (pos 1) v (values ∙ ap (λ p. (duals whole_numbers).times p ((duals whole_numbers).times p v)) epsilon) in
    let some = weighted_above a w c d h in
    omega (arith, ints)

-- ---- the root of x² - s x + t, and its conjugate
module _ (r : CommutativeRing) (s t : r.Of) where
  pub alpha_root : quadratic_at r (pairs r s t) (constant r) (constant_map r s t) (alpha r s t) s t ≡ (pairs r s t).nil
  alpha_root = pair_path _ _
      (ring2 r.laws (λ s t. ((none ⊗ none ⊕ neg (t ⊗ (one ⊗ one))) ⊕ neg (s ⊗ none ⊕ neg (t ⊗ (none ⊗ one)))) ⊕ t) (λ s t. none) refl s t)
      (ring2 r.laws (λ s t. ((none ⊗ one ⊕ one ⊗ none ⊕ s ⊗ (one ⊗ one)) ⊕ neg (s ⊗ one ⊕ none ⊗ none ⊕ s ⊗ (none ⊗ one))) ⊕ none) (λ s t. none) refl s t)

  pub other_root : quadratic_at r (pairs r s t) (constant r) (constant_map r s t) (conjugate r s t (alpha r s t)) s t ≡ (pairs r s t).nil
  other_root = pair_path _ _
      (ring2 r.laws (λ s t. (((none ⊕ s ⊗ one) ⊗ (none ⊕ s ⊗ one) ⊕ neg (t ⊗ (neg one ⊗ neg one))) ⊕ neg (s ⊗ (none ⊕ s ⊗ one) ⊕ neg (t ⊗ (none ⊗ neg one)))) ⊕ t) (λ s t. none) refl s t)
      (ring2 r.laws (λ s t. (((none ⊕ s ⊗ one) ⊗ neg one ⊕ neg one ⊗ (none ⊕ s ⊗ one) ⊕ s ⊗ (neg one ⊗ neg one)) ⊕ neg (s ⊗ neg one ⊕ none ⊗ (none ⊕ s ⊗ one) ⊕ s ⊗ (none ⊗ neg one))) ⊕ none) (λ s t. none) refl s t)

  conjugate_minus : (x : Pair r.Of) → conjugate r s t ((pairs r s t).minus x) ≡ (pairs r s t).minus (conjugate r s t x)
  conjugate_minus x = pair_path _ _ (ring3 r.laws (λ s a b. neg a ⊕ s ⊗ neg b) (λ s a b. neg (a ⊕ s ⊗ b)) refl s x.a x.b) refl

  -- the value at the conjugate is the conjugate of the value
  at_conjugate : (a w : ℕ → r.Of) (z : Pair r.Of) (j : ℕ)
      → at (pairs r s t) (λ i. constant r (a i)) (λ i. constant r (w i)) (conjugate r s t z) j ≡ conjugate r s t (at (pairs r s t) (λ i. constant r (a i)) (λ i. constant r (w i)) z j)
  at_conjugate a w z zero = sym ((pair_laws_hold r s t).conjugate_constant r.unit)
  at_conjugate a w z (suc zero) = refl
  at_conjugate a w z (suc (suc j)) =
      let q = pairs r s t in
      let laws = pair_laws_hold r s t in
      let f1 = at q (λ i. constant r (a i)) (λ i. constant r (w i)) z (suc j) in
      let f0 = at q (λ i. constant r (a i)) (λ i. constant r (w i)) z j in
      let shift : sub q (conjugate r s t z) (constant r (a (suc j))) ≡ conjugate r s t (sub q z (constant r (a (suc j)))) =
      ap (λ u. q.plus (conjugate r s t z) (q.minus u)) (sym (laws.conjugate_constant (a (suc j)))) ∙ ap (q.plus (conjugate r s t z)) (sym (conjugate_minus (constant r (a (suc j))))) ∙ sym (laws.conjugate_plus z (q.minus (constant r (a (suc j))))) in
      ap₂ q.plus
      (ap₂ q.times shift (at_conjugate a w z (suc j)) ∙ sym (laws.conjugate_times (sub q z (constant r (a (suc j)))) f1))
      (ap q.minus (ap₂ q.times (sym (laws.conjugate_constant (w (suc j)))) (at_conjugate a w z j) ∙ sym (laws.conjugate_times (constant r (w (suc j))) f0)) ∙ sym (conjugate_minus (q.times (constant r (w (suc j))) f0)))
      ∙ sym (laws.conjugate_plus (q.times (sub q z (constant r (a (suc j)))) f1) (q.minus (q.times (constant r (w (suc j))) f0)))

-- ---- norms and traces of whole pairs
below_or : (z : ℤ) → (z <ℤ pos 0) ⊎ (pos 0 ≤ℤ z)
below_or (pos n) = inr (omega (arith, ints))
below_or (negsuc n) = inl (omega (arith, ints))

norm_least : (s t : ℤ) → discriminant s t <ℤ pos 0 → (z : Pair ℤ) → pos 0 ≤ℤ norm whole_numbers s t z
norm_least s t h z =
    let e = ring4 integers
    (λ s t a b. (one ⊕ one ⊕ one ⊕ one) ⊗ ((a ⊗ a ⊕ s ⊗ (a ⊗ b)) ⊕ t ⊗ (b ⊗ b)))
    (λ s t a b. ((a ⊕ a) ⊕ s ⊗ b) ⊗ ((a ⊕ a) ⊕ s ⊗ b) ⊕ neg (s ⊗ s ⊕ neg ((one ⊕ one ⊕ one ⊕ one) ⊗ t)) ⊗ (b ⊗ b)) refl s t z.a z.b in
    quarter _ _ _ (square_least ((z.a +ℤ z.a) +ℤ s *ℤ z.b)) (times_least (neg_ℤ (discriminant s t)) (z.b *ℤ z.b) (above_minus _ h) (square_least z.b)) e
  where
    above_minus : (x : ℤ) → x <ℤ pos 0 → pos 0 ≤ℤ neg_ℤ x
    above_minus x h = omega (arith, ints)

    quarter : (n x y : ℤ) → pos 0 ≤ℤ x → pos 0 ≤ℤ y → pos 4 *ℤ n ≡ x +ℤ y → pos 0 ≤ℤ n
    quarter n x y h k e = omega (arith, ints)

trace_least : (s t : ℤ) → pos 0 ≤ℤ discriminant s t → (z : Pair ℤ) → pos 0 ≤ℤ trace whole_numbers s t ((pairs whole_numbers s t).times z z)
trace_least s t h z =
    let e = ring4 integers
    (λ s t a b. (one ⊕ one) ⊗ (((a ⊗ a ⊕ neg (t ⊗ (b ⊗ b))) ⊕ (a ⊗ a ⊕ neg (t ⊗ (b ⊗ b)))) ⊕ s ⊗ (a ⊗ b ⊕ b ⊗ a ⊕ s ⊗ (b ⊗ b))))
    (λ s t a b. ((a ⊕ a) ⊕ s ⊗ b) ⊗ ((a ⊕ a) ⊕ s ⊗ b) ⊕ (s ⊗ s ⊕ neg ((one ⊕ one ⊕ one ⊕ one) ⊗ t)) ⊗ (b ⊗ b)) refl s t z.a z.b in
    half _ _ _ (square_least ((z.a +ℤ z.a) +ℤ s *ℤ z.b)) (times_least (discriminant s t) (z.b *ℤ z.b) h (square_least z.b)) e
  where
    half : (n x y : ℤ) → pos 0 ≤ℤ x → pos 0 ≤ℤ y → pos 2 *ℤ n ≡ x +ℤ y → pos 0 ≤ℤ n
    half n x y h k e = omega (arith, ints)

-- ---- no double quadratic factor
module _ (a w : ℕ → ℤ) (s t : ℤ) where
  abbrev pub remainders : CommutativeRing
  remainders = pairs whole_numbers s t

  abbrev pub lifted : (ℕ → ℤ) → ℕ → Pair ℤ
  lifted v j = constant whole_numbers (v j)

  trace_above : pos 0 ≤ℤ discriminant s t → (z : Pair ℤ) (d : ℕ) → IsPositive d w
      → pos 0 <ℤ trace whole_numbers s t (weighted remainders (lifted a) (lifted w) z z d)
  trace_above k z zero h = subst (λ x. pos 0 <ℤ x) (ring2 integers (λ s t. one ⊕ one) (λ s t. (one ⊕ one) ⊕ s ⊗ none) refl s t) (omega (arith, ints))
  trace_above k z (suc d) h =
      let x = weighted remainders (lifted a) (lifted w) z z d in
      let f = at remainders (lifted a) (lifted w) z (suc d) in
      subst (λ x. pos 0 <ℤ x)
      (ring7 integers
      (λ s t w a b f g. w ⊗ ((a ⊕ a) ⊕ s ⊗ b) ⊕ (((f ⊗ f ⊕ neg (t ⊗ (g ⊗ g))) ⊕ (f ⊗ f ⊕ neg (t ⊗ (g ⊗ g)))) ⊕ s ⊗ (f ⊗ g ⊕ g ⊗ f ⊕ s ⊗ (g ⊗ g))))
      (λ s t w a b f g. (((w ⊗ a ⊕ neg (t ⊗ (none ⊗ b))) ⊕ (f ⊗ f ⊕ neg (t ⊗ (g ⊗ g)))) ⊕ ((w ⊗ a ⊕ neg (t ⊗ (none ⊗ b))) ⊕ (f ⊗ f ⊕ neg (t ⊗ (g ⊗ g))))) ⊕ s ⊗ ((w ⊗ b ⊕ none ⊗ a ⊕ s ⊗ (none ⊗ b)) ⊕ (f ⊗ g ⊕ g ⊗ f ⊕ s ⊗ (g ⊗ g))))
      refl s t (w (suc d)) x.a x.b f.a f.b)
      (above_plus _ _ (above_times (w (suc d)) (trace whole_numbers s t x) (h d (omega arith)) (trace_above k z d (λ j i. h j (omega arith)))) (trace_least s t k f))

  -- the weighted sum at z and its conjugate is a whole number above nil
  norms_above : discriminant s t <ℤ pos 0 → (z : Pair ℤ) (d : ℕ) → IsPositive d w
      → (v : ℤ) × (pos 0 <ℤ v) × (weighted remainders (lifted a) (lifted w) z (conjugate whole_numbers s t z) d ≡ constant whole_numbers v)
  norms_above k z zero h = (pos 1, omega (arith, ints), refl)
  norms_above k z (suc d) h =
      let p = norms_above k z d (λ j i. h j (omega arith)) in
      let f = at remainders (lifted a) (lifted w) z (suc d) in (
        w (suc d) *ℤ p.0 +ℤ norm whole_numbers s t f,
        above_plus _ _ (above_times (w (suc d)) p.0 (h d (omega arith)) p.1) (norm_least s t k f),
        ap₂ remainders.plus
            (ap (remainders.times (constant whole_numbers (w (suc d)))) p.2 ∙ sym ((constant_map whole_numbers s t).times (w (suc d)) p.0))
            (ap (remainders.times f) (at_conjugate whole_numbers s t a w z (suc d)) ∙ (pair_laws_hold whole_numbers s t).times_conjugate f)
            ∙ sym ((constant_map whole_numbers s t).plus (w (suc d) *ℤ p.0) (norm whole_numbers s t f)),
      )

  -- a factor x² - s x + t has no negative discriminant
  no_negative : (d : ℕ) → IsPositive d w → (f : List ℤ) → chain whole_numbers a w (suc d) ≡ times_quadratic whole_numbers s t f → discriminant s t <ℤ pos 0 → ⊥
  no_negative d h f e k =
      let m = constant_map whole_numbers s t in
      let z = alpha whole_numbers s t in
      let y = conjugate whole_numbers s t z in
      let root = λ (x : Pair ℤ) (q : quadratic_at whole_numbers remainders (constant whole_numbers) m x s t ≡ remainders.nil).
      sym (eval_chain whole_numbers remainders (constant whole_numbers) m x a w (suc d)) ∙ ap (eval whole_numbers remainders (constant whole_numbers) x) e
      ∙ eval_quadratic whole_numbers remainders (constant whole_numbers) m x s t f ∙ ap (λ u. remainders.times u (eval whole_numbers remainders (constant whole_numbers) x f)) q in
      let at_z = root z (alpha_root whole_numbers s t) in
      let at_y = root y (other_root whole_numbers s t) in
      let p = norms_above k z d h in
      let v = eval whole_numbers remainders (constant whole_numbers) z f in
      let u = eval whole_numbers remainders (constant whole_numbers) y f in
      let gone : remainders.times (sub remainders z y) (constant whole_numbers p.0) ≡ remainders.nil =
      ap (remainders.times (sub remainders z y)) (sym p.2)
      ∙ christoffel_darboux_holds remainders (lifted a) (lifted w) z y d
      ∙ ap₂ (λ (i j : Pair ℤ). sub remainders (remainders.times i (at remainders (lifted a) (lifted w) y d)) (remainders.times (at remainders (lifted a) (lifted w) z d) j)) at_z at_y
      ∙ ring4 remainders.laws (λ u v x y. none ⊗ v ⊗ y ⊕ neg (x ⊗ (none ⊗ u))) (λ u v x y. none) refl u v (at remainders (lifted a) (lifted w) z d) (at remainders (lifted a) (lifted w) y d) in
      let twice : (pos 2) *ℤ p.0 ≡ pos 0 =
      ring2 integers (λ v s. (one ⊕ one) ⊗ v) (λ v s. (none ⊕ neg (none ⊕ s ⊗ one)) ⊗ none ⊕ (one ⊕ neg (neg one)) ⊗ v ⊕ s ⊗ ((one ⊕ neg (neg one)) ⊗ none)) refl p.0 s
      ∙ ap (λ (x : Pair ℤ). x.b) gone in
      let some = p.1 in
      omega (arith, ints)

  no_double : (d : ℕ) → IsPositive d w → (f : List ℤ) → chain whole_numbers a w (suc d) ≡ times_quadratic whole_numbers s t (times_quadratic whole_numbers s t f) → pos 0 ≤ℤ discriminant s t → ⊥
  no_double d h f e k =
      let q = duals remainders in
      let c = λ (x : ℤ). constant remainders (constant whole_numbers x) in
      let m = map_of_map (constant_map whole_numbers s t) (constant_map remainders remainders.nil remainders.nil) in
      let z : Pair (Pair ℤ) = record { a = alpha whole_numbers s t; b = remainders.unit } in
      let y = eval whole_numbers q c z f in
      let x = quadratic_at whole_numbers q c m z s t in
      let values = sym (eval_chain whole_numbers q c m z a w (suc d)) ∙ ap (eval whole_numbers q c z) e
      ∙ eval_quadratic whole_numbers q c m z s t (times_quadratic whole_numbers s t f)
      ∙ ap (q.times x) (eval_quadratic whole_numbers q c m z s t f) in
      let first : x.a ≡ remainders.nil =
      ring3 remainders.laws (λ z s t. ((z ⊗ z ⊕ neg (none ⊗ (one ⊗ one))) ⊕ neg (s ⊗ z ⊕ neg (none ⊗ (none ⊗ one)))) ⊕ t) (λ z s t. (z ⊗ z ⊕ neg (s ⊗ z)) ⊕ t) refl (alpha whole_numbers s t) (constant whole_numbers s) (constant whole_numbers t)
      ∙ alpha_root whole_numbers s t in
      let is : x ≡ record { a = remainders.nil; b = x.b } = pair_path _ _ first refl in
      let none_left : weighted remainders (lifted a) (lifted w) (alpha whole_numbers s t) (alpha whole_numbers s t) d ≡ remainders.nil =
      double_root remainders (lifted a) (lifted w) d (alpha whole_numbers s t) x.b y (values ∙ ap (λ p. q.times p (q.times p y)) is) in
      let nothing : trace whole_numbers s t (weighted remainders (lifted a) (lifted w) (alpha whole_numbers s t) (alpha whole_numbers s t) d) ≡ pos 0 =
      ap (trace whole_numbers s t) none_left ∙ ring2 integers (λ s t. (none ⊕ none) ⊕ s ⊗ none) (λ s t. none) refl s t in
      let some = trace_above k (alpha whole_numbers s t) d h in
      omega (arith, ints)

no_double_quadratic : (a w : ℕ → ℤ) (d : ℕ) → IsPositive d w → (s t : ℤ) (f : List ℤ)
    → ¬ (chain whole_numbers a w (suc d) ≡ times_quadratic whole_numbers s t (times_quadratic whole_numbers s t f))
no_double_quadratic a w d h s t f e = go (below_or (discriminant s t))
  where
    go : (discriminant s t <ℤ pos 0) ⊎ (pos 0 ≤ℤ discriminant s t) → ⊥
    go (inl k) = no_negative a w s t d h (times_quadratic whole_numbers s t f) e k
    go (inr k) = no_double a w s t d h f e k

pub quadratics_of_chain_are_real : QuadraticsOfChainAreReal
quadratics_of_chain_are_real a w d h s t i p = go (discriminant s t) refl
  where
    above : (x y : ℤ) (n : ℕ) → x +ℤ neg_ℤ y ≡ pos (suc n) → y <ℤ x
    above x y n e = omega (arith, ints)

    go : (x : ℤ) → discriminant s t ≡ x → (pos 4 *ℤ t) <ℤ (s *ℤ s)
    go (pos zero) q = absurd (i (pos 0) (sym q))
    go (pos (suc n)) q = above (s *ℤ s) (pos 4 *ℤ t) n q
    go (negsuc n) q = absurd (no_negative a w s t d h p.0 (sym p.1) (subst (λ x. x <ℤ pos 0) (sym q) (omega (arith, ints))))

pub no_double_factor_of_chain : NoDoubleFactorOfChain
no_double_factor_of_chain a w d h (linear r) p = no_double_root a w d h r p.0 (sym p.1)
no_double_factor_of_chain a w d h (quadratic s t) p = no_double_quadratic a w d h s t p.0 (sym p.1)
