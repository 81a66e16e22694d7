-- Remainders modulo an irreducible quadratic have no divisors of nil, and irreducible factors are prime.
use Rattle.std.proofs.Common.{◌≡◌, zero, suc, ◌<◌, ◌≤◌, refl, ap, ap₂, sym, ◌∙◌, arith, ℤ, pos, negsuc, List, [], ◌∷◌, length, ◌⊎◌, inl, inr}
use Rattle.std.specs.Prelude.{◌+ℤ◌, ◌*ℤ◌, neg_ℤ, unsigned_abs}
use Rattle.std.proofs.lemmas.Int.{ints, unsigned_abs-mul}
use Rattle.drg_algebra.specs.Ring.{sub, none, one, ◌⊕◌, ◌⊗◌, neg, from_one, ring2, ring3, ring4}
use Rattle.drg_algebra.specs.Integer.{integers, above_times, whole_numbers}
use Rattle.drg_algebra.specs.Pairs.{Pair, pair_path, pairs, constant, norm}
use Rattle.drg_algebra.specs.Order.{IsWholeAbove}
use Rattle.drg_algebra.specs.OrderLaws.{OrderedRingLaws}
use Rattle.drg_algebra.specs.Root.{no_square_ratio}
use Rattle.drg_algebra.proofs.Maps.{constant_map, same_map}
use Rattle.drg_algebra.proofs.NumberOrder.{integers_ordered}
use Rattle.drg_algebra.proofs.Ordered.{ordered_ring_laws_hold}
use Rattle.drg_algebra.proofs.Pairs.{pair_laws_hold}
use Rattle.drg_eigen.specs.Polynomial.{eval}
use Rattle.drg_eigen.specs.Factor.{Factor, linear, quadratic, IsIrreducible, degree, times_factor, Divides, discriminant}
use Rattle.drg_eigen.specs.FactorLaws.{DividesOrNot, IrreduciblesArePrime}
use Rattle.drg_eigen.proofs.PolynomialValues.{eval_linear, eval_quadratic, quadratic_at}
use Rattle.drg_eigen.proofs.SimpleFactors.{square_least, alpha_root}
use Rattle.drg_eigen.proofs.Division.{divides_linear, divides_quadratic, linear_quotient, quadratic_quotient}

-- ---- whole numbers
whole_laws : OrderedRingLaws whole_numbers IsWholeAbove
whole_laws = ordered_ring_laws_hold whole_numbers IsWholeAbove integers_ordered

pub whole_domain : (x y : ℤ) → x *ℤ y ≡ pos 0 → (x ≡ pos 0) ⊎ (y ≡ pos 0)
whole_domain = whole_laws.domain

pub whole_test : (x : ℤ) → (x ≡ pos 0) ⊎ (¬ (x ≡ pos 0))
whole_test (pos zero) = inl refl
whole_test (pos (suc n)) = inr (λ e. omega (arith, ints))
whole_test (negsuc n) = inr (λ e. omega (arith, ints))

same_whole : (x y : ℤ) → x +ℤ neg_ℤ y ≡ pos 0 → x ≡ y
same_whole x y e = omega (arith, ints)

-- ---- remainders modulo an irreducible quadratic
abs_above : (b : ℤ) → ¬ (b ≡ pos 0) → 0 < unsigned_abs b
abs_above (pos zero) ne = absurd (ne refl)
abs_above (pos (suc n)) ne = omega (arith, ints)
abs_above (negsuc n) ne = omega (arith, ints)

no_ratio : (d x b : ℤ) → ((m : ℤ) → ¬ (m *ℤ m ≡ d)) → ¬ (b ≡ pos 0) → x *ℤ x ≡ d *ℤ (b *ℤ b) → ⊥
no_ratio (pos d) x b free ne e =
    no_square_ratio d (unsigned_abs x) (unsigned_abs b) (λ k q. free (pos k) (ap pos q)) (abs_above b ne) (simp unsigned_abs-mul at (ap unsigned_abs e))
no_ratio (negsuc d) x b free ne e =
    let k = above_times (pos (suc d)) (b *ℤ b) (omega (arith, ints)) (whole_laws.square b ne) in
    let q : negsuc d *ℤ (b *ℤ b) ≡ neg_ℤ (pos (suc d) *ℤ (b *ℤ b)) = ring2 integers (λ a b. neg a ⊗ b) (λ a b. neg (a ⊗ b)) refl (pos (suc d)) (b *ℤ b) in
    let s = square_least x in
    omega (arith, ints)

pub norm_apart : (s t : ℤ) → IsIrreducible (quadratic s t) → (z : Pair ℤ) → norm whole_numbers s t z ≡ pos 0 → z ≡ (pairs whole_numbers s t).nil
norm_apart s t i z e = go (whole_test z.b)
  where
    square : ((z.a +ℤ z.a) +ℤ s *ℤ z.b) *ℤ ((z.a +ℤ z.a) +ℤ s *ℤ z.b) ≡ discriminant s t *ℤ (z.b *ℤ z.b)
    square = from_one integers _ _ (pos 4) _ _ e
        (ring4 integers
        (λ s t a b. ((a ⊕ a) ⊕ s ⊗ b) ⊗ ((a ⊕ a) ⊕ s ⊗ b) ⊕ (one ⊕ one ⊕ one ⊕ one) ⊗ none)
        (λ s t a b. (s ⊗ s ⊕ neg ((one ⊕ one ⊕ one ⊕ one) ⊗ t)) ⊗ (b ⊗ b) ⊕ (one ⊕ one ⊕ one ⊕ one) ⊗ ((a ⊗ a ⊕ s ⊗ (a ⊗ b)) ⊕ t ⊗ (b ⊗ b))) refl s t z.a z.b)

    either : (x : ℤ) → (x ≡ pos 0) ⊎ (x ≡ pos 0) → x ≡ pos 0
    either x (inl e) = e
    either x (inr e) = e

    half : (a x : ℤ) → (a +ℤ a) +ℤ x ≡ pos 0 → x ≡ pos 0 → a ≡ pos 0
    half a x e k = omega (arith, ints)

    go : (z.b ≡ pos 0) ⊎ (¬ (z.b ≡ pos 0)) → z ≡ (pairs whole_numbers s t).nil
    go (inr ne) = absurd (no_ratio (discriminant s t) _ z.b i ne square)
    go (inl q) =
        let flat = square ∙ ap (λ b. discriminant s t *ℤ (b *ℤ b)) q ∙ ring2 integers (λ d x. d ⊗ (none ⊗ none)) (λ d x. none) refl (discriminant s t) s in
        pair_path _ _ (half z.a (s *ℤ z.b) (either _ (whole_domain _ _ flat)) (ap (λ b. s *ℤ b) q ∙ ring2 integers (λ s x. s ⊗ none) (λ s x. none) refl s s)) q

pub pair_domain : (s t : ℤ) → IsIrreducible (quadratic s t) → (x y : Pair ℤ) → (pairs whole_numbers s t).times x y ≡ (pairs whole_numbers s t).nil
    → (x ≡ (pairs whole_numbers s t).nil) ⊎ (y ≡ (pairs whole_numbers s t).nil)
pair_domain s t i x y e = go (whole_domain (norm whole_numbers s t x) (norm whole_numbers s t y) (sym ((pair_laws_hold whole_numbers s t).norm_times x y) ∙ ap (norm whole_numbers s t) e ∙ ring2 integers (λ s t. (none ⊗ none ⊕ s ⊗ (none ⊗ none)) ⊕ t ⊗ (none ⊗ none)) (λ s t. none) refl s t))
  where
    go : (norm whole_numbers s t x ≡ pos 0) ⊎ (norm whole_numbers s t y ≡ pos 0) → (x ≡ (pairs whole_numbers s t).nil) ⊎ (y ≡ (pairs whole_numbers s t).nil)
    go (inl q) = inl (norm_apart s t i x q)
    go (inr q) = inr (norm_apart s t i y q)

-- ---- a factor divides where its root is a root
abbrev at_whole : ℤ → List ℤ → ℤ
at_whole r f = eval whole_numbers whole_numbers (λ z. z) r f

abbrev at_root : (s t : ℤ) → List ℤ → Pair ℤ
at_root s t f = eval whole_numbers (pairs whole_numbers s t) (constant whole_numbers) (record { a = pos 0; b = pos 1 }) f

abbrev IsRoot : Factor → List ℤ → Type 0
IsRoot (linear r) f = at_whole r f ≡ pos 0
IsRoot (quadratic s t) f = at_root s t f ≡ (pairs whole_numbers s t).nil

root_divides : (c : Factor) (f : List ℤ) → degree c ≤ length f → IsRoot c f → Divides c f
root_divides (linear r) [] h e = absurd (omega arith)
root_divides (linear r) (x ∷ f) h e = (linear_quotient whole_numbers r (x ∷ f), divides_linear whole_numbers r x f e)
root_divides (quadratic s t) [] h e = absurd (omega arith)
root_divides (quadratic s t) (x ∷ []) h e = absurd (omega arith)
root_divides (quadratic s t) (x ∷ y ∷ f) h e = (quadratic_quotient whole_numbers s t (x ∷ y ∷ f), divides_quadratic whole_numbers s t x y f e)

divides_root : (c : Factor) (f : List ℤ) → Divides c f → IsRoot c f
divides_root (linear r) f d =
    ap (at_whole r) (sym d.1) ∙ eval_linear whole_numbers whole_numbers (λ z. z) (same_map whole_numbers) r r d.0
    ∙ ring2 integers (λ r y. (r ⊕ neg r) ⊗ y) (λ r y. none) refl r (at_whole r d.0)
divides_root (quadratic s t) f d =
    let p = pairs whole_numbers s t in
    ap (at_root s t) (sym d.1) ∙ eval_quadratic whole_numbers p (constant whole_numbers) (constant_map whole_numbers s t) (record { a = pos 0; b = pos 1 }) s t d.0
    ∙ ap (λ u. p.times u (at_root s t d.0)) (alpha_root whole_numbers s t)
    ∙ ring2 p.laws (λ x y. none ⊗ x) (λ x y. none) refl (at_root s t d.0) p.nil

root_test : (c : Factor) (f : List ℤ) → IsRoot c f ⊎ (¬ (IsRoot c f))
root_test (linear r) f = whole_test (at_whole r f)
root_test (quadratic s t) f = go (whole_test (at_root s t f).a) (whole_test (at_root s t f).b)
  where
    go : ((at_root s t f).a ≡ pos 0) ⊎ (¬ ((at_root s t f).a ≡ pos 0)) → ((at_root s t f).b ≡ pos 0) ⊎ (¬ ((at_root s t f).b ≡ pos 0)) → (at_root s t f ≡ (pairs whole_numbers s t).nil) ⊎ (¬ (at_root s t f ≡ (pairs whole_numbers s t).nil))
    go (inl p) (inl q) = inl (pair_path _ _ p q)
    go (inl p) (inr q) = inr (λ e. q (ap (λ (x : Pair ℤ). x.b) e))
    go (inr p) q = inr (λ e. p (ap (λ (x : Pair ℤ). x.a) e))

pub divides_or_not : DividesOrNot
divides_or_not c f h = go (root_test c f)
  where
    go : IsRoot c f ⊎ (¬ (IsRoot c f)) → Divides c f ⊎ (¬ (Divides c f))
    go (inl e) = inl (root_divides c f h e)
    go (inr n) = inr (λ d. n (divides_root c f d))

-- ---- irreducible factors are prime
split_root : (c e : Factor) (f : List ℤ) → IsIrreducible c → IsIrreducible e → IsRoot c (times_factor e f) → (c ≡ e) ⊎ IsRoot c f
split_root (linear r) (linear u) f i j q = go (whole_domain _ _ (sym (eval_linear whole_numbers whole_numbers (λ z. z) (same_map whole_numbers) r u f) ∙ q))
  where
    go : (r +ℤ neg_ℤ u ≡ pos 0) ⊎ (at_whole r f ≡ pos 0) → (linear r ≡ linear u) ⊎ (at_whole r f ≡ pos 0)
    go (inl k) = inl (ap linear (same_whole r u k))
    go (inr k) = inr k
split_root (linear r) (quadratic s t) f i j q = go (whole_domain _ _ (sym (eval_quadratic whole_numbers whole_numbers (λ z. z) (same_map whole_numbers) r s t f) ∙ q))
  where
    go : ((r *ℤ r +ℤ neg_ℤ (s *ℤ r)) +ℤ t ≡ pos 0) ⊎ (at_whole r f ≡ pos 0) → (linear r ≡ quadratic s t) ⊎ (at_whole r f ≡ pos 0)
    go (inl k) = absurd (j ((r +ℤ r) +ℤ neg_ℤ s)
        (from_one integers _ _ (pos 4) _ _ k
        (ring3 integers (λ r s t. ((r ⊕ r) ⊕ neg s) ⊗ ((r ⊕ r) ⊕ neg s) ⊕ (one ⊕ one ⊕ one ⊕ one) ⊗ none) (λ r s t. (s ⊗ s ⊕ neg ((one ⊕ one ⊕ one ⊕ one) ⊗ t)) ⊕ (one ⊕ one ⊕ one ⊕ one) ⊗ ((r ⊗ r ⊕ neg (s ⊗ r)) ⊕ t)) refl r s t)))
    go (inr k) = inr k
split_root (quadratic s t) (linear u) f i j q = go (pair_domain s t i _ _ (sym (eval_linear whole_numbers (pairs whole_numbers s t) (constant whole_numbers) (constant_map whole_numbers s t) (record { a = pos 0; b = pos 1 }) u f) ∙ q))
  where
    go : (sub (pairs whole_numbers s t) (record { a = pos 0; b = pos 1 }) (constant whole_numbers u) ≡ (pairs whole_numbers s t).nil) ⊎ (at_root s t f ≡ (pairs whole_numbers s t).nil) → (quadratic s t ≡ linear u) ⊎ (at_root s t f ≡ (pairs whole_numbers s t).nil)
    go (inl k) = absurd (let b : pos 1 +ℤ neg_ℤ (pos 0) ≡ pos 0 = ap (λ (x : Pair ℤ). x.b) k in let n : ⊥ = omega (arith, ints) in n)
    go (inr k) = inr k
split_root (quadratic s t) (quadratic u v) f i j q = go (pair_domain s t i _ _ (sym (eval_quadratic whole_numbers (pairs whole_numbers s t) (constant whole_numbers) (constant_map whole_numbers s t) (record { a = pos 0; b = pos 1 }) u v f) ∙ q))
  where
    go : (quadratic_at whole_numbers (pairs whole_numbers s t) (constant whole_numbers) (constant_map whole_numbers s t) (record { a = pos 0; b = pos 1 }) u v ≡ (pairs whole_numbers s t).nil) ⊎ (at_root s t f ≡ (pairs whole_numbers s t).nil) → (quadratic s t ≡ quadratic u v) ⊎ (at_root s t f ≡ (pairs whole_numbers s t).nil)
    go (inl k) = inl (ap₂ quadratic
        (same_whole s u (ring4 integers (λ s t u v. s ⊕ neg u) (λ s t u v. ((none ⊗ one ⊕ one ⊗ none ⊕ s ⊗ (one ⊗ one)) ⊕ neg (u ⊗ one ⊕ none ⊗ none ⊕ s ⊗ (none ⊗ one))) ⊕ none) refl s t u v ∙ ap (λ (x : Pair ℤ). x.b) k))
        (sym (same_whole v t (ring4 integers (λ s t u v. v ⊕ neg t) (λ s t u v. ((none ⊗ none ⊕ neg (t ⊗ (one ⊗ one))) ⊕ neg (u ⊗ none ⊕ neg (t ⊗ (none ⊗ one)))) ⊕ v) refl s t u v ∙ ap (λ (x : Pair ℤ). x.a) k))))
    go (inr k) = inr k

pub irreducibles_are_prime : IrreduciblesArePrime
irreducibles_are_prime c e f i j h d = go (split_root c e f i j (divides_root c (times_factor e f) d))
  where
    go : (c ≡ e) ⊎ IsRoot c f → (c ≡ e) ⊎ Divides c f
    go (inl q) = inl q
    go (inr q) = inr (root_divides c f h q)
