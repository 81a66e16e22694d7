-- A product of different irreducible factors with real roots is simple.
use Rattle.std.proofs.Common.{◌≡◌, ℕ, zero, suc, ◌+◌, ◌*◌, ◌<◌, ◌≤◌, refl, ap, ap₂, sym, ◌∙◌, subst, arith, ℤ, pos, negsuc, List, [], ◌∷◌, ◌⊎◌, inl, inr}
use Rattle.std.specs.Prelude.{◌+ℤ◌, ◌*ℤ◌, neg_ℤ, unsigned_abs}
use Rattle.std.specs.List.{AllByRecursion}
use Rattle.std.proofs.lemmas.Bool.{cases_lt}
use Rattle.std.proofs.lemmas.Int.{ints}
use Rattle.std.proofs.lemmas.Nat.{mul-le}
use Rattle.drg_algebra.specs.Integer.{integers}
use Rattle.drg_algebra.specs.Ring.{none, one, ◌⊕◌, ◌⊗◌, neg, ring2, ring3, ring4, ring5}
use Rattle.drg_eigen.specs.Factor.{Factor, linear, quadratic, discriminant, times_factor, product, DividesTwice, IsAmong, IsIrreducible, AreIrreducible}
use Rattle.drg_eigen.specs.Order.{ComesBefore, AreInOrder}
use Rattle.drg_eigen.specs.SplitLaws.{HasRealRoots, ProductsAreSimple}
use Rattle.drg_eigen.proofs.Cancelling.{factor_cancels}
use Rattle.drg_eigen.proofs.Discriminants.{square_is}
use Rattle.drg_eigen.proofs.FactorOrder.{irreflexive}
use Rattle.drg_eigen.proofs.FactorProducts.{factors_commute}
use Rattle.drg_eigen.proofs.FullProducts.{factors_of_full_product}
use Rattle.drg_eigen.proofs.OneSearch.{among_all, head_before, rest_in_order}
use Rattle.drg_eigen.proofs.Quotients.{carried_linear, quadratic_is, carried_quadratic}

-- ---- a factor taken out of a product
record IsTakenOut (c : Factor) (es : List Factor) : Type 0 where
  pub rest : List Factor
  pub is : (g : List ℤ) → product es g ≡ times_factor c (product rest g)
  pub inside : (e : Factor) → IsAmong e rest → IsAmong e es
  pub none_left : ¬ IsAmong c rest

one_more : (c e : Factor) (es : List Factor) → ¬ ComesBefore c c → (c ≡ e → ComesBefore c c) → IsTakenOut c es → IsTakenOut c (e ∷ es)
one_more c e es never before later = record {
  rest = e ∷ later.rest;
  is = λ g. ap (times_factor e) (later.is g) ∙ factors_commute e c (product later.rest g);
  inside = within;
  none_left = apart;
}
  where
    within : (d : Factor) → (d ≡ e) ⊎ IsAmong d later.rest → (d ≡ e) ⊎ IsAmong d es
    within d (inl h) = inl h
    within d (inr h) = inr (later.inside d h)

    apart : (c ≡ e) ⊎ IsAmong c later.rest → ⊥
    apart (inl h) = never (before h)
    apart (inr h) = later.none_left h

taken_out : (c : Factor) (es : List Factor) → AreInOrder es → IsAmong c es → IsTakenOut c es
taken_out c [] order a = absurd a
taken_out c (e ∷ es) order (inl same) = record {
  rest = es;
  is = λ g. ap (λ (x : Factor). times_factor x (product es g)) (sym same);
  inside = λ d a. inr a;
  none_left = λ a. irreflexive c (subst (λ (x : Factor). ComesBefore x c) (sym same) (head_before e es order c a));
}
taken_out c (e ∷ es) order (inr a) = one_more c e es (irreflexive c) (λ same. subst (λ (x : Factor). ComesBefore x c) (sym same) (head_before e es order c a))
    (taken_out c es (rest_in_order e es order) a)

-- ---- an irreducible factor doesn't divide twice
one_irreducible : (es : List Factor) → AreIrreducible es → (c : Factor) → IsAmong c es → IsIrreducible c
one_irreducible [] h c a = absurd a
one_irreducible (e ∷ es) h c (inl same) = subst IsIrreducible (sym same) h.0
one_irreducible (e ∷ es) h c (inr a) = one_irreducible es h.1 c a

each_irreducible : (es : List Factor) → ((c : Factor) → IsAmong c es → IsIrreducible c) → AreIrreducible es
each_irreducible [] f = tt
each_irreducible (e ∷ es) f = (f e (inl refl), each_irreducible es (λ c a. f c (inr a)))

module _ (es : List Factor) (all : AreIrreducible es) (order : AreInOrder es) where
  irreducible_once : (c : Factor) → IsIrreducible c → ¬ DividesTwice c (product es (pos 1 ∷ []))
  irreducible_once c free d =
      let out = taken_out c es order (factors_of_full_product c es free all (times_factor c d.0, d.1)) in
      let left = factor_cancels c (times_factor c d.0) (product out.rest (pos 1 ∷ [])) (d.1 ∙ out.is (pos 1 ∷ [])) in
      let others = each_irreducible out.rest (λ e a. one_irreducible es all e (out.inside e a)) in
      out.none_left (factors_of_full_product c out.rest free others (d.0, left))

-- ---- a reducible factor has two whole roots
-- the greatest number whose square is at most n
record IsRootOf (n m : ℕ) : Type 0 where
  pub low : m * m ≤ n
  pub high : n < (m + 1) * (m + 1)

whole_root : (n : ℕ) → (m : ℕ) × IsRootOf n m
whole_root zero = (0, record { low = omega arith; high = omega arith })
whole_root (suc n) = more (whole_root n)
  where
    more : ((m : ℕ) × IsRootOf n m) → (m : ℕ) × IsRootOf (suc n) m
    more h = go (cases_lt (suc n) ((h.0 + 1) * (h.0 + 1)))
      where
        go : (suc n < (h.0 + 1) * (h.0 + 1)) ⊎ ((h.0 + 1) * (h.0 + 1) ≤ suc n) → (m : ℕ) × IsRootOf (suc n) m
        go (inl less) = (h.0, record { low = omega (arith, h.1.low); high = less })
        go (inr far) = (h.0 + 1, record { low = far; high = (let k = h.1.high in omega (arith, k, far)) })

-- a number is a square or no square
number_square : (n : ℕ) → ((m : ℕ) × (m * m ≡ n)) ⊎ ((m : ℕ) → ¬ (m * m ≡ n))
number_square n = go (whole_root n)
  where
    go : ((m : ℕ) × IsRootOf n m) → ((m : ℕ) × (m * m ≡ n)) ⊎ ((m : ℕ) → ¬ (m * m ≡ n))
    go h = either (cases_lt (h.0 * h.0) n)
      where
        between : (h.0 * h.0) < n → (m : ℕ) → m * m ≡ n → ⊥
        between less m e = side (cases_lt h.0 m)
          where
            side : (h.0 < m) ⊎ (m ≤ h.0) → ⊥
            side (inl more) = (let b = h.1.high in absurd (omega (arith, mul-le (h.0 + 1) (h.0 + 1) m m (omega (arith, more)) (omega (arith, more)), b, e)))
            side (inr few) = absurd (omega (arith, mul-le m m h.0 h.0 few few, less, e))

        either : (h.0 * h.0 < n) ⊎ (n ≤ h.0 * h.0) → ((m : ℕ) × (m * m ≡ n)) ⊎ ((m : ℕ) → ¬ (m * m ≡ n))
        either (inl less) = inr (between less)
        either (inr same) = inl (h.0, (let b = h.1.low in omega (arith, b, same)))

square_or_not : (d : ℤ) → ((m : ℤ) × (m *ℤ m ≡ d)) ⊎ ((m : ℤ) → ¬ (m *ℤ m ≡ d))
square_or_not (pos n) = go (number_square n)
  where
    inside : (m n : ℕ) → pos m ≡ pos n → m ≡ n
    inside m n e = omega (arith, ints, e)

    go : ((m : ℕ) × (m * m ≡ n)) ⊎ ((m : ℕ) → ¬ (m * m ≡ n)) → ((m : ℤ) × (m *ℤ m ≡ pos n)) ⊎ ((m : ℤ) → ¬ (m *ℤ m ≡ pos n))
    go (inl h) = inl (pos h.0, ap pos h.1)
    go (inr h) = inr (λ m e. h (unsigned_abs m) (inside (unsigned_abs m * unsigned_abs m) n (sym (square_is m) ∙ e)))
square_or_not (negsuc n) = inr (λ m e. none m (sym (square_is m) ∙ e))
  where
    none : (m : ℤ) → pos (unsigned_abs m * unsigned_abs m) ≡ negsuc n → ⊥
    none m e = absurd (omega (arith, ints, e))

record HasRoots (s t : ℤ) : Type 0 where
  pub first : ℤ
  pub second : ℤ
  pub sum : first +ℤ second ≡ s
  pub number : first *ℤ second ≡ t

-- a number is twice another one, or one more
abbrev IsHalf : ℤ → ℤ → Type 0
IsHalf z a = (z ≡ a +ℤ a) ⊎ (z ≡ (a +ℤ a) +ℤ pos 1)

up : (z y : ℤ) → y ≡ z +ℤ pos 1 → (a : ℤ) × IsHalf z a → (a : ℤ) × IsHalf y a
up z y e (a, inl h) = (a, inr (e ∙ ap (λ (x : ℤ). x +ℤ pos 1) h))
up z y e (a, inr h) = (a +ℤ pos 1, inl (e ∙ ap (λ (x : ℤ). x +ℤ pos 1) h ∙ regrouped a))
  where
    regrouped : (a : ℤ) → ((a +ℤ a) +ℤ pos 1) +ℤ pos 1 ≡ (a +ℤ pos 1) +ℤ (a +ℤ pos 1)
    regrouped a = omega (arith, ints)

down : (z y : ℤ) → z ≡ y +ℤ pos 1 → (a : ℤ) × IsHalf z a → (a : ℤ) × IsHalf y a
down z y e (a, inl h) = (a +ℤ negsuc 0, inr (less z y a e h))
  where
    less : (z y a : ℤ) → z ≡ y +ℤ pos 1 → z ≡ a +ℤ a → y ≡ ((a +ℤ negsuc 0) +ℤ (a +ℤ negsuc 0)) +ℤ pos 1
    less z y a e h = omega (arith, ints, e, h)
down z y e (a, inr h) = (a, inl (less z y a e h))
  where
    less : (z y a : ℤ) → z ≡ y +ℤ pos 1 → z ≡ (a +ℤ a) +ℤ pos 1 → y ≡ a +ℤ a
    less z y a e h = omega (arith, ints, e, h)

half_of : (z : ℤ) → (a : ℤ) × IsHalf z a
half_of (pos zero) = (pos 0, inl refl)
half_of (pos (suc n)) = up (pos n) (pos (suc n)) (omega (arith, ints)) (half_of (pos n))
half_of (negsuc zero) = (negsuc 0, inr refl)
half_of (negsuc (suc n)) = down (negsuc n) (negsuc (suc n)) (omega (arith, ints)) (half_of (negsuc n))

two_roots : (s t m : ℤ) → m *ℤ m ≡ discriminant s t → HasRoots s t
two_roots s t m square = go (half_of (s +ℤ m))
  where
    at : (z : ℤ) → s ≡ z → m *ℤ m ≡ z *ℤ z +ℤ neg_ℤ (pos 4 *ℤ t)
    at z e = square ∙ ap (λ (x : ℤ). x *ℤ x +ℤ neg_ℤ (pos 4 *ℤ t)) e

    move : (a x : ℤ) → s +ℤ m ≡ x → s ≡ x +ℤ neg_ℤ m
    move a x e = omega (arith, ints, e)

    back : (a : ℤ) → s ≡ (a +ℤ a) +ℤ neg_ℤ m → a +ℤ (a +ℤ neg_ℤ m) ≡ s
    back a e = omega (arith, ints, e)

    even : (a : ℤ) → ((a +ℤ a) +ℤ neg_ℤ m) *ℤ ((a +ℤ a) +ℤ neg_ℤ m) ≡ pos 4 *ℤ (a *ℤ (a +ℤ neg_ℤ m)) +ℤ m *ℤ m
    even a = ring3 integers (λ a m x. ((a ⊕ a) ⊕ neg m) ⊗ ((a ⊕ a) ⊕ neg m)) (λ a m x. (one ⊕ one ⊕ one ⊕ one) ⊗ (a ⊗ (a ⊕ neg m)) ⊕ m ⊗ m) refl a m m

    odd : (a : ℤ) → (((a +ℤ a) +ℤ pos 1) +ℤ neg_ℤ m) *ℤ (((a +ℤ a) +ℤ pos 1) +ℤ neg_ℤ m)
        ≡ ((pos 4 *ℤ ((a *ℤ a +ℤ a) +ℤ neg_ℤ (a *ℤ m)) +ℤ pos 1) +ℤ neg_ℤ (m +ℤ m)) +ℤ m *ℤ m
    odd a = ring3 integers (λ a m x. (((a ⊕ a) ⊕ one) ⊕ neg m) ⊗ (((a ⊕ a) ⊕ one) ⊕ neg m))
        (λ a m x. (((one ⊕ one ⊕ one ⊕ one) ⊗ ((a ⊗ a ⊕ a) ⊕ neg (a ⊗ m)) ⊕ one) ⊕ neg (m ⊕ m)) ⊕ m ⊗ m) refl a m m

    quarter : (x y t : ℤ) → y ≡ (pos 4 *ℤ x +ℤ y) +ℤ neg_ℤ (pos 4 *ℤ t) → x ≡ t
    quarter x y t e = omega (arith, ints, e)

    no_quarter : (x y m t : ℤ) → y ≡ (((pos 4 *ℤ x +ℤ pos 1) +ℤ neg_ℤ (m +ℤ m)) +ℤ y) +ℤ neg_ℤ (pos 4 *ℤ t) → ⊥
    no_quarter x y m t e = absurd (omega (arith, ints, e))

    go : ((a : ℤ) × IsHalf (s +ℤ m) a) → HasRoots s t
    go (a, inl h) =
        let e = move a (a +ℤ a) h in
        record {
          first = a;
          second = a +ℤ neg_ℤ m;
          sum = back a e;
          number = quarter (a *ℤ (a +ℤ neg_ℤ m)) (m *ℤ m) t (at ((a +ℤ a) +ℤ neg_ℤ m) e ∙ ap (λ (x : ℤ). x +ℤ neg_ℤ (pos 4 *ℤ t)) (even a));
        }
    go (a, inr h) =
        let e = move a ((a +ℤ a) +ℤ pos 1) h in
        absurd (no_quarter ((a *ℤ a +ℤ a) +ℤ neg_ℤ (a *ℤ m)) (m *ℤ m) m t (at (((a +ℤ a) +ℤ pos 1) +ℤ neg_ℤ m) e ∙ ap (λ (x : ℤ). x +ℤ neg_ℤ (pos 4 *ℤ t)) (odd a)))

-- ---- x² - s x + t is (x - a) (x - b)
module _ (s t a b : ℤ) (sum : a +ℤ b ≡ s) (number : a *ℤ b ≡ t) where
  carried : (p q : ℤ) (us : List ℤ) → carried_linear a (p +ℤ neg_ℤ b *ℤ q) (carried_linear b q us) ≡ carried_quadratic s t p q us
  carried p q [] = ap₂ (λ (x y : ℤ). x ∷ y ∷ [])
      (ring4 integers (λ a b p q. (p ⊕ neg b ⊗ q) ⊕ neg a ⊗ q) (λ a b p q. p ⊕ neg (a ⊕ b) ⊗ q) refl a b p q ∙ ap (λ (z : ℤ). p +ℤ neg_ℤ z *ℤ q) sum) refl
  carried p q (u ∷ us) = ap₂ (λ (x : ℤ) (l : List ℤ). x ∷ l)
      (ring5 integers (λ a b p q u. (p ⊕ neg b ⊗ q) ⊕ neg a ⊗ (q ⊕ neg b ⊗ u)) (λ a b p q u. p ⊕ (neg (a ⊕ b) ⊗ q ⊕ (a ⊗ b) ⊗ u)) refl a b p q u
      ∙ ap₂ (λ (y z : ℤ). p +ℤ (neg_ℤ y *ℤ q +ℤ z *ℤ u)) sum number)
      (carried q u us)

  two_linear : (us : List ℤ) → times_factor (linear a) (times_factor (linear b) us) ≡ times_factor (quadratic s t) us
  two_linear us =
      ap (λ (z : ℤ). carried_linear a z (carried_linear b (pos 0) us)) (ring2 integers (λ b x. none) (λ b x. none ⊕ neg b ⊗ none) refl b b)
      ∙ carried (pos 0) (pos 0) us ∙ quadratic_is s t us

pub products_are_simple : ProductsAreSimple
products_are_simple es all real order = record { once = λ c d. once c d; real = λ s t free d. real_one es real (quadratic s t) (factors_of_full_product (quadratic s t) es free all d) }
  where
    real_one : (es : List Factor) → AllByRecursion HasRealRoots es → (c : Factor) → IsAmong c es → HasRealRoots c
    real_one es h c a = among_all HasRealRoots es h c a

    once : (c : Factor) → ¬ DividesTwice c (product es (pos 1 ∷ []))
    once (linear r) d = irreducible_once es all order (linear r) tt d
    once (quadratic s t) d = go (square_or_not (discriminant s t))
      where
        go : ((m : ℤ) × (m *ℤ m ≡ discriminant s t)) ⊎ ((m : ℤ) → ¬ (m *ℤ m ≡ discriminant s t)) → ⊥
        go (inr free) = irreducible_once es all order (quadratic s t) free d
        go (inl h) = by_roots (two_roots s t h.0 h.1)
          where
            by_roots : HasRoots s t → ⊥
            by_roots r =
                let a = linear r.first in
                let b = linear r.second in
                let q = d.0 in
                let split = two_linear s t r.first r.second r.sum r.number in
                irreducible_once es all order a tt (
                  times_factor b (times_factor b q),
                  ap (times_factor a) (sym (factors_commute b a (times_factor b q))) ∙ split (times_factor a (times_factor b q)) ∙ ap (times_factor (quadratic s t)) (split q) ∙ d.1,
                )
