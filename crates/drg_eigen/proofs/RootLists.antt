-- The roots of a list of factors: each is listed once, and no other eigenvalue is a root of a factor in the list.
use Rattle.std.proofs.Common.{◌≡◌, ℕ, suc, refl, ap, ap₂, sym, ◌∙◌, subst, append_assoc, arith, ℤ, pos, List, [], ◌∷◌, ◌++◌, length, Contains, false, ◌⊎◌, inl, inr}
use Rattle.std.specs.Prelude.{◌+ℤ◌, ◌*ℤ◌, neg_ℤ}
use Rattle.std.specs.List.{AllByRecursion, IsDistinct}
use Rattle.std.specs.Ordering.{eq_by_cmp, is_eq, MatchOrdering}
use Rattle.std.specs.declared.cmp.Ordering.{Ordering}
use Rattle.std.specs.declared.cmp.Ordering.TheVariants.{Less, Equal, Greater}
use Rattle.std.proofs.lemmas.Int.{ints}
use Rattle.drg_algebra.specs.Ring.{none, ◌⊕◌, ◌⊗◌, neg, ring2, ring3}
use Rattle.drg_algebra.specs.Integer.{integers}
use Rattle.drg_algebra.specs.Rational.{whole}
use Rattle.drg_algebra.specs.Pairs.{pair_path}
use Rattle.drg_quadratic.specs.Eigenvalue.{eigenvalue_cmp, IsBelow}
use Rattle.drg_quadratic.specs.EigenvalueLaws.{one_eigenvalue}
use Rattle.drg_quadratic.proofs.EigenvalueValues.{order_of_eigenvalues}
use Rattle.drg_quadratic.specs.declared.eigenvalue.Eigenvalue.{Eigenvalue}
use Rattle.drg_eigen.specs.Factor.{Factor, linear, quadratic, discriminant, product, IsIrreducible, IsAmong}
use Rattle.drg_eigen.specs.Order.{ComesBefore, AreInOrder}
use Rattle.drg_eigen.specs.Found.{IsReal}
use Rattle.drg_eigen.specs.Roots.{IsWholeRoot, IsHalfRoot, AreRootsOf, HasMore}
use Rattle.drg_eigen.proofs.FactorOrder.{irreflexive}
use Rattle.drg_eigen.proofs.FactorProducts.{degrees_add}
use Rattle.drg_eigen.proofs.Irreducible.{whole_domain}
use Rattle.drg_eigen.proofs.Members.{in_none, in_cons, in_head, in_tail}
use Rattle.drg_eigen.proofs.OneSearch.{head_before, rest_in_order}

-- x is the root of x - r, or one of x² - s x + t
abbrev pub IsRootIn : Eigenvalue → Factor → Type 0
IsRootIn x (linear r) = (x.s ≡ r +ℤ r) × (x.f ≡ pos 0)
IsRootIn x (quadratic s t) = (x.s ≡ s) × ((x.f *ℤ x.f) *ℤ pos x.root ≡ discriminant s t)

abbrev pub IsRootInOne : Eigenvalue → List Factor → Type 0
IsRootInOne x [] = ⊥
IsRootInOne x (c ∷ cs) = IsRootIn x c ⊎ IsRootInOne x cs

pub same_eigenvalue : (x y : Eigenvalue) → x.root ≡ y.root → x.s ≡ y.s → x.f ≡ y.f → x ≡ y
same_eigenvalue x y r p q = one_eigenvalue x y r (pair_path _ _ (ap whole p) (ap whole q))

-- ---- factors that share a root
twice_same : (r v : ℤ) → r +ℤ r ≡ v +ℤ v → r ≡ v
twice_same r v e = omega (arith, ints, e)

no_flat_root : (s t : ℤ) (x : Eigenvalue) → IsIrreducible (quadratic s t) → (x.f *ℤ x.f) *ℤ pos x.root ≡ discriminant s t → ¬ (x.f ≡ pos 0)
no_flat_root s t x free e h = free (pos 0)
    (ring2 integers (λ f k. none ⊗ none) (λ f k. (none ⊗ none) ⊗ k) refl x.f (pos x.root) ∙ ap (λ (z : ℤ). (z *ℤ z) *ℤ pos x.root) (sym h) ∙ e)

last_same : (s u t v d : ℤ) → s ≡ u → d ≡ discriminant s t → d ≡ discriminant u v → t ≡ v
last_same s u t v d e p q = go (s *ℤ s) (u *ℤ u) (ap (λ (z : ℤ). z *ℤ z) e) p q
  where
    go : (m n : ℤ) → m ≡ n → d ≡ m +ℤ neg_ℤ (pos 4 *ℤ t) → d ≡ n +ℤ neg_ℤ (pos 4 *ℤ v) → t ≡ v
    go m n e p q = omega (arith, ints, e, p, q)

pub one_factor : (x : Eigenvalue) (c e : Factor) → IsIrreducible c → IsIrreducible e → IsRootIn x c → IsRootIn x e → c ≡ e
one_factor x (linear r) (linear v) i j h k = ap linear (twice_same r v (sym h.0 ∙ k.0))
one_factor x (linear r) (quadratic s t) i j h k = absurd (no_flat_root s t x j k.1 h.1)
one_factor x (quadratic s t) (linear r) i j h k = absurd (no_flat_root s t x i h.1 k.1)
one_factor x (quadratic s t) (quadratic u v) i j h k = ap₂ quadratic (sym h.0 ∙ k.0) (last_same s u t v _ (sym h.0 ∙ k.0) h.1 k.1)

-- ---- one root
twice_is : (r : ℤ) → pos 2 *ℤ r ≡ r +ℤ r
twice_is r = omega (arith, ints)

whole_root : (root : ℕ) (r : ℤ) (x : Eigenvalue) → IsWholeRoot root r x → IsRootIn x (linear r)
whole_root root r x h = (h.first ∙ twice_is r, h.second)

half_root : (root : ℕ) (s t : ℤ) (x : Eigenvalue) → IsHalfRoot root s t x → IsRootIn x (quadratic s t)
half_root root s t x h = (h.first, ap (λ (n : ℕ). (x.f *ℤ x.f) *ℤ pos n) h.over ∙ h.second)

-- two numbers with one square are the same or negatives
same_square : (f g : ℤ) → f *ℤ f ≡ g *ℤ g → (f ≡ g) ⊎ (f ≡ neg_ℤ g)
same_square f g e = go (whole_domain (f +ℤ neg_ℤ g) (f +ℤ g)
    (ring2 integers (λ f g. (f ⊕ neg g) ⊗ (f ⊕ g)) (λ f g. f ⊗ f ⊕ neg (g ⊗ g)) refl f g ∙ ap (λ (z : ℤ). z +ℤ neg_ℤ (g *ℤ g)) e ∙ integers.plus_minus (g *ℤ g)))
  where
    equal : f +ℤ neg_ℤ g ≡ pos 0 → f ≡ g
    equal h = omega (arith, ints, h)

    opposite : f +ℤ g ≡ pos 0 → f ≡ neg_ℤ g
    opposite h = omega (arith, ints, h)

    go : (f +ℤ neg_ℤ g ≡ pos 0) ⊎ (f +ℤ g ≡ pos 0) → (f ≡ g) ⊎ (f ≡ neg_ℤ g)
    go (inl h) = inl (equal h)
    go (inr h) = inr (opposite h)

-- a root that isn't 0 can be cancelled
squares_over : (root : ℕ) (m n : ℤ) → ¬ (pos root ≡ pos 0) → m *ℤ pos root ≡ n *ℤ pos root → m ≡ n
squares_over root m n some e = go (whole_domain (m +ℤ neg_ℤ n) (pos root)
    (less_times m n (pos root) ∙ ap (λ (z : ℤ). z +ℤ neg_ℤ (n *ℤ pos root)) e ∙ integers.plus_minus (n *ℤ pos root)))
  where
    less_times : (m n k : ℤ) → (m +ℤ neg_ℤ n) *ℤ k ≡ m *ℤ k +ℤ neg_ℤ (n *ℤ k)
    less_times m n k = ring3 integers (λ m n k. (m ⊕ neg n) ⊗ k) (λ m n k. m ⊗ k ⊕ neg (n ⊗ k)) refl m n k

    equal : m +ℤ neg_ℤ n ≡ pos 0 → m ≡ n
    equal h = omega (arith, ints, h)

    go : (m +ℤ neg_ℤ n ≡ pos 0) ⊎ (pos root ≡ pos 0) → m ≡ n
    go (inl h) = equal h
    go (inr h) = absurd (some h)

-- ---- the roots of one more factor
pub two_more : (root : ℕ) (s t f : ℤ) (x y : Eigenvalue) (old mid new : List Eigenvalue) → x.root ≡ root → x.s ≡ s → x.f ≡ f → y.root ≡ root → y.s ≡ s → y.f ≡ neg_ℤ f
    → (f *ℤ f) *ℤ pos root ≡ discriminant s t → ¬ (f ≡ pos 0) → mid ≡ old ++ x ∷ [] → new ≡ mid ++ y ∷ [] → HasMore root (quadratic s t) old new
two_more root s t f x y old mid new xr xs xf yr ys yf square some first second = record {
  more = x ∷ y ∷ [];
  roots = (
    record { over = xr; first = xs; second = ap (λ (z : ℤ). (z *ℤ z) *ℤ pos root) xf ∙ square; some = λ e. some (sym xf ∙ e) },
    record { over = yr; first = ys; second = ap (λ (z : ℤ). (z *ℤ z) *ℤ pos root) yf ∙ turned; some = λ e. some (own (sym yf ∙ e)) },
    yf ∙ ap neg_ℤ (sym xf),
    tt,
  );
  items = second ∙ ap (λ (l : List Eigenvalue). l ++ y ∷ []) first ∙ append_assoc old (x ∷ []) (y ∷ []);
}
  where
    turned : (neg_ℤ f *ℤ neg_ℤ f) *ℤ pos root ≡ discriminant s t
    turned = ring2 integers (λ f k. (neg f ⊗ neg f) ⊗ k) (λ f k. (f ⊗ f) ⊗ k) refl f (pos root) ∙ square

    own : neg_ℤ f ≡ pos 0 → f ≡ pos 0
    own e = omega (arith, ints, e)

pub roots_joined : (root : ℕ) (cs ds : List Factor) (xs ys : List Eigenvalue) → AreRootsOf root cs xs → AreRootsOf root ds ys → AreRootsOf root (cs ++ ds) (xs ++ ys)
roots_joined root [] ds [] ys h k = k
roots_joined root [] ds (x ∷ xs) ys h k = absurd h
roots_joined root (linear r ∷ cs) ds [] ys h k = absurd h
roots_joined root (linear r ∷ cs) ds (x ∷ xs) ys h k = (h.0, roots_joined root cs ds xs ys h.1 k)
roots_joined root (quadratic s t ∷ cs) ds [] ys h k = absurd h
roots_joined root (quadratic s t ∷ cs) ds (x ∷ []) ys h k = absurd h
roots_joined root (quadratic s t ∷ cs) ds (x ∷ y ∷ xs) ys h k = (h.0, h.1, h.2, roots_joined root cs ds xs ys h.3 k)

module _ (root : ℕ) where
  -- ---- members of the list
  pub all_over : (es : List Factor) (xs : List Eigenvalue) → AreRootsOf root es xs → AllByRecursion (λ x. x.root ≡ root) xs
  all_over [] [] h = tt
  all_over [] (x ∷ xs) h = absurd h
  all_over (linear r ∷ es) [] h = tt
  all_over (linear r ∷ es) (x ∷ xs) h = (h.0.over, all_over es xs h.1)
  all_over (quadratic s t ∷ es) [] h = tt
  all_over (quadratic s t ∷ es) (x ∷ []) h = absurd h
  all_over (quadratic s t ∷ es) (x ∷ y ∷ xs) h = (h.0.over, (h.1.over, all_over es xs h.3))

  pub listed_root : (es : List Factor) (xs : List Eigenvalue) → AreRootsOf root es xs → (z : Eigenvalue) → Contains xs z → IsRootInOne z es
  listed_root [] [] h z c = absurd (in_none z c)
  listed_root [] (x ∷ xs) h z c = absurd h
  listed_root (linear r ∷ es) [] h z c = absurd h
  listed_root (linear r ∷ es) (x ∷ xs) h z c = go (in_cons x xs z c) (listed_root es xs h.1 z)
    where
      go : (x ≡ z) ⊎ Contains xs z → (Contains xs z → IsRootInOne z es) → IsRootInOne z (linear r ∷ es)
      go (inl e) later = inl (subst (λ (y : Eigenvalue). IsRootIn y (linear r)) e (whole_root root r x h.0))
      go (inr k) later = inr (later k)
  listed_root (quadratic s t ∷ es) [] h z c = absurd h
  listed_root (quadratic s t ∷ es) (x ∷ []) h z c = absurd h
  listed_root (quadratic s t ∷ es) (x ∷ y ∷ xs) h z c = go (in_cons x (y ∷ xs) z c) (listed_root es xs h.3 z)
    where
      second : (y ≡ z) ⊎ Contains xs z → (Contains xs z → IsRootInOne z es) → IsRootInOne z (quadratic s t ∷ es)
      second (inl e) later = inl (subst (λ (y : Eigenvalue). IsRootIn y (quadratic s t)) e (half_root root s t y h.1))
      second (inr k) later = inr (later k)

      go : (x ≡ z) ⊎ Contains (y ∷ xs) z → (Contains xs z → IsRootInOne z es) → IsRootInOne z (quadratic s t ∷ es)
      go (inl e) later = inl (subst (λ (y : Eigenvalue). IsRootIn y (quadratic s t)) e (half_root root s t x h.0))
      go (inr k) later = second (in_cons y xs z k) later

  root_some : (s t : ℤ) (x : Eigenvalue) → IsIrreducible (quadratic s t) → IsHalfRoot root s t x → ¬ (pos root ≡ pos 0)
  root_some s t x free h e = free (pos 0)
      (ring2 integers (λ f k. none ⊗ none) (λ f k. (f ⊗ f) ⊗ none) refl x.f x.f ∙ ap (λ (k : ℤ). (x.f *ℤ x.f) *ℤ k) (sym e) ∙ h.second)

  pub root_listed : (es : List Factor) (xs : List Eigenvalue) → AllByRecursion IsReal es → AreRootsOf root es xs → (z : Eigenvalue) → z.root ≡ root → IsRootInOne z es
      → Contains xs z
  root_listed [] xs real h z o k = absurd k
  root_listed (linear r ∷ es) [] real h z o k = absurd h
  root_listed (linear r ∷ es) (x ∷ xs) real h z o (inl k) =
      subst (Contains (x ∷ xs))
      (same_eigenvalue x z (h.0.over ∙ sym o) (h.0.first ∙ twice_is r ∙ sym k.0) (h.0.second ∙ sym k.1)) (in_head x xs)
  root_listed (linear r ∷ es) (x ∷ xs) real h z o (inr k) = in_tail x xs z (root_listed es xs real.1 h.1 z o k)
  root_listed (quadratic s t ∷ es) [] real h z o k = absurd h
  root_listed (quadratic s t ∷ es) (x ∷ []) real h z o k = absurd h
  root_listed (quadratic s t ∷ es) (x ∷ y ∷ xs) real h z o (inl k) =
      go (same_square z.f x.f (squares_over root (z.f *ℤ z.f) (x.f *ℤ x.f) (root_some s t x real.0.0 h.0) (ap (λ (n : ℕ). (z.f *ℤ z.f) *ℤ pos n) (sym o) ∙ k.1 ∙ sym h.0.second)))
    where
      go : (z.f ≡ x.f) ⊎ (z.f ≡ neg_ℤ x.f) → Contains (x ∷ y ∷ xs) z
      go (inl e) = subst (Contains (x ∷ y ∷ xs)) (same_eigenvalue x z (h.0.over ∙ sym o) (h.0.first ∙ sym k.0) (sym e)) (in_head x (y ∷ xs))
      go (inr e) = in_tail x (y ∷ xs) z
          (subst (Contains (y ∷ xs)) (same_eigenvalue y z (h.1.over ∙ sym o) (h.1.first ∙ sym k.0) (h.2 ∙ sym e)) (in_head y xs))
  root_listed (quadratic s t ∷ es) (x ∷ y ∷ xs) real h z o (inr k) =
      in_tail x (y ∷ xs) z (in_tail y xs z (root_listed es xs real.1 h.3 z o k))

  -- as many as the degree of the product says
  pub roots_count : (es : List Factor) (xs : List Eigenvalue) → AreRootsOf root es xs → suc (length xs) ≡ length (product es (pos 1 ∷ []))
  roots_count [] [] h = refl
  roots_count [] (x ∷ xs) h = absurd h
  roots_count (linear r ∷ es) [] h = absurd h
  roots_count (linear r ∷ es) (x ∷ xs) h = omega (arith, roots_count es xs h.1, degrees_add (linear r) (product es (pos 1 ∷ [])))
  roots_count (quadratic s t ∷ es) [] h = absurd h
  roots_count (quadratic s t ∷ es) (x ∷ []) h = absurd h
  roots_count (quadratic s t ∷ es) (x ∷ y ∷ xs) h = omega (arith, roots_count es xs h.3, degrees_add (quadratic s t) (product es (pos 1 ∷ [])))

  -- ---- no root twice
  abbrev IsApart : Eigenvalue → Eigenvalue → Type 0
  IsApart x y = eq_by_cmp eigenvalue_cmp x y ≡ false

  apart : (x y : Eigenvalue) → ¬ (x ≡ y) → IsApart x y
  apart x y n = go (eigenvalue_cmp x y) (order_of_eigenvalues x y)
    where
      go : (o : Ordering) → MatchOrdering o (IsBelow x y) (x ≡ y) (IsBelow y x) → is_eq o ≡ false
      go Less h = refl
      go Equal e = absurd (n e)
      go Greater h = refl

  all_apart : (x : Eigenvalue) (ys : List Eigenvalue) → ((y : Eigenvalue) → Contains ys y → ¬ (x ≡ y)) → AllByRecursion (IsApart x) ys
  all_apart x [] f = tt
  all_apart x (y ∷ ys) f = (apart x y (f y (in_head y ys)), all_apart x ys (λ w k. f w (in_tail y ys w k)))

  irreducible_of : (c : Factor) → IsReal c → IsIrreducible c
  irreducible_of (linear r) h = tt
  irreducible_of (quadratic s t) h = h.0

  -- a root of the first factor is none of the later ones
  behind : (c : Factor) (es : List Factor) → IsReal c → AllByRecursion IsReal es → AreInOrder (c ∷ es) → (z : Eigenvalue) → IsRootIn z c → ¬ IsRootInOne z es
  behind c es real all order z h k = go es all (λ e a. head_before c es order e a) k
    where
      go : (ds : List Factor) → AllByRecursion IsReal ds → ((e : Factor) → IsAmong e ds → ComesBefore c e) → ¬ IsRootInOne z ds
      go [] all before k = k
      go (d ∷ ds) all before (inl k) =
          irreflexive c (subst (ComesBefore c) (sym (one_factor z c d (irreducible_of c real) (irreducible_of d all.0) h k)) (before d (inl refl)))
      go (d ∷ ds) all before (inr k) = go ds all.1 (λ e a. before e (inr a)) k

  opposite_apart : (f g : ℤ) → ¬ (f ≡ pos 0) → g ≡ neg_ℤ f → ¬ (f ≡ g)
  opposite_apart f g some e k = some (own f (k ∙ e))
    where
      own : (f : ℤ) → f ≡ neg_ℤ f → f ≡ pos 0
      own f h = omega (arith, ints, h)

  pub roots_distinct : (es : List Factor) (xs : List Eigenvalue) → AllByRecursion IsReal es → AreInOrder es → AreRootsOf root es xs
      → IsDistinct (eq_by_cmp eigenvalue_cmp) xs
  unfolding IsDistinct
  roots_distinct [] [] real order h = tt
  roots_distinct [] (x ∷ xs) real order h = absurd h
  roots_distinct (linear r ∷ es) [] real order h = absurd h
  roots_distinct (linear r ∷ es) (x ∷ xs) real order h = (
    all_apart x xs (λ y k e. behind (linear r) es real.0 real.1 order y (subst (λ (w : Eigenvalue). IsRootIn w (linear r)) e (whole_root root r x h.0)) (listed_root es xs h.1 y k)),
    roots_distinct es xs real.1 (rest_in_order (linear r) es order) h.1,
  )
  roots_distinct (quadratic s t ∷ es) [] real order h = absurd h
  roots_distinct (quadratic s t ∷ es) (x ∷ []) real order h = absurd h
  roots_distinct (quadratic s t ∷ es) (x ∷ y ∷ xs) real order h = (
    (
      apart x y (λ e. opposite_apart x.f y.f h.0.some h.2 (ap (λ (w : Eigenvalue). w.f) e)),
      all_apart x xs (later x h.0),
    ),
    (
      all_apart y xs (later y h.1),
      roots_distinct es xs real.1 (rest_in_order (quadratic s t) es order) h.3,
    ),
  )
    where
      later : (w : Eigenvalue) → IsHalfRoot root s t w → (v : Eigenvalue) → Contains xs v → ¬ (w ≡ v)
      later w k v c e = behind (quadratic s t) es real.0 real.1 order v (subst (λ (u : Eigenvalue). IsRootIn u (quadratic s t)) e (half_root root s t w k)) (listed_root es xs h.3 v c)
