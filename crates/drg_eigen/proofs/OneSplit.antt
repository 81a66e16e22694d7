-- A polynomial has one answer of the search for factors.
use Rattle.std.proofs.Common.{◌≡◌, ℕ, zero, suc, ◌*◌, ◌<◌, refl, ap, ap₂, sym, ◌∙◌, subst, arith, ℤ, pos, negsuc, List, [], ◌∷◌, Contains, map, ◌⊎◌, inl, inr}
use Rattle.std.specs.Prelude.{◌*ℤ◌, ◌<ℤ◌, unsigned_abs}
use Rattle.std.specs.List.{AllByRecursion}
use Rattle.std.proofs.lemmas.Int.{ints}
use Rattle.std.proofs.lemmas.List.Elements.{All-contains}
use Rattle.drg_algebra.specs.Ring.{◌⊕◌, ◌⊗◌, neg, ring3}
use Rattle.drg_algebra.specs.Integer.{integers}
use Rattle.drg_algebra.specs.Order.{IsPositive}
use Rattle.drg_algebra.specs.Pairs.{root_values}
use Rattle.drg_quadratic.specs.Values.{IsRoot, IsOver as IsValueOver, minus}
use Rattle.drg_quadratic.specs.Laws.{value_laws, flat_plus, minus_nil}
use Rattle.drg_quadratic.specs.Eigenvalue.{eigenvalue_of, difference, IsBelow}
use Rattle.drg_quadratic.proofs.EigenvalueValues.{value_over}
use Rattle.drg_quadratic.specs.declared.eigenvalue.Eigenvalue.{Eigenvalue}
use Rattle.drg_eigen.specs.Factor.{Factor, linear, quadratic, discriminant, IsCandidate, IsIrreducible, IsAmong, AreIrreducible, Divides, product, polynomial_of}
use Rattle.drg_eigen.specs.Spectrum.{AreFactors, AreRoots, AreDescending, AreTwoFields, IsFirstOther, IsOneField, IsOver, IsLinear, IsCommonRoot, IsProduct, IsRest, IsTwoFields, IsSpectrum}
use Rattle.drg_eigen.specs.SplitLaws.{OneSplit}
use Rattle.drg_eigen.specs.declared.split.Split.TheVariants.{Spectrum, Other}
use Rattle.drg_eigen.specs.declared.split.OtherSpectrum.TheVariants.{Rest, TwoFields}
use Rattle.drg_eigen.proofs.Cancelling.{product_cancels}
use Rattle.drg_eigen.proofs.Members.{in_none, in_cons, in_head, in_tail}
use Rattle.drg_eigen.proofs.OneSearch.{one_list, among_all, all_irreducible}
use Rattle.drg_eigen.proofs.Discriminants.{square_is}
use Rattle.drg_eigen.proofs.RootFields.{one_root, squarefree_root}

-- ---- the factors
factor_divides : (k : ℕ) (f : List ℤ) (es : List Factor) → AreFactors k f es → (c : Factor) → IsAmong c es → Divides c f
factor_divides k f es h c a = among_all (λ e. Divides e f) es h.divide c a

pub one_factors : (k : ℕ) (f : List ℤ) (es ds : List Factor) → AreFactors k f es → AreFactors k f ds → es ≡ ds
one_factors k f es ds h g =
    one_list es ds h.ordered g.ordered
    (λ c a. g.all c (among_all (IsCandidate k) es h.candidates c a) (factor_divides k f es h c a))
    (λ c a. h.all c (among_all (IsCandidate k) ds g.candidates c a) (factor_divides k f ds g c a))

-- the product of all factors leaves no other rest than 1
no_rest : (k : ℕ) (f : List ℤ) (es ds : List Factor) (g : List ℤ) → AreFactors k f es → IsProduct f es → ¬ IsRest k f ds g
no_rest k f es ds g h whole rest =
    rest.rest (sym (product_cancels ds (pos 1 ∷ []) g (ap (λ (l : List Factor). product l (pos 1 ∷ [])) (sym (one_factors k f es ds h rest.factors)) ∙ whole ∙ sym rest.quotient)))

-- ---- the fields of the roots
-- factors over one root have their roots in one field
over_both : (root : ℕ) (c e : Factor) → IsOver root c → IsOver root e → IsOneField c e
over_both root (linear r) e h g = tt
over_both root (quadratic s t) (linear r) h g = tt
over_both root (quadratic s t) (quadratic u v) h g = (
  (h.0 *ℤ g.0) *ℤ pos root,
  ring3 integers (λ m n r. ((m ⊗ n) ⊗ r) ⊗ ((m ⊗ n) ⊗ r)) (λ m n r. ((m ⊗ m) ⊗ r) ⊗ ((n ⊗ n) ⊗ r)) refl h.0 g.0 (pos root)
      ∙ ap₂ (λ (x y : ℤ). x *ℤ y) h.1 g.1,
)

no_other : (root : ℕ) (c : Factor) (es : List Factor) (e : Factor) → IsOver root c → AllByRecursion (IsOver root) es → ¬ IsFirstOther c es e
no_other root c [] e h all k = k
no_other root c (d ∷ es) e h all (inl k) = k.1 (over_both root c d h all.0)
no_other root c (d ∷ es) e h all (inr k) = no_other root c es e h all.1 k.1

no_two_fields : (root : ℕ) (es : List Factor) (c e : Factor) → AllByRecursion (IsOver root) es → ¬ AreTwoFields es c e
no_two_fields root [] c e all h = h
no_two_fields root (linear r ∷ es) c e all h = no_two_fields root es c e all.1 h
no_two_fields root (quadratic s t ∷ es) c e all h = no_other root (quadratic s t) es e all.0 all.1 h.1

one_other : (c : Factor) (es : List Factor) (d e : Factor) → IsFirstOther c es d → IsFirstOther c es e → d ≡ e
one_other c [] d e h g = absurd h
one_other c (b ∷ es) d e (inl h) (inl g) = sym h.0 ∙ g.0
one_other c (b ∷ es) d e (inl h) (inr g) = absurd (h.1 g.0)
one_other c (b ∷ es) d e (inr h) (inl g) = absurd (g.1 h.0)
one_other c (b ∷ es) d e (inr h) (inr g) = one_other c es d e h.1 g.1

record AreSame (c d e b : Factor) : Type 0 where
  pub first : c ≡ d
  pub second : e ≡ b

one_pair : (es : List Factor) (c d e b : Factor) → AreTwoFields es c e → AreTwoFields es d b → AreSame c d e b
one_pair [] c d e b h g = absurd h
one_pair (linear r ∷ es) c d e b h g = one_pair es c d e b h g
one_pair (quadratic s t ∷ es) c d e b h g = record { first = sym h.0 ∙ g.0; second = one_other (quadratic s t) es e b h.1 g.1 }

-- ---- the root
-- the discriminant of an irreducible factor over a root is positive
above : (root : ℕ) (s t : ℤ) → IsIrreducible (quadratic s t) → IsOver root (quadratic s t) → pos 0 <ℤ discriminant s t
above root s t free h = go (discriminant s t) (λ e. free (pos 0) (sym e)) (square h.0) h.1
  where
    square : (m : ℤ) → (n : ℕ) × (m *ℤ m ≡ pos n)
    square (pos m) = (m * m, refl)
    square (negsuc m) = (suc m * suc m, refl)

    number : (n : ℕ) (d : ℤ) → pos n *ℤ pos root ≡ d → (d ≡ pos 0 → ⊥) → pos 0 <ℤ d
    number n (pos zero) e some = absurd (some refl)
    number n (pos (suc d)) e some = omega (arith, ints)
    number n (negsuc d) e some = absurd (omega (arith, ints, e))

    go : (d : ℤ) → (d ≡ pos 0 → ⊥) → ((n : ℕ) × (h.0 *ℤ h.0 ≡ pos n)) → (h.0 *ℤ h.0) *ℤ pos root ≡ d → pos 0 <ℤ d
    go d some n e = number n.0 d (ap (λ (z : ℤ). z *ℤ pos root) (sym n.1) ∙ e) some

over_same : (m n : ℕ) (s t : ℤ) → IsRoot m → IsRoot n → IsIrreducible (quadratic s t) → IsOver m (quadratic s t) → IsOver n (quadratic s t) → m ≡ n
over_same m n s t p q free h g =
    let positive = above m s t free h in
    let size = ap (λ (z : ℤ). z *ℤ pos m) (sym (square_is h.0)) ∙ h.1 in
    (one_root (unsigned_abs h.0) m n s t g.0 size positive (squarefree_root m s t h positive p) (squarefree_root n s t g positive q) g.1).1

same_or_linear : (m n : ℕ) → IsRoot m → IsRoot n → (es : List Factor) → AreIrreducible es → AllByRecursion (IsOver m) es → AllByRecursion (IsOver n) es
    → (m ≡ n) ⊎ AllByRecursion IsLinear es
same_or_linear m n p q [] free h g = inr tt
same_or_linear m n p q (linear r ∷ es) free h g = go (same_or_linear m n p q es free.1 h.1 g.1)
  where
    go : (m ≡ n) ⊎ AllByRecursion IsLinear es → (m ≡ n) ⊎ AllByRecursion IsLinear (linear r ∷ es)
    go (inl e) = inl e
    go (inr l) = inr (tt, l)
same_or_linear m n p q (quadratic s t ∷ es) free h g = inl (over_same m n s t p q free.0 h.0 g.0)

one_common_root : (es : List Factor) (m n : ℕ) → AreIrreducible es → IsCommonRoot es m → IsCommonRoot es n → m ≡ n
one_common_root es m n free h g = go (same_or_linear m n h.is_root g.is_root es free h.shared g.shared)
  where
    go : (m ≡ n) ⊎ AllByRecursion IsLinear es → m ≡ n
    go (inl e) = e
    go (inr l) = h.rational l ∙ sym (g.rational l)

-- ---- the eigenvalues
never_below_itself : (x : Eigenvalue) → ¬ IsBelow x x
never_below_itself x (inl h) = (let p : x.root < x.root = h in omega (arith, p))
never_below_itself x (inr h) =
    (value_laws x.root x.has_root).nil_is_not_positive (subst (IsPositive x.root) ((root_values 0).laws.plus_minus (eigenvalue_of x)) h.1)

difference_over : (root : ℕ) (x y : Eigenvalue) → root ≡ x.root → root ≡ y.root → IsValueOver root (difference x y)
difference_over root x y p q = λ e. flat_plus (eigenvalue_of x) (minus (eigenvalue_of y)) (value_over x (sym p ∙ e)) (minus_nil (eigenvalue_of y).b (value_over y (sym q ∙ e)))

below_through : (x y z : Eigenvalue) → IsBelow x y → IsBelow y z → IsBelow x z
below_through x y z (inl h) (inl k) = inl (let p : x.root < y.root = h in let q : y.root < z.root = k in omega (arith, p, q))
below_through x y z (inl h) (inr k) = inl (subst (λ r. x.root < r) k.0 h)
below_through x y z (inr h) (inl k) = inl (subst (λ r. r < z.root) (sym h.0) k)
below_through x y z (inr h) (inr k) =
    let laws = value_laws z.root z.has_root in
    let first : IsPositive z.root (difference y x) = subst (λ r. IsPositive r (difference y x)) k.0 h.1 in
    inr (
      h.0 ∙ k.0,
      subst (IsPositive z.root)
          (ring3 (root_values 0).laws (λ x y z. (y ⊕ neg x) ⊕ (z ⊕ neg y)) (λ x y z. z ⊕ neg x) refl (eigenvalue_of x) (eigenvalue_of y) (eigenvalue_of z))
          (laws.positive_plus (difference y x) (difference z y) (difference_over z.root y x (sym k.0) (sym k.0 ∙ sym h.0)) (difference_over z.root z y refl (sym k.0)) first k.1),
    )

rest_descends : (x : Eigenvalue) (xs : List Eigenvalue) → AreDescending (x ∷ xs) → AreDescending xs
rest_descends x [] h = tt
rest_descends x (y ∷ xs) h = h.1

head_above : (x : Eigenvalue) (xs : List Eigenvalue) → AreDescending (x ∷ xs) → (z : Eigenvalue) → Contains xs z → IsBelow z x
head_above x [] h z c = absurd (in_none z c)
head_above x (y ∷ xs) h z c = go (in_cons y xs z c) (head_above y xs h.1 z)
  where
    go : (y ≡ z) ⊎ Contains xs z → (Contains xs z → IsBelow z y) → IsBelow z x
    go (inl e) later = subst (λ (w : Eigenvalue). IsBelow w x) e h.0
    go (inr k) later = below_through z y x (later k) h.0

heads_same : (x y : Eigenvalue) (xs ys : List Eigenvalue) → AreDescending (x ∷ xs) → AreDescending (y ∷ ys) → Contains (y ∷ ys) x → Contains (x ∷ xs) y → x ≡ y
heads_same x y xs ys h g c d = go (in_cons y ys x c) (in_cons x xs y d)
  where
    go : (y ≡ x) ⊎ Contains ys x → (x ≡ y) ⊎ Contains xs y → x ≡ y
    go (inl e) k = sym e
    go (inr a) (inl e) = e
    go (inr a) (inr b) = absurd (never_below_itself x (below_through x y x (head_above y ys g x a) (head_above x xs h y b)))

in_rest : (x y : Eigenvalue) (xs ys : List Eigenvalue) → AreDescending (x ∷ xs) → x ≡ y → (z : Eigenvalue) → Contains xs z → Contains (y ∷ ys) z → Contains ys z
in_rest x y xs ys h same z c d = go (in_cons y ys z d)
  where
    go : (y ≡ z) ⊎ Contains ys z → Contains ys z
    go (inl e) = absurd (never_below_itself x (subst (λ (w : Eigenvalue). IsBelow w x) (sym (same ∙ e)) (head_above x xs h z c)))
    go (inr k) = k

one_descending : (xs ys : List Eigenvalue) → AreDescending xs → AreDescending ys → ((z : Eigenvalue) → Contains xs z → Contains ys z)
    → ((z : Eigenvalue) → Contains ys z → Contains xs z) → xs ≡ ys
one_descending [] [] h g p q = refl
one_descending [] (y ∷ ys) h g p q = absurd (in_none y (q y (in_head y ys)))
one_descending (x ∷ xs) [] h g p q = absurd (in_none x (p x (in_head x xs)))
one_descending (x ∷ xs) (y ∷ ys) h g p q =
    let same = heads_same x y xs ys h g (p x (in_head x xs)) (q y (in_head y ys)) in
    ap₂ (λ (w : Eigenvalue) (l : List Eigenvalue). w ∷ l) same
    (one_descending xs ys (rest_descends x xs h) (rest_descends y ys g)
    (λ z c. in_rest x y xs ys h same z c (p z (in_tail x xs z c)))
    (λ z c. in_rest y x ys xs g (sym same) z c (q z (in_tail y ys z c))))

one_roots : (f : List ℤ) (root : ℕ) (xs ys : List Eigenvalue) → AreRoots f root xs → AreRoots f root ys → xs ≡ ys
one_roots f root xs ys h g =
    one_descending xs ys h.descending g.descending
    (λ z c. (let o = All-contains (λ x. x.root ≡ root) xs z h.over_root c in (g.all z o).0 ((h.all z o).1 c)))
    (λ z c. (let o = All-contains (λ x. x.root ≡ root) ys z g.over_root c in (h.all z o).0 ((g.all z o).1 c)))

-- ---- the answers
one_spectrum : (k : ℕ) (f : List ℤ) (m n : ℕ) (xs ys : List Eigenvalue) → IsSpectrum k f m xs → IsSpectrum k f n ys → (m ≡ n) × (xs ≡ ys)
one_spectrum k f m n xs ys h g =
    let same = one_factors k f h.list g.list h.factors g.factors in
    let free = all_irreducible (IsCandidate k) (λ c p. p.0) g.list g.factors.candidates in
    let root = one_common_root g.list m n free (subst (λ (es : List Factor). IsCommonRoot es m) same h.common_root) g.common_root in
    (root, one_roots f n xs ys (subst (λ (r : ℕ). AreRoots f r xs) root h.roots) g.roots)

no_spectrum : (k : ℕ) (f : List ℤ) (root : ℕ) (xs : List Eigenvalue) (es : List Factor) (c e : Factor) → IsSpectrum k f root xs → ¬ IsTwoFields k f es c e
no_spectrum k f root xs es c e h g =
    no_two_fields root es c e
    (subst (λ (ds : List Factor). AllByRecursion (IsOver root) ds) (one_factors k f h.list es h.factors g.factors) h.common_root.shared) g.apart

pub one_split : OneSplit
one_split k f (Spectrum s) (Spectrum t) monic h g =
    let same = one_spectrum k f s.root t.root s.thetas t.thetas h g in
    ap₂ (λ (r : ℕ) (l : List Eigenvalue). Spectrum (record { root = r; thetas = l })) same.0 same.1
one_split k f (Spectrum s) (Other (Rest a b)) monic h g = absurd (no_rest k f h.list g.0 b h.factors h.product g.2)
one_split k f (Spectrum s) (Other (TwoFields a b c)) monic h g = absurd (no_spectrum k f s.root s.thetas g.0 g.1 g.2 h g.6)
one_split k f (Other (Rest a b)) (Spectrum t) monic h g = absurd (no_rest k f g.list h.0 b g.factors g.product h.2)
one_split k f (Other (TwoFields a b c)) (Spectrum t) monic h g = absurd (no_spectrum k f t.root t.thetas h.0 h.1 h.2 g h.6)
one_split k f (Other (Rest a b)) (Other (TwoFields c d e)) monic h g = absurd (no_rest k f g.0 h.0 b g.6.factors g.6.product h.2)
one_split k f (Other (TwoFields a b c)) (Other (Rest d e)) monic h g = absurd (no_rest k f h.0 g.0 e h.6.factors h.6.product g.2)
one_split k f (Other (Rest a b)) (Other (Rest c d)) monic h g =
    let same = one_factors k f h.0 g.0 h.2.factors g.2.factors in
    ap₂ (λ (l : List (List ℤ)) (r : List ℤ). Other (Rest l r)) (h.1 ∙ ap (map polynomial_of) same ∙ sym g.1)
    (product_cancels g.0 b d (ap (λ (es : List Factor). product es b) (sym same) ∙ h.2.quotient ∙ sym g.2.quotient))
one_split k f (Other (TwoFields a b c)) (Other (TwoFields d e p)) monic h g =
    let same = one_factors k f h.0 g.0 h.6.factors g.6.factors in
    let pair = one_pair g.0 h.1 g.1 h.2 g.2 (subst (λ (es : List Factor). AreTwoFields es h.1 h.2) same h.6.apart) g.6.apart in
    ap₂ (λ (l : List (List ℤ)) (r : List ℤ × List ℤ). Other (TwoFields l r.0 r.1)) (h.3 ∙ ap (map polynomial_of) same ∙ sym g.3)
    (ap₂ (λ (x y : List ℤ). (x, y)) (h.4 ∙ ap polynomial_of pair.first ∙ sym g.4) (h.5 ∙ ap polynomial_of pair.second ∙ sym g.5))
