-- A search has one answer: the factors among those tried, in order, and one quotient.
use Rattle.std.proofs.Common.{◌≡◌, ◌≤◌, refl, ap, ap₂, sym, ◌∙◌, subst, arith, ℤ, pos, List, [], ◌∷◌, length, ◌⊎◌, inl, inr}
use Rattle.std.specs.Prelude.{◌<ℤ◌}
use Rattle.std.specs.List.{AllByRecursion}
use Rattle.std.proofs.lemmas.Int.{ints}
use Rattle.drg_eigen.specs.Factor.{Factor, linear, quadratic, degree, Divides, product, IsAmong, IsIrreducible, AreIrreducible}
use Rattle.drg_eigen.specs.Monic.{IsMonic}
use Rattle.drg_eigen.specs.Order.{ComesBefore, AreInOrder}
use Rattle.drg_eigen.specs.Search.{IsSearch}
use Rattle.drg_eigen.proofs.Cancelling.{product_cancels}
use Rattle.drg_eigen.proofs.FactorOrder.{one_way, irreflexive}
use Rattle.drg_eigen.proofs.FactorProducts.{factors_of_product, factors_divide}
use Rattle.drg_eigen.proofs.FullProducts.{factors_of_full_product}
use Rattle.drg_eigen.proofs.Quotients.{monic_quotient}

-- ---- lists in order with the same members are one
before_transitive : (c e d : Factor) → ComesBefore c e → ComesBefore e d → ComesBefore c d
before_transitive (linear r) (linear u) (linear v) h k = (let p : u <ℤ r = h in let q : v <ℤ u = k in omega (arith, ints))
before_transitive (linear r) (linear u) (quadratic s t) h k = tt
before_transitive (linear r) (quadratic s t) (linear v) h k = absurd k
before_transitive (linear r) (quadratic s t) (quadratic u v) h k = tt
before_transitive (quadratic s t) (linear r) d h k = absurd h
before_transitive (quadratic s t) (quadratic u v) (linear r) h k = absurd k
before_transitive (quadratic s t) (quadratic u v) (quadratic w x) (inl h) (inl k) = inl (let p : u <ℤ s = h in let q : w <ℤ u = k in omega (arith, ints))
before_transitive (quadratic s t) (quadratic u v) (quadratic w x) (inl h) (inr k) = inl (subst (λ z. z <ℤ s) k.0 h)
before_transitive (quadratic s t) (quadratic u v) (quadratic w x) (inr h) (inl k) = inl (subst (λ z. w <ℤ z) (sym h.0) k)
before_transitive (quadratic s t) (quadratic u v) (quadratic w x) (inr h) (inr k) = inr (h.0 ∙ k.0, (let p : v <ℤ t = h.1 in let q : x <ℤ v = k.1 in omega (arith, ints)))

pub rest_in_order : (e : Factor) (es : List Factor) → AreInOrder (e ∷ es) → AreInOrder es
rest_in_order e [] o = tt
rest_in_order e (d ∷ es) o = o.1

pub head_before : (e : Factor) (es : List Factor) → AreInOrder (e ∷ es) → (c : Factor) → IsAmong c es → ComesBefore e c
head_before e [] o c h = absurd h
head_before e (d ∷ es) o c (inl same) = subst (ComesBefore e) (sym same) o.0
head_before e (d ∷ es) o c (inr h) = before_transitive e d c o.0 (head_before d es o.1 c h)

heads_same : (e d : Factor) (es ds : List Factor) → AreInOrder (e ∷ es) → AreInOrder (d ∷ ds) → IsAmong e (d ∷ ds) → IsAmong d (e ∷ es) → e ≡ d
heads_same e d es ds o p (inl same) k = same
heads_same e d es ds o p (inr h) (inl same) = sym same
heads_same e d es ds o p (inr h) (inr k) = absurd (one_way e d (head_before e es o d k) (head_before d ds p e h))

not_head : (e d : Factor) (es ds : List Factor) → AreInOrder (e ∷ es) → e ≡ d → (c : Factor) → IsAmong c es → IsAmong c (d ∷ ds) → IsAmong c ds
not_head e d es ds o same c h (inl k) = absurd (irreflexive e (subst (ComesBefore e) (k ∙ sym same) (head_before e es o c h)))
not_head e d es ds o same c h (inr k) = k

pub one_list : (es ds : List Factor) → AreInOrder es → AreInOrder ds → ((c : Factor) → IsAmong c es → IsAmong c ds) → ((c : Factor) → IsAmong c ds → IsAmong c es) → es ≡ ds
one_list [] [] o p f g = refl
one_list [] (d ∷ ds) o p f g = absurd (g d (inl refl))
one_list (e ∷ es) [] o p f g = absurd (f e (inl refl))
one_list (e ∷ es) (d ∷ ds) o p f g =
    let same = heads_same e d es ds o p (f e (inl refl)) (g d (inl refl)) in
    ap₂ (λ (x : Factor) (l : List Factor). x ∷ l) same
    (one_list es ds (rest_in_order e es o) (rest_in_order d ds p)
    (λ c h. not_head e d es ds o same c h (f c (inr h)))
    (λ c h. not_head d e ds es p (sym same) c h (g c (inr h))))

-- ---- members
pub among_all : (P : Factor → Type 0) (es : List Factor) → AllByRecursion P es → (c : Factor) → IsAmong c es → P c
among_all P [] h c a = absurd a
among_all P (e ∷ es) h c (inl same) = subst P (sym same) h.0
among_all P (e ∷ es) h c (inr a) = among_all P es h.1 c a

pub all_irreducible : (P : Factor → Type 0) → ((c : Factor) → P c → IsIrreducible c) → (es : List Factor) → AllByRecursion P es → AreIrreducible es
all_irreducible P f [] h = tt
all_irreducible P f (e ∷ es) h = (f e h.0, all_irreducible P f es h.1)

pub monic_rest : (es : List Factor) (g f : List ℤ) → product es g ≡ f → IsMonic f → IsMonic g
monic_rest [] g f e m = subst IsMonic (sym e) m
monic_rest (c ∷ es) g f e m = monic_rest es g (product es g) refl (monic_quotient c (product es g) f e m)

-- an irreducible factor of f is one of those in the product or divides the rest
pub factor_found : (es : List Factor) (g f : List ℤ) → product es g ≡ f → IsMonic f → AreIrreducible es → (c : Factor) → IsIrreducible c → Divides c f → IsAmong c es ⊎ Divides c g
factor_found es g f e m js c i d = go g e (monic_rest es g f e m) c i d
  where
    long_enough : (c : Factor) (x y : ℤ) (g : List ℤ) → degree c ≤ length (x ∷ y ∷ g)
    long_enough (linear r) x y g = omega arith
    long_enough (quadratic s t) x y g = omega arith

    one : (x : ℤ) → IsMonic (x ∷ []) → x ≡ pos 1
    one x m = (let h = m in cc)

    go : (g : List ℤ) → product es g ≡ f → IsMonic g → (c : Factor) → IsIrreducible c → Divides c f → IsAmong c es ⊎ Divides c g
    go [] e m c i d = absurd (let h = m in cc)
    go (x ∷ []) e m c i d = inl (factors_of_full_product c es i js (subst (Divides c) (sym e ∙ ap (λ (z : ℤ). product es (z ∷ [])) (one x m)) d))
    go (x ∷ y ∷ g) e m c i d = factors_of_product c es (x ∷ y ∷ g) i js (long_enough c x y g) (subst (Divides c) (sym e) d)

module _ (T : Factor → Type 0) (irreducible : (c : Factor) → T c → IsIrreducible c) (f : List ℤ) (monic : IsMonic f) where
  pub search_all : (es : List Factor) (g : List ℤ) → IsSearch T f es g → (c : Factor) → T c → Divides c f → IsAmong c es
  search_all es g h c t d = go (factor_found es g f h.quotient monic (all_irreducible T irreducible es h.tried) c (irreducible c t) d)
    where
      go : IsAmong c es ⊎ Divides c g → IsAmong c es
      go (inl a) = a
      go (inr e) = absurd (h.none_left c t e)

  pub among_divides : (es : List Factor) (g : List ℤ) → IsSearch T f es g → (c : Factor) → IsAmong c es → Divides c f
  among_divides es g h c a = subst (Divides c) h.quotient (factors_divide c es g (inl a))

  pub one_search : (es ds : List Factor) (g h : List ℤ) → IsSearch T f es g → IsSearch T f ds h → es ≡ ds
  one_search es ds g h p q =
      one_list es ds p.ordered q.ordered
      (λ c a. search_all ds h q c (among_all T es p.tried c a) (among_divides es g p c a))
      (λ c a. search_all es g p c (among_all T ds q.tried c a) (among_divides ds h q c a))

  pub one_rest : (es ds : List Factor) (g h : List ℤ) → IsSearch T f es g → IsSearch T f ds h → g ≡ h
  one_rest es ds g h p q =
      product_cancels es g h (p.quotient ∙ sym q.quotient ∙ ap (λ (l : List Factor). product l h) (sym (one_search es ds g h p q)))
