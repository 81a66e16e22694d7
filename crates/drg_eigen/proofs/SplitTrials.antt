-- The search among all candidates: the x - r, and then the x² - s x + t. What it answers.
use Rattle.std.proofs.Common.{◌≡◌, ◌≢◌, ℕ, ◌≤◌, refl, ap, sym, ◌∙◌, subst, arith, ℤ, pos, List, [], ◌∷◌, ◌++◌, ◌⊎◌, inl, inr}
use Rattle.std.specs.Prelude.{◌<ℤ◌, ◌*ℤ◌, ◌+ℤ◌, neg_ℤ}
use Rattle.std.specs.List.{AllByRecursion}
use Rattle.std.proofs.lemmas.Int.{ints}
use Rattle.std.proofs.lemmas.Nat.{mul-le}
use Rattle.drg_eigen.specs.Factor.{Factor, linear, quadratic, discriminant, Divides, IsCandidate, IsIrreducible, IsAmong}
use Rattle.drg_eigen.specs.Monic.{IsMonic}
use Rattle.drg_eigen.specs.Order.{ComesBefore}
use Rattle.drg_eigen.specs.Simple.{IsSimple}
use Rattle.drg_eigen.specs.Step.{factors_of}
use Rattle.drg_eigen.specs.Candidates.{IsLinearCandidate, IsQuadraticCandidate, IsAsked, IsSplitFault, value_at}
use Rattle.drg_eigen.specs.Search.{IsSearch, IsSearchFault}
use Rattle.drg_eigen.specs.Found.{HasTried, IsAnything, IsReal, MayBeFactor}
use Rattle.drg_eigen.specs.Spectrum.{AreFactors}
use Rattle.drg_eigen.specs.declared.search.Search.{Search}
use Rattle.drg_eigen.specs.declared.fault.EigenFault.{EigenFault}
use Rattle.drg_eigen.proofs.FactorValues.{constant_value}
use Rattle.drg_eigen.proofs.OneSearch.{one_rest, search_all, among_divides, monic_rest}
use Rattle.drg_eigen.proofs.Quotients.{by_x}
use Rattle.drg_eigen.proofs.Searches.{IsEither}
use Rattle.drg_eigen.proofs.Trials.{tried_joined, fault_joined, tried_wider, fault_wider, fault_asked, fewer_asked, fault_extended}

linear_first : (k : ℕ) (c e : Factor) → IsLinearCandidate k c → IsQuadraticCandidate k e → ComesBefore c e
linear_first k (linear r) (linear v) h g = absurd g
linear_first k (linear r) (quadratic s t) h g = tt
linear_first k (quadratic s t) e h g = absurd h

linear_irreducible : (k : ℕ) (c : Factor) → IsLinearCandidate k c → IsIrreducible c
linear_irreducible k (linear r) h = tt
linear_irreducible k (quadratic s t) h = absurd h

abbrev IsEitherCandidate : ℕ → Factor → Type 0
IsEitherCandidate k = IsEither (IsLinearCandidate k) (IsQuadraticCandidate k)

one_is_candidate : (k : ℕ) (c : Factor) → IsEitherCandidate k c → IsCandidate k c
one_is_candidate k (linear r) (inl h) = h
one_is_candidate k (linear r) (inr h) = absurd h
one_is_candidate k (quadratic s t) (inl h) = absurd h
one_is_candidate k (quadratic s t) (inr h) = h

candidate_is_one : (k : ℕ) (c : Factor) → IsCandidate k c → IsEitherCandidate k c
candidate_is_one k (linear r) h = inl h
candidate_is_one k (quadratic s t) h = inr h

-- ---- a fault among the x - r
module _ (k : ℕ) (a : Search) where
  linear_is_candidate : (c : Factor) → IsLinearCandidate k c → IsCandidate k c
  linear_is_candidate (linear r) h = h
  linear_is_candidate (quadratic s t) h = absurd h

  quadratic_later : (e : Factor) → IsCandidate k e → IsLinearCandidate k e ⊎ ((c : Factor) → IsLinearCandidate k c → ComesBefore c e)
  quadratic_later (linear r) h = inl h
  quadratic_later (quadratic s t) h = inr (λ c g. linear_first k c (quadratic s t) g h)

  always_asked : (c : Factor) → IsLinearCandidate k c → IsAnything c → IsAsked k a.left c
  always_asked (linear r) h g = tt
  always_asked (quadratic s t) h g = absurd h

  pub linears_fault : (e : EigenFault) → IsSearchFault (IsLinearCandidate k) IsAnything a.left e → IsSplitFault k a.left e
  linears_fault e h =
      fault_extended (IsLinearCandidate k) (IsCandidate k) linear_is_candidate quadratic_later (IsAsked k a.left) a.left e
      (fault_asked (IsLinearCandidate k) IsAnything (IsAsked k a.left) a (λ c p b. tt) e always_asked h)

-- ---- after the x - r
module _ (k : ℕ) (a b : Search) (monic : IsMonic a.left) (linears : HasTried (IsLinearCandidate k) IsAnything a b) where
  -- what is left has another value at 0 than 0
  pub nothing_at_zero : value_at (pos 0) b.left ≢ pos 0
  nothing_at_zero e = go b.left (linears.search.none_left (linear (pos 0)) (tt, omega arith)) e (monic_rest linears.more b.left a.left linears.search.quotient monic)
    where
      go : (g : List ℤ) → ¬ Divides (linear (pos 0)) g → value_at (pos 0) g ≡ pos 0 → IsMonic g → ⊥
      go [] n e m = (let h = m in cc)
      go (x ∷ g) n e m = n (g, by_x g ∙ ap (λ (z : ℤ). z ∷ g) (sym e ∙ constant_value x g))

  own_search : (c : Factor) → IsQuadraticCandidate k c → MayBeFactor b.left c → IsAsked k a.left c
  own_search (linear r) h m = tt
  own_search (quadratic s t) h m = (linears.more, b.left, linears.search, m)

  one_left : (c : Factor) → IsQuadraticCandidate k c → IsAsked k a.left c → MayBeFactor b.left c
  one_left (linear r) h m = tt
  one_left (quadratic s t) h m =
      subst (λ (g : List ℤ). MayBeFactor g (quadratic s t))
      (one_rest (IsLinearCandidate k) (linear_irreducible k) a.left monic m.0 linears.more m.1 b.left m.2 linears.search) m.3

  asked_linears : HasTried (IsLinearCandidate k) (IsAsked k a.left) a b
  asked_linears = fewer_asked (IsLinearCandidate k) IsAnything (IsAsked k a.left) a (λ c p m. tt) b linears

  pub all_tried : (c : Search) → HasTried (IsQuadraticCandidate k) (MayBeFactor b.left) b c → HasTried (IsCandidate k) (IsAsked k a.left) a c
  all_tried c quadratics =
      tried_wider (IsEitherCandidate k) (IsCandidate k) (one_is_candidate k) (IsAsked k a.left) (IsAsked k a.left) a (λ e h. inl (candidate_is_one k e h)) (λ e p m. m) c
      (tried_joined (IsLinearCandidate k) (IsQuadraticCandidate k) (IsAsked k a.left) (linear_first k) a b asked_linears c
      (fewer_asked (IsQuadraticCandidate k) (MayBeFactor b.left) (IsAsked k a.left) b one_left c quadratics))

  pub quadratics_fault : (e : EigenFault) → IsSearchFault (IsQuadraticCandidate k) (MayBeFactor b.left) b.left e → IsSplitFault k a.left e
  quadratics_fault e h =
      fault_wider (IsEitherCandidate k) (IsCandidate k) (one_is_candidate k) (IsAsked k a.left) (IsAsked k a.left) a (λ c g. inl (candidate_is_one k c g)) (λ c p m. m) e (λ c p m. m)
      (fault_joined (IsLinearCandidate k) (IsQuadraticCandidate k) (IsAsked k a.left) (linear_first k) a b asked_linears e
      (fault_asked (IsQuadraticCandidate k) (MayBeFactor b.left) (IsAsked k a.left) b one_left e own_search h))

-- ---- what is found
pub search_of_all : (k : ℕ) (A : Factor → Type 0) (a c : Search) → a.found.items ≡ [] → HasTried (IsCandidate k) A a c
    → IsSearch (IsCandidate k) a.left (factors_of c.found.items) c.left
search_of_all k A a c nothing h =
    subst (λ (l : List Factor). IsSearch (IsCandidate k) a.left l c.left) (sym (h.found ∙ ap (λ ds. factors_of ds ++ h.more) nothing)) h.search

candidate_irreducible : (k : ℕ) (c : Factor) → IsCandidate k c → IsIrreducible c
candidate_irreducible k c h = h.0

module _ (k : ℕ) (f : List ℤ) (monic : IsMonic f) (es : List Factor) (g : List ℤ) (search : IsSearch (IsCandidate k) f es g) where
  all_divide : (ds : List Factor) → ((c : Factor) → IsAmong c ds → Divides c f) → AllByRecursion (λ e. Divides e f) ds
  all_divide [] h = tt
  all_divide (d ∷ ds) h = (h d (inl refl), all_divide ds (λ c a. h c (inr a)))

  pub found_factors : AreFactors k f es
  found_factors = record {
    ordered = search.ordered;
    candidates = search.tried;
    divide = all_divide es (among_divides (IsCandidate k) (candidate_irreducible k) f monic es g search);
    all = search_all (IsCandidate k) (candidate_irreducible k) f monic es g search;
  }

  above : (s t : ℤ) → (pos 4 *ℤ t) <ℤ (s *ℤ s) → pos 0 <ℤ discriminant s t
  above s t h = go (s *ℤ s) h
    where
      go : (z : ℤ) → (pos 4 *ℤ t) <ℤ z → pos 0 <ℤ (z +ℤ neg_ℤ (pos 4 *ℤ t))
      go z h = omega (arith, ints, h)

  real_factor : IsSimple f → k ≤ 4095 → (c : Factor) → IsCandidate k c → Divides c f → IsReal c
  real_factor simple small (linear r) h d = omega (arith, h.1, small)
  real_factor simple small (quadratic s t) h d = (
    h.0,
    (omega (arith, h.1.0, small), omega (arith, h.1.1, mul-le k k 4095 4095 small small)),
    above s t (simple.real s t h.0 d),
  )

  pub found_real : IsSimple f → k ≤ 4095 → AllByRecursion IsReal es
  found_real simple small = go es search.tried found_factors.divide
    where
      go : (ds : List Factor) → AllByRecursion (IsCandidate k) ds → AllByRecursion (λ e. Divides e f) ds → AllByRecursion IsReal ds
      go [] h d = tt
      go (c ∷ ds) h d = (real_factor simple small c h.0 d.0, go ds h.1 d.1)
