-- What the code's search has tried: one divisor, two sets one after the other, and a set with factors that don't divide.
use Rattle.std.proofs.Common.{◌≡◌, refl, ap, sym, ◌∙◌, append_assoc, ℤ, List, [], ◌∷◌, ◌++◌, ◌⊎◌, inl, inr}
use Rattle.std.proofs.lemmas.List.{append-nil, map-append}
use Rattle.drg_eigen.specs.Factor.{Factor, Divides, times_factor}
use Rattle.drg_eigen.specs.Division.{DivisionFits, IsDivisionFault}
use Rattle.drg_eigen.specs.Order.{ComesBefore}
use Rattle.drg_eigen.specs.Simple.{IsSimple}
use Rattle.drg_eigen.specs.Search.{IsSearchFault}
use Rattle.drg_eigen.specs.Step.{factor_of, factors_of}
use Rattle.drg_eigen.specs.Found.{HasTried, IsOne, IsAnything}
use Rattle.drg_eigen.specs.declared.divisor.Divisor.{Divisor}
use Rattle.drg_eigen.specs.declared.search.Search.{Search}
use Rattle.drg_eigen.specs.declared.fault.EigenFault.{EigenFault}
use Rattle.drg_eigen.specs.declared.fault.EigenFault.TheVariants.{Wide, Memory}
use Rattle.drg_eigen.proofs.Searches.{one_passed, one_taken, one_fits, one_wide, once_taken, simple_quotient, IsEither, wider, wider_fits, wider_wide, joined, joined_fits, wide_first, wide_second}

pub nothing_tried : (A : Factor → Type 0) (s : Search) → HasTried (λ c. ⊥) A s s
nothing_tried A s = record {
  more = [];
  found = sym (append-nil (factors_of s.found.items));
  search = record { ordered = tt; tried = tt; quotient = refl; none_left = λ c t. absurd t };
  fits = λ c t. absurd t;
}

-- what is left is simple again
pub still_simple : (T A : Factor → Type 0) (a b : Search) → HasTried T A a b → IsSimple a.left → IsSimple b.left
still_simple T A a b h simple = simple_quotient h.more b.left a.left h.search.quotient simple

module _ (P Q A : Factor → Type 0) (apart : (c e : Factor) → P c → Q e → ComesBefore c e) (a b : Search) (first : HasTried P A a b) where
  pub tried_joined : (c : Search) → HasTried Q A b c → HasTried (IsEither P Q) A a c
  tried_joined c second = record {
    more = first.more ++ second.more;
    found = second.found ∙ ap (λ l. l ++ second.more) first.found ∙ append_assoc (factors_of a.found.items) first.more second.more;
    search = joined P Q apart a.left first.more b.left first.search second.more c.left second.search;
    fits = joined_fits P Q apart A a.left first.more b.left first.search first.fits second.fits;
  }

  pub fault_joined : (e : EigenFault) → IsSearchFault Q A b.left e → IsSearchFault (IsEither P Q) A a.left e
  fault_joined (Wide node) h = (h.0, h.1, wide_second P Q apart A a.left first.more b.left first.search first.fits h.0 h.2)
  fault_joined Memory h = tt

module _ (P Q : Factor → Type 0) (inside : (c : Factor) → P c → Q c) (A B : Factor → Type 0) (a : Search)
    (back : (c : Factor) → Q c → P c ⊎ ((¬ Divides c a.left) × (¬ B c))) (less : (c : Factor) → P c → B c → A c) where
  pub tried_wider : (b : Search) → HasTried P A a b → HasTried Q B a b
  tried_wider b h = record {
    more = h.more;
    found = h.found;
    search = wider P Q inside a.left h.more b.left (λ c q. go c (back c q)) h.search;
    fits = wider_fits P Q inside a.left A B back less h.fits;
  }
    where
      go : (c : Factor) → P c ⊎ ((¬ Divides c a.left) × (¬ B c)) → P c ⊎ (¬ Divides c a.left)
      go c (inl p) = inl p
      go c (inr n) = inr n.0

  pub fault_wider : (e : EigenFault) → ((c : Factor) → P c → A c → B c) → IsSearchFault P A a.left e → IsSearchFault Q B a.left e
  fault_wider (Wide node) more h = (h.0, h.1, wider_wide P Q inside a.left A B back less h.0 more h.2)
  fault_wider Memory more h = tt

-- a fault in a set is one in each larger set whose other factors come later
module _ (P R : Factor → Type 0) (inside : (c : Factor) → P c → R c) (later : (e : Factor) → R e → P e ⊎ ((c : Factor) → P c → ComesBefore c e)) where
  abbrev IsLater : Factor → Type 0
  IsLater e = R e × ((c : Factor) → P c → ComesBefore c e)

  both_inside : (e : Factor) → IsEither P IsLater e → R e
  both_inside e (inl p) = inside e p
  both_inside e (inr q) = q.0

  in_both : (e : Factor) → R e → IsEither P IsLater e
  in_both e r = go (later e r)
    where
      go : P e ⊎ ((c : Factor) → P c → ComesBefore c e) → IsEither P IsLater e
      go (inl p) = inl p
      go (inr q) = inr (r, q)

  pub fault_extended : (A : Factor → Type 0) (f : List ℤ) (e : EigenFault) → IsSearchFault P A f e → IsSearchFault R A f e
  fault_extended A f (Wide node) h = (
    h.0,
    h.1,
    wider_wide (IsEither P IsLater) R both_inside f A A (λ c r. inl (in_both c r)) (λ c p a. a) h.0 (λ c p a. a)
        (wide_first P IsLater (λ c e p q. q.1 c p) A f h.0 h.2),
  )
  fault_extended A f Memory h = tt

-- fewer factors are asked for
module _ (P A B : Factor → Type 0) (a : Search) (less : (c : Factor) → P c → B c → A c) where
  pub fewer_asked : (b : Search) → HasTried P A a b → HasTried P B a b
  fewer_asked b h = tried_wider P P (λ c p. p) A B a (λ c p. inl p) less b h

  pub fault_asked : (e : EigenFault) → ((c : Factor) → P c → A c → B c) → IsSearchFault P A a.left e → IsSearchFault P B a.left e
  fault_asked e more h = fault_wider P P (λ c p. p) A B a (λ c p. inl p) less e more h

-- ---- one divisor
module _ (d : Divisor) (a : Search) (fits : DivisionFits (factor_of d) a.left) where
  pub divisor_passed : (¬ Divides (factor_of d) a.left) → HasTried (IsOne (factor_of d)) IsAnything a a
  divisor_passed n = record {
    more = [];
    found = sym (append-nil (factors_of a.found.items));
    search = one_passed (factor_of d) a.left n;
    fits = one_fits (factor_of d) a.left IsAnything fits;
  }

  pub divisor_taken : (b : Search) → IsSimple a.left → times_factor (factor_of d) b.left ≡ a.left → b.found.items ≡ a.found.items ++ d ∷ []
      → HasTried (IsOne (factor_of d)) IsAnything a b
  divisor_taken b simple e found = record {
    more = factor_of d ∷ [];
    found = ap factors_of found ∙ map-append factor_of a.found.items (d ∷ []);
    search = one_taken (factor_of d) a.left b.left e (once_taken (factor_of d) b.left a.left simple e);
    fits = one_fits (factor_of d) a.left IsAnything fits;
  }

pub divisor_wide : (c : Factor) (f : List ℤ) (e : EigenFault) → IsDivisionFault c f e → IsSearchFault (IsOne c) IsAnything f e
divisor_wide c f (Wide node) h = (c, h.0, one_wide c f IsAnything tt h.1)
divisor_wide c f Memory h = tt
