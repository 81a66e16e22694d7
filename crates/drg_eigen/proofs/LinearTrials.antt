-- The search among the x - r with r from k down to -k.
use Rattle.std.proofs.Common.{◌≡◌, ℕ, ◌≤◌, ap, sym, subst, arith, ℤ, pos, ◌⊎◌, inl, inr}
use Rattle.std.specs.Prelude.{◌-ℤ◌, neg_ℤ, ◌<ℤ◌, ◌≤ℤ◌, unsigned_abs}
use Rattle.std.specs.Ordering.{int_cmp, MatchOrdering}
use Rattle.std.specs.Cmp.{int_ranks}
use Rattle.std.specs.declared.cmp.Ordering.{Ordering}
use Rattle.std.specs.declared.cmp.Ordering.TheVariants.{Less, Equal, Greater}
use Rattle.std.proofs.lemmas.Int.{ints}
use Rattle.drg_eigen.specs.Factor.{Factor, linear, quadratic}
use Rattle.drg_eigen.specs.Order.{ComesBefore}
use Rattle.drg_eigen.specs.Candidates.{IsLinearCandidate}
use Rattle.drg_eigen.specs.Search.{IsSearchFault}
use Rattle.drg_eigen.specs.Found.{HasTried, IsOne, IsAnything}
use Rattle.drg_eigen.specs.declared.search.Search.{Search}
use Rattle.drg_eigen.specs.declared.fault.EigenFault.{EigenFault}
use Rattle.drg_eigen.proofs.FallingNumbers.{next_or_above}
use Rattle.drg_eigen.proofs.Searches.{IsEither}
use Rattle.drg_eigen.proofs.Trials.{nothing_tried, tried_joined, fault_joined, tried_wider, fault_extended}

-- the x - r with r from k down to above low
abbrev pub IsFrom : ℕ → ℤ → Factor → Type 0
IsFrom k low (linear r) = (unsigned_abs r ≤ k) × (low <ℤ r)
IsFrom k low (quadratic s t) = ⊥

pub linear_start : (k : ℕ) (low : ℤ) (a : Search) → pos k ≤ℤ low → HasTried (IsFrom k low) IsAnything a a
linear_start k low a h = tried_wider (λ c. ⊥) (IsFrom k low) (λ c f. absurd f) IsAnything IsAnything a (λ c g. absurd (none_from c g)) (λ c f m. tt) a (nothing_tried IsAnything a)
  where
    none_from : (c : Factor) → ¬ IsFrom k low c
    none_from (linear r) g = (let p : unsigned_abs r ≤ k = g.0 in let q : low <ℤ r = g.1 in omega (arith, ints))
    none_from (quadratic s t) g = g

module _ (k : ℕ) (low : ℤ) (small : unsigned_abs low ≤ k) (a b : Search) (done : HasTried (IsFrom k low) IsAnything a b) where
  abbrev IsHere : Factor → Type 0
  IsHere = IsOne (linear low)

  before_here : (c e : Factor) → IsFrom k low c → IsHere e → ComesBefore c e
  before_here (linear r) e h same = subst (ComesBefore (linear r)) (sym same) h.1
  before_here (quadratic s t) e h same = absurd h

  pub linear_tried : (next : ℤ) → next ≡ low -ℤ pos 1 → (c : Search) → HasTried IsHere IsAnything b c → HasTried (IsFrom k next) IsAnything a c
  linear_tried next e c one =
      tried_wider (IsEither (IsFrom k low) IsHere) (IsFrom k next) inside IsAnything IsAnything a (λ d h. inl (back d h)) (λ d p m. tt) c
      (tried_joined (IsFrom k low) IsHere IsAnything before_here a b done c one)
    where
      own : next <ℤ low
      own = omega (arith, ints)

      further : (r : ℤ) → low <ℤ r → next <ℤ r
      further r h = omega (arith, ints)

      inside : (d : Factor) → IsEither (IsFrom k low) IsHere d → IsFrom k next d
      inside (linear r) (inl h) = (h.0, further r h.1)
      inside (quadratic s t) (inl h) = h
      inside d (inr same) = subst (IsFrom k next) (sym same) (small, own)

      back : (d : Factor) → IsFrom k next d → IsEither (IsFrom k low) IsHere d
      back (linear r) h = go (next_or_above low next r e h.1)
        where
          go : (r ≡ low) ⊎ (low <ℤ r) → IsEither (IsFrom k low) IsHere (linear r)
          go (inl same) = inr (ap linear same)
          go (inr above) = inl (h.0, above)
      back (quadratic s t) h = absurd h

  pub linear_fault : (e : EigenFault) → IsSearchFault IsHere IsAnything b.left e → IsSearchFault (IsLinearCandidate k) IsAnything a.left e
  linear_fault e wide =
      fault_extended (IsEither (IsFrom k low) IsHere) (IsLinearCandidate k) inside later IsAnything a.left e
      (fault_joined (IsFrom k low) IsHere IsAnything before_here a b done e wide)
    where
      inside : (d : Factor) → IsEither (IsFrom k low) IsHere d → IsLinearCandidate k d
      inside (linear r) (inl h) = (tt, h.0)
      inside (quadratic s t) (inl h) = h
      inside d (inr same) = subst (IsLinearCandidate k) (sym same) (tt, small)

      behind : (r : ℤ) → r <ℤ low → (c : Factor) → IsEither (IsFrom k low) IsHere c → ComesBefore c (linear r)
      behind r h (linear u) (inl g) = (let p : low <ℤ u = g.1 in omega (arith, ints))
      behind r h (quadratic s t) (inl g) = absurd g
      behind r h c (inr same) = subst (λ (x : Factor). ComesBefore x (linear r)) (sym same) h

      later : (d : Factor) → IsLinearCandidate k d → IsEither (IsFrom k low) IsHere d ⊎ ((c : Factor) → IsEither (IsFrom k low) IsHere c → ComesBefore c d)
      later (linear r) h = go (int_cmp low r) (int_ranks low r)
        where
          go : (o : Ordering) → MatchOrdering o (low <ℤ r) (low ≡ r) (r <ℤ low)
              → IsEither (IsFrom k low) IsHere (linear r) ⊎ ((c : Factor) → IsEither (IsFrom k low) IsHere c → ComesBefore c (linear r))
          go Less above = inl (inl (h.1, above))
          go Equal same = inl (inr (ap linear (sym same)))
          go Greater below = inr (behind r below)
      later (quadratic s t) h = absurd h

-- at the end all x - r with |r| ≤ k are tried
pub linear_end : (k : ℕ) (low : ℤ) → low ≡ neg_ℤ (pos k) -ℤ pos 1 → (a b : Search) → HasTried (IsFrom k low) IsAnything a b → HasTried (IsLinearCandidate k) IsAnything a b
linear_end k low e a b done = tried_wider (IsFrom k low) (IsLinearCandidate k) inside IsAnything IsAnything a (λ d h. inl (back d h)) (λ d p m. tt) b done
  where
    inside : (d : Factor) → IsFrom k low d → IsLinearCandidate k d
    inside (linear r) h = (tt, h.0)
    inside (quadratic s t) h = h

    above_end : (r : ℤ) → unsigned_abs r ≤ k → low <ℤ r
    above_end r h = omega (arith, ints)

    back : (d : Factor) → IsLinearCandidate k d → IsFrom k low d
    back (linear r) h = (h.1, above_end r h.1)
    back (quadratic s t) h = h
