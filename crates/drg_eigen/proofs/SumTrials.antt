-- The search among the x² - s x + t with one s, one t of a falling list after the other.
use Rattle.std.proofs.Common.{◌≡◌, ℕ, ◌+◌, ◌<◌, refl, ap, ap₂, sym, ◌∙◌, subst, append_assoc, ℤ, pos, List, [], ◌∷◌, ◌++◌, length, take, drop, get_or, ◌⊎◌, inl, inr}
use Rattle.std.specs.Prelude.{◌<ℤ◌, Contains}
use Rattle.std.proofs.lemmas.List.{take_more, drop_more, take-append-drop}
use Rattle.std.proofs.lemmas.List.Elements.{Contains-append_left, Contains-append_right, Contains-append_cases, Contains-push, Contains-push_cases}
use Rattle.drg_eigen.specs.Factor.{Factor, linear, quadratic, Divides, IsIrreducible}
use Rattle.drg_eigen.specs.Order.{ComesBefore}
use Rattle.drg_eigen.specs.Search.{IsSearchFault}
use Rattle.drg_eigen.specs.Products.{AreFalling}
use Rattle.drg_eigen.specs.Values.{MayPass}
use Rattle.drg_eigen.specs.Found.{HasTried, IsOne, IsAnything, IsListed}
use Rattle.drg_eigen.specs.declared.search.Search.{Search}
use Rattle.drg_eigen.specs.declared.values.Values.{Values}
use Rattle.drg_eigen.specs.declared.fault.EigenFault.{EigenFault}
use Rattle.drg_eigen.proofs.FallingNumbers.{falls_apart}
use Rattle.drg_eigen.proofs.Members.{in_none, in_cons}
use Rattle.drg_eigen.proofs.Searches.{IsEither}
use Rattle.drg_eigen.proofs.Trials.{nothing_tried, tried_joined, fault_joined, tried_wider, fewer_asked, fault_asked, fault_extended}

module _ (s : ℤ) (ts : List ℤ) (v : Values) (i : ℕ) (t : ℤ) (inside : i < length ts) (is : get_or ts i (pos 0) ≡ t) (falling : AreFalling ts) where
  abbrev IsHere : Factor → Type 0
  IsHere = IsOne (quadratic s t)

  abbrev IsAbove : Factor → Type 0
  IsAbove = IsListed s (take i ts)

  abbrev IsReached : Factor → Type 0
  IsReached = IsListed s (take (i + 1) ts)

  more : take (i + 1) ts ≡ take i ts ++ t ∷ []
  more = take_more ts i (pos 0) inside ∙ ap (λ z. take i ts ++ z ∷ []) is

  rest : drop i ts ≡ t ∷ drop (i + 1) ts
  rest = drop_more ts i (pos 0) inside ∙ ap (λ z. z ∷ drop (i + 1) ts) is

  split : take i ts ++ t ∷ drop (i + 1) ts ≡ ts
  split = ap (λ l. take i ts ++ l) (sym rest) ∙ take-append-drop i ts

  parts_fall : AreFalling (take i ts ++ t ∷ drop (i + 1) ts)
  parts_fall = subst AreFalling (sym split) falling

  at_head : Contains (t ∷ drop (i + 1) ts) t
  at_head = Contains-append_left (t ∷ []) (drop (i + 1) ts) t (Contains-push [] t)

  -- ---- the order
  before_here : (c e : Factor) → IsAbove c → IsHere e → ComesBefore c e
  before_here (linear r) e h same = absurd h
  before_here (quadratic u w) e h same = subst (ComesBefore (quadratic u w)) (sym same) (inr (h.0, falls_apart (take i ts) (t ∷ drop (i + 1) ts) parts_fall w t h.1 at_head))

  -- ---- the sets
  more_listed : (w : ℤ) → Contains (take i ts) w → Contains (take (i + 1) ts) w
  more_listed w h = subst (λ l. Contains l w) (sym more) (Contains-append_left (take i ts) (t ∷ []) w h)

  here_listed : Contains (take (i + 1) ts) t
  here_listed = subst (λ l. Contains l t) (sym more) (Contains-push (take i ts) t)

  listed_cases : (w : ℤ) → Contains (take (i + 1) ts) w → Contains (take i ts) w ⊎ (t ≡ w)
  listed_cases w h = Contains-push_cases (take i ts) t w (subst (λ l. Contains l w) more h)

  above_reached : (c : Factor) → IsAbove c → IsReached c
  above_reached (linear r) h = h
  above_reached (quadratic u w) h = (h.0, more_listed w h.1, h.2)

  reached_cases : (c : Factor) → IsReached c → IsAbove c ⊎ (IsHere c × IsIrreducible (quadratic s t))
  reached_cases (linear r) h = absurd h
  reached_cases (quadratic u w) h = go (listed_cases w h.1)
    where
      go : Contains (take i ts) w ⊎ (t ≡ w) → IsAbove (quadratic u w) ⊎ (IsHere (quadratic u w) × IsIrreducible (quadratic s t))
      go (inl k) = inl (h.0, k, h.2)
      go (inr e) =
          let same : quadratic u w ≡ quadratic s t = ap₂ quadratic h.0 (sym e) in
          inr (same, subst IsIrreducible same h.2)

  module _ (a b : Search) (done : HasTried IsAbove (MayPass v) a b) where
    -- x² - s x + t isn't asked for, and doesn't divide
    pub sum_passed : (¬ (IsIrreducible (quadratic s t) × MayPass v (quadratic s t))) → (Divides (quadratic s t) a.left → IsIrreducible (quadratic s t) → MayPass v (quadratic s t))
        → HasTried IsReached (MayPass v) a b
    sum_passed not_asked allowed = tried_wider IsAbove IsReached above_reached (MayPass v) (MayPass v) a back (λ c p m. m) b done
      where
        go : (c : Factor) → IsAbove c ⊎ (IsHere c × IsIrreducible (quadratic s t)) → IsAbove c ⊎ ((¬ Divides c a.left) × (¬ MayPass v c))
        go c (inl p) = inl p
        go c (inr q) = inr (
          λ d. not_asked (q.1, allowed (subst (λ (x : Factor). Divides x a.left) q.0 d) q.1),
          λ m. not_asked (q.1, subst (MayPass v) q.0 m),
        )

        back : (c : Factor) → IsReached c → IsAbove c ⊎ ((¬ Divides c a.left) × (¬ MayPass v c))
        back c r = go c (reached_cases c r)

    -- x² - s x + t is tried
    module _ (free : IsIrreducible (quadratic s t)) where
      both_reached : (c : Factor) → IsEither IsAbove IsHere c → IsReached c
      both_reached c (inl p) = above_reached c p
      both_reached c (inr same) = subst IsReached (sym same) (refl, here_listed, free)

      reached_both : (c : Factor) → IsReached c → IsEither IsAbove IsHere c
      reached_both c r = go (reached_cases c r)
        where
          go : IsAbove c ⊎ (IsHere c × IsIrreducible (quadratic s t)) → IsEither IsAbove IsHere c
          go (inl p) = inl p
          go (inr q) = inr q.0

      pub sum_tried : (c : Search) → HasTried IsHere IsAnything b c → HasTried IsReached (MayPass v) a c
      sum_tried c one =
          tried_wider (IsEither IsAbove IsHere) IsReached both_reached (MayPass v) (MayPass v) a (λ e r. inl (reached_both e r)) (λ e p m. m) c
          (tried_joined IsAbove IsHere (MayPass v) before_here a b done c (fewer_asked IsHere IsAnything (MayPass v) b (λ e p m. tt) c one))

      whole_cases : (w : ℤ) → Contains ts w → Contains (take i ts) w ⊎ (Contains (t ∷ drop (i + 1) ts) w)
      whole_cases w h = Contains-append_cases (take i ts) (t ∷ drop (i + 1) ts) w (subst (λ l. Contains l w) (sym split) h)

      before_later : (w : ℤ) → Contains (drop (i + 1) ts) w → (c : Factor) → IsEither IsAbove IsHere c → ComesBefore c (quadratic s w)
      before_later w k (linear r) (inl h) = absurd h
      before_later w k (quadratic u x) (inl h) =
          inr (h.0, falls_apart (take i ts) (t ∷ drop (i + 1) ts) parts_fall x w h.1 (Contains-append_right (t ∷ []) (drop (i + 1) ts) w k))
      before_later w k c (inr same) = subst (λ (x : Factor). ComesBefore x (quadratic s w)) (sym same) (inr (refl, below))
        where
          below : w <ℤ t
          below = falls_apart (take i ts ++ t ∷ []) (drop (i + 1) ts) (subst AreFalling (sym (append_assoc (take i ts) (t ∷ []) (drop (i + 1) ts))) parts_fall) t w (Contains-push (take i ts) t) k

      later : (e : Factor) → IsListed s ts e → IsEither IsAbove IsHere e ⊎ ((c : Factor) → IsEither IsAbove IsHere c → ComesBefore c e)
      later (linear r) h = absurd h
      later (quadratic u w) h = go (whole_cases w h.1)
        where
          behind : (t ≡ w) ⊎ Contains (drop (i + 1) ts) w → IsEither IsAbove IsHere (quadratic u w) ⊎ ((c : Factor) → IsEither IsAbove IsHere c → ComesBefore c (quadratic u w))
          behind (inl e) = inl (inr (ap₂ quadratic h.0 (sym e)))
          behind (inr k) = inr (λ c p. subst (λ (z : ℤ). ComesBefore c (quadratic z w)) (sym h.0) (before_later w k c p))

          go : Contains (take i ts) w ⊎ Contains (t ∷ drop (i + 1) ts) w → IsEither IsAbove IsHere (quadratic u w) ⊎ ((c : Factor) → IsEither IsAbove IsHere c → ComesBefore c (quadratic u w))
          go (inl k) = inl (inl (h.0, k, h.2))
          go (inr k) = behind (in_cons t (drop (i + 1) ts) w k)

      listed : (c : Factor) → IsEither IsAbove IsHere c → IsListed s ts c
      listed (linear r) (inl h) = h
      listed (quadratic u w) (inl h) = (h.0, subst (λ l. Contains l w) (take-append-drop i ts) (Contains-append_left (take i ts) (drop i ts) w h.1), h.2)
      listed c (inr same) = subst (IsListed s ts) (sym same) (refl, subst (λ l. Contains l t) split (Contains-append_right (take i ts) (t ∷ drop (i + 1) ts) t at_head), free)

      pub sum_fault : MayPass v (quadratic s t) → (e : EigenFault) → IsSearchFault IsHere IsAnything b.left e → IsSearchFault (IsListed s ts) (MayPass v) a.left e
      sum_fault may e wide =
          fault_extended (IsEither IsAbove IsHere) (IsListed s ts) listed later (MayPass v) a.left e
          (fault_joined IsAbove IsHere (MayPass v) before_here a b done e
          (fault_asked IsHere IsAnything (MayPass v) b (λ c p m. tt) e (λ c same x. subst (MayPass v) (sym same) may) wide))

-- at the start none is listed
pub sum_start : (s : ℤ) (v : Values) (a : Search) → HasTried (IsListed s []) (MayPass v) a a
sum_start s v a = tried_wider (λ c. ⊥) (IsListed s []) (λ c f. absurd f) (MayPass v) (MayPass v) a (λ c h. absurd (none_listed c h)) (λ c f m. absurd f) a (nothing_tried (MayPass v) a)
  where
    none_listed : (c : Factor) → ¬ IsListed s [] c
    none_listed (linear r) h = h
    none_listed (quadratic u w) h = in_none w h.1
