-- The first division of a search that doesn't fit is one.
use Rattle.std.proofs.Common.{◌≡◌, ℕ, refl, ap, ap₂, sym, ◌∙◌, subst, ℤ, List, ◌⊎◌, inl, inr}
use Rattle.std.specs.Prelude.{◌<ℤ◌}
use Rattle.std.specs.Ordering.{int_cmp, MatchOrdering}
use Rattle.std.specs.Cmp.{int_ranks}
use Rattle.std.specs.declared.cmp.Ordering.{Ordering}
use Rattle.std.specs.declared.cmp.Ordering.TheVariants.{Less, Equal, Greater}
use Rattle.drg_eigen.specs.Factor.{Factor, linear, quadratic, IsCandidate}
use Rattle.drg_eigen.specs.Division.{DivisionFits, node_of}
use Rattle.drg_eigen.specs.Monic.{IsMonic}
use Rattle.drg_eigen.specs.Order.{ComesBefore}
use Rattle.drg_eigen.specs.Search.{IsBefore, FitsAt, IsWideAt, IsFirstWideDivision}
use Rattle.drg_eigen.specs.Candidates.{IsAsked}
use Rattle.drg_eigen.specs.SplitLaws.{OneSplitFault, NoSplitFaultWhereAllFit, FewerDivisions}
use Rattle.drg_eigen.specs.declared.fault.EigenFault.TheVariants.{Wide, Memory}
use Rattle.drg_eigen.proofs.OneSearch.{one_rest}

-- ---- two factors are in order, or they are one
pub either_order : (c e : Factor) → ComesBefore c e ⊎ ((c ≡ e) ⊎ ComesBefore e c)
either_order (linear r) (linear v) = go (int_cmp r v) (int_ranks r v)
  where
    go : (o : Ordering) → MatchOrdering o (r <ℤ v) (r ≡ v) (v <ℤ r) → (v <ℤ r) ⊎ ((linear r ≡ linear v) ⊎ (r <ℤ v))
    go Less h = inr (inr h)
    go Equal e = inr (inl (ap linear e))
    go Greater h = inl h
either_order (linear r) (quadratic s t) = inl tt
either_order (quadratic s t) (linear r) = inr (inr tt)
either_order (quadratic s t) (quadratic u v) = go (int_cmp s u) (int_ranks s u)
  where
    second : s ≡ u → (o : Ordering) → MatchOrdering o (t <ℤ v) (t ≡ v) (v <ℤ t)
        → ComesBefore (quadratic s t) (quadratic u v) ⊎ ((quadratic s t ≡ quadratic u v) ⊎ ComesBefore (quadratic u v) (quadratic s t))
    second e Less h = inr (inr (inr (sym e, h)))
    second e Equal k = inr (inl (ap₂ quadratic e k))
    second e Greater h = inl (inr (e, h))

    go : (o : Ordering) → MatchOrdering o (s <ℤ u) (s ≡ u) (u <ℤ s)
        → ComesBefore (quadratic s t) (quadratic u v) ⊎ ((quadratic s t ≡ quadratic u v) ⊎ ComesBefore (quadratic u v) (quadratic s t))
    go Less h = inr (inr (inl h))
    go Equal e = second e (int_cmp t v) (int_ranks t v)
    go Greater h = inl (inl h)

-- ---- a division fits, or it doesn't
module _ (k : ℕ) (f : List ℤ) (monic : IsMonic f) where
  not_both : (c : Factor) → FitsAt (IsCandidate k) f c → ¬ IsWideAt (IsCandidate k) f c
  not_both c fits wide =
      wide.2 (subst (DivisionFits c)
      (one_rest (IsBefore (IsCandidate k) c) (λ e b. b.0.0) f monic fits.1.0 wide.1.0 fits.0 wide.0 fits.1.1 wide.1.1) fits.2)

  one_first : (c e : Factor) → IsFirstWideDivision (IsCandidate k) (IsAsked k f) f c → IsFirstWideDivision (IsCandidate k) (IsAsked k f) f e → c ≡ e
  one_first c e first second = go (either_order c e)
    where
      go : ComesBefore c e ⊎ ((c ≡ e) ⊎ ComesBefore e c) → c ≡ e
      go (inl h) = absurd (not_both c (second.before c first.tried first.asked h) first.wide)
      go (inr (inl same)) = same
      go (inr (inr h)) = absurd (not_both e (first.before e second.tried second.asked h) second.wide)

pub one_split_fault : OneSplitFault
one_split_fault k f Memory b monic na nb h g = absurd (na refl)
one_split_fault k f (Wide m) Memory monic na nb h g = absurd (nb refl)
one_split_fault k f (Wide m) (Wide n) monic na nb h g = ap Wide (h.1 ∙ ap node_of (one_first k f monic h.0 g.0 h.2 g.2) ∙ sym g.1)

pub no_split_fault : NoSplitFaultWhereAllFit
no_split_fault k f Memory monic na all h = na refl
no_split_fault k f (Wide m) monic na all h = not_both k f monic h.0 (all h.0 h.2.tried h.2.asked) h.2.wide

pub fewer_divisions : FewerDivisions
fewer_divisions k f all c candidate asked = all c candidate
