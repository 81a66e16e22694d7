-- The sum of the multiplicities m_h with q^h_ij not 0, one h after the other.
use Rattle.std.proofs.Common.{◌≡◌, ℕ, suc, ◌≤◌, List, [], ◌∷◌, ◌++◌, length, map, true, false, refl, ap, sym, ◌∙◌, subst, arith, length-append}
use Rattle.std.specs.Prelude.{Option, Some, None}
use Rattle.std.proofs.lemmas.Bool.{false≢true}
use Rattle.std.proofs.lemmas.List.{map_push, map-append}
use Rattle.drg_fraction.specs.Operations.{Operations}
use Rattle.drg_fraction.specs.Field.{sum_of, sums_fit}
use Rattle.drg_bounds.specs.AbsoluteBound.{BoundValues, AreNonvanishing}
use Rattle.drg_bounds.specs.Totals.{AreNonvanishingBelow, SumFits, IsTotalBelow, IsTotal}
use Rattle.drg_bounds.proofs.Segments.{IsSegment, beginning, one_segment, segment_none, segment_skip, segment_push}
use Rattle.drg_bounds.proofs.RunningSums.{fits_beginning, fits_last, fits_more, sum_more}

module _ {V : Type 0} (o : Operations V) (b : BoundValues V) (i j : ℕ) where
  abbrev Some_at : ℕ → Type 0
  Some_at h = ¬ (b.q h i j ≡ o.nil)

  segment_of_below : (n : ℕ) (hs : List ℕ) → AreNonvanishingBelow o b i j n hs → IsSegment Some_at 0 n hs
  segment_of_below n hs a = record {
    members = λ h. (λ c. (let m = (a.members h).0 c in (omega arith, m.0, m.1)), λ p. (a.members h).1 (p.1, p.2));
    ascending = a.ascending;
  }

  below_of_segment : (n : ℕ) (hs : List ℕ) → IsSegment Some_at 0 n hs → AreNonvanishingBelow o b i j n hs
  below_of_segment n hs s = record {
    members = λ h. (λ c. (let m = (s.members h).0 c in (m.1, m.2)), λ p. (s.members h).1 (omega arith, p.0, p.1));
    ascending = s.ascending;
  }

  segment_of_all : (hs : List ℕ) → AreNonvanishing o b i j hs → IsSegment Some_at 0 (suc b.d) hs
  segment_of_all hs a = record {
    members = λ h. (
      λ c. (let m = (a.members h).0 c in let high = m.0 in (omega arith, omega arith, m.1)),
      λ p. (let high = p.1 in (a.members h).1 (omega arith, p.2)),
    );
    ascending = a.ascending;
  }

  all_of_segment : (hs : List ℕ) → IsSegment Some_at 0 (suc b.d) hs → AreNonvanishing o b i j hs
  all_of_segment hs s = record {
    members = λ h. (
      λ c. (let m = (s.members h).0 c in let high = m.1 in (omega arith, m.2)),
      λ p. (let high = p.0 in (s.members h).1 (omega arith, omega arith, p.1)),
    );
    ascending = s.ascending;
  }

  -- there is one list of all
  pub one_list : (hs full : List ℕ) → AreNonvanishing o b i j hs → AreNonvanishing o b i j full → full ≡ hs
  one_list hs full s t = one_segment Some_at hs full 0 (suc b.d) (segment_of_all hs s) (segment_of_all full t)

  below_none : AreNonvanishingBelow o b i j 0 []
  below_none = below_of_segment 0 [] (segment_none Some_at 0)

  below_skip : (n : ℕ) (hs : List ℕ) → b.q n i j ≡ o.nil → AreNonvanishingBelow o b i j n hs → AreNonvanishingBelow o b i j (suc n) hs
  below_skip n hs e a = below_of_segment (suc n) hs (segment_skip Some_at 0 n hs (segment_of_below n hs a) (λ f. f e))

  below_push : (n : ℕ) (hs : List ℕ) → Some_at n → AreNonvanishingBelow o b i j n hs → AreNonvanishingBelow o b i j (suc n) (hs ++ n ∷ [])
  below_push n hs f a = below_of_segment (suc n) (hs ++ n ∷ []) (segment_push Some_at 0 n hs (omega arith) (segment_of_below n hs a) f)

  below_all : (n : ℕ) (hs : List ℕ) → n ≡ suc b.d → AreNonvanishingBelow o b i j n hs → AreNonvanishing o b i j hs
  below_all n hs e a = all_of_segment hs (subst (λ (m : ℕ). IsSegment Some_at 0 m hs) e (segment_of_below n hs a))

  -- where the sum of all fits, the sums so far do
  sums_so_far : (n : ℕ) (hs : List ℕ) → n ≤ suc b.d → AreNonvanishingBelow o b i j n hs → SumFits o b i j → sums_fit o (map b.m hs) ≡ true
  sums_so_far n hs l a s =
      let p = beginning Some_at hs s.indices 0 n (suc b.d) l (segment_of_below n hs a) (segment_of_all s.indices s.are) in
      fits_beginning o (map b.m hs) (map b.m p.0)
      (subst (λ (xs : List V). sums_fit o xs ≡ true) (ap (map b.m) p.1 ∙ map-append b.m hs p.0) s.sum)

module _ {A V : Type 0} (value : A → V) (root_of : A → ℕ) (operations : ℕ → Operations V) (root : ℕ) (b : BoundValues V) (i j : ℕ) where
  abbrev o : Operations V
  o = operations root

  abbrev Below : ℕ → Option A → Type 0
  Below = IsTotalBelow value root_of operations root b i j

  pub total_none : Below 0 None
  total_none = record { indices = []; are = below_none o b i j; fits = refl; total = refl }

  pub total_skip : (n : ℕ) (t : Option A) → b.q n i j ≡ o.nil → Below n t → Below (suc n) t
  total_skip n t e s = record { indices = s.indices; are = below_skip o b i j n s.indices e s.are; fits = s.fits; total = s.total }

  module _ (n : ℕ) (some : ¬ (b.q n i j ≡ o.nil)) where
    longer : (s : List ℕ) → map b.m (s ++ n ∷ []) ≡ map b.m s ++ b.m n ∷ []
    longer s = map_push b.m s n

    pub total_first : (x : A) → value x ≡ b.m n → root_of x ≡ root → Below n None → Below (suc n) (Some x)
    total_first x e r s = record {
      indices = s.indices ++ n ∷ [];
      are = below_push o b i j n s.indices some s.are;
      fits = subst (λ (xs : List V). sums_fit o xs ≡ true) (sym alone) refl;
      total = (
        subst (λ (xs : List V). 1 ≤ length xs) (sym alone) (omega arith),
        e ∙ ap (sum_of o) (sym alone),
        r,
      );
    }
      where
        alone : map b.m (s.indices ++ n ∷ []) ≡ b.m n ∷ []
        alone = longer s.indices ∙ ap (λ (xs : List V). xs ++ b.m n ∷ []) s.total

    pub total_more : (t x : A) → o.sum_fits (value t) (b.m n) ≡ true → value x ≡ o.plus (value t) (b.m n) → root_of x ≡ root → Below n (Some t) → Below (suc n) (Some x)
    total_more t x f e r s = record {
      indices = s.indices ++ n ∷ [];
      are = below_push o b i j n s.indices some s.are;
      fits = subst (λ (xs : List V). sums_fit o xs ≡ true) (sym (longer s.indices))
          (fits_more o (map b.m s.indices) (b.m n) s.total.0 s.fits (subst (λ (v : V). o.sum_fits v (b.m n) ≡ true) s.total.1 f));
      total = (
        subst (λ (xs : List V). 1 ≤ length xs) (sym (longer s.indices)) (let k = length-append (map b.m s.indices) (b.m n ∷ []) in omega arith),
        e ∙ ap (λ (v : V). o.plus v (b.m n)) s.total.1 ∙ sym (sum_more o (map b.m s.indices) (b.m n) s.total.0) ∙ ap (sum_of o) (sym (longer s.indices)),
        r,
      );
    }

    -- where the next sum doesn't fit, the sum of all doesn't
    pub total_wide : (t : A) → n ≤ b.d → o.sum_fits (value t) (b.m n) ≡ false → Below n (Some t) → ¬ (SumFits o b i j)
    total_wide t l f s whole =
        let fits = sums_so_far o b i j (suc n) (s.indices ++ n ∷ []) (omega arith) (below_push o b i j n s.indices some s.are) whole in
        let last = fits_last o (map b.m s.indices) (b.m n) s.total.0 (subst (λ (xs : List V). sums_fit o xs ≡ true) (longer s.indices) fits) in
        false≢true (sym f ∙ subst (λ (v : V). o.sum_fits v (b.m n) ≡ true) (sym s.total.1) last)

  pub total_all : (n : ℕ) (t : A) → n ≡ suc b.d → Below n (Some t) → IsTotal value operations root b i j t
  total_all n t e s = record {
    indices = s.indices;
    are = below_all o b i j n s.indices e s.are;
    fits = s.fits;
    value_is = s.total.1;
  }

  pub total_root : (n : ℕ) (t : A) → Below n (Some t) → root_of t ≡ root
  total_root n t s = s.total.2

  pub total_nothing : (n : ℕ) (t : A) → n ≡ suc b.d → value t ≡ o.nil → Below n None → IsTotal value operations root b i j t
  total_nothing n t e v s = record {
    indices = s.indices;
    are = below_all o b i j n s.indices e s.are;
    fits = s.fits;
    value_is = v ∙ ap (sum_of o) (sym s.total);
  }
