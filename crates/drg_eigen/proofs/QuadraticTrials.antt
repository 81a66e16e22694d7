-- The search among the x² - s x + t, one s after the other.
use Rattle.std.proofs.Common.{◌≡◌, ◌≢◌, ℕ, ◌*◌, ◌≤◌, sym, subst, arith, ℤ, pos, List, ◌⊎◌, inl, inr}
use Rattle.std.specs.Prelude.{◌-ℤ◌, neg_ℤ, ◌<ℤ◌, ◌≤ℤ◌, unsigned_abs, Contains}
use Rattle.std.specs.Ordering.{int_cmp, MatchOrdering}
use Rattle.std.specs.Cmp.{int_ranks}
use Rattle.std.specs.declared.cmp.Ordering.{Ordering}
use Rattle.std.specs.declared.cmp.Ordering.TheVariants.{Less, Equal, Greater}
use Rattle.std.proofs.lemmas.Int.{ints}
use Rattle.std.proofs.lemmas.List.Elements.{All-contains}
use Rattle.drg_whole.specs.Division as Division
use Rattle.drg_eigen.specs.Factor.{Factor, linear, quadratic, Divides, IsCandidate, IsIrreducible, product}
use Rattle.drg_eigen.specs.Order.{ComesBefore}
use Rattle.drg_eigen.specs.Simple.{IsSimple}
use Rattle.drg_eigen.specs.Candidates.{IsQuadraticCandidate, value_at}
use Rattle.drg_eigen.specs.Search.{IsSearchFault}
use Rattle.drg_eigen.specs.Products.{AreDivisors}
use Rattle.drg_eigen.specs.Values.{AreValuesOf, MayPass}
use Rattle.drg_eigen.specs.Found.{HasTried, IsListed, MayBeFactor}
use Rattle.drg_eigen.specs.declared.search.Search.{Search}
use Rattle.drg_eigen.specs.declared.values.Values.{Values}
use Rattle.drg_eigen.specs.declared.fault.EigenFault.{EigenFault}
use Rattle.drg_eigen.proofs.FallingNumbers.{next_or_above}
use Rattle.drg_eigen.proofs.FactorValues.{zero_divides, divisor_may_divide, may_pass, passes_may_divide, told_or_not}
use Rattle.drg_eigen.proofs.Searches.{IsEither, divides_whole}
use Rattle.drg_eigen.proofs.Trials.{nothing_tried, tried_joined, fault_joined, tried_wider, fault_wider, fault_extended}

-- the candidates with this s, and those with an s above low
abbrev pub HasSum : ℕ → ℤ → Factor → Type 0
HasSum k low (linear r) = ⊥
HasSum k low (quadratic s t) = (s ≡ low) × IsCandidate k (quadratic s t)

abbrev pub HasSumAbove : ℕ → ℤ → Factor → Type 0
HasSumAbove k low (linear r) = ⊥
HasSumAbove k low (quadratic s t) = (low <ℤ s) × IsCandidate k (quadratic s t)

-- ---- the candidates with one s, of which those are listed whose t divides the constant
module _ (k : ℕ) (f : List ℤ) (simple : IsSimple f) (v : Values) (told : AreValuesOf f v) (ts : List ℤ) (divisors : AreDivisors (value_at (pos 0) f) (k * k) ts) where
  -- what divides a quotient of f passes
  pub allowed : (es : List Factor) (g : List ℤ) → product es g ≡ f → (s t : ℤ) → Divides (quadratic s t) g → IsIrreducible (quadratic s t) → MayPass v (quadratic s t)
  allowed es g e s t d free = may_pass f v told s t (divisor_may_divide s t f (divides_whole (quadratic s t) es g f e d) simple free)

  module _ (s : ℤ) (small : unsigned_abs s ≤ 2 * k) where
    abbrev IsDivisor : ℤ → Type 0
    IsDivisor t = Division.Divides t (value_at (pos 0) f) × (t ≢ pos 0) × (unsigned_abs t ≤ k * k)

    listed_divides : (t : ℤ) → Contains ts t → Division.Divides t (value_at (pos 0) f)
    listed_divides t h = (All-contains IsDivisor ts t divisors.divide h).0

    listed_small : (t : ℤ) → Contains ts t → unsigned_abs t ≤ k * k
    listed_small t h = (All-contains IsDivisor ts t divisors.divide h).2

    inside : (c : Factor) → IsListed s ts c → HasSum k s c
    inside (linear r) h = h
    inside (quadratic u t) h = (h.0, (h.2, (subst (λ z. unsigned_abs z ≤ 2 * k) (sym h.0) small, listed_small t h.1)))

    less : (c : Factor) → IsListed s ts c → MayBeFactor f c → MayPass v c
    less (linear r) h m = absurd h
    less (quadratic u t) h m = may_pass f v told u t m

    more : (c : Factor) → IsListed s ts c → MayPass v c → MayBeFactor f c
    more (linear r) h m = absurd h
    more (quadratic u t) h m = passes_may_divide f v told u t (listed_divides t h.1) m

    module _ (es : List Factor) (a : Search) (quotient : product es a.left ≡ f) where
      back : (c : Factor) → HasSum k s c → IsListed s ts c ⊎ ((¬ Divides c a.left) × (¬ MayBeFactor f c))
      back (linear r) h = absurd h
      back (quadratic u t) h = go (told_or_not t (value_at (pos 0) f))
        where
          go : Division.Divides t (value_at (pos 0) f) ⊎ (¬ Division.Divides t (value_at (pos 0) f))
              → IsListed s ts (quadratic u t) ⊎ ((¬ Divides (quadratic u t) a.left) × (¬ MayBeFactor f (quadratic u t)))
          go (inl d) = inl (h.0, divisors.all t d h.1.1.1, h.1.0)
          go (inr n) = inr (λ d. n (zero_divides u t f (divides_whole (quadratic u t) es a.left f quotient d)), λ m. n m.at_zero)

      pub sum_widened : (b : Search) → HasTried (IsListed s ts) (MayPass v) a b → HasTried (HasSum k s) (MayBeFactor f) a b
      sum_widened b h = tried_wider (IsListed s ts) (HasSum k s) inside (MayPass v) (MayBeFactor f) a back less b h

      pub sum_fault_widened : (e : EigenFault) → IsSearchFault (IsListed s ts) (MayPass v) a.left e → IsSearchFault (HasSum k s) (MayBeFactor f) a.left e
      sum_fault_widened e h = fault_wider (IsListed s ts) (HasSum k s) inside (MayPass v) (MayBeFactor f) a back less e more h

-- ---- one s after the other
pub sums_start : (k : ℕ) (low : ℤ) (A : Factor → Type 0) (a : Search) → pos (2 * k) ≤ℤ low → HasTried (HasSumAbove k low) A a a
sums_start k low A a h = tried_wider (λ c. ⊥) (HasSumAbove k low) (λ c f. absurd f) A A a (λ c g. absurd (none_above c g)) (λ c f m. absurd f) a (nothing_tried A a)
  where
    none_above : (c : Factor) → ¬ HasSumAbove k low c
    none_above (linear r) g = g
    none_above (quadratic s t) g = (let p : low <ℤ s = g.0 in let q : unsigned_abs s ≤ 2 * k = g.1.1.0 in omega (arith, ints))

module _ (k : ℕ) (A : Factor → Type 0) (low : ℤ) (a b : Search) (done : HasTried (HasSumAbove k low) A a b) where
  before_here : (c e : Factor) → HasSumAbove k low c → HasSum k low e → ComesBefore c e
  before_here (linear r) e h g = absurd h
  before_here (quadratic s t) (linear r) h g = absurd g
  before_here (quadratic s t) (quadratic u w) h g = inl (subst (λ z. z <ℤ s) (sym g.0) h.0)

  pub sums_tried : (next : ℤ) → next ≡ low -ℤ pos 1 → (c : Search) → HasTried (HasSum k low) A b c → HasTried (HasSumAbove k next) A a c
  sums_tried next e c one =
      tried_wider (IsEither (HasSumAbove k low) (HasSum k low)) (HasSumAbove k next) inside A A a (λ d h. inl (back d h)) (λ d p m. m) c
      (tried_joined (HasSumAbove k low) (HasSum k low) A before_here a b done c one)
    where
      further : (s : ℤ) → low <ℤ s → next <ℤ s
      further s h = omega (arith, ints)

      own : (s : ℤ) → s ≡ low → next <ℤ s
      own s h = omega (arith, ints)

      inside : (d : Factor) → IsEither (HasSumAbove k low) (HasSum k low) d → HasSumAbove k next d
      inside (linear r) (inl h) = h
      inside (linear r) (inr h) = h
      inside (quadratic s t) (inl h) = (further s h.0, h.1)
      inside (quadratic s t) (inr h) = (own s h.0, h.1)

      back : (d : Factor) → HasSumAbove k next d → IsEither (HasSumAbove k low) (HasSum k low) d
      back (linear r) h = absurd h
      back (quadratic s t) h = go (next_or_above low next s e h.0)
        where
          go : (s ≡ low) ⊎ (low <ℤ s) → IsEither (HasSumAbove k low) (HasSum k low) (quadratic s t)
          go (inl same) = inr (same, h.1)
          go (inr above) = inl (above, h.1)

  pub sums_fault : (e : EigenFault) → IsSearchFault (HasSum k low) A b.left e → IsSearchFault (IsQuadraticCandidate k) A a.left e
  sums_fault e wide =
      fault_extended (IsEither (HasSumAbove k low) (HasSum k low)) (IsQuadraticCandidate k) inside later A a.left e
      (fault_joined (HasSumAbove k low) (HasSum k low) A before_here a b done e wide)
    where
      inside : (d : Factor) → IsEither (HasSumAbove k low) (HasSum k low) d → IsQuadraticCandidate k d
      inside (linear r) (inl h) = h
      inside (linear r) (inr h) = h
      inside (quadratic s t) (inl h) = h.1
      inside (quadratic s t) (inr h) = h.1

      above : (s u : ℤ) → s <ℤ low → low <ℤ u → s <ℤ u
      above s u h g = omega (arith, ints)

      behind : (s t : ℤ) → s <ℤ low → (c : Factor) → IsEither (HasSumAbove k low) (HasSum k low) c → ComesBefore c (quadratic s t)
      behind s t h (linear r) (inl g) = absurd g
      behind s t h (linear r) (inr g) = absurd g
      behind s t h (quadratic u w) (inl g) = inl (above s u h g.0)
      behind s t h (quadratic u w) (inr g) = inl (subst (λ z. s <ℤ z) (sym g.0) h)

      later : (d : Factor) → IsQuadraticCandidate k d
          → IsEither (HasSumAbove k low) (HasSum k low) d ⊎ ((c : Factor) → IsEither (HasSumAbove k low) (HasSum k low) c → ComesBefore c d)
      later (linear r) h = absurd h
      later (quadratic s t) h = go (int_cmp low s) (int_ranks low s)
        where
          go : (o : Ordering) → MatchOrdering o (low <ℤ s) (low ≡ s) (s <ℤ low)
              → IsEither (HasSumAbove k low) (HasSum k low) (quadratic s t) ⊎ ((c : Factor) → IsEither (HasSumAbove k low) (HasSum k low) c → ComesBefore c (quadratic s t))
          go Less above = inl (inl (above, h))
          go Equal same = inl (inr (sym same, h))
          go Greater below = inr (behind s t below)

-- at the end all candidates are tried
pub sums_end : (k : ℕ) (low : ℤ) → low ≡ neg_ℤ (pos (2 * k)) -ℤ pos 1 → (A : Factor → Type 0) (a b : Search) → HasTried (HasSumAbove k low) A a b
    → HasTried (IsQuadraticCandidate k) A a b
sums_end k low e A a b done = tried_wider (HasSumAbove k low) (IsQuadraticCandidate k) inside A A a (λ d h. inl (back d h)) (λ d p m. m) b done
  where
    inside : (d : Factor) → HasSumAbove k low d → IsQuadraticCandidate k d
    inside (linear r) h = h
    inside (quadratic s t) h = h.1

    above_end : (s : ℤ) → unsigned_abs s ≤ 2 * k → low <ℤ s
    above_end s h = omega (arith, ints)

    back : (d : Factor) → IsQuadraticCandidate k d → HasSumAbove k low d
    back (linear r) h = absurd h
    back (quadratic s t) h = (above_end s h.1.0, h)
