-- The answer of the search for factors, from what it finds and leaves.
use Rattle.std.proofs.Common.{◌≡◌, ℕ, ◌<◌, ◌≤◌, refl, ap, sym, ◌∙◌, subst, arith, ℤ, pos, List, [], ◌∷◌, length, map}
use Rattle.drg_eigen.specs.Factor.{Factor, IsCandidate, polynomial_of, product as the_product}
use Rattle.drg_eigen.specs.Monic.{IsMonic}
use Rattle.drg_eigen.specs.Search.{IsSearch}
use Rattle.drg_eigen.specs.Spectrum.{AreFactors, AreRoots, IsProduct}
use Rattle.drg_eigen.specs.Split.{IsSplit, IsOther, IsWholeSplit}
use Rattle.drg_eigen.specs.declared.split.Split.{Split}
use Rattle.drg_eigen.specs.declared.split.Split.TheVariants.{Spectrum, Other}
use Rattle.drg_eigen.specs.declared.split.OtherSpectrum.TheVariants.{Rest, TwoFields}
use Rattle.drg_eigen.proofs.SplitTrials.{found_factors}

-- a monic polynomial of degree 0 is 1
pub nothing_left : (g : List ℤ) → IsMonic g → length g ≤ 1 → g ≡ pos 1 ∷ []
nothing_left [] m h = absurd (let e = m in cc)
nothing_left (x ∷ []) m h = (let e = m in cc)
nothing_left (x ∷ y ∷ g) m h = absurd (omega (arith, h))

module _ (k : ℕ) (f : List ℤ) (monic : IsMonic f) (es : List Factor) (g : List ℤ) (search : IsSearch (IsCandidate k) f es g) where
  factors : AreFactors k f es
  factors = found_factors k f monic es g search

  pub rest_answer : 1 < length g → IsOther k f (Rest (map polynomial_of es) g)
  rest_answer more = (es, refl, record { factors = factors; quotient = search.quotient; rest = λ e. apart e; none_left = search.none_left })
    where
      apart : g ≡ pos 1 ∷ [] → ⊥
      apart e = (let h : length g ≡ 1 = ap length e in omega (arith, more, h))

  pub whole_answer : g ≡ pos 1 ∷ [] → (split : Split) → IsWholeSplit es split → IsSplit k f split
  whole_answer nothing split h = go split h
    where
      product : IsProduct f es
      product = ap (the_product es) (sym nothing) ∙ search.quotient

      go : (split : Split) → IsWholeSplit es split → IsSplit k f split
      go (Spectrum s) h = record {
        list = es;
        factors = factors;
        product = product;
        common_root = h.0;
        roots = subst (λ (l : List ℤ). AreRoots l s.root s.thetas) product h.1;
      }
      go (Other (Rest a b)) h = absurd h
      go (Other (TwoFields a b c)) h = (es, h.0, h.1, h.2, h.3, h.4, record { factors = factors; product = product; apart = h.5 })
