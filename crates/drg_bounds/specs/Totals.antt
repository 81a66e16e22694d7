-- The sum of multiplicities while it is made.
use Rattle.std.specs.Prelude.{◌≡◌, ℕ, ◌≤◌, ◌<◌, ◌↔◌, true, List, [], map, length, Contains, Option, Some, None}
use Rattle.std.specs.List.{AllPairs}
use Rattle.drg_fraction.specs.Operations.{Operations}
use Rattle.drg_fraction.specs.Field.{sum_of, sums_fit}
use Rattle.drg_bounds.specs.AbsoluteBound.{BoundValues, AreNonvanishing}

module _ {V : Type 0} (o : Operations V) (b : BoundValues V) where
  -- the list has exactly the h below n with q^h_ij not 0, ascending
  pub record AreNonvanishingBelow (i j n : ℕ) (hs : List ℕ) : Type 0 where
    pub members : (h : ℕ) → Contains hs h ↔ ((h < n) × (¬ (b.q h i j ≡ o.nil)))
    pub ascending : AllPairs (λ g h. g < h) hs

  -- the sum of the m_h with q^h_ij not 0 fits
  pub record SumFits (i j : ℕ) : Type 0 where
    pub indices : List ℕ
    pub are : AreNonvanishing o b i j indices
    pub sum : sums_fit o (map b.m indices) ≡ true

module _ {A V : Type 0} (value : A → V) (root_of : A → ℕ) (operations : ℕ → Operations V) (root : ℕ) (b : BoundValues V) where
  -- a value is the sum of the list, and no value stands for that of the empty list
  abbrev pub IsSumSoFar : Option A → List V → Type 0
  IsSumSoFar None xs = xs ≡ []
  IsSumSoFar (Some t) xs = (1 ≤ length xs) × (value t ≡ sum_of (operations root) xs) × (root_of t ≡ root)

  -- so far the h below n
  pub record IsTotalBelow (i j n : ℕ) (sum_so_far : Option A) : Type 0 where
    pub indices : List ℕ
    pub are : AreNonvanishingBelow (operations root) b i j n indices
    pub fits : sums_fit (operations root) (map b.m indices) ≡ true
    pub total : IsSumSoFar sum_so_far (map b.m indices)

module _ {A V : Type 0} (value : A → V) (operations : ℕ → Operations V) (root : ℕ) (b : BoundValues V) where
  -- the value is the sum over all h, which fits
  pub record IsTotal (i j : ℕ) (total : A) : Type 0 where
    pub indices : List ℕ
    pub are : AreNonvanishing (operations root) b i j indices
    pub fits : sums_fit (operations root) (map b.m indices) ≡ true
    pub value_is : value total ≡ sum_of (operations root) (map b.m indices)
