-- When the formula of the quantity absolute i j fits: none of the work numbers of its operations is above 2^127 - 1 in
-- magnitude.
use Rattle.std.specs.Prelude.{◌≡◌, ℕ, ◌≤◌, ◌==◌, ◌&&◌, Bool, true, if◌then◌else◌, List, map, Option, Some, None}
use Rattle.drg_array.specs.declared.claim.Claim.{Claim}
use Rattle.drg_array.specs.declared.claim.Claim.TheVariants.{Absolute as AbsoluteClaim}
use Rattle.drg_array.specs.declared.node.Node.{Node}
use Rattle.drg_array.specs.declared.node.Node.TheVariants.{Absolute as AbsoluteNode}
use Rattle.drg_fraction.specs.Operations.{Operations}
use Rattle.drg_fraction.specs.Field.{sums_fit}
use Rattle.drg_matrix.specs.Product.{IsBefore}
use Rattle.drg_matrices.specs.Values.{difference}
use Rattle.drg_bounds.specs.AbsoluteBound.{BoundValues, AreNonvanishing, IsExceeded, allowed, sum_over, whole_value}

module _ {V : Type 0} (o : Operations V) where
  -- x + 1, its product with x, and the half of that
  abbrev pub half_product_fits : V → Bool
  half_product_fits x =
      o.sum_fits x (whole_value o 1) && o.product_fits x (o.plus x (whole_value o 1)) && o.quotient_fits (o.times x (o.plus x (whole_value o 1))) (whole_value o 2)

  -- the greatest sum that is allowed
  abbrev pub allowed_fits : (ℕ → V) → ℕ → ℕ → Bool
  allowed_fits m i j = if i == j then half_product_fits (m i) else o.product_fits (m i) (m j)

module _ {V : Type 0} (o : Operations V) (b : BoundValues V) where
  -- the sum of the m_h from left to right, the sum that is allowed, their difference, and its sign
  pub record AbsoluteFits (i j : ℕ) : Type 0 where
    pub indices : List ℕ
    pub are : AreNonvanishing o b i j indices
    pub sum : sums_fit o (map b.m indices) ≡ true
    pub most : allowed_fits o b.m i j ≡ true
    pub less : o.difference_fits (sum_over o b.m indices) (allowed o b.m i j) ≡ true
    pub sign : o.sign_fits (difference o (sum_over o b.m indices) (allowed o b.m i j)) ≡ true

  -- each i ≤ j before (k, l) fits, and its sum isn't above the one that is allowed
  abbrev pub PassBefore : ℕ → ℕ → Type 0
  PassBefore k l = (i j : ℕ) → 1 ≤ i → i ≤ j → j ≤ b.d → IsBefore i j k l → AbsoluteFits i j × (¬ IsExceeded o b i j)

  -- the pairs up to that of the claim fit, and all of them where there is none
  abbrev pub FitUpTo : Option Claim → Type 0
  FitUpTo (Some (AbsoluteClaim k l)) = AbsoluteFits k l × PassBefore k l
  FitUpTo (Some claim) = ⊥
  FitUpTo None = (i j : ℕ) → 1 ≤ i → i ≤ j → j ≤ b.d → AbsoluteFits i j

  -- absolute k l is the first that doesn't fit, and no pair before it fails
  pub record IsFirstWide (k l : ℕ) : Type 0 where
    pub some : 1 ≤ k
    pub ordered : k ≤ l
    pub inside : l ≤ b.d
    pub wide : ¬ (AbsoluteFits k l)
    pub before : PassBefore k l

  -- the cause of a node that is named
  abbrev pub IsWideNode : Node → Type 0
  IsWideNode (AbsoluteNode k l) = IsFirstWide k l
  IsWideNode node = ⊥

  -- the claim is the first that fails, and the pairs up to it fit
  pub record IsFirstExceeded (k l : ℕ) : Type 0 where
    pub some : 1 ≤ k
    pub ordered : k ≤ l
    pub inside : l ≤ b.d
    pub fits : AbsoluteFits k l
    pub exceeded : IsExceeded o b k l
    pub before : PassBefore k l

  abbrev pub IsFirstClaim : Claim → Type 0
  IsFirstClaim (AbsoluteClaim k l) = IsFirstExceeded k l
  IsFirstClaim claim = ⊥
