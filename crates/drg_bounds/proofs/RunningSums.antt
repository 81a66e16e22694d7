-- Sums from left to right, one value longer.
use Rattle.std.proofs.Common.{◌≡◌, ◌≤◌, List, [], ◌∷◌, ◌++◌, length, fold, true, refl, arith}
use Rattle.drg_algebra.proofs.Tests.{both, and-in}
use Rattle.drg_fraction.specs.Operations.{Operations}
use Rattle.drg_fraction.specs.Field.{sum_of, sums_fit, sums_fit_from}

module _ {V : Type 0} (o : Operations V) where
  -- the first sums of a list that fits fit
  from_beginning : (t : V) (xs ys : List V) → sums_fit_from o t (xs ++ ys) ≡ true → sums_fit_from o t xs ≡ true
  from_beginning t [] ys h = refl
  from_beginning t (x ∷ xs) ys h = let p = both _ _ h in and-in _ _ p.0 (from_beginning (o.plus t x) xs ys p.1)

  pub fits_beginning : (xs ys : List V) → sums_fit o (xs ++ ys) ≡ true → sums_fit o xs ≡ true
  fits_beginning [] ys h = refl
  fits_beginning (x ∷ xs) ys h = from_beginning x xs ys h

  from_last : (t : V) (xs : List V) (y : V) → sums_fit_from o t (xs ++ y ∷ []) ≡ true → o.sum_fits (fold o.plus t xs) y ≡ true
  from_last t [] y h = (both _ _ h).0
  from_last t (x ∷ xs) y h = from_last (o.plus t x) xs y (both _ _ h).1

  from_more : (t : V) (xs : List V) (y : V) → sums_fit_from o t xs ≡ true → o.sum_fits (fold o.plus t xs) y ≡ true → sums_fit_from o t (xs ++ y ∷ []) ≡ true
  from_more t [] y h k = and-in _ _ k refl
  from_more t (x ∷ xs) y h k = let p = both _ _ h in and-in _ _ p.0 (from_more (o.plus t x) xs y p.1 k)

  fold_more : (t : V) (xs : List V) (y : V) → fold o.plus t (xs ++ y ∷ []) ≡ o.plus (fold o.plus t xs) y
  fold_more t [] y = refl
  fold_more t (x ∷ xs) y = fold_more (o.plus t x) xs y

  pub fits_last : (xs : List V) (y : V) → 1 ≤ length xs → sums_fit o (xs ++ y ∷ []) ≡ true → o.sum_fits (sum_of o xs) y ≡ true
  fits_last [] y l h = absurd (omega arith)
  fits_last (x ∷ xs) y l h = from_last x xs y h

  pub fits_more : (xs : List V) (y : V) → 1 ≤ length xs → sums_fit o xs ≡ true → o.sum_fits (sum_of o xs) y ≡ true → sums_fit o (xs ++ y ∷ []) ≡ true
  fits_more [] y l h k = absurd (omega arith)
  fits_more (x ∷ xs) y l h k = from_more x xs y h k

  pub sum_more : (xs : List V) (y : V) → 1 ≤ length xs → sum_of o (xs ++ y ∷ []) ≡ o.plus (sum_of o xs) y
  sum_more [] y l = absurd (omega arith)
  sum_more (x ∷ xs) y l = fold_more x xs y
