-- The roots of a product of factors, sorted from the largest down.
use Rattle.std.proofs.Common.{◌≡◌, ℕ, suc, ◌+◌, ◌-◌, ◌<◌, refl, ap, sym, ◌∙◌, subst, arith, pos, List, [], ◌∷◌, length, get_or, reverse, IsPermutation, IsSorted, false, inl, inr}
use Rattle.std.specs.List.{AllByRecursion, IsDistinct}
use Rattle.std.specs.Ordering.{eq_by_cmp, is_eq, is_lt, MatchOrdering, ordering_reverse}
use Rattle.std.specs.declared.cmp.Ordering.{Ordering}
use Rattle.std.specs.declared.cmp.Ordering.TheVariants.{Less, Equal, Greater}
use Rattle.std.proofs.lemmas.List.{get_or-reverse, length-reverse}
use Rattle.std.proofs.lemmas.List.Elements.{All-from_recursion}
use Rattle.std.proofs.lemmas.List.Sorted.{All-permutation, Contains-permutation, IsPermutation-sym, IsPermutation-trans, IsPermutation-reverse, length_permutation}
use Rattle.std.proofs.lemmas.Map.Keys.{apart_from_distinct, IsDistinct-IsPermutation}
use Rattle.drg_quadratic.specs.Eigenvalue.{eigenvalue_of, eigenvalue_cmp, IsBelow}
use Rattle.drg_quadratic.specs.EigenvalueLaws.{eigenvalues_total}
use Rattle.drg_quadratic.proofs.EigenvalueValues.{order_of_eigenvalues, value_over}
use Rattle.drg_quadratic.specs.declared.eigenvalue.Eigenvalue.{Eigenvalue}
use Rattle.drg_eigen.specs.Factor.{Factor, linear, quadratic, product}
use Rattle.drg_eigen.specs.Found.{IsReal}
use Rattle.drg_eigen.specs.Order.{AreInOrder}
use Rattle.drg_eigen.specs.Roots.{AreRootsOf}
use Rattle.drg_eigen.specs.Spectrum.{IsRootOf, AreDescending, AreRoots}
use Rattle.drg_eigen.proofs.RootValues.{IsNilAtOne, one_to_product, product_to_one, nil_to_whole, whole_to_nil, nil_to_half, half_to_nil}
use Rattle.drg_eigen.proofs.RootLists.{IsRootInOne, all_over, listed_root, root_listed, roots_count, roots_distinct}

-- ---- the roots of the product are those of its factors
nil_to_root : (x : Eigenvalue) (es : List Factor) → AllByRecursion IsReal es → IsNilAtOne x.root es (eigenvalue_of x) → IsRootInOne x es
nil_to_root x [] real h = absurd h
nil_to_root x (linear r ∷ es) real (inl e) = inl (nil_to_whole x.root x.has_root x r e)
nil_to_root x (quadratic s t ∷ es) real (inl e) = inl (nil_to_half x.root x.has_root x s t real.0.0 e)
nil_to_root x (c ∷ es) real (inr h) = inr (nil_to_root x es real.1 h)

root_to_nil : (x : Eigenvalue) (es : List Factor) → IsRootInOne x es → IsNilAtOne x.root es (eigenvalue_of x)
root_to_nil x [] h = absurd h
root_to_nil x (linear r ∷ es) (inl h) = inl (whole_to_nil x.root x.has_root x r h.0 h.1)
root_to_nil x (quadratic s t ∷ es) (inl h) = inl (half_to_nil x.root x.has_root x s t h.0 h.1)
root_to_nil x (c ∷ es) (inr h) = inr (root_to_nil x es h)

product_root : (x : Eigenvalue) (es : List Factor) → AllByRecursion IsReal es → IsRootOf (product es (pos 1 ∷ [])) x → IsRootInOne x es
product_root x es real e = nil_to_root x es real (product_to_one x.root x.has_root es (eigenvalue_of x) (value_over x) e)

root_of_product : (x : Eigenvalue) (es : List Factor) → IsRootInOne x es → IsRootOf (product es (pos 1 ∷ [])) x
root_of_product x es h = one_to_product x.root es (eigenvalue_of x) (root_to_nil x es h)

-- ---- strictly descending
flips : (x y : Eigenvalue) → eq_by_cmp eigenvalue_cmp x y ≡ eq_by_cmp eigenvalue_cmp y x
flips x y = ap is_eq (eigenvalues_total.antisymm x y) ∙ turned (eigenvalue_cmp y x)
  where
    turned : (o : Ordering) → is_eq (ordering_reverse o) ≡ is_eq o
    turned Less = refl
    turned Equal = refl
    turned Greater = refl

below_by_order : (x y : Eigenvalue) → is_lt (eigenvalue_cmp y x) ≡ false → eq_by_cmp eigenvalue_cmp x y ≡ false → IsBelow x y
below_by_order x y up apart = go (eigenvalue_cmp y x) (order_of_eigenvalues y x) up (sym (flips x y) ∙ apart)
  where
    go : (o : Ordering) → MatchOrdering o (IsBelow y x) (y ≡ x) (IsBelow x y) → is_lt o ≡ false → is_eq o ≡ false → IsBelow x y
    go Less h up apart = absurd (let e = up in cc)
    go Equal h up apart = absurd (let e = apart in cc)
    go Greater h up apart = h

descending : (l : List Eigenvalue) → ((k : ℕ) (d : Eigenvalue) → k + 1 < length l → IsBelow (get_or l (k + 1) d) (get_or l k d)) → AreDescending l
descending [] f = tt
descending (x ∷ []) f = tt
descending (x ∷ y ∷ l) f = (f 0 x (omega arith), descending (y ∷ l) (λ k d h. later k d (f (suc k) d (omega (arith, h)))))
  where
    later : (k : ℕ) (d : Eigenvalue) → IsBelow (get_or (x ∷ y ∷ l) (suc k + 1) d) (get_or (x ∷ y ∷ l) (suc k) d) → IsBelow (get_or (y ∷ l) (k + 1) d) (get_or (y ∷ l) k d)
    later k d h =
        let next : suc k + 1 ≡ suc (k + 1) = omega arith in
        subst (λ (n : ℕ). IsBelow (get_or (x ∷ y ∷ l) n d) (get_or (y ∷ l) k d)) next h

-- the reverse of a sorted list without an eigenvalue twice
strictly_down : (xs : List Eigenvalue) → IsSorted eigenvalue_cmp xs → IsDistinct (eq_by_cmp eigenvalue_cmp) xs → AreDescending (reverse xs)
strictly_down xs up apart = descending (reverse xs) (λ k d h. at k d (subst (λ (n : ℕ). k + 1 < n) (length-reverse xs) h))
  where
    at : (k : ℕ) (d : Eigenvalue) → k + 1 < length xs → IsBelow (get_or (reverse xs) (k + 1) d) (get_or (reverse xs) k d)
    at k d h =
        let j = length xs - 1 - (k + 1) in
        let next : length xs - 1 - k ≡ length xs - 1 - (k + 1) + 1 = omega (arith, h) in
        let inside : length xs - 1 - (k + 1) + 1 < length xs = omega (arith, h) in
        let low : get_or (reverse xs) (k + 1) d ≡ get_or xs (length xs - 1 - (k + 1)) d = get_or-reverse xs (k + 1) d h in
        let high : get_or (reverse xs) k d ≡ get_or xs (length xs - 1 - (k + 1) + 1) d =
        get_or-reverse xs k d (omega (arith, h)) ∙ ap (λ n. get_or xs n d) next in
        let here = below_by_order (get_or xs j d) (get_or xs (j + 1) d) (up j d (omega arith) inside) (apart_from_distinct (eq_by_cmp eigenvalue_cmp) xs j (j + 1) d apart (omega arith) inside) in
        subst (λ (y : Eigenvalue). IsBelow y (get_or (reverse xs) k d)) (sym low) (subst (IsBelow (get_or xs (length xs - 1 - (k + 1)) d)) (sym high) here)

-- ---- all of it
pub sorted_roots : (root : ℕ) (es : List Factor) (xs ys zs : List Eigenvalue) → AllByRecursion IsReal es → AreInOrder es → AreRootsOf root es xs
    → IsPermutation xs ys → IsSorted eigenvalue_cmp ys → zs ≡ reverse ys → AreRoots (product es (pos 1 ∷ [])) root zs
sorted_roots root es xs ys zs real order are moved up turned =
    let all_moved : IsPermutation xs zs = IsPermutation-trans xs ys zs moved (subst (IsPermutation ys) (sym turned) (IsPermutation-reverse ys)) in
    record {
      over_root = All-permutation (λ x. x.root ≡ root) xs zs all_moved (All-from_recursion (λ x. x.root ≡ root) xs (all_over root es xs are));
      descending = subst AreDescending (sym turned) (strictly_down ys up (IsDistinct-IsPermutation (eq_by_cmp eigenvalue_cmp) flips xs ys moved (roots_distinct root es xs real order are)));
      all = λ x o. (
        λ e. Contains-permutation xs zs x all_moved (root_listed root es xs real are x o (product_root x es real e)),
        λ c. root_of_product x es (listed_root root es xs are x (Contains-permutation zs xs x (IsPermutation-sym xs zs all_moved) c)),
      );
      count = ap suc (length_permutation xs zs all_moved) ∙ roots_count root es xs are;
    }
