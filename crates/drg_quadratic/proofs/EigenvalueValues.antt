-- The order of eigenvalues goes by their values: what is half of a positive value is positive.
use Rattle.std.proofs.Common.{◌≡◌, ℕ, pos, refl, ap, ap₂, sym, ◌∙◌, subst, ◌⊎◌, inl, inr}
use Rattle.std.specs.Ordering.{MatchOrdering}
use Rattle.std.specs.declared.cmp.Ordering.{Ordering}
use Rattle.std.specs.declared.cmp.Ordering.TheVariants.{Less, Equal, Greater}
use Rattle.drg_algebra.specs.Ring.{none, ◌⊕◌, neg, ring2}
use Rattle.drg_algebra.specs.Ratio.{ratio}
use Rattle.drg_algebra.specs.Pairs.{pair_path, root_values}
use Rattle.drg_algebra.specs.Order.{IsPositive}
use Rattle.drg_algebra.proofs.WholeParts.{two_halves, zero_ratio}
use Rattle.drg_quadratic.specs.Values.{IsRoot, IsOver, Value, nil, plus, minus}
use Rattle.drg_quadratic.specs.Laws.{minus_nil, flat_plus, value_laws}
use Rattle.drg_quadratic.specs.declared.eigenvalue.Eigenvalue.{Eigenvalue}
use Rattle.drg_quadratic.specs.Eigenvalue.{eigenvalue_of, difference, IsBelow, eigenvalue_cmp, OrderOfEigenvalues, OneEigenvalue, TwiceEigenvalue}
use Rattle.drg_quadratic.specs.EigenvalueLaws.{twice_difference, IsLess, one_eigenvalue, eigenvalues_ranked}

half_positive : (root : ℕ) → IsRoot root → (z w : Value) → IsOver root z → plus z z ≡ w → IsPositive root w → IsPositive root z
half_positive root h z w o e p = go ((value_laws root h).positive_or_not z o)
  where
    go : IsPositive root z ⊎ ((z ≡ nil) ⊎ IsPositive root (minus z)) → IsPositive root z
    go (inl k) = k
    go (inr (inl k)) =
        absurd ((value_laws root h).nil_is_not_positive
        (subst (IsPositive root) (sym e ∙ ap₂ plus k k ∙ (root_values 0).laws.plus_nil nil) p))
    go (inr (inr k)) =
        let laws = value_laws root h in
        let m = laws.over_minus z o in
        let q = laws.positive_plus (plus z z) (plus (minus z) (minus z)) (laws.over_plus z z o o) (laws.over_plus (minus z) (minus z) m m)
        (subst (IsPositive root) (sym e) p) (laws.positive_plus (minus z) (minus z) m m k k) in
        absurd (laws.nil_is_not_positive
        (subst (IsPositive root) (ring2 (root_values 0).laws (λ x y. (x ⊕ x) ⊕ (neg x ⊕ neg x)) (λ x y. none) refl z z) q))

pub twice_eigenvalue : TwiceEigenvalue
twice_eigenvalue x = pair_path _ _ (two_halves x.s) (two_halves x.f)

pub value_over : (x : Eigenvalue) → IsOver x.root (eigenvalue_of x)
value_over x = λ r. ap (λ n. ratio n (pos 2)) (x.flat r) ∙ zero_ratio (pos 2) (record { lt = tt })

less_by_value : (x y : Eigenvalue) → x.root ≡ y.root → IsPositive y.root (twice_difference y x) → IsPositive y.root (difference y x)
less_by_value x y e p = half_positive y.root y.has_root (difference y x) (twice_difference y x) over doubled p
  where
    over : IsOver y.root (difference y x)
    over = λ r. flat_plus (eigenvalue_of y) (minus (eigenvalue_of x)) (value_over y r) (minus_nil (ratio x.f (pos 2)) (value_over x (e ∙ r)))

    doubled : plus (difference y x) (difference y x) ≡ twice_difference y x
    doubled =
        ring2 (root_values 0).laws
        (λ v w. (v ⊕ neg w) ⊕ (v ⊕ neg w))
        (λ v w. (v ⊕ v) ⊕ neg (w ⊕ w))
        refl (eigenvalue_of y) (eigenvalue_of x)
        ∙ ap₂ (λ v w. plus v (minus w)) (twice_eigenvalue y) (twice_eigenvalue x)

below : (x y : Eigenvalue) → IsLess x y → IsBelow x y
below x y (inl h) = inl h
below x y (inr h) = inr (h.0, less_by_value x y h.0 h.1)

pub order_of_eigenvalues : OrderOfEigenvalues
order_of_eigenvalues x y = go (eigenvalue_cmp x y) (eigenvalues_ranked x y)
  where
    go : (o : Ordering) → MatchOrdering o (IsLess x y) (x ≡ y) (IsLess y x) → MatchOrdering o (IsBelow x y) (x ≡ y) (IsBelow y x)
    go Less h = below x y h
    go Equal h = h
    go Greater h = below y x h

pub one_by_value : OneEigenvalue
one_by_value x y r e = one_eigenvalue x y r (sym (twice_eigenvalue x) ∙ ap₂ plus e e ∙ twice_eigenvalue y)
