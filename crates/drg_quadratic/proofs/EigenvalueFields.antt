-- The values of eigenvalues in an exact field.
use Rattle.std.proofs.Common.{◌≡◌, ℕ, ◌<◌, refl, ap, sym, ◌∙◌, subst, inl, inr, arith}
use Rattle.drg_algebra.specs.Ring.{◌⊕◌, neg, ring2}
use Rattle.drg_algebra.specs.Pairs.{root_values}
use Rattle.drg_algebra.specs.Order.{IsPositive}
use Rattle.drg_fraction.specs.Operations.{Operations}
use Rattle.drg_fraction.specs.Field.{IsExactField}
use Rattle.drg_quadratic.specs.Values.{IsOver, minus}
use Rattle.drg_quadratic.specs.Laws.{flat_plus, minus_nil}
use Rattle.drg_quadratic.specs.Eigenvalue.{eigenvalue_of, difference, IsBelow}
use Rattle.drg_quadratic.specs.EigenvalueFields.{IsValueOf, ValuesDescend}
use Rattle.drg_quadratic.specs.declared.eigenvalue.Eigenvalue.{Eigenvalue}
use Rattle.drg_quadratic.proofs.Embedded.{embed, embed_plus, one_half, embed_positive}
use Rattle.drg_quadratic.proofs.EigenvalueValues.{twice_eigenvalue, value_over}

module _ {V : Type 0} {o : Operations V} {root : ℕ} (laws : IsExactField o root) where
  -- the value of an eigenvalue is s/2 + f/2 w
  pub is_embedded : (x : Eigenvalue) (v : V) → IsValueOf o x v → v ≡ embed laws (eigenvalue_of x)
  is_embedded x v h = one_half laws v (embed laws (eigenvalue_of x)) (h.1 ∙ sym (ap (embed laws) (twice_eigenvalue x)) ∙ embed_plus laws (eigenvalue_of x) (eigenvalue_of x))

  -- a difference of values is that of the embedded ones
  embedded_difference : (x y : Eigenvalue) (u v : V) → IsValueOf o x u → IsValueOf o y v → embed laws (difference x y) ≡ o.plus u (o.minus v)
  embedded_difference x y u v h k =
      let parts : o.plus (embed laws (difference x y)) v ≡ u =
      ap (o.plus (embed laws (difference x y))) (is_embedded y v k) ∙ sym (embed_plus laws (difference x y) (eigenvalue_of y))
      ∙ ap (embed laws) (ring2 (root_values 0).laws (λ x y. (x ⊕ neg y) ⊕ y) (λ x y. x) refl (eigenvalue_of x) (eigenvalue_of y)) ∙ sym (is_embedded x u h) in
      ring2 laws.ring (λ d v. d) (λ d v. (d ⊕ v) ⊕ neg v) refl (embed laws (difference x y)) v ∙ ap (λ z. o.plus z (o.minus v)) parts

  pub values_descend : ValuesDescend o root
  values_descend x y u v e f below h k = subst o.IsPositive (embedded_difference x y u v h k) (embed_positive laws (difference x y) over (positive below))
    where
      over : IsOver root (difference x y)
      over r = flat_plus (eigenvalue_of x) (minus (eigenvalue_of y)) (value_over x (e ∙ r)) (minus_nil (eigenvalue_of y).b (value_over y (f ∙ r)))

      positive : IsBelow y x → IsPositive root (difference x y)
      positive (inl less) = absurd (let l : y.root < x.root = less in omega (arith, e, f))
      positive (inr p) = subst (λ r. IsPositive r (difference x y)) e p.1
