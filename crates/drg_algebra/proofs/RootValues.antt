-- The values a + b √D: their product, their field, and zero by parts.
use Rattle.std.proofs.Common.{refl, ap, pos}
use Rattle.drg_algebra.specs.Ring.{Field, none, one, ◌⊕◌, ◌⊗◌, neg, ring2, ring5}
use Rattle.drg_algebra.specs.Rational.{whole, rationals}
use Rattle.drg_algebra.specs.Pairs.{pair_path}
use Rattle.drg_algebra.specs.Root.{only_zeros}
use Rattle.drg_algebra.specs.Fields.{pair_field, roots_field}
use Rattle.drg_algebra.specs.RingLaws.{PairsAreField, ProductOfValues, SquareOfRoot, ValuesAreField, ValueIsItsParts, NormIsZeroByParts}

pub pairs_are_field_holds : (f : Field) → PairsAreField f
pairs_are_field_holds f s t only = (pair_field f s t only).laws

pub product_of_values : ProductOfValues
product_of_values root x y = pair_path _ _
    (ring5 rationals (λ k a b c e. a ⊗ c ⊕ neg (neg k ⊗ (b ⊗ e))) (λ k a b c e. a ⊗ c ⊕ k ⊗ (b ⊗ e)) refl (whole (pos root)) x.a x.b y.a y.b)
    (ring5 rationals (λ k a b c e. a ⊗ e ⊕ b ⊗ c ⊕ none ⊗ (b ⊗ e)) (λ k a b c e. a ⊗ e ⊕ b ⊗ c) refl (whole (pos root)) x.a x.b y.a y.b)

pub square_of_root : SquareOfRoot
square_of_root root = pair_path _ _
    (ring2 rationals (λ k x. none ⊗ none ⊕ neg (neg k ⊗ (one ⊗ one))) (λ k x. k) refl (whole (pos root)) (whole (pos root)))
    (ring2 rationals (λ k x. none ⊗ one ⊕ one ⊗ none ⊕ none ⊗ (one ⊗ one)) (λ k x. none) refl (whole (pos root)) (whole (pos root)))

pub values_are_field : ValuesAreField
values_are_field root free big = (roots_field root free big).laws

pub value_is_its_parts : ValueIsItsParts
value_is_its_parts root z = (λ e. (ap (λ v. v.a) e, ap (λ v. v.b) e), λ p. pair_path _ _ p.0 p.1)

pub norm_is_zero_by_parts : NormIsZeroByParts
norm_is_zero_by_parts = only_zeros
