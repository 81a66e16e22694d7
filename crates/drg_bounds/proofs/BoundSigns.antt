-- Signs of values, and the comparison of the sum of multiplicities with the one that is allowed.
use Rattle.std.proofs.Common.{◌≡◌, ℕ, List, map, pos, true, refl, ap, sym, ◌∙◌, subst, arith}
use Rattle.std.specs.Prelude.{◌↔◌, ◌<ℤ◌, Bool, IsTrue}
use Rattle.std.proofs.lemmas.Int.{ints}
use Rattle.drg_algebra.specs.Rational.{whole}
use Rattle.std.specs.declared.cmp.Ordering.{Ordering}
use Rattle.std.specs.declared.cmp.Ordering.TheVariants.{Less, Equal, Greater}
use Rattle.drg_fraction.specs.Operations.{Operations}
use Rattle.drg_fraction.specs.Field.{IsExactField, HasSign, sum_of}
use Rattle.drg_matrices.specs.Values.{difference}
use Rattle.drg_bounds.specs.KreinSigns.{IsNegative}
use Rattle.drg_bounds.specs.AbsoluteBound.{BoundValues, IsExceeded, allowed}
use Rattle.drg_bounds.specs.AbsoluteFits.{AbsoluteFits, allowed_fits}
use Rattle.drg_bounds.specs.Totals.{IsTotal}
use Rattle.drg_bounds.proofs.MultiplicitySums.{one_list}

-- 2 isn't 0
pub two_apart : {V : Type 0} {o : Operations V} {root : ℕ} → IsExactField o root → ¬ (o.rational (whole (pos 2)) ≡ o.nil)
two_apart {o = o} laws e =
    let above : pos 0 <ℤ pos 2 = omega (arith, ints) in
    laws.nil_is_not_positive (subst o.IsPositive e (laws.whole_positive (pos 2) above))

module _ {V : Type 0} {o : Operations V} {root : ℕ} (laws : IsExactField o root) (x : V) where
  not_both : o.IsOver x → o.IsPositive x → o.IsPositive (o.minus x) → ⊥
  not_both over p n =
      laws.nil_is_not_positive (subst o.IsPositive (laws.ring.plus_minus x) (laws.positive_plus x (o.minus x) over (laws.over_minus x over) p n))

  not_nil : x ≡ o.nil → o.IsPositive x → ⊥
  not_nil e p = laws.nil_is_not_positive (subst o.IsPositive e p)

  not_minus_nil : x ≡ o.nil → o.IsPositive (o.minus x) → ⊥
  not_minus_nil e n =
      let none : o.minus x ≡ o.nil = ap o.minus e ∙ (sym (laws.ring.plus_nil (o.minus o.nil)) ∙ (laws.ring.plus_comm (o.minus o.nil) o.nil ∙ laws.ring.plus_minus o.nil)) in
      laws.nil_is_not_positive (subst o.IsPositive none n)

  -- a test of the sign tells whether the value is negative, or positive
  pub negative_by_sign : (s : Ordering) (r : Bool) → o.IsOver x → HasSign o x s → (IsTrue r ↔ (s ≡ Less)) → IsTrue r ↔ IsNegative o x
  negative_by_sign s r over h told = (λ t. subst (HasSign o x) (told.0 t) h, from s h told.1)
    where
      from : (s : Ordering) → HasSign o x s → (s ≡ Less → IsTrue r) → IsNegative o x → IsTrue r
      from Less h back n = back refl
      from Equal h back n = absurd (not_minus_nil h n)
      from Greater h back n = absurd (not_both over h n)

  pub positive_by_sign : (s : Ordering) (r : Bool) → o.IsOver x → HasSign o x s → (IsTrue r ↔ (s ≡ Greater)) → IsTrue r ↔ o.IsPositive x
  positive_by_sign s r over h told = (λ t. subst (HasSign o x) (told.0 t) h, from s h told.1)
    where
      from : (s : Ordering) → HasSign o x s → (s ≡ Greater → IsTrue r) → o.IsPositive x → IsTrue r
      from Less h back p = absurd (not_both over p h)
      from Equal h back p = absurd (not_nil h p)
      from Greater h back p = back refl

module _ {A V : Type 0} (value : A → V) (operations : ℕ → Operations V) (root : ℕ) (b : BoundValues V) (i j : ℕ) (t : A)
    (total : IsTotal value operations root b i j t) where
  abbrev o : Operations V
  o = operations root

  abbrev less : V → V
  less x = difference o x (allowed o b.m i j)

  pub exceeded_by_total : IsExceeded o b i j ↔ o.IsPositive (less (value t))
  exceeded_by_total = (to, from)
    where
      to : IsExceeded o b i j → o.IsPositive (less (value t))
      to e = subst (λ (x : V). o.IsPositive (less x)) (ap (λ (hs : List ℕ). sum_of o (map b.m hs)) (one_list o b i j total.indices e.indices total.are e.are) ∙ sym total.value_is) e.above

      from : o.IsPositive (less (value t)) → IsExceeded o b i j
      from p = record { indices = total.indices; are = total.are; above = subst (λ (x : V). o.IsPositive (less x)) total.value_is p }

  -- the work numbers after the sum
  pub record RestFits : Type 0 where
    pub most : allowed_fits o b.m i j ≡ true
    pub less_fits : o.difference_fits (value t) (allowed o b.m i j) ≡ true
    pub sign : o.sign_fits (less (value t)) ≡ true

  pub fits_by_total : RestFits → AbsoluteFits o b i j
  fits_by_total r = record {
    indices = total.indices;
    are = total.are;
    sum = total.fits;
    most = r.most;
    less = subst (λ (x : V). o.difference_fits x (allowed o b.m i j) ≡ true) total.value_is r.less_fits;
    sign = subst (λ (x : V). o.sign_fits (less x) ≡ true) total.value_is r.sign;
  }

  pub rest_of_fits : AbsoluteFits o b i j → RestFits
  rest_of_fits f =
      let same = ap (λ (hs : List ℕ). sum_of o (map b.m hs)) (one_list o b i j total.indices f.indices total.are f.are) ∙ sym total.value_is in record {
        most = f.most;
        less_fits = subst (λ (x : V). o.difference_fits x (allowed o b.m i j) ≡ true) same f.less;
        sign = subst (λ (x : V). o.sign_fits (less x) ≡ true) same f.sign;
      }
