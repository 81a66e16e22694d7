-- Maps of rings: constants of pairs, and whole numbers among the rationals and the values.
use Rattle.std.proofs.Common.{◌≡◌, ℕ, suc, refl, ap, ◌∙◌, arith, pos}
use Rattle.std.specs.Prelude.{◌*ℤ◌}
use Rattle.std.proofs.lemmas.Int.{ints}
use mathlib.Core.Quot.Quotient.{sound, exact, lift, lift₂}
use Rattle.drg_algebra.specs.Ring.{CommutativeRing, none, one, ◌⊕◌, ◌⊗◌, neg, ring2, ring4}
use Rattle.drg_algebra.specs.Integer.{integers}
use Rattle.drg_algebra.specs.Rational.{whole, plus, times, minus, cross_prop}
use Rattle.drg_algebra.specs.Rational as Rat
use Rattle.drg_algebra.specs.Pairs.{pair_path, pairs, constant, whole_numbers, rational_numbers, root_values}
use Rattle.drg_algebra.specs.Maps.{IsMap}
use Rattle.drg_algebra.specs.RingLaws.{embedded}

-- constants among the pairs over a ring
pub constant_map : (r : CommutativeRing) (s t : r.Of) → IsMap r (pairs r s t) (constant r)
constant_map r s t = record {
  nil = refl;
  unit = refl;
  plus = λ x y. pair_path _ _ refl (ring2 r.laws (λ x y. none) (λ x y. none ⊕ none) refl x y);
  times = λ x y. pair_path _ _
      (ring4 r.laws (λ x y s t. x ⊗ y) (λ x y s t. x ⊗ y ⊕ neg (t ⊗ (none ⊗ none))) refl x y s t)
      (ring4 r.laws (λ x y s t. none) (λ x y s t. x ⊗ none ⊕ none ⊗ y ⊕ s ⊗ (none ⊗ none)) refl x y s t);
  minus = λ x. pair_path _ _ refl (ring2 r.laws (λ x y. none) (λ x y. neg none) refl x x);
}

-- the map that changes nothing, and one map after another
pub same_map : (r : CommutativeRing) → IsMap r r (λ x. x)
same_map r = record { nil = refl; unit = refl; plus = λ x y. refl; times = λ x y. refl; minus = λ x. refl }

pub map_of_map : {r q p : CommutativeRing} {f : r.Of → q.Of} {g : q.Of → p.Of} → IsMap r q f → IsMap q p g → IsMap r p (λ x. g (f x))
map_of_map {f = f} {g = g} m n = record {
  nil = ap g m.nil ∙ n.nil;
  unit = ap g m.unit ∙ n.unit;
  plus = λ x y. ap g (m.plus x y) ∙ n.plus (f x) (f y);
  times = λ x y. ap g (m.times x y) ∙ n.times (f x) (f y);
  minus = λ x. ap g (m.minus x) ∙ n.minus (f x);
}

-- whole numbers among the rationals, and among the values
pub whole_map : IsMap whole_numbers rational_numbers whole
unfolding plus times minus lift lift₂
whole_map = record {
  nil = refl;
  unit = refl;
  plus = λ x y. sound Rat.pairs (ring2 integers (λ x y. (x ⊕ y) ⊗ (one ⊗ one)) (λ x y. (x ⊗ one ⊕ y ⊗ one) ⊗ one) refl x y);
  times = λ x y. sound Rat.pairs (ring2 integers (λ x y. (x ⊗ y) ⊗ (one ⊗ one)) (λ x y. (x ⊗ y) ⊗ one) refl x y);
  minus = λ x. sound Rat.pairs (ring2 integers (λ x y. neg x ⊗ one) (λ x y. neg x ⊗ one) refl x x);
}

pub embedded_map : (root : ℕ) → IsMap whole_numbers (root_values root) embedded
embedded_map root = map_of_map whole_map (constant_map rational_numbers (whole (pos 0)) (minus (whole (pos root))))

-- n + 1 is not 0 among the rationals
pub whole_apart : (n : ℕ) → ¬ (whole (pos (suc n)) ≡ whole (pos 0))
whole_apart n e = let q : pos (suc n) *ℤ pos 1 ≡ pos 0 *ℤ pos 1 = exact Rat.pairs cross_prop e in omega (arith, ints)
