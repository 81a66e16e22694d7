-- A rational is a pair of whole numbers with positive denominator. Two are one where their cross products agree.
use Rattle.std.proofs.Common.{◌≡◌, refl, sym, ℤ, pos}
use Rattle.std.specs.Prelude.{◌+ℤ◌, ◌*ℤ◌, neg_ℤ, ◌<ℤ◌}
use mathlib.Core.Quot.Setoid.{Setoid}
use mathlib.Core.Quot.Quotient.{Quotient, mk, sound, induction_on, induction_on₂, induction_on₃, lift, lift₂}
use mathlib.Core.Quot.{Quotient-set}
use lib.IntN.{ℤ_set}
use Rattle.drg_algebra.specs.Ring.{IsRing, CommutativeRing, Poly, none, one, ◌⊕◌, ◌⊗◌, neg, from_one, from_two}
use Rattle.drg_algebra.specs.Integer.{integers, cancel_above, above_times, ring2, ring4, ring6, ring8}

-- a numerator and a positive denominator
pub record Pair : Type 0 where
  pub over : ℤ
  pub under : ℤ
  pub above : pos 0 <ℤ under

-- equal cross products
abbrev pub Cross : Pair → Pair → Type 0
Cross p q = p.over *ℤ q.under ≡ q.over *ℤ p.under

pub cross_trans : (p q s : Pair) → Cross p q → Cross q s → Cross p s
cross_trans p q s h k =
    cancel_above (p.over *ℤ s.under) (s.over *ℤ p.under) q.under q.above
    (from_two integers _ _ s.under _ _ p.under _ _ h k
    (ring6 integers
    (λ po pu qo qu so su. po ⊗ su ⊗ qu ⊕ su ⊗ (qo ⊗ pu) ⊕ pu ⊗ (so ⊗ qu))
    (λ po pu qo qu so su. so ⊗ pu ⊗ qu ⊕ su ⊗ (po ⊗ qu) ⊕ pu ⊗ (qo ⊗ su)) refl p.over p.under q.over q.under s.over s.under))

-- ---- the rationals: pairs up to equal cross products
abbrev pub pairs : Setoid {0, 0} Pair
pairs = record { r = Cross; iseqv = record { refl = λ p. refl; symm = λ p q h. sym h; trans = cross_trans } }

abbrev pub ℚ : Type 0
ℚ = Quotient pairs

pub cross_prop : (p q : Pair) → IsProp (Cross p q)
cross_prop p q = ℤ_set _ _

pub ℚ_set : IsSet ℚ
ℚ_set = Quotient-set pairs

-- n as n over 1
abbrev pub whole : ℤ → ℚ
whole n = mk pairs (record { over = n; under = pos 1; above = record { lt = tt } })

-- ---- sums, products and negatives of pairs, which keep equal cross products
abbrev pub plus_pair : Pair → Pair → Pair
plus_pair p q = record { over = p.over *ℤ q.under +ℤ q.over *ℤ p.under; under = p.under *ℤ q.under; above = above_times p.under q.under p.above q.above }

abbrev pub times_pair : Pair → Pair → Pair
times_pair p q = record { over = p.over *ℤ q.over; under = p.under *ℤ q.under; above = above_times p.under q.under p.above q.above }

abbrev pub minus_pair : Pair → Pair
minus_pair p = record { over = neg_ℤ p.over; under = p.under; above = p.above }

pub plus_same : (p q p' q' : Pair) → Cross p p' → Cross q q' → Cross (plus_pair p q) (plus_pair p' q')
plus_same p q p' q' h k =
    from_two integers _ _ (q.under *ℤ q'.under) _ _ (p.under *ℤ p'.under) _ _ h k
    (ring8 integers
    (λ po pu qo qu po' pu' qo' qu'. (po ⊗ qu ⊕ qo ⊗ pu) ⊗ (pu' ⊗ qu') ⊕ (qu ⊗ qu') ⊗ (po' ⊗ pu) ⊕ (pu ⊗ pu') ⊗ (qo' ⊗ qu))
    (λ po pu qo qu po' pu' qo' qu'. (po' ⊗ qu' ⊕ qo' ⊗ pu') ⊗ (pu ⊗ qu) ⊕ (qu ⊗ qu') ⊗ (po ⊗ pu') ⊕ (pu ⊗ pu') ⊗ (qo ⊗ qu'))
    refl p.over p.under q.over q.under p'.over p'.under q'.over q'.under)

unfoldable pub plus : ℚ → ℚ → ℚ
plus = lift₂ pairs pairs ℚ_set (λ p q. mk pairs (plus_pair p q)) (λ p q p' q' h k. sound pairs (plus_same p q p' q' h k))

pub times_same : (p q p' q' : Pair) → Cross p p' → Cross q q' → Cross (times_pair p q) (times_pair p' q')
times_same p q p' q' h k =
    from_two integers _ _ (q.over *ℤ q'.under) _ _ (p'.over *ℤ p.under) _ _ h k
    (ring8 integers
    (λ po pu qo qu po' pu' qo' qu'. (po ⊗ qo) ⊗ (pu' ⊗ qu') ⊕ (qo ⊗ qu') ⊗ (po' ⊗ pu) ⊕ (po' ⊗ pu) ⊗ (qo' ⊗ qu))
    (λ po pu qo qu po' pu' qo' qu'. (po' ⊗ qo') ⊗ (pu ⊗ qu) ⊕ (qo ⊗ qu') ⊗ (po ⊗ pu') ⊕ (po' ⊗ pu) ⊗ (qo ⊗ qu'))
    refl p.over p.under q.over q.under p'.over p'.under q'.over q'.under)

unfoldable pub times : ℚ → ℚ → ℚ
times = lift₂ pairs pairs ℚ_set (λ p q. mk pairs (times_pair p q)) (λ p q p' q' h k. sound pairs (times_same p q p' q' h k))

pub minus_same : (p q : Pair) → Cross p q → Cross (minus_pair p) (minus_pair q)
minus_same p q h =
    from_one integers _ _ (pos 1) _ _ (sym h)
    (ring4 integers (λ po pu qo qu. neg po ⊗ qu ⊕ one ⊗ (po ⊗ qu)) (λ po pu qo qu. neg qo ⊗ pu ⊕ one ⊗ (qo ⊗ pu)) refl p.over p.under q.over q.under)

unfoldable pub minus : ℚ → ℚ
minus = lift pairs ℚ_set (λ p. mk pairs (minus_pair p)) (λ p q h. sound pairs (minus_same p q h))

-- ---- the laws
-- the numerators of a sum, as polynomials of numerators and denominators
abbrev plus_over : Poly → Poly → Poly → Poly → Poly
plus_over po pu qo qu = po ⊗ qu ⊕ qo ⊗ pu

pub rationals : IsRing (whole (pos 0)) (whole (pos 1)) plus times minus
unfolding plus times minus lift₂ lift sound
rationals = record {
  plus_assoc = λ a b c. induction_on₃ pairs pairs pairs {motive = λ a b c. plus (plus a b) c ≡ plus a (plus b c)} (λ a b c. ℚ_set _ _) a b c
      (λ p q s. sound pairs (ring6 integers
      (λ po pu qo qu so su. plus_over (plus_over po pu qo qu) (pu ⊗ qu) so su ⊗ (pu ⊗ (qu ⊗ su)))
      (λ po pu qo qu so su. plus_over po pu (plus_over qo qu so su) (qu ⊗ su) ⊗ ((pu ⊗ qu) ⊗ su))
      refl p.over p.under q.over q.under s.over s.under));
  plus_comm = λ a b. induction_on₂ pairs pairs {motive = λ a b. plus a b ≡ plus b a} (λ a b. ℚ_set _ _) a b
      (λ p q. sound pairs (ring4 integers
      (λ po pu qo qu. plus_over po pu qo qu ⊗ (qu ⊗ pu))
      (λ po pu qo qu. plus_over qo qu po pu ⊗ (pu ⊗ qu))
      refl p.over p.under q.over q.under));
  plus_nil = λ a. induction_on pairs {motive = λ a. plus a (whole (pos 0)) ≡ a} (λ a. ℚ_set _ _) a
      (λ p. sound pairs (ring2 integers (λ po pu. plus_over po pu none one ⊗ pu) (λ po pu. po ⊗ (pu ⊗ one)) refl p.over p.under));
  plus_minus = λ a. induction_on pairs {motive = λ a. plus a (minus a) ≡ whole (pos 0)} (λ a. ℚ_set _ _) a
      (λ p. sound pairs (ring2 integers (λ po pu. plus_over po pu (neg po) pu ⊗ one) (λ po pu. none ⊗ (pu ⊗ pu)) refl p.over p.under));
  times_assoc = λ a b c. induction_on₃ pairs pairs pairs {motive = λ a b c. times (times a b) c ≡ times a (times b c)} (λ a b c. ℚ_set _ _) a b c
      (λ p q s. sound pairs (ring6 integers
      (λ po pu qo qu so su. ((po ⊗ qo) ⊗ so) ⊗ (pu ⊗ (qu ⊗ su)))
      (λ po pu qo qu so su. (po ⊗ (qo ⊗ so)) ⊗ ((pu ⊗ qu) ⊗ su))
      refl p.over p.under q.over q.under s.over s.under));
  times_comm = λ a b. induction_on₂ pairs pairs {motive = λ a b. times a b ≡ times b a} (λ a b. ℚ_set _ _) a b
      (λ p q. sound pairs (ring4 integers
      (λ po pu qo qu. (po ⊗ qo) ⊗ (qu ⊗ pu))
      (λ po pu qo qu. (qo ⊗ po) ⊗ (pu ⊗ qu))
      refl p.over p.under q.over q.under));
  times_unit = λ a. induction_on pairs {motive = λ a. times a (whole (pos 1)) ≡ a} (λ a. ℚ_set _ _) a
      (λ p. sound pairs (ring2 integers (λ po pu. (po ⊗ one) ⊗ pu) (λ po pu. po ⊗ (pu ⊗ one)) refl p.over p.under));
  times_plus = λ a b c. induction_on₃ pairs pairs pairs {motive = λ a b c. times a (plus b c) ≡ plus (times a b) (times a c)} (λ a b c. ℚ_set _ _) a b c
      (λ p q s. sound pairs (ring6 integers
      (λ po pu qo qu so su. (po ⊗ plus_over qo qu so su) ⊗ ((pu ⊗ qu) ⊗ (pu ⊗ su)))
      (λ po pu qo qu so su. plus_over (po ⊗ qo) (pu ⊗ qu) (po ⊗ so) (pu ⊗ su) ⊗ (pu ⊗ (qu ⊗ su)))
      refl p.over p.under q.over q.under s.over s.under));
}

abbrev pub rational_numbers : CommutativeRing
rational_numbers = record { Of = ℚ; nil = whole (pos 0); unit = whole (pos 1); plus = plus; times = times; minus = minus; laws = rationals }
