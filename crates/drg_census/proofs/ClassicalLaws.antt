-- The parameters that the steps make are classical parameters, and an array has no other ones.
use Rattle.std.proofs.Common.{◌≡◌, ℕ, zero, suc, ◌≤◌, ◌<◌, refl, sym, ap, ap₂, subst, ◌∙◌, arith, ◌⊎◌, inl, inr}
use Rattle.std.specs.Prelude.{ℤ, pos, negsuc, ◌≢◌}
use Rattle.drg_algebra.specs.Fields.{invert, invert_is}
use Rattle.drg_algebra.specs.Rational.{ℚ, whole, plus, times, minus, rationals}
use Rattle.drg_algebra.specs.Ring.{none, one, ◌⊕◌, ◌⊗◌, neg, ring2, ring3, ring4, ring5}
use Rattle.drg_array.specs.Entries.{Entries, IsArray, diameter, b_at, c_at}
use Rattle.drg_census.specs.Classical.{AreClassicalParameters, IsTried, bracket, less, next_bracket}
use Rattle.drg_census.specs.ClassicalRows.{NoneIsMissed, OnePair}
use Rattle.drg_census.specs.ClassicalWork.{AllPass, IsWide, alpha_of, b_made, b_step, b_steps, beta_of, c_made, c_step, c_steps, steps}
use Rattle.drg_census.proofs.NonzeroBrackets.{last_some, next_some}
use Rattle.drg_census.proofs.StepLists.{AllAgree, agree_below, agree_both, pass_at, pass_first, pass_or_wide, pass_second}

-- ---- rings
first_c : (b alpha : ℚ) → times (plus (whole (pos 1)) (times b (whole (pos 0)))) (plus (whole (pos 1)) (times alpha (whole (pos 0)))) ≡ whole (pos 1)
first_c b alpha = ring2 rationals (λ b x. (one ⊕ (b ⊗ none)) ⊗ (one ⊕ (x ⊗ none))) (λ b x. one) refl b alpha

c_turned : (alpha x y : ℚ) → times y (plus (whole (pos 1)) (times alpha x)) ≡ times (plus (times alpha x) (whole (pos 1))) y
c_turned alpha x y = ring3 rationals (λ a x y. y ⊗ (one ⊕ (a ⊗ x))) (λ a x y. ((a ⊗ x) ⊕ one) ⊗ y) refl alpha x y

first_b : (alpha beta w : ℚ) → times (less w (whole (pos 0))) (less beta (times alpha (whole (pos 0)))) ≡ times w beta
first_b alpha beta w = ring3 rationals (λ a t w. (w ⊕ neg none) ⊗ (t ⊕ neg (a ⊗ none))) (λ a t w. w ⊗ t) refl alpha beta w

-- x times (k / x) is k
quotient_back : (k x : ℚ) → ¬ (x ≡ whole (pos 0)) → times x (times k (invert x)) ≡ k
quotient_back k x f =
    ring3 rationals (λ k x v. x ⊗ (k ⊗ v)) (λ k x v. k ⊗ (x ⊗ v)) refl k x (invert x)
    ∙ ap (times k) (invert_is x f) ∙ rationals.times_unit k

-- where x times y is k, y is k / x
quotient_is : (k x y : ℚ) → ¬ (x ≡ whole (pos 0)) → times x y ≡ k → y ≡ times k (invert x)
quotient_is k x y f e =
    sym (rationals.times_unit y) ∙ ap (times y) (sym (invert_is x f))
    ∙ ring3 rationals (λ x y v. y ⊗ (x ⊗ v)) (λ x y v. (x ⊗ y) ⊗ v) refl x y (invert x)
    ∙ ap (λ t. times t (invert x)) e

second_bracket : (b : ℚ) → bracket b 2 ≡ plus (whole (pos 1)) b
second_bracket b = ring2 rationals (λ b x. one ⊕ (b ⊗ (one ⊕ (b ⊗ none)))) (λ b x. one ⊕ b) refl b b

second_c : (b alpha : ℚ) → times (plus (whole (pos 1)) (times b (plus (whole (pos 1)) (times b (whole (pos 0)))))) (plus (whole (pos 1)) (times alpha (plus (whole (pos 1)) (times b (whole (pos 0))))))
    ≡ times (plus (whole (pos 1)) b) (plus (whole (pos 1)) alpha)
second_c b alpha = ring2 rationals (λ b a. (one ⊕ (b ⊗ (one ⊕ (b ⊗ none)))) ⊗ (one ⊕ (a ⊗ (one ⊕ (b ⊗ none))))) (λ b a. (one ⊕ b) ⊗ (one ⊕ a)) refl b alpha

back_by_one : (alpha : ℚ) → less (plus (whole (pos 1)) alpha) (whole (pos 1)) ≡ alpha
back_by_one alpha = ring2 rationals (λ a x. (one ⊕ a) ⊕ neg one) (λ a x. a) refl alpha alpha

-- ---- one pair
pub one_pair : OnePair
one_pair a b alpha beta array tried has some = (
  sym (back_by_one alpha) ∙ ap (λ x. less x (whole (pos 1))) (quotient_is (whole (pos (c_at a 2))) (plus (whole (pos 1)) (whole b)) (plus (whole (pos 1)) alpha)
      (next_some b tried.not_minus_one) (sym (second_c (whole b) alpha) ∙ sym (has.nearer 1 (omega arith)))),
  quotient_is (whole (pos (b_at a 0))) (bracket (whole b) (diameter a)) beta (last_some b (diameter a) (omega arith) tried.not_minus_one)
      (sym (first_b alpha beta (bracket (whole b) (diameter a))) ∙ sym (has.further 0 (omega arith))),
)

-- ---- the steps compare with all entries
module _ (a : Entries) (b : ℤ) (array : IsArray a) (tried : IsTried a b) (some : 2 ≤ diameter a) where
  abbrev q : ℚ
  q = whole b

  abbrev alpha : ℚ
  alpha = alpha_of a q

  abbrev beta : ℚ
  beta = beta_of a q

  pub passing_are_parameters : AllPass (steps a b) → AreClassicalParameters a b alpha beta
  passing_are_parameters pass = record { further = further; nearer = nearer }
    where
      rest : AllPass (c_steps a q alpha)
      rest = pass_first (c_steps a q alpha) _ pass.1.1

      last : AllPass (b_steps a q alpha beta)
      last = (pass_second (c_steps a q alpha) _ pass.1.1).1

      further : (i : ℕ) → i < diameter a → whole (pos (b_at a i)) ≡ times (less (bracket q (diameter a)) (bracket q i)) (less beta (times alpha (bracket q i)))
      further zero h =
          sym (quotient_back (whole (pos (b_at a 0))) (bracket q (diameter a)) (last_some b (diameter a) (omega arith) tried.not_minus_one))
          ∙ sym (first_b alpha beta (bracket q (diameter a)))
      further (suc i) h = sym (pass_at (b_step a q alpha beta) (suc i) (diameter a) (omega arith) h last).1.0

      nearer : (i : ℕ) → i < diameter a → whole (pos (c_at a (suc i))) ≡ times (bracket q (suc i)) (plus (whole (pos 1)) (times alpha (bracket q i)))
      nearer zero h = pass.0 ∙ sym (first_c q alpha)
      nearer (suc i) h =
          sym (pass_at (c_step a q alpha) (suc i) (diameter a) (omega arith) h rest).1.1.0
          ∙ sym (c_turned alpha (bracket q (suc i)) (bracket q (suc (suc i))))

  pub parameters_agree : AreClassicalParameters a b alpha beta → AllAgree (steps a b)
  parameters_agree has = (
    has.nearer 0 (omega arith) ∙ first_c q alpha,
    agree_both (c_steps a q alpha) _
        (agree_below (c_step a q alpha) (diameter a) (λ i h l. (sym (c_turned alpha (bracket q i) (bracket q (suc i))) ∙ sym (has.nearer i l), tt)))
        (agree_below (b_step a q alpha beta) (diameter a) (λ i h l. (sym (has.further i l), tt))),
  )

pub none_is_missed : NoneIsMissed
none_is_missed a b alpha beta array tried has some =
    let same = one_pair a b alpha beta array tried has some in
    let here = subst (λ t. AreClassicalParameters a b t (beta_of a (whole b))) same.0 (subst (λ t. AreClassicalParameters a b alpha t) same.1 has) in
    pass_or_wide (steps a b) (parameters_agree a b array tried some here)
