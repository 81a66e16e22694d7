-- The steps to a base, as they are taken.
use Rattle.std.proofs.Common.{◌≡◌, ℕ, zero, suc, ◌≤◌, ◌<◌, Bool, true, false, refl, sym, ap, ap₂, subst, ◌∙◌, arith, ◌⊎◌, inl, inr}
use Rattle.std.specs.Prelude.{ℤ, pos, IsTrue, ◌≢◌}
use Rattle.std.specs.Bool.{MatchBool}
use Rattle.std.specs.Result.{OnErr}
use Rattle.std.specs.Prelude.{Result, Ok, Err}
use Rattle.drg_algebra.specs.Rational.{ℚ, whole, plus, times, rationals}
use Rattle.drg_algebra.specs.Ring.{none, one, ◌⊕◌, ◌⊗◌, ring2}
use Rattle.drg_algebra.proofs.WholeParts.{same_whole}
use Rattle.std.proofs.lemmas.Int.{ints}
use Rattle.drg_array.specs.Entries.{Entries, diameter, b_at, c_at}
use Rattle.drg_fraction.specs.Work.{quotient_fits}
use Rattle.drg_census.specs.Classical.{bracket, next_bracket}
use Rattle.drg_census.specs.ClassicalWork.{AllPass, IsRefuted, IsWide, alpha_fits, alpha_of, b_fits, b_made, b_step, b_steps, beta_of, bracket_fits, c_fits, c_made, c_step, c_steps, steps_to}
use Rattle.drg_census.proofs.StepLists.{pass_both, refuted_first, refuted_second, wide_first, wide_second}

pub match_told : {P Q : Type 0} (r : Bool) → (r ≡ true → P) → (r ≡ false → Q) → MatchBool r P Q
match_told true h k = h refl
match_told false h k = k refl

pub on_err : {T E P : Type 0} (r : Result T E) → P → OnErr r P
on_err (Ok x) p = tt
on_err (Err e) p = p

pub first_bracket : (b : ℚ) → whole (pos 1) ≡ bracket b 1
first_bracket b = ring2 rationals (λ b x. one) (λ b x. one ⊕ (b ⊗ none)) refl b b

-- ---- one entry, where x is [i], y is [i + 1], and m is what is made of them
module _ (a : Entries) (b alpha : ℚ) (i : ℕ) (x y m e : ℚ) (at : x ≡ bracket b i) (fits : bracket_fits b x ≡ true) (next : y ≡ next_bracket b x)
    (made_fits : c_fits alpha x y ≡ true) (made : m ≡ c_made alpha x y) (entry : e ≡ whole (pos (c_at a (suc i)))) where
  pub next_at : y ≡ bracket b (suc i)
  next_at = next ∙ ap (next_bracket b) at

  fits_here : bracket_fits b (bracket b i) ≡ true
  fits_here = subst (λ t. bracket_fits b t ≡ true) at fits

  made_fits_here : c_fits alpha (bracket b i) (bracket b (suc i)) ≡ true
  made_fits_here = subst (λ t. c_fits alpha (bracket b i) t ≡ true) next_at (subst (λ t. c_fits alpha t y ≡ true) at made_fits)

  made_here : c_made alpha (bracket b i) (bracket b (suc i)) ≡ m
  made_here = sym (made ∙ ap (λ t. c_made alpha t y) at ∙ ap (c_made alpha (bracket b i)) next_at)

  pub nearer_passes : m ≡ e → AllPass (c_step a b alpha i) × (y ≡ bracket b (suc i))
  nearer_passes same = ((fits_here, (made_fits_here, (made_here ∙ same ∙ entry, tt))), next_at)

  pub nearer_refuted : ¬ (m ≡ e) → IsRefuted (c_step a b alpha i)
  nearer_refuted differ = (fits_here, (made_fits_here, inl (λ same. differ (sym made_here ∙ same ∙ sym entry))))

-- ---- the same for b_i, where w is [d] and x is [i]
module _ (a : Entries) (b alpha beta : ℚ) (i : ℕ) (w x m e : ℚ) (last : w ≡ bracket b (diameter a)) (at : x ≡ bracket b i)
    (made_fits : b_fits alpha beta w x ≡ true) (made : m ≡ b_made alpha beta w x) (entry : e ≡ whole (pos (b_at a i))) where
  here_fits : b_fits alpha beta (bracket b (diameter a)) (bracket b i) ≡ true
  here_fits = subst (λ t. b_fits alpha beta (bracket b (diameter a)) t ≡ true) at (subst (λ t. b_fits alpha beta t x ≡ true) last made_fits)

  here_made : b_made alpha beta (bracket b (diameter a)) (bracket b i) ≡ m
  here_made = sym (made ∙ ap (λ t. b_made alpha beta t x) last ∙ ap (b_made alpha beta (bracket b (diameter a))) at)

  pub further_passes : m ≡ e → AllPass (b_step a b alpha beta i)
  further_passes same = (here_fits, (here_made ∙ same ∙ entry, tt))

  pub further_refuted : ¬ (m ≡ e) → IsRefuted (b_step a b alpha beta i)
  further_refuted differ = (here_fits, inl (λ same. differ (sym here_made ∙ same ∙ sym entry)))

pub further_wide : (a : Entries) (b alpha beta : ℚ) (i : ℕ) (w x : ℚ) → w ≡ bracket b (diameter a) → x ≡ bracket b i
    → b_fits alpha beta w x ≡ false → IsWide (b_step a b alpha beta i)
further_wide a b alpha beta i w x last at out =
    inl (subst (λ t. b_fits alpha beta (bracket b (diameter a)) t ≡ false) at (subst (λ t. b_fits alpha beta t x ≡ false) last out))

-- ---- all steps, where x is alpha, w is [d] and y is beta
pub refuted_by_first : (a : Entries) (b : ℚ) → ¬ (c_at a 1 ≡ 1) → IsRefuted (steps_to a b)
refuted_by_first a b f = inl (λ e. f (let same = same_whole _ _ e in omega (arith, ints, same)))

module _ (a : Entries) (b : ℚ) (first : c_at a 1 ≡ 1) where
  start : whole (pos (c_at a 1)) ≡ whole (pos 1)
  start = ap (λ (n : ℕ). whole (pos n)) first

  pub wide_alpha : alpha_fits a b ≡ false → IsWide (steps_to a b)
  wide_alpha out = (start, inl out)

  module _ (x : ℚ) (fits : alpha_fits a b ≡ true) (is : x ≡ alpha_of a b) where
    pub wide_nearer : IsWide (c_steps a b x) → IsWide (steps_to a b)
    wide_nearer w = (start, inr (fits, wide_first (c_steps a b (alpha_of a b)) _ (subst (λ t. IsWide (c_steps a b t)) is w)))

    pub refuted_nearer : IsRefuted (c_steps a b x) → IsRefuted (steps_to a b)
    refuted_nearer w = inr (start, (fits, refuted_first (c_steps a b (alpha_of a b)) _ (subst (λ t. IsRefuted (c_steps a b t)) is w)))

    module _ (nearer : AllPass (c_steps a b x)) (w : ℚ) (last : w ≡ bracket b (diameter a)) where
      nearer_here : AllPass (c_steps a b (alpha_of a b))
      nearer_here = subst (λ t. AllPass (c_steps a b t)) is nearer

      pub wide_beta : quotient_fits (whole (pos (b_at a 0))) w ≡ false → IsWide (steps_to a b)
      wide_beta out = (
        start,
        inr (
          fits,
          wide_second (c_steps a b (alpha_of a b)) _ nearer_here
              (inl (subst (λ t. quotient_fits (whole (pos (b_at a 0))) t ≡ false) last out)),
        ),
      )

      module _ (y : ℚ) (some : quotient_fits (whole (pos (b_at a 0))) w ≡ true) (beta : y ≡ beta_of a b) where
        some_here : quotient_fits (whole (pos (b_at a 0))) (bracket b (diameter a)) ≡ true
        some_here = subst (λ t. quotient_fits (whole (pos (b_at a 0))) t ≡ true) last some

        pub wide_further : IsWide (b_steps a b x y) → IsWide (steps_to a b)
        wide_further v = (
          start,
          inr (
            fits,
            wide_second (c_steps a b (alpha_of a b)) _ nearer_here
                (inr (some_here, subst (λ t. IsWide (b_steps a b (alpha_of a b) t)) beta (subst (λ t. IsWide (b_steps a b t y)) is v))),
          ),
        )

        pub refuted_further : IsRefuted (b_steps a b x y) → IsRefuted (steps_to a b)
        refuted_further v = inr (
          start,
          (
            fits,
            refuted_second (c_steps a b (alpha_of a b)) _ nearer_here
                (some_here, subst (λ t. IsRefuted (b_steps a b (alpha_of a b) t)) beta (subst (λ t. IsRefuted (b_steps a b t y)) is v)),
          ),
        )

        pub pass_further : AllPass (b_steps a b x y) → AllPass (steps_to a b)
        pass_further v = (
          start,
          (
            fits,
            pass_both (c_steps a b (alpha_of a b)) _ nearer_here
                (some_here, subst (λ t. AllPass (b_steps a b (alpha_of a b) t)) beta (subst (λ t. AllPass (b_steps a b t y)) is v)),
          ),
        )
