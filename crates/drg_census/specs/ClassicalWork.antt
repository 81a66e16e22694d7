-- In which order the parameters to a base are made and compared with the entries, and which work numbers that takes.
use Rattle.std.specs.Prelude.{◌≡◌, ◌≢◌, ℕ, ℤ, zero, suc, ◌⊎◌, ⊤, pos, Bool, true, false, ◌&&◌, List, [], ◌∷◌, ◌++◌}
use Rattle.drg_algebra.specs.Fields.{invert}
use Rattle.drg_algebra.specs.Rational.{ℚ, whole, plus, times}
use Rattle.drg_array.specs.Entries.{Entries, diameter, b_at, c_at}
use Rattle.drg_fraction.specs.Work.{sum_fits, difference_fits, product_fits, quotient_fits}
use Rattle.drg_census.specs.Classical.{bracket, less, next_bracket}

pub data Step : Type 0 where
  -- work numbers: whether all of them are in range
  Fits : Bool → Step
  -- a comparison of a number that is made with an entry
  Agrees : ℚ → ℚ → Step

-- All work numbers fit, and all comparisons hold.
abbrev pub AllPass : List Step → Type 0
AllPass [] = ⊤
AllPass (Fits fits ∷ steps) = (fits ≡ true) × AllPass steps
AllPass (Agrees x y ∷ steps) = (x ≡ y) × AllPass steps

-- The first step that doesn't pass is a work number out of range.
abbrev pub IsWide : List Step → Type 0
IsWide [] = ⊥
IsWide (Fits fits ∷ steps) = (fits ≡ false) ⊎ ((fits ≡ true) × IsWide steps)
IsWide (Agrees x y ∷ steps) = (x ≡ y) × IsWide steps

-- The first step that doesn't pass is a comparison that fails.
abbrev pub IsRefuted : List Step → Type 0
IsRefuted [] = ⊥
IsRefuted (Fits fits ∷ steps) = (fits ≡ true) × IsRefuted steps
IsRefuted (Agrees x y ∷ steps) = (x ≢ y) ⊎ ((x ≡ y) × IsRefuted steps)

-- The steps of 1, 2, .., i - 1, one after the other.
abbrev pub steps_below : (ℕ → List Step) → ℕ → List Step
steps_below f zero = []
steps_below f (suc zero) = []
steps_below f (suc (suc i)) = steps_below f (suc i) ++ f (suc i)

-- The parameter alpha: c_2 / (1 + b) - 1.
abbrev pub alpha_of : Entries → ℚ → ℚ
alpha_of a b = less (times (whole (pos (c_at a 2))) (invert (plus (whole (pos 1)) b))) (whole (pos 1))

abbrev pub alpha_fits : Entries → ℚ → Bool
alpha_fits a b =
    sum_fits (whole (pos 1)) b
    && quotient_fits (whole (pos (c_at a 2))) (plus (whole (pos 1)) b)
    && difference_fits (times (whole (pos (c_at a 2))) (invert (plus (whole (pos 1)) b))) (whole (pos 1))

-- The parameter beta, where [d] is w: k / w.
abbrev pub beta_over : Entries → ℚ → ℚ
beta_over a w = times (whole (pos (b_at a 0))) (invert w)

abbrev pub beta_of : Entries → ℚ → ℚ
beta_of a b = beta_over a (bracket b (diameter a))

abbrev pub bracket_fits : ℚ → ℚ → Bool
bracket_fits b x = product_fits b x && sum_fits (whole (pos 1)) (times b x)

-- (alpha x + 1) y, for x = [i] and y = [i + 1]
abbrev pub c_made : ℚ → ℚ → ℚ → ℚ
c_made alpha x y = times (plus (times alpha x) (whole (pos 1))) y

abbrev pub c_fits : ℚ → ℚ → ℚ → Bool
c_fits alpha x y = product_fits alpha x && sum_fits (times alpha x) (whole (pos 1)) && product_fits (plus (times alpha x) (whole (pos 1))) y

-- (w - x) (beta - alpha x), for w = [d] and x = [i]
abbrev pub b_made : ℚ → ℚ → ℚ → ℚ → ℚ
b_made alpha beta w x = times (less w x) (less beta (times alpha x))

abbrev pub b_fits : ℚ → ℚ → ℚ → ℚ → Bool
b_fits alpha beta w x =
    difference_fits w x && product_fits alpha x && difference_fits beta (times alpha x) && product_fits (less w x) (less beta (times alpha x))

-- The steps for c_(i+1), after [i].
abbrev pub c_step : Entries → ℚ → ℚ → ℕ → List Step
c_step a b alpha i =
    Fits (bracket_fits b (bracket b i))
    ∷ Fits (c_fits alpha (bracket b i) (bracket b (suc i)))
    ∷ Agrees (c_made alpha (bracket b i) (bracket b (suc i))) (whole (pos (c_at a (suc i))))
    ∷ []

-- The steps for b_i.
abbrev pub b_step : Entries → ℚ → ℚ → ℚ → ℕ → List Step
b_step a b alpha beta i =
    Fits (b_fits alpha beta (bracket b (diameter a)) (bracket b i))
    ∷ Agrees (b_made alpha beta (bracket b (diameter a)) (bracket b i)) (whole (pos (b_at a i)))
    ∷ []

abbrev pub c_steps : Entries → ℚ → ℚ → List Step
c_steps a b alpha = steps_below (c_step a b alpha) (diameter a)

abbrev pub b_steps : Entries → ℚ → ℚ → ℚ → List Step
b_steps a b alpha beta = steps_below (b_step a b alpha beta) (diameter a)

-- All steps to a base: c_1 is 1, then alpha, then c_2 to c_d, then beta, then b_1 to b_(d-1).
abbrev pub steps_to : Entries → ℚ → List Step
steps_to a b =
    Agrees (whole (pos (c_at a 1))) (whole (pos 1))
    ∷ Fits (alpha_fits a b)
    ∷ (c_steps a b (alpha_of a b) ++ Fits (quotient_fits (whole (pos (b_at a 0))) (bracket b (diameter a))) ∷ b_steps a b (alpha_of a b) (beta_of a b))

abbrev pub steps : Entries → ℤ → List Step
steps a b = steps_to a (whole b)
