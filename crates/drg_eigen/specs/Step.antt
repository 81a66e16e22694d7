-- What the steps of the code's division give.
use Rattle.std.specs.Prelude.{◌≡◌, ℤ, pos, List, [], ◌∷◌, map, Result, Ok, Err}
use Rattle.std.specs.List.{AllByRecursion}
use Rattle.drg_whole.specs.declared.whole.Whole.{Whole}
use Rattle.drg_whole.specs.declared.whole.Wide.{Wide}
use Rattle.drg_eigen.specs.Factor.{Factor, linear, quadratic, times_factor}
use Rattle.drg_eigen.specs.Division.{numerator, work_numbers}
use Rattle.drg_whole.specs.Range.{InRange}
use Rattle.drg_eigen.specs.declared.divisor.Divisor.{Divisor}
use Rattle.drg_eigen.specs.declared.divisor.Divisor.TheVariants.{Linear, Quadratic}

abbrev pub factor_of : Divisor → Factor
factor_of (Linear r) = linear r
factor_of (Quadratic s t) = quadratic s t

abbrev pub factors_of : List Divisor → List Factor
factors_of ds = map factor_of ds

-- the numerator where its work numbers are in range, and a refusal exactly where they aren't
abbrev pub IsNumerator : Factor → ℤ → ℤ → ℤ → Result Whole Wide → Type 0
IsNumerator c p q g (Ok z) = (z.value ≡ numerator c p q g) × AllByRecursion InRange (work_numbers c p q g)
IsNumerator c p q g (Err e) = ¬ AllByRecursion InRange (work_numbers c p q g)

-- the end of a division, after p and q: what is left over is 0
abbrev pub IsOver : Factor → ℤ → ℤ → Type 0
IsOver (linear r) p q = q ≡ pos 0
IsOver (quadratic s t) p q = (p ≡ pos 0) × (q ≡ pos 0)

-- a list without its last member, and without the last one or two
abbrev pub but_last : List ℤ → List ℤ
but_last [] = []
but_last (x ∷ []) = []
but_last (x ∷ y ∷ l) = x ∷ but_last (y ∷ l)

abbrev pub shortened : Factor → List ℤ → List ℤ
shortened (linear r) us = but_last us
shortened (quadratic s t) us = but_last (but_last us)

-- the quotient, with coefficients in range
abbrev pub IsDividedInRange : Factor → List ℤ → List ℤ → Type 0
IsDividedInRange c f q = (times_factor c q ≡ f) × AllByRecursion InRange q
