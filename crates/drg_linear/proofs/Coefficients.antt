-- The coefficient of an unknown.
use Rattle.std.proofs.Common.{◌≡◌, ℕ, Bool, true, false, List, [], ◌∷◌, drop, refl}
use Rattle.std.specs.Prelude.{if◌then◌else◌}
use Rattle.drg_algebra.proofs.Tests.{both}
use Rattle.drg_whole.specs.Range.{InRange, in_range}
use Rattle.drg_whole.proofs.Ranges.{fitting}
use Rattle.drg_linear.specs.declared.unknown.Unknown.{Unknown}
use Rattle.drg_linear.specs.Unknowns.{is_same}
use Rattle.drg_linear.specs.Equations.{Term, EquationContent, coefficient_of, all_coefficients, is_coefficient, is_equation}

-- no term of the unknown stands before place i
pub record Unseen (u : Unknown) (terms : List Term) (i : ℕ) : Type 0 where
  pub coefficient : coefficient_of u terms ≡ coefficient_of u (drop i terms)

coefficient_at : (u : Unknown) (t : Term) (ts : List Term) (b : Bool) → in_range t.1 ≡ true → in_range (coefficient_of u ts) ≡ true → in_range (if b then t.1 else coefficient_of u ts) ≡ true
coefficient_at u t ts true h k = h
coefficient_at u t ts false h k = k

coefficient_fits : (u : Unknown) (terms : List Term) → all_coefficients terms ≡ true → in_range (coefficient_of u terms) ≡ true
coefficient_fits u [] h = refl
coefficient_fits u (t ∷ ts) h =
    let s = both (is_coefficient t.1) (all_coefficients ts) h in
    coefficient_at u t ts (is_same t.0 u) (both (in_range t.1) _ s.0).0 (coefficient_fits u ts s.1)

-- a coefficient of an equation is in range, and so is its right side
pub coefficient_in_range : (u : Unknown) (e : EquationContent) → is_equation e ≡ true → InRange (coefficient_of u e.terms)
coefficient_in_range u e h = fitting (coefficient_of u e.terms) (coefficient_fits u e.terms (both _ (all_coefficients e.terms) (both _ _ h).0).1)

pub right_in_range : (e : EquationContent) → is_equation e ≡ true → InRange e.right
right_in_range e h = fitting e.right (both _ (in_range e.right) h).1
