-- What the tests say that a met line has passed.
use Rattle.std.proofs.Common.{◌≡◌, ℕ, ◌<◌, ◌≤◌, Bool, true, false, List, [], ◌∷◌, ◌++◌, Ok, Err, refl, arith}
use Rattle.std.specs.Prelude.{ℤ, ◌<ℤ◌, not, nat_le, nat_lt, nat_eq, int_lt}
use Rattle.std.specs.Ordering.{int_eq}
use Rattle.std.proofs.lemmas.Bool.Decides.{nat_tests, Decides-int_eq}
use Rattle.std.proofs.lemmas.Int.{ints}
use Rattle.drg_replay.specs.declared.refusal.Refusal.{Refusal}
use Rattle.drg_replay.specs.Steps.{Step, Holds, Fits, first_failure, EachHolds}

pub each_holds : (steps : List Step) → first_failure steps ≡ Ok tt → EachHolds steps
each_holds [] h = tt
each_holds (Holds true ∷ steps) h = (refl, each_holds steps h)
each_holds (Holds false ∷ steps) h = cc
each_holds (Fits true ∷ steps) h = (refl, each_holds steps h)
each_holds (Fits false ∷ steps) h = cc

pub not_met : (a : Bool) → not a ≡ true → a ≡ true → ⊥
not_met true h e = cc
not_met false h e = cc

pub at_most : (a b : ℕ) → nat_le a b ≡ true → a ≤ b
at_most a b h = grind (arith, nat_tests)

pub is_less : (a b : ℕ) → nat_lt a b ≡ true → a < b
is_less a b h = grind (arith, nat_tests)

pub not_at_most : (a b : ℕ) → not (nat_le a b) ≡ true → b < a
not_at_most a b h = grind (arith, nat_tests)

pub is_same : (a b : ℕ) → nat_eq a b ≡ true → a ≡ b
is_same a b h = grind (arith, nat_tests)

pub are_same : (a b : ℕ) → a ≡ b → nat_eq a b ≡ true
are_same a b h = grind (arith, nat_tests)

pub is_whole_same : (x y : ℤ) → int_eq x y ≡ true → x ≡ y
is_whole_same x y h = (Decides-int_eq x y).0 h

pub is_whole_less : (x y : ℤ) → int_lt x y ≡ true → x <ℤ y
is_whole_less x y h = omega (arith, ints)

-- the first steps decide where they fail, and else those after them
pub fails_first : (steps rest : List Step) (r : Refusal) → first_failure steps ≡ Err r → first_failure (steps ++ rest) ≡ Err r
fails_first [] rest r h = cc
fails_first (Holds true ∷ steps) rest r h = fails_first steps rest r h
fails_first (Holds false ∷ steps) rest r h = h
fails_first (Fits true ∷ steps) rest r h = fails_first steps rest r h
fails_first (Fits false ∷ steps) rest r h = h

pub passes_first : (steps rest : List Step) → first_failure steps ≡ Ok tt → first_failure (steps ++ rest) ≡ first_failure rest
passes_first [] rest h = refl
passes_first (Holds true ∷ steps) rest h = passes_first steps rest h
passes_first (Holds false ∷ steps) rest h = cc
passes_first (Fits true ∷ steps) rest h = passes_first steps rest h
passes_first (Fits false ∷ steps) rest h = cc
