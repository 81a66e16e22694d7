-- A condition holds exactly where none of its claims fails.
use Rattle.std.proofs.Common.{◌≡◌, ℕ, suc, ◌≤◌, ◌<◌, ◌⊎◌, inl, inr, refl, arith}
use Rattle.std.specs.Prelude.{ℤ, pos, negsuc, ◌<ℤ◌, ◌≤ℤ◌, ◌==◌, nat_lt}
use Rattle.std.proofs.lemmas.Int.{ints}
use Rattle.std.proofs.lemmas.Bool.Decides.{nat_tests}
use Rattle.drg_algebra.proofs.Tests.{decided}
use Rattle.drg_array.specs.Entries.{b_at, c_at, a_at}
use Rattle.drg_array.specs.ConditionLaws.{FailsWhereFalse, HoldsWhereNoneFails}
use Rattle.drg_array.specs.declared.test.Test.TheVariants as test
use Rattle.drg_array.specs.declared.claim.Claim.TheVariants.{First, Degree, Order, Cross, Size, Intersect, Handshake, Induced, Triangles, Mult, Krein, Absolute, Triple, Ktriple}
use Rattle.drg_array.proofs.Told.{multiple_told, natural_told}

pub fails : FailsWhereFalse
fails a First f h = f h
fails a (Degree i) (place, below) h = let at = h i place in omega (arith, ints, at, below)
fails a (Order i) (some, short, inl less) h = let at = h i some short in omega (arith, at.0, less)
fails a (Order i) (some, short, inr less) h = let at = h i some short in omega (arith, at.1, less)
fails a (Cross i j) (some, short, less) h = let at = h i j some short in omega (arith, at, less)
fails a (Size i) (place, f) h = f (h i place)
fails a (Intersect t i j) (one, two, three, x, is, f) h = f (h t i j one two three x is)
fails a (Handshake i) (place, f) h = f (h i place)
fails a (Induced i j) (one, two, x, is, f) h = f (h i j one two x is)
fails a (Triangles i) (place, x, is, f) h = f (h i place x is)
fails a (Mult i) f h = f
fails a (Krein i j t) f h = f
fails a (Absolute i j) f h = f
fails a (Triple u v w) f h = f
fails a (Ktriple u v w) f h = f

from_not : {P : Type 0} → P ⊎ ¬ P → ¬ (¬ P) → P
from_not (inl p) h = p
from_not (inr f) h = absurd (h f)

same_or_not : (m n : ℕ) → (m ≡ n) ⊎ ¬ (m ≡ n)
same_or_not m n = elim (decided (m == n)) [ inl e ↦ inl (grind (arith, nat_tests, e)) | inr e ↦ inr (λ h. grind (arith, nat_tests, e, h)) ]

less_or_not : (m n : ℕ) → (m < n) ⊎ ¬ (m < n)
less_or_not m n = elim (decided (nat_lt m n)) [ inl e ↦ inl (grind (arith, nat_tests, e)) | inr e ↦ inr (λ h. grind (arith, nat_tests, e, h)) ]

not_below : (m n : ℕ) → ¬ (m < n) → n ≤ m
not_below m n h = elim (less_or_not m n) [ inl e ↦ absurd (h e) | inr f ↦ omega (arith, f) ]

not_negative : (z : ℤ) → ¬ (z <ℤ pos 0) → pos 0 ≤ℤ z
not_negative (pos n) h = omega (arith, ints)
not_negative (negsuc n) h = absurd (h (omega (arith, ints)))

pub holds : HoldsWhereNoneFails
holds a test.First is none = from_not (same_or_not (c_at a 1) 1) (λ f. none First refl f)
holds a test.Degree is none = λ i place. not_negative (a_at a i) (λ h. none (Degree i) refl (place, h))
holds a test.Order is none =
    λ i some short. (
      not_below (b_at a i) (b_at a (suc i)) (λ h. none (Order i) refl (some, short, inl h)),
      not_below (c_at a (suc i)) (c_at a i) (λ h. none (Order i) refl (some, short, inr h)),
    )
holds a test.Cross is none = λ i j some short. not_below (b_at a j) (c_at a i) (λ h. none (Cross i j) refl (some, short, h))
holds a test.Size is none = λ i place. from_not (multiple_told 1 _) (λ f. none (Size i) refl (place, f))
holds a test.Intersect is none = λ h i j one two three x num. from_not (natural_told x) (λ f. none (Intersect h i j) refl (one, two, three, x, num, f))
holds a test.Handshake is none = λ i place. from_not (multiple_told 2 _) (λ f. none (Handshake i) refl (place, f))
holds a test.Induced is none = λ i j one two x num. from_not (multiple_told 2 _) (λ f. none (Induced i j) refl (one, two, x, num, f))
holds a test.Triangles is none = λ i place x num. from_not (multiple_told 6 _) (λ f. none (Triangles i) refl (place, x, num, f))
holds a test.Mult is none = is
holds a test.Krein is none = is
holds a test.Absolute is none = is
holds a test.Triple is none = is
holds a test.Ktriple is none = is
