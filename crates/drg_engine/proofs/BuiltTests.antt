-- The tests that are built: those on counts, and mult.
use Rattle.std.proofs.Common.{◌≡◌, ℕ, ◌≤◌, List, [], ◌∷◌, true, false, refl, sym, ◌∙◌, subst, arith, inl, inr}
use Rattle.std.specs.Prelude.{◌⊎◌, ◌&&◌, Bool, Contains}
use Rattle.std.proofs.lemmas.Bool.{false≢true}
use Rattle.std.proofs.lemmas.List.Elements.{Contains-append_cases, Contains-push_cases}
use Rattle.drg_array.specs.Entries.{Entries, IsArray}
use Rattle.drg_array.specs.ClaimOrder.{test_number}
use Rattle.drg_array.specs.Claims.{class_of, test_of}
use Rattle.drg_array.specs.Conditions.{CountsHold, CountsFail}
use Rattle.drg_array.specs.ConditionLaws as counts
use Rattle.drg_array.specs.TestLists.{IsAlwaysRun, IsSelection}
use Rattle.drg_array.specs.declared.claim.Claim.{Claim}
use Rattle.drg_array.specs.declared.claim.Claim.TheVariants.{First, Degree, Order, Cross, Size, Intersect, Handshake, Induced, Triangles, Mult}
use Rattle.drg_array.specs.declared.claim.Class.TheVariants.{Counting, Spectral}
use Rattle.drg_array.specs.declared.test.Test.{Test}
use Rattle.drg_array.specs.declared.test.Test.TheVariants as test
use Rattle.drg_array.specs.declared.test_set.TheConstants.{BUILT}
use Rattle.drg_engine.specs.Causes.{IsDecidable, IsSpectral}
use Rattle.drg_engine.specs.Conditions.{Fails, Holds, IsBuilt}
use Rattle.drg_engine.specs.Laws.{FailingTestsDontHold, HasFrameFor, SelectedTestsRun, UnfailedTestsHold}
use Rattle.drg_engine.specs.Selections.{Runs}
use Rattle.drg_engine.proofs.MultTests.{mult_holds}

pub built_number : (t : Test) → IsBuilt t → test_number t ≤ 10
built_number test.First built = omega arith
built_number test.Degree built = omega arith
built_number test.Order built = omega arith
built_number test.Cross built = omega arith
built_number test.Size built = omega arith
built_number test.Intersect built = omega arith
built_number test.Handshake built = omega arith
built_number test.Induced built = omega arith
built_number test.Triangles built = omega arith
built_number test.Mult built = omega arith
built_number t built = absurd built

pub is_built : (t : Test) → test_number t ≤ 10 → IsBuilt t
is_built test.First h = tt
is_built test.Degree h = tt
is_built test.Order h = tt
is_built test.Cross h = tt
is_built test.Size h = tt
is_built test.Intersect h = tt
is_built test.Handshake h = tt
is_built test.Induced h = tt
is_built test.Triangles h = tt
is_built test.Mult h = tt
is_built t h = absurd (omega (arith, h))

pub built_or_not : (t : Test) → IsBuilt t ⊎ (¬ IsBuilt t)
built_or_not test.First = inl tt
built_or_not test.Degree = inl tt
built_or_not test.Order = inl tt
built_or_not test.Cross = inl tt
built_or_not test.Size = inl tt
built_or_not test.Intersect = inl tt
built_or_not test.Handshake = inl tt
built_or_not test.Induced = inl tt
built_or_not test.Triangles = inl tt
built_or_not test.Mult = inl tt
built_or_not t = inr (λ h. absurd h)

pub always_or_not : (t : Test) → IsAlwaysRun t ⊎ (¬ IsAlwaysRun t)
always_or_not test.First = inl tt
always_or_not test.Degree = inl tt
always_or_not test.Order = inl tt
always_or_not test.Cross = inl tt
always_or_not test.Size = inl tt
always_or_not test.Intersect = inl tt
always_or_not t = inr (λ h. absurd h)

-- ---- which tests run
always_built : (t : Test) → IsAlwaysRun t → IsBuilt t
always_built test.First always = tt
always_built test.Degree always = tt
always_built test.Order always = tt
always_built test.Cross always = tt
always_built test.Size always = tt
always_built test.Intersect always = tt
always_built t always = absurd always

-- what a list of one more test contains
pub either : (t u : Test) (us : List Test) → Contains (u ∷ us) t → (u ≡ t) ⊎ Contains us t
either t u us h =
    elim (Contains-append_cases (u ∷ []) us t h) [
      | inl one ↦ elim (Contains-push_cases [] u t one) [ inl none ↦ absurd (omega (arith, none.1)) | inr e ↦ inl e ]
      | inr more ↦ inr more
    ]

-- the members of a list of tests that are built, whichever they are
abbrev built : Test → Bool
built test.First = true
built test.Degree = true
built test.Order = true
built test.Cross = true
built test.Size = true
built test.Intersect = true
built test.Handshake = true
built test.Induced = true
built test.Triangles = true
built test.Mult = true
built t = false

from_built : (t : Test) → built t ≡ true → IsBuilt t
from_built test.First e = tt
from_built test.Degree e = tt
from_built test.Order e = tt
from_built test.Cross e = tt
from_built test.Size e = tt
from_built test.Intersect e = tt
from_built test.Handshake e = tt
from_built test.Induced e = tt
from_built test.Triangles e = tt
from_built test.Mult e = tt
from_built t e = absurd (false≢true e)

abbrev all_built : List Test → Bool
all_built [] = true
all_built (t ∷ ts) = built t && all_built ts

split_test : (b c : Bool) → (b && c) ≡ true → (b ≡ true) × (c ≡ true)
split_test true c e = (refl, e)
split_test false c e = absurd (false≢true e)

member_built : (ts : List Test) (t : Test) → all_built ts ≡ true → Contains ts t → IsBuilt t
member_built [] t e h = absurd (omega (arith, h.1))
member_built (u ∷ us) t e h =
    let both = split_test (built u) (all_built us) e in
    elim (either t u us h) [ inl same ↦ subst IsBuilt same (from_built u both.0) | inr more ↦ member_built us t both.1 more ]

listed_built : (t : Test) → Contains BUILT t → IsBuilt t
listed_built t h = member_built BUILT t refl h

selected_built : (tests : List Test) (t : Test) → IsSelection tests → Contains tests t → IsBuilt t
selected_built [] t selection h = absurd (omega (arith, h.1))
selected_built (u ∷ us) t selection h =
    elim (either t u us h) [ inl e ↦ subst IsBuilt e (listed_built u selection.0) | inr more ↦ selected_built us t selection.2 more ]

pub each_runs : (tests : List Test) (t : Test) → IsSelection tests → IsAlwaysRun t ⊎ Contains tests t → Runs tests t
each_runs tests t selection (inl always) = (always_built t always, inl always)
each_runs tests t selection (inr selected) = (selected_built tests t selection selected, inr selected)

pub selected_run : SelectedTestsRun
selected_run tests t selection selected = each_runs tests t selection (inr selected)

-- ---- claims and conditions
pub array_test : (t : Test) → test_number t ≤ 9 → counts.IsArrayTest t
array_test test.First h = tt
array_test test.Degree h = tt
array_test test.Order h = tt
array_test test.Cross h = tt
array_test test.Size h = tt
array_test test.Intersect h = tt
array_test test.Handshake h = tt
array_test test.Induced h = tt
array_test test.Triangles h = tt
array_test t h = absurd (omega (arith, h))

-- a test that is built is one on counts, or mult
pub test_kind : (t : Test) → IsBuilt t → counts.IsArrayTest t ⊎ (t ≡ test.Mult)
test_kind test.First built = inl tt
test_kind test.Degree built = inl tt
test_kind test.Order built = inl tt
test_kind test.Cross built = inl tt
test_kind test.Size built = inl tt
test_kind test.Intersect built = inl tt
test_kind test.Handshake built = inl tt
test_kind test.Induced built = inl tt
test_kind test.Triangles built = inl tt
test_kind test.Mult built = inr refl
test_kind t built = absurd built

pub claim_kind : (claim : Claim) → IsBuilt (test_of claim) → counts.IsArrayTest (test_of claim) ⊎ ((i : ℕ) × (claim ≡ Mult i))
claim_kind First built = inl tt
claim_kind (Degree i) built = inl tt
claim_kind (Order i) built = inl tt
claim_kind (Cross i j) built = inl tt
claim_kind (Size i) built = inl tt
claim_kind (Intersect h i j) built = inl tt
claim_kind (Handshake i) built = inl tt
claim_kind (Induced i j) built = inl tt
claim_kind (Triangles i) built = inl tt
claim_kind (Mult i) built = inr (i, refl)
claim_kind claim built = absurd built

-- a test that is built and asks for the frame is mult
pub is_mult : (t : Test) → IsBuilt t → IsSpectral t → t ≡ test.Mult
is_mult test.Mult built asks = refl
is_mult test.First built asks = absurd asks
is_mult test.Degree built asks = absurd asks
is_mult test.Order built asks = absurd asks
is_mult test.Cross built asks = absurd asks
is_mult test.Size built asks = absurd asks
is_mult test.Intersect built asks = absurd asks
is_mult test.Handshake built asks = absurd asks
is_mult test.Induced built asks = absurd asks
is_mult test.Triangles built asks = absurd asks
is_mult t built asks = absurd built

-- the number of a test on counts
pub count_number : (t : Test) → counts.IsArrayTest t → test_number t ≤ 9
count_number test.First counted = omega arith
count_number test.Degree counted = omega arith
count_number test.Order counted = omega arith
count_number test.Cross counted = omega arith
count_number test.Size counted = omega arith
count_number test.Intersect counted = omega arith
count_number test.Handshake counted = omega arith
count_number test.Induced counted = omega arith
count_number test.Triangles counted = omega arith
count_number t counted = absurd counted

-- a claim of counting rules is one on counts
pub counting_claim : (claim : Claim) → IsBuilt (test_of claim) → class_of claim ≡ Counting → counts.IsArrayTest (test_of claim)
counting_claim claim built e =
    elim (claim_kind claim built) [
      | inl counted ↦ counted
      | inr (i, same) ↦ (let other : Spectral ≡ Counting = subst (λ (c : Claim). class_of c ≡ Counting) same e in absurd cc)
    ]

pub counts_fail : (a : Entries) (claim : Claim) → counts.IsArrayTest (test_of claim) → Fails a claim → CountsFail a claim
counts_fail a First counted fails = fails
counts_fail a (Degree i) counted fails = fails
counts_fail a (Order i) counted fails = fails
counts_fail a (Cross i j) counted fails = fails
counts_fail a (Size i) counted fails = fails
counts_fail a (Intersect h i j) counted fails = fails
counts_fail a (Handshake i) counted fails = fails
counts_fail a (Induced i j) counted fails = fails
counts_fail a (Triangles i) counted fails = fails
counts_fail a claim counted fails = absurd counted

pub fails_by_counts : (a : Entries) (claim : Claim) → CountsFail a claim → Fails a claim
fails_by_counts a First fails = fails
fails_by_counts a (Degree i) fails = fails
fails_by_counts a (Order i) fails = fails
fails_by_counts a (Cross i j) fails = fails
fails_by_counts a (Size i) fails = fails
fails_by_counts a (Intersect h i j) fails = fails
fails_by_counts a (Handshake i) fails = fails
fails_by_counts a (Induced i j) fails = fails
fails_by_counts a (Triangles i) fails = fails
fails_by_counts a claim fails = absurd fails

counts_hold : (a : Entries) (t : Test) → counts.IsArrayTest t → Holds a t → CountsHold a t
counts_hold a test.First counted holds = holds
counts_hold a test.Degree counted holds = holds
counts_hold a test.Order counted holds = holds
counts_hold a test.Cross counted holds = holds
counts_hold a test.Size counted holds = holds
counts_hold a test.Intersect counted holds = holds
counts_hold a test.Handshake counted holds = holds
counts_hold a test.Induced counted holds = holds
counts_hold a test.Triangles counted holds = holds
counts_hold a t counted holds = absurd counted

holds_by_counts : (a : Entries) (t : Test) → CountsHold a t → Holds a t
holds_by_counts a test.First holds = holds
holds_by_counts a test.Degree holds = holds
holds_by_counts a test.Order holds = holds
holds_by_counts a test.Cross holds = holds
holds_by_counts a test.Size holds = holds
holds_by_counts a test.Intersect holds = holds
holds_by_counts a test.Handshake holds = holds
holds_by_counts a test.Induced holds = holds
holds_by_counts a test.Triangles holds = holds
holds_by_counts a t holds = absurd holds

-- a test on counts rests on no further numbers, and asks for no frame
pub counts_decidable : (a : Entries) (t : Test) → counts.IsArrayTest t → IsDecidable a t
counts_decidable a test.First counted = tt
counts_decidable a test.Degree counted = tt
counts_decidable a test.Order counted = tt
counts_decidable a test.Cross counted = tt
counts_decidable a test.Size counted = tt
counts_decidable a test.Intersect counted = tt
counts_decidable a test.Handshake counted = tt
counts_decidable a test.Induced counted = tt
counts_decidable a test.Triangles counted = tt
counts_decidable a t counted = absurd counted

pub counts_no_frame : (a : Entries) (t : Test) → counts.IsArrayTest t → HasFrameFor a t
counts_no_frame a test.First counted asks = absurd asks
counts_no_frame a test.Degree counted asks = absurd asks
counts_no_frame a test.Order counted asks = absurd asks
counts_no_frame a test.Cross counted asks = absurd asks
counts_no_frame a test.Size counted asks = absurd asks
counts_no_frame a test.Intersect counted asks = absurd asks
counts_no_frame a test.Handshake counted asks = absurd asks
counts_no_frame a test.Induced counted asks = absurd asks
counts_no_frame a test.Triangles counted asks = absurd asks
counts_no_frame a t counted asks = absurd counted

pub failing_dont_hold : counts.FailsWhereFalse → ((a : Entries) → IsArray a → (i : ℕ) → Fails a (Mult i) → ¬ Holds a test.Mult) → FailingTestsDontHold
failing_dont_hold law mult a claim array built fails holds =
    elim (claim_kind claim built) [
      | inl counted ↦ law a claim (counts_fail a claim counted fails) (counts_hold a (test_of claim) counted holds)
      | inr (i, same) ↦ mult a array i (subst (Fails a) same fails) (subst (λ (c : Claim). Holds a (test_of c)) same holds)
    ]

pub unfailed_hold : counts.HoldsWhereNoneFails → UnfailedTestsHold
unfailed_hold law a t built frame none =
    elim (test_kind t built) [
      | inl counted ↦ holds_by_counts a t (law a t counted (λ claim same fails. none claim same (fails_by_counts a claim fails)))
      | inr same ↦ (let (f, has) = frame (subst IsSpectral (sym same) tt) in
          subst (Holds a) (sym same) (mult_holds a f has (λ i fails. none (Mult i) (sym same) fails)))
    ]
