-- Laws of the catalogue of tests and claims.
use Rattle.std.specs.Prelude.{◌≡◌, ℕ, ◌≤◌, ◌-◌, ◌⊎◌, ◌↔◌, List, [], ◌∷◌, map, length, Some, IsSome, slice_get, Contains}
use Rattle.drg_array.specs.Claims.{test_name, name_text, claim_names, claim_of, name_of, indices_of, index_count, HasParts}
use Rattle.drg_array.specs.ClaimOrder.{test_number, name_number, ComesBefore}
use Rattle.drg_array.specs.TestLists.{IsAlwaysRun}
use Rattle.drg_array.specs.declared.limits.TheConstants.{MAX_INDICES}
use Rattle.drg_array.specs.declared.test.Test.{Test}
use Rattle.drg_array.specs.declared.test.Test.TheVariants as test
use Rattle.drg_array.specs.declared.test.TheConstants.Test.{ALL}
use Rattle.drg_array.specs.declared.test_set.TheConstants.{BUILT}
use Rattle.drg_array.specs.declared.claim_name.ClaimName.{ClaimName}
use Rattle.drg_array.specs.declared.claim_name.ClaimName.TheVariants.{OfTest}
use Rattle.drg_array.specs.declared.claim_name.TheConstants.{REPLAYED}
use Rattle.drg_array.specs.declared.claim.Claim.{Claim}

-- there are fourteen tests, and each stands in the list of all at its number
pub record AllInOrder : Type 0 where
  pub count : length ALL ≡ 14
  pub place : (t : Test) → slice_get ALL (test_number t - 1) ≡ Some t

abbrev pub OneTestName : Type 0
OneTestName = (t u : Test) → test_name t ≡ test_name u → t ≡ u

abbrev pub OneTestNumber : Type 0
OneTestNumber = (t u : Test) → test_number t ≡ test_number u → t ≡ u

-- the tests from handshake on that are built
abbrev pub AreBuilt : List Test → Type 0
AreBuilt tests = tests ≡ test.Handshake ∷ test.Induced ∷ test.Triangles ∷ test.Mult ∷ []

-- the claims that a replay knows are those that an array fails one of these tests
abbrev pub AreReplayed : List ClaimName → Type 0
AreReplayed names =
    names ≡ map OfTest (test.First ∷ test.Degree ∷ test.Order ∷ test.Cross ∷ test.Size ∷ test.Intersect ∷ test.Handshake ∷ test.Induced ∷ test.Triangles ∷ test.Mult ∷ test.Triple ∷ [])

-- a replay knows the claims of each test that runs
abbrev pub BuiltAreReplayed : Type 0
BuiltAreReplayed = (t : Test) → IsAlwaysRun t ⊎ Contains BUILT t → Contains REPLAYED (OfTest t)

-- each name of a claim stands in the list of all at its number
abbrev pub ClaimNamesInOrder : Type 0
ClaimNamesInOrder = (name : ClaimName) → slice_get claim_names (name_number name - 1) ≡ Some name

abbrev pub OneClaimName : Type 0
OneClaimName = (name other : ClaimName) → name_text name ≡ name_text other → name ≡ other

-- a claim is known by its name and its indices, of which there are as many as claims of the name have
pub record ClaimByName : Type 0 where
  pub count : (claim : Claim) → length (indices_of claim) ≡ index_count (name_of claim)
  pub one : (claim other : Claim) → name_of claim ≡ name_of other → indices_of claim ≡ indices_of other → claim ≡ other

-- A claim is made of its own name and indices. Of a name one is made exactly where there are as many
-- indices as it has, at most MAX_INDICES, and what is made has that name and these indices.
pub record ClaimOfParts : Type 0 where
  pub again : (claim : Claim) → claim_of (name_of claim) (indices_of claim) ≡ Some claim
  pub some : (name : ClaimName) (indices : List ℕ) → IsSome (claim_of name indices) ↔ (length indices ≡ index_count name)
  pub parts : (name : ClaimName) (indices : List ℕ) (claim : Claim) → claim_of name indices ≡ Some claim → HasParts name indices claim
  pub few : (name : ClaimName) → index_count name ≤ MAX_INDICES

-- of two claims, one comes before the other, or they are the same, and no two of these
pub record ClaimsInOrder : Type 0 where
  pub not_itself : (claim : Claim) → ComesBefore claim claim → ⊥
  pub along : (first second third : Claim) → ComesBefore first second → ComesBefore second third → ComesBefore first third
  pub either : (claim other : Claim) → ComesBefore claim other ⊎ ((claim ≡ other) ⊎ ComesBefore other claim)
