-- The numbers of the tests, and the order of the claims: by their names, then by their indices.
use Rattle.std.specs.Prelude.{◌≡◌, ℕ, ◌<◌, ◌⊎◌, List, [], ◌∷◌}
use Rattle.drg_array.specs.Claims.{name_of, indices_of}
use Rattle.drg_array.specs.declared.test.Test.{Test}
use Rattle.drg_array.specs.declared.test.Test.TheVariants.{First, Degree, Order, Cross, Size, Intersect, Handshake, Induced, Triangles, Mult, Krein, Absolute, Triple, Ktriple}
use Rattle.drg_array.specs.declared.claim_name.ClaimName.{ClaimName}
use Rattle.drg_array.specs.declared.claim_name.ClaimName.TheVariants.{OfTest}
use Rattle.drg_array.specs.declared.claim.Claim.{Claim}

-- which test it is, counted from 1
abbrev pub test_number : Test → ℕ
test_number First = 1
test_number Degree = 2
test_number Order = 3
test_number Cross = 4
test_number Size = 5
test_number Intersect = 6
test_number Handshake = 7
test_number Induced = 8
test_number Triangles = 9
test_number Mult = 10
test_number Krein = 11
test_number Absolute = 12
test_number Triple = 13
test_number Ktriple = 14

-- the claim is one that an array fails this test
abbrev pub IsClaimOf : Test → Claim → Type 0
IsClaimOf t claim = name_of claim ≡ OfTest t

-- the place of a name in the order of claims
abbrev pub name_number : ClaimName → ℕ
name_number (OfTest t) = test_number t

-- the place of a claim's name in the order of claims
abbrev pub claim_number : Claim → ℕ
claim_number claim = name_number (name_of claim)

-- the lexicographic order of lists of numbers
abbrev pub IsBefore : List ℕ → List ℕ → Type 0
IsBefore ms [] = ⊥
IsBefore [] (n ∷ ns) = Unit {0}
IsBefore (m ∷ ms) (n ∷ ns) = (m < n) ⊎ ((m ≡ n) × IsBefore ms ns)

-- a claim with an earlier name, or with the same name and earlier indices
abbrev pub ComesBefore : Claim → Claim → Type 0
ComesBefore earlier claim =
    IsBefore (claim_number earlier ∷ indices_of earlier) (claim_number claim ∷ indices_of claim)
