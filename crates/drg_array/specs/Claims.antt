-- The names of the tests and of the claims, and what a claim says: its name, its indices, its class and its text.
use Rattle.std.specs.Prelude.{◌≡◌, ℕ, List, [], ◌∷◌, ◌++◌, map, Option, None, Some, codes, decimal}
use Rattle.std.specs.List.{flat_map}
use Rattle.drg_array.specs.declared.test.Test.{Test}
use Rattle.drg_array.specs.declared.test.Test.TheVariants as test
use Rattle.drg_array.specs.declared.test.TheConstants.Test.{ALL}
use Rattle.drg_array.specs.declared.claim.Class.{Class}
use Rattle.drg_array.specs.declared.claim.Class.TheVariants.{Counting, Spectral}
use Rattle.drg_array.specs.declared.claim_name.ClaimName.{ClaimName}
use Rattle.drg_array.specs.declared.claim_name.ClaimName.TheVariants.{OfTest}
use Rattle.drg_array.specs.declared.claim.Claim.{Claim}
use Rattle.drg_array.specs.declared.claim.Claim.TheVariants.{First, Degree, Order, Cross, Size, Intersect, Handshake, Induced, Triangles, Mult, Krein, Absolute, Triple, Ktriple}

abbrev pub test_name : Test → List ℕ
test_name test.First = codes "first"
test_name test.Degree = codes "degree"
test_name test.Order = codes "order"
test_name test.Cross = codes "cross"
test_name test.Size = codes "size"
test_name test.Intersect = codes "intersect"
test_name test.Handshake = codes "handshake"
test_name test.Induced = codes "induced"
test_name test.Triangles = codes "triangles"
test_name test.Mult = codes "mult"
test_name test.Krein = codes "krein"
test_name test.Absolute = codes "absolute"
test_name test.Triple = codes "triple"
test_name test.Ktriple = codes "ktriple"

abbrev pub class_name : Class → List ℕ
class_name Counting = codes "counting"
class_name Spectral = codes "spectral"

-- the tests of counts alone are 1 to 9 and triple
abbrev pub class_of_test : Test → Class
class_of_test test.First = Counting
class_of_test test.Degree = Counting
class_of_test test.Order = Counting
class_of_test test.Cross = Counting
class_of_test test.Size = Counting
class_of_test test.Intersect = Counting
class_of_test test.Handshake = Counting
class_of_test test.Induced = Counting
class_of_test test.Triangles = Counting
class_of_test test.Mult = Spectral
class_of_test test.Krein = Spectral
class_of_test test.Absolute = Spectral
class_of_test test.Triple = Counting
class_of_test test.Ktriple = Spectral

-- how many indices say where the condition of the test is false
abbrev pub index_count_of_test : Test → ℕ
index_count_of_test test.First = 0
index_count_of_test test.Degree = 1
index_count_of_test test.Order = 1
index_count_of_test test.Cross = 2
index_count_of_test test.Size = 1
index_count_of_test test.Intersect = 3
index_count_of_test test.Handshake = 1
index_count_of_test test.Induced = 2
index_count_of_test test.Triangles = 1
index_count_of_test test.Mult = 1
index_count_of_test test.Krein = 3
index_count_of_test test.Absolute = 2
index_count_of_test test.Triple = 3
index_count_of_test test.Ktriple = 3

-- a claim that an array fails a test has the test's name
abbrev pub name_text : ClaimName → List ℕ
name_text (OfTest t) = test_name t

-- the names of claims, in their order
abbrev pub claim_names : List ClaimName
claim_names = map OfTest ALL

-- the test that an array fails which meets a claim of this name, where there is one
abbrev pub test_named : ClaimName → Option Test
test_named (OfTest t) = Some t

abbrev pub class_of_name : ClaimName → Class
class_of_name (OfTest t) = class_of_test t

-- how many indices a claim of this name has
abbrev pub index_count : ClaimName → ℕ
index_count (OfTest t) = index_count_of_test t

-- the test that fails
abbrev pub test_of : Claim → Test
test_of First = test.First
test_of (Degree i) = test.Degree
test_of (Order i) = test.Order
test_of (Cross i j) = test.Cross
test_of (Size i) = test.Size
test_of (Intersect h i j) = test.Intersect
test_of (Handshake i) = test.Handshake
test_of (Induced i j) = test.Induced
test_of (Triangles i) = test.Triangles
test_of (Mult i) = test.Mult
test_of (Krein i j h) = test.Krein
test_of (Absolute i j) = test.Absolute
test_of (Triple u v w) = test.Triple
test_of (Ktriple u v w) = test.Ktriple

-- the name of the claim that an array fails the test
abbrev pub name_of : Claim → ClaimName
name_of claim = OfTest (test_of claim)

-- the indices at which it fails, in the order in which they are written
abbrev pub indices_of : Claim → List ℕ
indices_of First = []
indices_of (Degree i) = i ∷ []
indices_of (Order i) = i ∷ []
indices_of (Cross i j) = i ∷ j ∷ []
indices_of (Size i) = i ∷ []
indices_of (Intersect h i j) = h ∷ i ∷ j ∷ []
indices_of (Handshake i) = i ∷ []
indices_of (Induced i j) = i ∷ j ∷ []
indices_of (Triangles i) = i ∷ []
indices_of (Mult i) = i ∷ []
indices_of (Krein i j h) = i ∷ j ∷ h ∷ []
indices_of (Absolute i j) = i ∷ j ∷ []
indices_of (Triple u v w) = u ∷ v ∷ w ∷ []
indices_of (Ktriple u v w) = u ∷ v ∷ w ∷ []

-- the claim has this name and these indices
abbrev pub HasParts : ClaimName → List ℕ → Claim → Type 0
HasParts name indices claim = (name_of claim ≡ name) × (indices_of claim ≡ indices)

-- the claim of this name with these indices, where they are as many as it has
abbrev pub claim_of : ClaimName → List ℕ → Option Claim
claim_of (OfTest test.First) [] = Some First
claim_of (OfTest test.Degree) (i ∷ []) = Some (Degree i)
claim_of (OfTest test.Order) (i ∷ []) = Some (Order i)
claim_of (OfTest test.Cross) (i ∷ j ∷ []) = Some (Cross i j)
claim_of (OfTest test.Size) (i ∷ []) = Some (Size i)
claim_of (OfTest test.Intersect) (h ∷ i ∷ j ∷ []) = Some (Intersect h i j)
claim_of (OfTest test.Handshake) (i ∷ []) = Some (Handshake i)
claim_of (OfTest test.Induced) (i ∷ j ∷ []) = Some (Induced i j)
claim_of (OfTest test.Triangles) (i ∷ []) = Some (Triangles i)
claim_of (OfTest test.Mult) (i ∷ []) = Some (Mult i)
claim_of (OfTest test.Krein) (i ∷ j ∷ h ∷ []) = Some (Krein i j h)
claim_of (OfTest test.Absolute) (i ∷ j ∷ []) = Some (Absolute i j)
claim_of (OfTest test.Triple) (u ∷ v ∷ w ∷ []) = Some (Triple u v w)
claim_of (OfTest test.Ktriple) (u ∷ v ∷ w ∷ []) = Some (Ktriple u v w)
claim_of _ indices = None

abbrev pub class_of : Claim → Class
class_of claim = class_of_name (name_of claim)

-- the numbers, with one space before each
abbrev pub spaced : List ℕ → List ℕ
spaced numbers = flat_map (λ n. 32 ∷ decimal n) numbers

abbrev pub claim_text : Claim → List ℕ
claim_text claim = name_text (name_of claim) ++ spaced (indices_of claim)
