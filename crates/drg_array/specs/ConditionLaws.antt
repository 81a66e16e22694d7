-- A condition of tests 1 to 9 holds of an array exactly where no claim of its test fails.
use Rattle.std.specs.Prelude.{◌≡◌, ⊤}
use Rattle.drg_array.specs.Entries.{Entries}
use Rattle.drg_array.specs.Claims.{test_of}
use Rattle.drg_array.specs.Conditions.{CountsHold, CountsFail}
use Rattle.drg_array.specs.declared.test.Test.{Test}
use Rattle.drg_array.specs.declared.test.Test.TheVariants as test
use Rattle.drg_array.specs.declared.claim.Claim.{Claim}

-- one of tests 1 to 9
abbrev pub IsArrayTest : Test → Type 0
IsArrayTest test.First = ⊤
IsArrayTest test.Degree = ⊤
IsArrayTest test.Order = ⊤
IsArrayTest test.Cross = ⊤
IsArrayTest test.Size = ⊤
IsArrayTest test.Intersect = ⊤
IsArrayTest test.Handshake = ⊤
IsArrayTest test.Induced = ⊤
IsArrayTest test.Triangles = ⊤
IsArrayTest test.Mult = ⊥
IsArrayTest test.Krein = ⊥
IsArrayTest test.Absolute = ⊥
IsArrayTest test.Triple = ⊥
IsArrayTest test.Ktriple = ⊥

abbrev pub FailsWhereFalse : Type 0
FailsWhereFalse = (a : Entries) (claim : Claim) → CountsFail a claim → CountsHold a (test_of claim) → ⊥

abbrev pub HoldsWhereNoneFails : Type 0
HoldsWhereNoneFails =
    (a : Entries) (t : Test) → IsArrayTest t → ((claim : Claim) → test_of claim ≡ t → CountsFail a claim → ⊥) → CountsHold a t
