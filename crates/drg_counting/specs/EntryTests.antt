-- The tests on the entries alone: first, degree, order and cross.
use Rattle.std.specs.Prelude.{◌≤◌}
use Rattle.drg_array.specs.ClaimOrder.{claim_number}
use Rattle.drg_array.specs.declared.claim.Claim.{Claim}

-- a claim of one of these tests
abbrev pub IsBasic : Claim → Type 0
IsBasic claim = claim_number claim ≤ 4
