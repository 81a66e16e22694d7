-- The tests on parity: handshake, induced and triangles (elementary counting).
use Rattle.std.specs.Prelude.{◌≢◌, ℕ, ◌*◌, ◌%◌, ◌≤◌, List, Contains}
use Rattle.drg_array.specs.Claims.{test_of}
use Rattle.drg_array.specs.ClaimOrder.{claim_number}
use Rattle.drg_array.specs.declared.test.Test.{Test}
use Rattle.drg_array.specs.declared.claim.Claim.{Claim}
use Rattle.drg_array.specs.declared.claim.Claim.TheVariants.{Handshake, Induced, Triangles}
use Rattle.drg_intersection.specs.Numbers.{Numbers, k_at, n_of, p_at}

-- a claim of one of these tests, which is selected
abbrev pub IsSelectedParity : List Test → Claim → Type 0
IsSelectedParity tests claim = (7 ≤ claim_number claim) × (claim_number claim ≤ 9) × Contains tests (test_of claim)

-- from 1 to the diameter
abbrev pub IsDistance : Numbers → ℕ → Type 0
IsDistance numbers i = (1 ≤ i) × (i ≤ numbers.d)

-- these numbers fail the claim
abbrev pub NumbersFail : Numbers → Claim → Type 0
NumbersFail numbers (Handshake i) = IsDistance numbers i × ((n_of numbers * k_at numbers i) % 2 ≢ 0)
NumbersFail numbers (Induced i j) = IsDistance numbers i × IsDistance numbers j × ((k_at numbers i * p_at numbers i i j) % 2 ≢ 0)
NumbersFail numbers (Triangles i) = IsDistance numbers i × ((n_of numbers * (k_at numbers i * p_at numbers i i i)) % 6 ≢ 0)
NumbersFail numbers claim = ⊥
