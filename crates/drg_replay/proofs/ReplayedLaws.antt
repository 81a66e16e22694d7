-- The claims whose line can be met are those of the list.
use Rattle.std.proofs.Common.{◌≡◌, ℕ, zero, suc, ◌<◌, true, [], ◌∷◌, length, refl, arith}
use Rattle.std.specs.Prelude.{Contains, slice_index_or}
use Rattle.drg_array.specs.Entries.{Entries}
use Rattle.drg_array.specs.Claims.{name_of}
use Rattle.drg_array.specs.declared.claim.Claim.{Claim}
use Rattle.drg_array.specs.declared.claim.Claim.TheVariants.{First, Degree, Order, Cross, Size, Intersect, Handshake, Induced, Triangles, Mult, Triple}
use Rattle.drg_array.specs.declared.claim_name.ClaimName.{ClaimName}
use Rattle.drg_array.specs.declared.claim_name.TheConstants.{REPLAYED}
use Rattle.drg_replay.specs.Claims.{claim_is_met}
use Rattle.drg_replay.specs.Laws.{ReplayedLaw}

-- the array {3,2;1,1} of the Petersen graph
petersen : Entries
petersen = record { b = 3 ∷ 2 ∷ []; c = 1 ∷ 1 ∷ [] }

is_known : (a : Entries) (claim : Claim) → claim_is_met a claim ≡ true → Contains REPLAYED (name_of claim)
is_known a First h = (0, omega arith, refl)
is_known a (Degree i) h = (1, omega arith, refl)
is_known a (Order i) h = (2, omega arith, refl)
is_known a (Cross i j) h = (3, omega arith, refl)
is_known a (Size i) h = (4, omega arith, refl)
is_known a (Intersect g i j) h = (5, omega arith, refl)
is_known a (Handshake i) h = (6, omega arith, refl)
is_known a (Induced i j) h = (7, omega arith, refl)
is_known a (Triangles i) h = (8, omega arith, refl)
is_known a (Mult i) h = (9, omega arith, refl)
is_known a (Triple u v w) h = (10, omega arith, refl)
is_known a _ h = cc

-- there are numbers of an array for which a claim of this name is met
CanBeMet : ClaimName → Type 0
CanBeMet name = (a : Entries) × (claim : Claim) × (name_of claim ≡ name) × (claim_is_met a claim ≡ true)

each_at : (k : ℕ) (d : ClaimName) → k < length REPLAYED → CanBeMet (slice_index_or REPLAYED k d)
unfolding CanBeMet petersen
each_at zero d h = (petersen, First, refl, refl)
each_at (suc zero) d h = (petersen, Degree 1, refl, refl)
each_at (suc (suc zero)) d h = (petersen, Order 1, refl, refl)
each_at (suc (suc (suc zero))) d h = (petersen, Cross 1 1, refl, refl)
each_at (suc (suc (suc (suc zero)))) d h = (petersen, Size 1, refl, refl)
each_at (suc (suc (suc (suc (suc zero))))) d h = (petersen, Intersect 0 0 0, refl, refl)
each_at (suc (suc (suc (suc (suc (suc zero)))))) d h = (petersen, Handshake 1, refl, refl)
each_at (suc (suc (suc (suc (suc (suc (suc zero))))))) d h = (petersen, Induced 1 1, refl, refl)
each_at (suc (suc (suc (suc (suc (suc (suc (suc zero)))))))) d h = (petersen, Triangles 1, refl, refl)
each_at (suc (suc (suc (suc (suc (suc (suc (suc (suc zero))))))))) d h = (petersen, Mult 1, refl, refl)
each_at (suc (suc (suc (suc (suc (suc (suc (suc (suc (suc zero)))))))))) d h = (petersen, Triple 1 1 2, refl, refl)
each_at (suc (suc (suc (suc (suc (suc (suc (suc (suc (suc (suc k))))))))))) d h = absurd (omega (arith, h))

pub replayed : ReplayedLaw
unfolding CanBeMet
replayed = record { known = is_known; each = each_at }
