-- What a room line comes to is what drg_rooms says of it, and the room at the start grows by one unknown
-- at a time.
use Rattle.std.proofs.Common.{◌≡◌, ℕ, ◌+◌, true, false, List, [], ◌∷◌, ◌++◌, Ok, Err, refl, arith}
use Rattle.std.specs.Prelude.{ℤ, pos, map}
use Rattle.std.specs.List.{range_with_len}
use Rattle.std.proofs.lemmas.List.FromFn.{map-range_with_len_more}
use Rattle.drg_linear.specs.declared.triple.TripleType.{TripleType}
use Rattle.drg_linear.specs.Triples.{high_bound}
use Rattle.drg_triple_numbers.specs.Places.{unknown_at}
use Rattle.drg_replay.specs.Systems.{number}
use Rattle.drg_rooms.specs.Steps as room
use Rattle.drg_rooms.specs.declared.refusal.Refusal.TheVariants as room_refusal
use Rattle.drg_replay.specs.declared.refusal.Refusal.TheVariants.{NotMet, Wide}
use Rattle.drg_replay.specs.Steps.{first_failure}
use Rattle.drg_replay.specs.Rooms.{as_step}

pub room_met : (steps : List room.Step) → room.first_failure steps ≡ Ok tt → first_failure (map as_step steps) ≡ Ok tt
room_met [] h = refl
room_met (room.Holds true ∷ steps) h = room_met steps h
room_met (room.Holds false ∷ steps) h = cc
room_met (room.Fits true ∷ steps) h = room_met steps h
room_met (room.Fits false ∷ steps) h = cc

pub room_not_met : (steps : List room.Step) → room.first_failure steps ≡ Err room_refusal.NotMet → first_failure (map as_step steps) ≡ Err NotMet
room_not_met [] h = cc
room_not_met (room.Holds true ∷ steps) h = room_not_met steps h
room_not_met (room.Holds false ∷ steps) h = refl
room_not_met (room.Fits true ∷ steps) h = room_not_met steps h
room_not_met (room.Fits false ∷ steps) h = cc

pub room_wide : (steps : List room.Step) → room.first_failure steps ≡ Err room_refusal.Wide → first_failure (map as_step steps) ≡ Err Wide
room_wide [] h = cc
room_wide (room.Holds true ∷ steps) h = room_wide steps h
room_wide (room.Holds false ∷ steps) h = cc
room_wide (room.Fits true ∷ steps) h = room_wide steps h
room_wide (room.Fits false ∷ steps) h = refl

-- and a line that is met here is met there
pub met_in_rooms : (steps : List room.Step) → first_failure (map as_step steps) ≡ Ok tt → room.first_failure steps ≡ Ok tt
met_in_rooms [] h = refl
met_in_rooms (room.Holds true ∷ steps) h = met_in_rooms steps h
met_in_rooms (room.Holds false ∷ steps) h = cc
met_in_rooms (room.Fits true ∷ steps) h = met_in_rooms steps h
met_in_rooms (room.Fits false ∷ steps) h = cc

abbrev first_bounds : ℕ → List (List (List ℤ)) → TripleType → ℕ → ℤ × ℤ
first_bounds d rows ty k = (pos 0, high_bound (number rows) ty (unknown_at d k))

-- the bounds of one unknown more
pub room_more : (d : ℕ) (rows : List (List (List ℤ))) (ty : TripleType) (k : ℕ) → map (first_bounds d rows ty) (range_with_len 0 (k + 1)) ≡ map (first_bounds d rows ty) (range_with_len 0 k) ++ first_bounds d rows ty k ∷ []
room_more d rows ty k = map-range_with_len_more (first_bounds d rows ty) 0 k k (omega arith)
