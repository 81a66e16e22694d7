-- A claim without a type of triples has no rooms, and none of their lines is met for it.
use Rattle.std.proofs.Common.{◌≡◌, ℕ, List, [], ◌∷◌, Ok, refl, ap, ◌∙◌, Option, Some, None}
use Rattle.std.specs.Prelude.{ℤ}
use Rattle.drg_array.specs.Entries.{Entries, diameter}
use Rattle.drg_array.specs.declared.claim.Claim.{Claim}
use Rattle.drg_derivation.specs.declared.line.Line.{Line}
use Rattle.drg_derivation.specs.declared.line.Line.TheVariants.{Eq, Comb, Low, High, Split, Miss, Mod, Void}
use Rattle.drg_linear.specs.declared.triple.TripleType.{TripleType}
use Rattle.drg_rooms.specs.Content.{BranchesContent}
use Rattle.drg_replay.specs.Steps.{Step, first_failure}
use Rattle.drg_replay.specs.Rooms.{room_steps, room_after}
use Rattle.drg_replay.specs.Systems.{type_of, for_type}
use Rattle.drg_replay.specs.Lines.{known_of, eq_after}
use Rattle.drg_replay.proofs.ProgressLaws.{claim_stays}

still_none : (line : Line) (rooms : Option BranchesContent) → rooms ≡ None → room_after line rooms ≡ None
still_none line None e = refl
still_none line (Some b) e = cc

none_made : (t : Option TripleType) (d : ℕ) (rows : List (List (List ℤ))) (rooms : Option BranchesContent) (n x y : ℤ) → t ≡ None → rooms ≡ None → eq_after t d rows rooms n x y ≡ None
none_made None d rows rooms n x y e is = is
none_made (Some ty) d rows rooms n x y e is = cc

pub roomless : (a : Entries) (claim : Claim) → type_of claim ≡ None → (lines : List Line) → (known_of a claim lines).rooms ≡ None
roomless a claim e [] = refl
roomless a claim e (Eq n x y ∷ earlier) =
    let k = known_of a claim earlier in
    none_made (type_of k.claim) (diameter k.array) k.counts.rows k.rooms n x y (ap type_of (claim_stays a claim earlier) ∙ e) (roomless a claim e earlier)
roomless a claim e (Comb m values ∷ earlier) = still_none (Comb m values) (known_of a claim earlier).rooms (roomless a claim e earlier)
roomless a claim e (Low r s t v n ∷ earlier) = still_none (Low r s t v n) (known_of a claim earlier).rooms (roomless a claim e earlier)
roomless a claim e (High r s t v n ∷ earlier) = still_none (High r s t v n) (known_of a claim earlier).rooms (roomless a claim e earlier)
roomless a claim e (Split r s t v ∷ earlier) = still_none (Split r s t v) (known_of a claim earlier).rooms (roomless a claim e earlier)
roomless a claim e (Miss n ∷ earlier) = still_none (Miss n) (known_of a claim earlier).rooms (roomless a claim e earlier)
roomless a claim e (Mod n g ∷ earlier) = still_none (Mod n g) (known_of a claim earlier).rooms (roomless a claim e earlier)
roomless a claim e (Void r s t ∷ earlier) = still_none (Void r s t) (known_of a claim earlier).rooms (roomless a claim e earlier)
roomless a claim e (_ ∷ earlier) = roomless a claim e earlier

-- a room line isn't met where there are no rooms
pub needs_rooms : (rooms : Option BranchesContent) (line : Line) → rooms ≡ None → first_failure (room_steps rooms line) ≡ Ok tt → ⊥
needs_rooms None line e met = cc
needs_rooms (Some b) line e met = cc

-- nor an `eq` line where there is no type
pub needs_type : (t : Option TripleType) (steps : TripleType → List Step) → t ≡ None → first_failure (for_type t steps) ≡ Ok tt → ⊥
needs_type None steps e met = cc
needs_type (Some ty) steps e met = cc
