-- What a line asks of what is known before it, and what it makes known.
use Rattle.std.specs.Prelude.{ℕ, ◌+◌, ◌-◌, ℤ, unsigned_abs, not, List, [], ◌∷◌, ◌++◌, reverse, replicate, slice_set, Option, Some, None}
use Rattle.drg_array.specs.Entries.{Entries, diameter}
use Rattle.drg_array.specs.declared.claim.Claim.{Claim}
use Rattle.drg_derivation.specs.Content.{Content}
use Rattle.drg_derivation.specs.declared.line.Line.{Line}
use Rattle.drg_derivation.specs.declared.line.Line.TheVariants.{K, P, Frame, Theta, Prow, Qrow, Krein, Eq, Comb, Low, High, Split, Miss, Mod, Void}
use Rattle.drg_linear.specs.declared.triple.TripleType.{TripleType}
use Rattle.drg_rooms.specs.Content.{BranchesContent}
use Rattle.drg_replay.specs.Known.{KnownContent, CountContent, FrameContent}
use Rattle.drg_replay.specs.Steps.{Step, Holds, not_built}
use Rattle.drg_replay.specs.Indices.{is_index}
use Rattle.drg_replay.specs.Frames.{frame_steps, theta_steps, prow_steps, qrow_steps, in_frame}
use Rattle.drg_replay.specs.KreinLines.{with_krein, krein_steps}
use Rattle.drg_replay.specs.Sizes.{size_steps}
use Rattle.drg_replay.specs.Rows.{rows_at, row_steps}
use Rattle.drg_replay.specs.Systems.{type_of, system_at_start, system_of, with_equation, equation_of, for_type, eq_steps}
use Rattle.drg_replay.specs.Rooms.{room_steps, room_after, are_closed}

-- ---- What a line makes known

-- one more row of an upper index
abbrev pub with_row : CountContent → ℕ → List ℤ → CountContent
with_row counts h row =
    record counts { rows = slice_set counts.rows h (rows_at counts.rows h ++ row ∷ []) }

-- one more line of each kind that needs a frame
abbrev pub with_theta : FrameContent → List ℤ → FrameContent
with_theta f numbers = record f { theta = f.theta ++ numbers ∷ [] }

abbrev pub with_prow : FrameContent → List ℤ → FrameContent
with_prow f numbers = record f { p = f.p ++ numbers ∷ [] }

abbrev pub with_qrow : FrameContent → List ℤ → FrameContent
with_qrow f numbers = record f { q = f.q ++ numbers ∷ [] }

-- Each group says which lines change it, and how. No other line does.

abbrev pub counts_after : Line → CountContent → CountContent
counts_after (K values) counts = record counts { sizes = Some values }
counts_after (P h i values) counts = with_row counts (unsigned_abs h) values
counts_after _ counts = counts

abbrev pub frame_after : Line → Option FrameContent → Option FrameContent
frame_after (Frame root) frame =
    Some (record { root = unsigned_abs root; theta = []; p = []; q = []; krein = [] })
frame_after (Theta i numbers) (Some f) = Some (with_theta f numbers)
frame_after (Prow i numbers) (Some f) = Some (with_prow f numbers)
frame_after (Qrow r numbers) (Some f) = Some (with_qrow f numbers)
frame_after (Krein i j numbers) (Some f) =
    Some (with_krein f (unsigned_abs i) (unsigned_abs j) numbers)
frame_after _ frame = frame

-- the first equation of a type opens its system
abbrev pub eq_after
    : Option TripleType → ℕ → List (List (List ℤ)) → Option BranchesContent → ℤ → ℤ → ℤ
    → Option BranchesContent
eq_after None d rows rooms n x y = rooms
eq_after (Some ty) d rows rooms n x y =
    Some (with_equation (system_of rooms (system_at_start d rows ty)) (equation_of d rows ty n x y))

abbrev pub rooms_after : Line → KnownContent → Option BranchesContent
rooms_after (Eq n x y) k =
    eq_after (type_of k.claim) (diameter k.array) k.counts.rows k.rooms n x y
rooms_after (Comb m values) k = room_after (Comb m values) k.rooms
rooms_after (Low r s t v n) k = room_after (Low r s t v n) k.rooms
rooms_after (High r s t v n) k = room_after (High r s t v n) k.rooms
rooms_after (Split r s t v) k = room_after (Split r s t v) k.rooms
rooms_after (Miss n) k = room_after (Miss n) k.rooms
rooms_after (Mod n g) k = room_after (Mod n g) k.rooms
rooms_after (Void r s t) k = room_after (Void r s t) k.rooms
rooms_after _ k = k.rooms

-- what is known after one more line
abbrev pub known_after : Line → KnownContent → KnownContent
known_after line k =
    record k {
      counts = counts_after line k.counts;
      frame = frame_after line k.frame;
      rooms = rooms_after line k;
    }

-- before the first line there are no sizes, and no rows of each upper index from 0 to d
abbrev pub counts_at_start : Entries → CountContent
counts_at_start a = record { sizes = None; rows = replicate (diameter a + 1) [] }

abbrev pub known_at_start : Entries → Claim → KnownContent
known_at_start a claim =
    record { array = a; claim = claim; counts = counts_at_start a; frame = None; rooms = None }

-- after these lines, the newest of them first
abbrev pub known_of : Entries → Claim → List Line → KnownContent
known_of a claim [] = known_at_start a claim
known_of a claim (line ∷ earlier) = known_after line (known_of a claim earlier)

-- after all lines of a derivation
abbrev pub known_at_end : Content → KnownContent
known_at_end δ = known_of δ.array δ.claim (reverse δ.lines)

-- ---- What a line asks

-- the steps of the lines that have a rule; no other line is met yet
abbrev pub steps_of : KnownContent → Line → List Step
steps_of k (K values) = size_steps k.array k.counts.sizes values
steps_of k (P h i values) =
    let upper = unsigned_abs h in
    Holds (is_index 0 h (diameter k.array))
    ∷ Holds (is_index 1 i (diameter k.array))
    ∷ row_steps k.array upper (rows_at k.counts.rows upper) (unsigned_abs i - 1) values
steps_of k (Frame root) = frame_steps k root
steps_of k (Theta i numbers) = in_frame k.frame (λ f. theta_steps k.array f i numbers)
steps_of k (Prow i numbers) = in_frame k.frame (λ f. prow_steps k.array f i numbers)
steps_of k (Qrow r numbers) =
    in_frame k.frame (λ f. qrow_steps k.array k.counts.sizes f r numbers)
steps_of k (Krein i j numbers) = in_frame k.frame (λ f. krein_steps k.array f i j numbers)
steps_of k (Eq n x y) = for_type (type_of k.claim) (λ ty. eq_steps k.array k.counts.rows ty n x y)
steps_of k (Comb m values) = room_steps k.rooms (Comb m values)
steps_of k (Low r s t v n) = room_steps k.rooms (Low r s t v n)
steps_of k (High r s t v n) = room_steps k.rooms (High r s t v n)
steps_of k (Split r s t v) = room_steps k.rooms (Split r s t v)
steps_of k (Miss n) = room_steps k.rooms (Miss n)
steps_of k (Mod n g) = room_steps k.rooms (Mod n g)
steps_of k (Void r s t) = room_steps k.rooms (Void r s t)
steps_of k _ = not_built

-- after the last branch is closed no line is met but the end
abbrev pub asked_of : KnownContent → Line → List Step
asked_of k line = Holds (not (are_closed k.rooms)) ∷ steps_of k line
