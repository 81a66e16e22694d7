-- What a line asks of the equations and branches before it, and what it makes of them.
use Rattle.std.specs.Prelude.{ℕ, ℤ, pos, ◌+ℤ◌, unsigned_abs, int_le, int_lt, Bool, true, false, ◌&&◌, List, [], ◌∷◌, ◌++◌}
use Rattle.drg_linear.specs.declared.unknown.Unknown.{Unknown}
use Rattle.drg_linear.specs.Unknowns.{place}
use Rattle.drg_linear.specs.Equations.{EquationContent}
use Rattle.drg_linear.specs.Rooms.{RoomBounds, bounds_at}
use Rattle.drg_derivation.specs.declared.line.Line.{Line}
use Rattle.drg_derivation.specs.declared.line.Line.TheVariants.{Comb, Low, High, Split, Miss, Mod, Void}
use Rattle.drg_rooms.specs.Steps.{Step, Holds}
use Rattle.drg_rooms.specs.Indices.{is_index}
use Rattle.drg_rooms.specs.Content.{BranchesContent}
use Rattle.drg_rooms.specs.Values.{low_steps, high_steps, miss_steps, with_low, with_high, low_raised, high_lowered}
use Rattle.drg_rooms.specs.Moduli.{mod_steps}
use Rattle.drg_rooms.specs.Combinations.{is_number, equation_at, combination, comb_steps}

-- the room in hand, where a branch is open
abbrev pub in_hand : List RoomBounds → RoomBounds
in_hand [] = []
in_hand (room ∷ kept) = room

-- the rooms of the branches kept for later, the one kept last first
abbrev pub kept_of : List RoomBounds → List RoomBounds
kept_of [] = []
kept_of (room ∷ kept) = kept

abbrev pub is_open : List RoomBounds → Bool
is_open [] = false
is_open (room ∷ kept) = true

-- ---- What a line asks

-- the three numbers are from 1 to d
unfoldable pub are_indices : ℕ → ℤ → ℤ → ℤ → Bool
are_indices d r s t = is_index 1 r d && is_index 1 s d && is_index 1 t d

abbrev pub unknown_at : ℤ → ℤ → ℤ → Unknown
unknown_at r s t = record { r = unsigned_abs r; s = unsigned_abs s; t = unsigned_abs t }

abbrev pub place_at : ℕ → ℤ → ℤ → ℤ → ℕ
place_at d r s t = place d (unknown_at r s t)

-- `split`: low <= v < high
unfoldable pub splits : RoomBounds → ℕ → ℤ → Bool
splits room y v = int_le (bounds_at room y).0 v && int_lt v (bounds_at room y).1

-- `void`: low > high
abbrev pub is_void : RoomBounds → ℕ → Bool
is_void room y = int_lt (bounds_at room y).1 (bounds_at room y).0

-- a line of another kind isn't met here
abbrev pub no_room_line : List Step
no_room_line = Holds false ∷ []

-- the steps of a line over the equations made before and the room in hand; all but `comb` need an
-- open branch
abbrev pub steps_of : BranchesContent → Line → List Step
steps_of k (Comb m values) = comb_steps k.equations values
steps_of k (Low r s t v n) =
    Holds (is_open k.branches)
    ∷ Holds (are_indices k.d r s t)
    ∷ Holds (is_number n k.equations)
    ∷ low_steps k.d (in_hand k.branches) (unknown_at r s t) v (equation_at k.equations n)
steps_of k (High r s t v n) =
    Holds (is_open k.branches)
    ∷ Holds (are_indices k.d r s t)
    ∷ Holds (is_number n k.equations)
    ∷ high_steps k.d (in_hand k.branches) (unknown_at r s t) v (equation_at k.equations n)
steps_of k (Split r s t v) =
    Holds (is_open k.branches)
    ∷ Holds (are_indices k.d r s t)
    ∷ Holds (splits (in_hand k.branches) (place_at k.d r s t) v)
    ∷ []
steps_of k (Miss n) =
    Holds (is_open k.branches)
    ∷ Holds (is_number n k.equations)
    ∷ miss_steps k.d (in_hand k.branches) (equation_at k.equations n)
steps_of k (Mod n g) =
    Holds (is_open k.branches)
    ∷ Holds (is_number n k.equations)
    ∷ mod_steps k.d (in_hand k.branches) g (equation_at k.equations n)
steps_of k (Void r s t) =
    Holds (is_open k.branches)
    ∷ Holds (are_indices k.d r s t)
    ∷ Holds (is_void (in_hand k.branches) (place_at k.d r s t))
    ∷ []
steps_of k _ = no_room_line

-- ---- What a line makes, where it is met. Each look-up says what one line changes in it, and that
-- no other does.

abbrev pub equations_after : Line → List EquationContent → List EquationContent
equations_after (Comb m values) equations = equations ++ combination equations values ∷ []
equations_after _ equations = equations

-- `split` opens the branch up to v and keeps the one above it; a branch that is closed gives way to
-- the one kept last
abbrev pub branches_after : ℕ → Line → List RoomBounds → List RoomBounds
branches_after d (Low r s t v n) branches =
    low_raised (in_hand branches) (place_at d r s t) v ∷ kept_of branches
branches_after d (High r s t v n) branches =
    high_lowered (in_hand branches) (place_at d r s t) v ∷ kept_of branches
branches_after d (Split r s t v) branches =
    with_high (in_hand branches) (place_at d r s t) v
    ∷ with_low (in_hand branches) (place_at d r s t) (v +ℤ pos 1)
    ∷ kept_of branches
branches_after d (Miss n) branches = kept_of branches
branches_after d (Mod n g) branches = kept_of branches
branches_after d (Void r s t) branches = kept_of branches
branches_after d _ branches = branches

abbrev pub after : Line → BranchesContent → BranchesContent
after line k = record {
  d = k.d;
  equations = equations_after line k.equations;
  branches = branches_after k.d line k.branches;
}
