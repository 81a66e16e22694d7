-- Equations modulo a number, in a room.
use Rattle.std.specs.Prelude.{ℕ, ℤ, ◌*ℤ◌, ◌-ℤ◌, int_lt, Bool, true, ◌&&◌, ◌||◌, not, if◌then◌else◌, List, [], ◌∷◌}
use Rattle.std.specs.Ordering.{int_eq}
use Rattle.drg_whole.specs.Residues.{divides}
use Rattle.drg_linear.specs.Unknowns.{place}
use Rattle.drg_linear.specs.Equations.{Term}
use Rattle.drg_linear.specs.Rooms.{RoomBounds, bounds_at}

-- the term's unknown has low < high
abbrev pub is_free : ℕ → RoomBounds → Term → Bool
is_free d room t = int_lt (bounds_at room (place d t.0)).0 (bounds_at room (place d t.0)).1

-- the term's unknown has low = high
abbrev pub is_fixed : ℕ → RoomBounds → Term → Bool
is_fixed d room t = int_eq (bounds_at room (place d t.0)).0 (bounds_at room (place d t.0)).1

-- the term isn't free, or g divides its coefficient
abbrev pub term_divides : ℕ → RoomBounds → ℕ → Term → Bool
term_divides d room g t = not (is_free d room t) || divides g t.1

-- g divides the coefficient of each free term
abbrev pub divides_free : ℕ → RoomBounds → ℕ → List Term → Bool
divides_free d room g [] = true
divides_free d room g (t ∷ ts) = term_divides d room g t && divides_free d room g ts

-- what a fixed term adds
abbrev pub fixed_product : ℕ → RoomBounds → Term → ℤ
fixed_product d room t = t.1 *ℤ (bounds_at room (place d t.0)).0

-- the fixed terms
abbrev pub fixed_products : ℕ → RoomBounds → List Term → List ℤ
fixed_products d room [] = []
fixed_products d room (t ∷ ts) =
    if is_fixed d room t
    then fixed_product d room t ∷ fixed_products d room ts
    else fixed_products d room ts

-- a number less these, from left to right
abbrev pub less_from : ℤ → List ℤ → ℤ
less_from total [] = total
less_from total (z ∷ zs) = less_from (total -ℤ z) zs
