-- The unknowns of a triple system (Vidali 2018), and their order.
use Rattle.std.specs.Prelude.{ℕ, ◌+◌, ◌*◌, ◌-◌, nat_le, nat_lt, nat_eq, Bool, ◌&&◌, ◌||◌}
use Rattle.drg_linear.specs.declared.unknown.Unknown.{Unknown}

-- its three numbers are from 1 to d
abbrev pub is_unknown : ℕ → Unknown → Bool
is_unknown d u =
    nat_le 1 u.r && nat_le u.r d && nat_le 1 u.s && nat_le u.s d && nat_le 1 u.t && nat_le u.t d

-- the place in the lexicographic order of the unknowns whose numbers are from 1 to d
unfoldable pub place : ℕ → Unknown → ℕ
place d u = ((u.r - 1) * d + (u.s - 1)) * d + (u.t - 1)

abbrev pub is_same : Unknown → Unknown → Bool
is_same u v = nat_eq u.r v.r && nat_eq u.s v.s && nat_eq u.t v.t

-- u stands before v in that order
abbrev pub precedes : Unknown → Unknown → Bool
precedes u v =
    nat_lt u.r v.r
    || nat_eq u.r v.r && (nat_lt u.s v.s || nat_eq u.s v.s && nat_lt u.t v.t)
