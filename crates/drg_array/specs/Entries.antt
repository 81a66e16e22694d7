-- The entries of an intersection array (Brouwer, Cohen and Neumaier 1989, section 4.1).
use Rattle.std.specs.Prelude.{◌≡◌, ℕ, ℤ, zero, suc, ◌≤◌, pos, ◌-ℤ◌, List, length, slice_index}
use Rattle.std.specs.List.{AllByRecursion}
use Rattle.drg_array.specs.declared.limits.TheConstants.{MAX_DIAMETER, MAX_ENTRY}

-- b_0, .., b_(d-1) and c_1, .., c_d
pub record Entries : Type 0 where
  pub b : List ℕ
  pub c : List ℕ

abbrev pub diameter : Entries → ℕ
diameter a = length a.b

-- b_i, with b_d = 0
abbrev pub b_at : Entries → ℕ → ℕ
b_at a i = slice_index a.b i

-- c_i, with c_0 = 0
abbrev pub c_at : Entries → ℕ → ℕ
c_at a zero = 0
c_at a (suc i) = slice_index a.c i

-- a_i = b_0 - b_i - c_i
abbrev pub a_at : Entries → ℕ → ℤ
a_at a i = pos (b_at a 0) -ℤ pos (b_at a i) -ℤ pos (c_at a i)

abbrev pub IsEntry : ℕ → Type 0
IsEntry n = (1 ≤ n) × (n ≤ MAX_ENTRY)

pub record IsArray (a : Entries) : Type 0 where
  pub same_length : length a.b ≡ length a.c
  pub some : 1 ≤ length a.b
  pub short : length a.b ≤ MAX_DIAMETER
  pub entries_b : AllByRecursion IsEntry a.b
  pub entries_c : AllByRecursion IsEntry a.c
