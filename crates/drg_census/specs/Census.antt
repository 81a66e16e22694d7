-- The arrays of a diameter, a valency and a number of vertices that meet the conditions on counts alone
-- (Brouwer, Cohen and Neumaier 1989, section 4.1; handshake to triangles: elementary counting).
use Rattle.std.specs.Prelude.{◌≡◌, ℕ, ◌≤◌, ◌↔◌, ⊤, pos, List, [], ◌∷◌, ◌++◌, map, Contains}
use Rattle.drg_algebra.specs.Rational.{whole}
use Rattle.drg_array.specs.ClaimOrder.{IsBefore}
use Rattle.drg_array.specs.ConditionLaws.{IsArrayTest}
use Rattle.drg_array.specs.Conditions.{CountsHold}
use Rattle.drg_array.specs.Entries.{Entries, IsArray, diameter, b_at}
use Rattle.drg_array.specs.Numbers.{vertex_count}
use Rattle.drg_array.specs.declared.test.Test.{Test}

-- A census is made for diameters from 1 to 4, valencies from 1 to 32, and 2 to 2,000 vertices.
pub record IsWithinLimits (d k n : ℕ) : Type 0 where
  pub some_diameter : 1 ≤ d
  pub diameter : d ≤ 4
  pub some_valency : 1 ≤ k
  pub valency : k ≤ 32
  pub some_vertices : 2 ≤ n
  pub vertices : n ≤ 2000

-- The array has this diameter, this valency and this number of vertices, and meets the condition of each of tests 1 to 9.
pub record InCensus (d k n : ℕ) (a : Entries) : Type 0 where
  pub array : IsArray a
  pub diameter : diameter a ≡ d
  pub valency : b_at a 0 ≡ k
  pub vertices : vertex_count a ≡ whole (pos n)
  pub passes : (t : Test) → IsArrayTest t → CountsHold a t

-- The entries in their order: b_0, .., b_(d-1), then c_1, .., c_d.
abbrev pub in_order : Entries → List ℕ
in_order a = a.b ++ a.c

-- Every one of the arrays comes after this one, by the first entry that differs.
abbrev pub IsBeforeAll : Entries → List Entries → Type 0
IsBeforeAll a [] = ⊤
IsBeforeAll a (next ∷ more) = IsBefore (in_order a) (in_order next) × IsBeforeAll a more

-- The arrays ascend, so that none stands twice.
abbrev pub AreAscending : List Entries → Type 0
AreAscending [] = ⊤
AreAscending (a ∷ more) = IsBeforeAll a more × AreAscending more

-- The arrays are exactly all of the census, ascending.
pub record IsCensus (d k n : ℕ) (arrays : List Entries) : Type 0 where
  pub exactly : (a : Entries) → Contains arrays a ↔ InCensus d k n a
  pub ascending : AreAscending arrays
