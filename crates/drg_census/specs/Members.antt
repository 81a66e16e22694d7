-- What the numbers of an array decide of its place in a census.
use Rattle.std.specs.Prelude.{◌≡◌, ℕ, pos}
use Rattle.drg_algebra.specs.Rational.{whole}
use Rattle.drg_array.specs.Conditions.{CountsHold}
use Rattle.drg_array.specs.Entries.{Entries}
use Rattle.drg_array.specs.Numbers.{vertex_count}
use Rattle.drg_array.specs.declared.test.Test.TheVariants as test

-- The array has this number of vertices, and meets the conditions on parity.
pub record PassesLate (n : ℕ) (a : Entries) : Type 0 where
  pub vertices : vertex_count a ≡ whole (pos n)
  pub handshake : CountsHold a test.Handshake
  pub induced : CountsHold a test.Induced
  pub triangles : CountsHold a test.Triangles
