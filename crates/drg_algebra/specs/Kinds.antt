-- Names of rings. A clause cannot range over all rings, so it ranges over these names; the lemmas in proofs/ take any ring.
use Rattle.std.specs.Prelude.{ℕ, ℤ}
use Rattle.drg_algebra.specs.Pairs as Rings
use Rattle.drg_algebra.specs.Ring.{CommutativeRing}

-- whole numbers, rationals, values a + b √D, remainders modulo x² - s x + t, and dual numbers over a ring
pub data Kind : Type 0 where
  wholes : Kind
  rationals : Kind
  roots : ℕ → Kind
  remainders : ℤ → ℤ → Kind
  dual : Kind → Kind

abbrev pub ring_of : Kind → CommutativeRing
ring_of wholes = Rings.whole_numbers
ring_of rationals = Rings.rational_numbers
ring_of (roots root) = Rings.root_values root
ring_of (remainders s t) = Rings.remainders s t
ring_of (dual k) = Rings.duals (ring_of k)
