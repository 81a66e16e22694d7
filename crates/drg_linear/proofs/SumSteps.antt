-- One more term of a sum from left to right.
use Rattle.std.proofs.Common.{◌≡◌, ℕ, ◌<◌, ◌+◌, ℤ, ◌+ℤ◌, true, false, List, ◌∷◌, length, drop, get_or, refl, add-one}
use Rattle.std.specs.Prelude.{◌&&◌}
use Rattle.std.proofs.Math.Seq.{drop-cons}
use Rattle.drg_whole.specs.Sums.{sum_from, sum_fits_from}
use Rattle.drg_whole.specs.Range.{in_range}
use Rattle.drg_linear.specs.Equations.{Term}
use Rattle.drg_linear.specs.declared.bounds.End.{End}
use Rattle.drg_linear.specs.Rooms.{RoomBounds, end_product, end_products}

-- a sum of all is that of the terms from place i on, added to what has been summed
pub record Remains (d : ℕ) (side : End) (room : RoomBounds) (terms : List Term) (total so_far : ℤ) (i : ℕ) : Type 0 where
  pub fits : sum_fits_from total (end_products d side room terms) ≡ sum_fits_from so_far (end_products d side room (drop i terms))
  pub value : sum_from total (end_products d side room terms) ≡ sum_from so_far (end_products d side room (drop i terms))

from_here : (terms : List Term) (i : ℕ) (t : Term) → i < length terms → drop i terms ≡ get_or terms i t ∷ drop (i + 1) terms
from_here terms i t h = rw (add-one, drop-cons terms i t)

pub fails : (d : ℕ) (side : End) (room : RoomBounds) (terms : List Term) (total so_far : ℤ) (i : ℕ) (t : Term) → i < length terms → Remains d side room terms total so_far i
    → (in_range (end_product d side room (get_or terms i t)) && in_range (so_far +ℤ end_product d side room (get_or terms i t))) ≡ false → sum_fits_from total (end_products d side room terms) ≡ false
fails d side room terms total so_far i t h r f = rw (r.fits, from_here terms i t h, f) refl

pub goes_on : (d : ℕ) (side : End) (room : RoomBounds) (terms : List Term) (total so_far next : ℤ) (i : ℕ) (t : Term) → i < length terms → Remains d side room terms total so_far i
    → (in_range (end_product d side room (get_or terms i t)) && in_range (so_far +ℤ end_product d side room (get_or terms i t))) ≡ true → next ≡ so_far +ℤ end_product d side room (get_or terms i t) → Remains d side room terms total next (i + 1)
goes_on d side room terms total so_far next i t h r f e = record {
  fits = rw (r.fits, from_here terms i t h, f, e) refl;
  value = rw (r.value, from_here terms i t h, e) refl;
}
