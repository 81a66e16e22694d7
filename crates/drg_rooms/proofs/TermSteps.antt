-- Loops over terms: what remains from a place on.
use Rattle.std.proofs.Common.{◌≡◌, ℕ, ℤ, pos, Bool, true, false, List, ◌∷◌, drop, refl, ◌<◌, ◌+◌, length, get_or, add-one, ap, sym, ◌∙◌}
use Rattle.std.specs.Prelude.{◌&&◌, ◌-ℤ◌, if◌then◌else◌}
use Rattle.std.proofs.Math.Seq.{drop-cons}
use Rattle.drg_algebra.proofs.Tests.{both}
use Rattle.drg_linear.specs.declared.bounds.End.{End}
use Rattle.drg_linear.specs.declared.unknown.Unknown.{Unknown}
use Rattle.drg_whole.specs.Range.{in_range}
use Rattle.drg_whole.specs.Sums.{sum_from, sum_fits_from}
use Rattle.drg_linear.specs.Equations.{Term, rest_of}
use Rattle.drg_linear.specs.Rooms.{RoomBounds, end_products}
use Rattle.drg_rooms.specs.Moduli.{all_in_range, less_fits_from}
use Rattle.drg_linear.specs.Moduli.{divides_free, is_fixed, fixed_product, fixed_products, less_from}

-- the sum of the rest of all terms is that of the rest from place i on
pub record RestRemains (d : ℕ) (side : End) (room : RoomBounds) (u : Unknown) (terms : List Term) (so_far : ℤ) (i : ℕ) : Type 0 where
  pub fits : sum_fits_from (pos 0) (end_products d side room (rest_of u terms)) ≡ sum_fits_from so_far (end_products d side room (rest_of u (drop i terms)))
  pub value : sum_from (pos 0) (end_products d side room (rest_of u terms)) ≡ sum_from so_far (end_products d side room (rest_of u (drop i terms)))

pub record FreeRemain (d : ℕ) (room : RoomBounds) (g : ℕ) (terms : List Term) (i : ℕ) : Type 0 where
  pub divides : divides_free d room g terms ≡ divides_free d room g (drop i terms)

pub record FixedRemain (d : ℕ) (room : RoomBounds) (total : ℤ) (terms : List Term) (so_far : ℤ) (i : ℕ) : Type 0 where
  pub fits : (all_in_range (fixed_products d room terms) && less_fits_from total (fixed_products d room terms)) ≡ (all_in_range (fixed_products d room (drop i terms)) && less_fits_from so_far (fixed_products d room (drop i terms)))
  pub value : less_from total (fixed_products d room terms) ≡ less_from so_far (fixed_products d room (drop i terms))

from_here : (terms : List Term) (i : ℕ) (t : Term) → i < length terms → drop i terms ≡ get_or terms i t ∷ drop (i + 1) terms
from_here terms i t h = rw (add-one, drop-cons terms i t)

fits_on : (b : Bool) (p s : ℤ) (ps : List ℤ) → (if b then in_range p && in_range (s -ℤ p) else true) ≡ true
    → (all_in_range (if b then p ∷ ps else ps) && less_fits_from s (if b then p ∷ ps else ps)) ≡ (all_in_range ps && less_fits_from (if b then s -ℤ p else s) ps)
fits_on true p s ps h = let e = both (in_range p) (in_range (s -ℤ p)) h in rw (e.0, e.1) refl
fits_on false p s ps h = refl

less_on : (b : Bool) (p s : ℤ) (ps : List ℤ) → less_from s (if b then p ∷ ps else ps) ≡ less_from (if b then s -ℤ p else s) ps
less_on true p s ps = refl
less_on false p s ps = refl

pub fixed_goes_on : (d : ℕ) (room : RoomBounds) (total : ℤ) (terms : List Term) (so_far next : ℤ) (i : ℕ) (t : Term) → i < length terms → FixedRemain d room total terms so_far i
    → (if is_fixed d room (get_or terms i t) then in_range (fixed_product d room (get_or terms i t)) && in_range (so_far -ℤ fixed_product d room (get_or terms i t)) else true) ≡ true
    → next ≡ (if is_fixed d room (get_or terms i t) then so_far -ℤ fixed_product d room (get_or terms i t) else so_far)
    → FixedRemain d room total terms next (i + 1)
fixed_goes_on d room total terms so_far next i t h r f e =
    let u = get_or terms i t in
    let ps = fixed_products d room (drop (i + 1) terms) in
    let here = from_here terms i t h in
    record {
      fits = r.fits ∙ (ap (λ (ts : List Term). all_in_range (fixed_products d room ts) && less_fits_from so_far (fixed_products d room ts)) here ∙ (fits_on (is_fixed d room u) (fixed_product d room u) so_far ps f ∙ ap (λ (z : ℤ). all_in_range ps && less_fits_from z ps) (sym e)));
      value = r.value ∙ (ap (λ (ts : List Term). less_from so_far (fixed_products d room ts)) here ∙ (less_on (is_fixed d room u) (fixed_product d room u) so_far ps ∙ ap (λ (z : ℤ). less_from z ps) (sym e)));
    }
