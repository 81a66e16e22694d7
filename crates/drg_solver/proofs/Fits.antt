-- The sums and products of an equation that fits over a room stay in range in the room.
use Rattle.std.proofs.Common.{◌≡◌, ℕ, zero, suc, ◌<◌, ◌≤◌, ◌+◌, ◌*◌, ℤ, pos, negsuc, ◌*ℤ◌, ◌+ℤ◌, ◌-ℤ◌, ◌≤ℤ◌, Bool, true, false, List, [], ◌∷◌, length, refl, subst, arith}
use Rattle.std.specs.Prelude.{◌&&◌, ◌^◌, if◌then◌else◌, map, unsigned_abs, slice_index_or, All, Contains}
use Rattle.std.proofs.Math.Nat.{mul-le-mul_left}
use Rattle.std.proofs.lemmas.Int.{ints, unsigned_abs-mul}
use Rattle.std.specs.Int.Signed.{lt_z, le_z}
use Rattle.drg_algebra.proofs.Tests.{both}
use Rattle.drg_whole.specs.Range.{InRange, in_range}
use Rattle.drg_whole.specs.Sums.{sum_from, sum_fits_from}
use Rattle.drg_whole.proofs.Ranges.{fits}
use Rattle.drg_linear.specs.declared.unknown.Unknown.{Unknown}
use Rattle.drg_linear.specs.declared.bounds.End.{End}
use Rattle.drg_linear.specs.declared.bounds.End.TheVariants.{Least, Greatest}
use Rattle.drg_linear.specs.Unknowns.{place, is_same}
use Rattle.drg_linear.specs.Equations.{Term, EquationContent, rest_of}
use Rattle.drg_linear.specs.Rooms.{RoomBounds, RoomContent, Bounds, IsRoom, bounds_at, are_ordered, end_of, end_product, end_products, end_sum}
use Rattle.drg_linear.specs.Moduli.{is_fixed, fixed_products, fixed_product}
use Rattle.drg_linear.specs.Systems.{FitsOver, weight}
use Rattle.drg_linear.proofs.Holding.{low_at}
use Rattle.drg_rooms.specs.Moduli.{all_in_range, less_fits_from}
use Rattle.drg_solver.specs.Parts.{IsPart}

-- ---- bounds in a room
pub order_at : (room : RoomBounds) (k : ℕ) → are_ordered room ≡ true → (bounds_at room k).0 ≤ℤ (bounds_at room k).1
order_at [] k h = omega (arith, ints)
order_at (b ∷ bs) zero h =
    let e = (both (le_z (pos 0) b.0) (le_z b.0 b.1) (both (le_z (pos 0) b.0 && le_z b.0 b.1) (are_ordered bs) h).0).1 in
    omega (arith, ints)
order_at (b ∷ bs) (suc k) h = order_at bs k (both (le_z (pos 0) b.0 && le_z b.0 b.1) (are_ordered bs) h).1

abs_at_most : (x high : ℤ) → pos 0 ≤ℤ x → x ≤ℤ high → unsigned_abs x ≤ unsigned_abs high
abs_at_most (pos x) (pos h) l g = omega (arith, ints)
abs_at_most (pos x) (negsuc h) l g = absurd (omega (arith, ints))
abs_at_most (negsuc x) h l g = absurd (omega (arith, ints))

product_at_most : (a x high : ℤ) → unsigned_abs x ≤ unsigned_abs high → unsigned_abs (a *ℤ x) ≤ unsigned_abs a * unsigned_abs high
product_at_most a x high h = rw (unsigned_abs-mul a x) (mul-le-mul_left (unsigned_abs a) h)

abs_sum : (x y : ℤ) → unsigned_abs (x +ℤ y) ≤ unsigned_abs x + unsigned_abs y
abs_sum (pos x) (pos y) = omega (arith, ints)
abs_sum (pos x) (negsuc y) = omega (arith, ints)
abs_sum (negsuc x) (pos y) = omega (arith, ints)
abs_sum (negsuc x) (negsuc y) = omega (arith, ints)

pub abs_less : (x y : ℤ) → unsigned_abs (x -ℤ y) ≤ unsigned_abs x + unsigned_abs y
abs_less (pos x) (pos y) = omega (arith, ints)
abs_less (pos x) (negsuc y) = omega (arith, ints)
abs_less (negsuc x) (pos y) = omega (arith, ints)
abs_less (negsuc x) (negsuc y) = omega (arith, ints)

-- ---- sums of numbers that are no larger than coefficient times high bound
pub AtMostHigh : ℕ → RoomBounds → (Term → ℤ) → Type 0
AtMostHigh d room f = (t : Term) → unsigned_abs (f t) ≤ unsigned_abs t.1 * unsigned_abs (bounds_at room (place d t.0)).1

in-sum : (m t p s w w' r : ℕ) → p ≤ w → s ≤ t + p → t + (w + w') + r < m → s + w' + r < m
in-sum m t p s w w' r a b c = omega (arith, a, b, c)

in-product : (m t p w w' r : ℕ) → p ≤ w → t + (w + w') + r < m → p < m
in-product m t p w w' r a c = omega (arith, a, c)

in-total : (m s w' r : ℕ) → s + w' + r < m → s < m
in-total m s w' r c = omega (arith, c)

in-end : (m s r : ℕ) → s + 0 + r < m → s + r < m
in-end m s r c = omega (arith, c)

pub record Stays (total : ℤ) (numbers : List ℤ) (r : ℕ) : Type 0 where
  pub fits : sum_fits_from total numbers ≡ true
  pub small : unsigned_abs (sum_from total numbers) + r < 2 ^ 127

pub stays : (d : ℕ) (room : RoomBounds) (f : Term → ℤ) (terms : List Term) (total : ℤ) (r : ℕ) → AtMostHigh d room f
    → unsigned_abs total + weight d room terms + r < 2 ^ 127 → Stays total (map f terms) r
unfolding AtMostHigh
stays d room f [] total r h w = record { fits = refl; small = in-end (2 ^ 127) (unsigned_abs total) r w }
stays d room f (t ∷ ts) total r h w =
    let high = unsigned_abs t.1 * unsigned_abs (bounds_at room (place d t.0)).1 in
    let p : unsigned_abs (f t) ≤ high = h t in
    let later = in-sum (2 ^ 127) (unsigned_abs total) (unsigned_abs (f t)) (unsigned_abs (total +ℤ f t)) high (weight d room ts) r p (abs_sum total (f t)) w in
    let rest = stays d room f ts (total +ℤ f t) r h later in
    record {
      fits = rw (
        fits (f t) (in-product (2 ^ 127) (unsigned_abs total) (unsigned_abs (f t)) high (weight d room ts) r p w),
        fits (total +ℤ f t) (in-total (2 ^ 127) (unsigned_abs (total +ℤ f t)) (weight d room ts) r later),
      ) rest.fits;
      small = rest.small;
    }

-- ---- the ends of the sums of an equation
end_abs : (side : End) (b : Bounds) (a : ℤ) → pos 0 ≤ℤ b.0 → b.0 ≤ℤ b.1 → unsigned_abs (end_of side b a) ≤ unsigned_abs b.1
end_abs Least b a l o = choose (lt_z (pos 0) a) b.0 b.1 (abs_at_most b.0 b.1 l o)
  where
    choose : (c : Bool) (x y : ℤ) → unsigned_abs x ≤ unsigned_abs y → unsigned_abs (if c then x else y) ≤ unsigned_abs y
    choose true x y h = h
    choose false x y h = omega arith
end_abs Greatest b a l o = choose (lt_z (pos 0) a) b.0 b.1 (abs_at_most b.0 b.1 l o)
  where
    choose : (c : Bool) (x y : ℤ) → unsigned_abs x ≤ unsigned_abs y → unsigned_abs (if c then y else x) ≤ unsigned_abs y
    choose true x y h = omega arith
    choose false x y h = h

pub ends_at_most : (d : ℕ) (side : End) (room : RoomBounds) → are_ordered room ≡ true → AtMostHigh d room (end_product d side room)
unfolding AtMostHigh
ends_at_most d side room o t =
    let b = bounds_at room (place d t.0) in
    product_at_most t.1 (end_of side b t.1) b.1 (end_abs side b t.1 (low_at room (place d t.0) o) (order_at room (place d t.0) o))

from_zero : (m w r : ℕ) → w + r < m → unsigned_abs (pos 0) + w + r < m
from_zero m w r h = omega (arith, h)

less_weight : (m w w' r : ℕ) → w' ≤ w → w + r < m → w' + r < m
less_weight m w w' r h k = omega (arith, h, k)

rest_weight_at : (d : ℕ) (room : RoomBounds) (u : Unknown) (t : Term) (ts : List Term) (b : Bool) → weight d room (rest_of u ts) ≤ weight d room ts
    → weight d room (if b then ts else (t ∷ rest_of u ts)) ≤ weight d room (t ∷ ts)
rest_weight_at d room u t ts true h = let x = unsigned_abs t.1 * unsigned_abs (bounds_at room (place d t.0)).1 in more x (weight d room ts)
  where
    more : (x w : ℕ) → w ≤ x + w
    more x w = omega arith
rest_weight_at d room u t ts false h = let x = unsigned_abs t.1 * unsigned_abs (bounds_at room (place d t.0)).1 in both_more x (weight d room (rest_of u ts)) (weight d room ts) h
  where
    both_more : (x w' w : ℕ) → w' ≤ w → x + w' ≤ x + w
    both_more x w' w h = omega (arith, h)

rest_weight : (d : ℕ) (room : RoomBounds) (u : Unknown) (ts : List Term) → weight d room (rest_of u ts) ≤ weight d room ts
rest_weight d room u [] = omega arith
rest_weight d room u (t ∷ ts) = rest_weight_at d room u t ts (is_same t.0 u) (rest_weight d room u ts)

pub ends_stay : (side : End) (room : RoomContent) (e : EquationContent) → IsRoom room → FitsOver room e → Stays (pos 0) (end_products room.d side room.bounds e.terms) (unsigned_abs e.right)
ends_stay side room e r f =
    stays room.d room.bounds (end_product room.d side room.bounds) e.terms (pos 0) (unsigned_abs e.right) (ends_at_most room.d side room.bounds r.ordered)
    (from_zero (2 ^ 127) (weight room.d room.bounds e.terms) (unsigned_abs e.right) f.fits)

pub rest_stays : (side : End) (room : RoomContent) (u : Unknown) (e : EquationContent) → IsRoom room → FitsOver room e
    → Stays (pos 0) (end_products room.d side room.bounds (rest_of u e.terms)) (unsigned_abs e.right)
rest_stays side room u e r f =
    let w = weight room.d room.bounds (rest_of u e.terms) in
    stays room.d room.bounds (end_product room.d side room.bounds) (rest_of u e.terms) (pos 0) (unsigned_abs e.right) (ends_at_most room.d side room.bounds r.ordered)
    (from_zero (2 ^ 127) w (unsigned_abs e.right) (less_weight (2 ^ 127) (weight room.d room.bounds e.terms) w (unsigned_abs e.right) (rest_weight room.d room.bounds u e.terms) f.fits))

-- ---- what is left of the right side
left_small : (right sum : ℤ) → unsigned_abs sum + unsigned_abs right < 2 ^ 127 → InRange (right -ℤ sum)
left_small right sum h = let k = abs_less right sum in swapped (2 ^ 127) (unsigned_abs (right -ℤ sum)) (unsigned_abs right) (unsigned_abs sum) k h
  where
    swapped : (m x r s : ℕ) → x ≤ r + s → s + r < m → x < m
    swapped m x r s h k = omega (arith, h, k)

pub left_in_range : (right sum : ℤ) → unsigned_abs sum + unsigned_abs right < 2 ^ 127 → in_range (right -ℤ sum) ≡ true
left_in_range right sum h = fits (right -ℤ sum) (left_small right sum h)

-- ---- fixed terms, taken from the right side
fixed_at_most : (d : ℕ) (room : RoomBounds) (t : Term) → are_ordered room ≡ true → unsigned_abs (fixed_product d room t) ≤ unsigned_abs t.1 * unsigned_abs (bounds_at room (place d t.0)).1
fixed_at_most d room t o =
    let b = bounds_at room (place d t.0) in
    product_at_most t.1 b.0 b.1 (abs_at_most b.0 b.1 (low_at room (place d t.0) o) (order_at room (place d t.0) o))

taken : (m t p s w w' : ℕ) → p ≤ w → s ≤ t + p → t + (w + w') < m → s + w' < m
taken m t p s w w' a b c = omega (arith, a, b, c)

passed : (m t w w' : ℕ) → t + (w + w') < m → t + w' < m
passed m t w w' c = omega (arith, c)

taken_product : (m t p w w' : ℕ) → p ≤ w → t + (w + w') < m → p < m
taken_product m t p w w' a c = omega (arith, a, c)

first_part : (m s w : ℕ) → s + w < m → s < m
first_part m s w h = omega (arith, h)

turned : (a b c d : Bool) → (a ≡ true) → (c ≡ true) → (b && d) ≡ true → ((a && b) && (c && d)) ≡ true
turned a b c d h k l = rw (h, k) l

fixed_step : (d : ℕ) (room : RoomBounds) (t : Term) (ts : List Term) (total : ℤ) (b : Bool) → are_ordered room ≡ true
    → unsigned_abs total + weight d room (t ∷ ts) < 2 ^ 127
    → ((total : ℤ) → unsigned_abs total + weight d room ts < 2 ^ 127 → (all_in_range (fixed_products d room ts) && less_fits_from total (fixed_products d room ts)) ≡ true)
    → (all_in_range (if b then fixed_product d room t ∷ fixed_products d room ts else fixed_products d room ts)
    && less_fits_from total (if b then fixed_product d room t ∷ fixed_products d room ts else fixed_products d room ts)) ≡ true
fixed_step d room t ts total true o w more =
    let p = fixed_product d room t in
    let high = unsigned_abs t.1 * unsigned_abs (bounds_at room (place d t.0)).1 in
    let small = fixed_at_most d room t o in
    let later = taken (2 ^ 127) (unsigned_abs total) (unsigned_abs p) (unsigned_abs (total -ℤ p)) high (weight d room ts) small (abs_less total p) w in
    turned (in_range p) (all_in_range (fixed_products d room ts)) (in_range (total -ℤ p)) (less_fits_from (total -ℤ p) (fixed_products d room ts))
    (fits p (taken_product (2 ^ 127) (unsigned_abs total) (unsigned_abs p) high (weight d room ts) small w))
    (fits (total -ℤ p) (first_part (2 ^ 127) (unsigned_abs (total -ℤ p)) (weight d room ts) later)) (more (total -ℤ p) later)
fixed_step d room t ts total false o w more =
    more total (passed (2 ^ 127) (unsigned_abs total) (unsigned_abs t.1 * unsigned_abs (bounds_at room (place d t.0)).1) (weight d room ts) w)

fixed_fit : (d : ℕ) (room : RoomBounds) (ts : List Term) (total : ℤ) → are_ordered room ≡ true → unsigned_abs total + weight d room ts < 2 ^ 127
    → (all_in_range (fixed_products d room ts) && less_fits_from total (fixed_products d room ts)) ≡ true
fixed_fit d room [] total o w = refl
fixed_fit d room (t ∷ ts) total o w = fixed_step d room t ts total (is_fixed d room t) o w (λ total w. fixed_fit d room ts total o w)

pub left_fits : (room : RoomContent) (e : EquationContent) → IsRoom room → FitsOver room e
    → (all_in_range (fixed_products room.d room.bounds e.terms) && less_fits_from e.right (fixed_products room.d room.bounds e.terms)) ≡ true
left_fits room e r f = fixed_fit room.d room.bounds e.terms e.right r.ordered (swapped (2 ^ 127) (weight room.d room.bounds e.terms) (unsigned_abs e.right) f.fits)
  where
    swapped : (m w r : ℕ) → w + r < m → r + w < m
    swapped m w r h = omega (arith, h)

-- ---- a room within another one
two_sums : (x x' w w' : ℕ) → x' ≤ x → w' ≤ w → x' + w' ≤ x + w
two_sums x x' w w' h k = omega (arith, h, k)

part_weight : (d : ℕ) (whole room : RoomBounds) (ts : List Term) → ((k : ℕ) → unsigned_abs (bounds_at room k).1 ≤ unsigned_abs (bounds_at whole k).1) → weight d room ts ≤ weight d whole ts
part_weight d whole room [] h = omega arith
part_weight d whole room (t ∷ ts) h =
    let k = place d t.0 in
    two_sums (unsigned_abs t.1 * unsigned_abs (bounds_at whole k).1) (unsigned_abs t.1 * unsigned_abs (bounds_at room k).1) (weight d whole ts) (weight d room ts)
    (mul-le-mul_left (unsigned_abs t.1) (h k)) (part_weight d whole room ts h)

not_below : (low high : ℤ) → pos 0 ≤ℤ low → low ≤ℤ high → pos 0 ≤ℤ high
not_below low high l o = omega (arith, ints)

pub part_fits : (whole room : RoomContent) (e : EquationContent) → IsPart whole room → FitsOver whole e → FitsOver room e
part_fits whole room e p f = record {
  unknowns = rw p.d f.unknowns;
  fits = less_weight (2 ^ 127) (weight whole.d whole.bounds e.terms) (weight room.d room.bounds e.terms) (unsigned_abs e.right)
      (rw p.d (part_weight whole.d whole.bounds room.bounds e.terms
      (λ k. abs_at_most (bounds_at room.bounds k).1 (bounds_at whole.bounds k).1 (not_below (bounds_at room.bounds k).0 (bounds_at room.bounds k).1 (low_at room.bounds k p.is_room.ordered) (order_at room.bounds k p.is_room.ordered)) (p.high k)))) f.fits;
}

-- ---- one term beside the rest
member_weight : (d : ℕ) (room : RoomBounds) (ts : List Term) (k : ℕ) (t : Term) → k < length ts → slice_index_or ts k t ≡ t → unsigned_abs t.1 * unsigned_abs (bounds_at room (place d t.0)).1 ≤ weight d room ts
member_weight d room [] k t h e = absurd (omega (arith, h))
member_weight d room (u ∷ us) zero t h e =
    let P : Term → Type 0 = λ t. unsigned_abs t.1 * unsigned_abs (bounds_at room (place d t.0)).1 ≤ weight d room (u ∷ us) in
    subst P e (first (unsigned_abs u.1 * unsigned_abs (bounds_at room (place d u.0)).1) (weight d room us))
  where
    first : (x w : ℕ) → x ≤ x + w
    first x w = omega arith
member_weight d room (u ∷ us) (suc k) t h e =
    later (unsigned_abs u.1 * unsigned_abs (bounds_at room (place d u.0)).1) (weight d room us) (unsigned_abs t.1 * unsigned_abs (bounds_at room (place d t.0)).1) (member_weight d room us k t (omega (arith, h)) e)
  where
    later : (x w y : ℕ) → y ≤ w → y ≤ x + w
    later x w y h = omega (arith, h)

below_all : (m p w r : ℕ) → p ≤ w → w + r < m → p < m
below_all m p w r h k = omega (arith, h, k)

at_most_all : (x y z : ℕ) → x ≤ y → y ≤ z → x ≤ z
at_most_all x y z h k = omega (arith, h, k)

at_high : (side : End) (room : RoomContent) → IsRoom room → (t : Term) → unsigned_abs (end_product room.d side room.bounds t) ≤ unsigned_abs t.1 * unsigned_abs (bounds_at room.bounds (place room.d t.0)).1
unfolding AtMostHigh
at_high side room r t = ends_at_most room.d side room.bounds r.ordered t

-- the right side less the sum, one term, and both together
pub beside_fits : (side : End) (room : RoomContent) (e : EquationContent) (t : Term) → IsRoom room → FitsOver room e → Contains e.terms t
    → (e.right -ℤ end_sum room.d side room.bounds e.terms) +ℤ end_product room.d side room.bounds t ≡ e.right -ℤ end_sum room.d side room.bounds (rest_of t.0 e.terms)
    → (in_range (e.right -ℤ end_sum room.d side room.bounds e.terms)
    && (in_range (end_product room.d side room.bounds t) && in_range ((e.right -ℤ end_sum room.d side room.bounds e.terms) +ℤ end_product room.d side room.bounds t))) ≡ true
beside_fits side room e t r f c same =
    let p = end_product room.d side room.bounds t in
    let w = weight room.d room.bounds e.terms in
    let high = unsigned_abs t.1 * unsigned_abs (bounds_at room.bounds (place room.d t.0)).1 in
    let one = left_in_range e.right (end_sum room.d side room.bounds e.terms) (ends_stay side room e r f).small in
    let small : unsigned_abs p ≤ w = at_most_all (unsigned_abs p) high w (at_high side room r t) (member_weight room.d room.bounds e.terms c.0 t c.1 c.2) in
    let two = fits p (below_all (2 ^ 127) (unsigned_abs p) w (unsigned_abs e.right) small f.fits) in
    let three = left_in_range e.right (end_sum room.d side room.bounds (rest_of t.0 e.terms)) (rest_stays side room t.0 e r f).small in
    rw (one, two, same, three) refl

pub all_fit : (whole room : RoomContent) (equations : List EquationContent) → IsPart whole room → All (FitsOver whole) equations → All (FitsOver room) equations
all_fit whole room equations p h k d l = part_fits whole room (slice_index_or equations k d) p (h k d l)
