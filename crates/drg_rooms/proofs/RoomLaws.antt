-- The lines `low`, `high`, `split`, `miss` and `void` keep or cover the solutions of the branch in hand.
use Rattle.std.proofs.Common.{◌≡◌, ℕ, zero, suc, ℤ, pos, negsuc, ◌*ℤ◌, ◌+ℤ◌, ◌-ℤ◌, ◌≤ℤ◌, ◌<ℤ◌, Bool, true, false, ◌⊎◌, inl, inr, List, [], ◌∷◌, arith, refl}
use Rattle.std.specs.Prelude.{if◌then◌else◌, slice_set, not}
use Rattle.std.specs.Ordering.{int_eq}
use Rattle.std.specs.Int.Signed.{lt_z, le_z}
use Rattle.std.proofs.lemmas.Int.{ints}
use Rattle.drg_linear.specs.declared.unknown.Unknown.{Unknown}
use Rattle.drg_linear.specs.Unknowns.{place}
use Rattle.drg_linear.specs.Equations.{Term, EquationContent, value_from, Meets, coefficient_of, rest_of}
use Rattle.drg_linear.specs.declared.bounds.End.TheVariants.{Least, Greatest}
use Rattle.drg_linear.specs.Rooms.{RoomBounds, Bounds, InRoom, bounds_at, end_sum, end_sum_fits}
use Rattle.drg_linear.specs.Laws.{Reaches, StaysBelow}
use Rattle.drg_linear.proofs.Sums.{sums_bound_value}
use Rattle.drg_linear.proofs.RoomChanges.{bounds_set}
use Rattle.drg_linear.proofs.Quotients.{ceiling_is_least, floor_is_greatest}
use Rattle.drg_rooms.specs.Steps.{Holds, Fits, EachHolds}
use Rattle.drg_rooms.specs.Values.{left_steps, low_steps, high_steps, miss_steps, with_low, with_high, raised, lowered}
use Rattle.drg_linear.specs.Values.{least_by, greatest_by, left_by, least_value, greatest_value}
use Rattle.drg_rooms.specs.Lines.{in_hand, kept_of, is_void}
use Rattle.drg_rooms.specs.Laws.{InSome}
use Rattle.drg_rooms.proofs.TermLaws.{beside}

-- ---- miss
miss_says : (f below g above : Bool) → EachHolds (Fits f ∷ (if below then [] else Fits g ∷ Holds above ∷ [])) → (below ≡ true) ⊎ (above ≡ true)
miss_says f true g above h = inl refl
miss_says f false g above h = inr h.1.1.0

clash : (least value most right : ℤ) → least ≤ℤ value → value ≤ℤ most → value ≡ right → (lt_z right least ≡ true) ⊎ (lt_z most right ≡ true) → ⊥
clash least value most right l g m (inl b) = omega (arith, ints)
clash least value most right l g m (inr b) = omega (arith, ints)

miss_empties : (d : ℕ) (x : ℕ → ℤ) (room : RoomBounds) (e : EquationContent) → EachHolds (miss_steps d room e) → Meets d x e → InRoom x room → ⊥
miss_empties d x room e h m r =
    let s = sums_bound_value d room x e.terms r in
    let q = miss_says (end_sum_fits d Least room e.terms) (lt_z e.right (end_sum d Least room e.terms)) (end_sum_fits d Greatest room e.terms) (lt_z (end_sum d Greatest room e.terms) e.right) h in
    clash (end_sum d Least room e.terms) (value_from d x (pos 0) e.terms) (end_sum d Greatest room e.terms) e.right s.0 s.1 m q

pub miss_covers : (d : ℕ) (x : ℕ → ℤ) (branches : List RoomBounds) (e : EquationContent) → EachHolds (miss_steps d (in_hand branches) e) → Meets d x e → InSome x branches → InSome x (kept_of branches)
miss_covers d x [] e h m s = s
miss_covers d x (room ∷ kept) e h m (inl r) = absurd (miss_empties d x room e h m r)
miss_covers d x (room ∷ kept) e h m (inr s) = s

-- ---- void
pub void_covers : (x : ℕ → ℤ) (branches : List RoomBounds) (y : ℕ) → is_void (in_hand branches) y ≡ true → InSome x branches → InSome x (kept_of branches)
void_covers x [] y h s = s
void_covers x (room ∷ kept) y h (inl r) = let l = r.low y in let g = r.high y in absurd (omega (arith, ints))
void_covers x (room ∷ kept) y h (inr s) = s

-- ---- the bounds after a change
-- what holds at each unknown's bounds still holds after a change of one
set_keeps_at : (holds : ℕ → Bounds → Type 0) (room : RoomBounds) (y : ℕ) (b : Bounds) (k : ℕ) → holds k (bounds_at room k) → holds y b → (bounds_at (slice_set room y b) k ≡ bounds_at room k) ⊎ ((k ≡ y) × (bounds_at (slice_set room y b) k ≡ b)) → holds k (bounds_at (slice_set room y b) k)
set_keeps_at holds room y b k h q (inl e) = rw e h
set_keeps_at holds room y b k h q (inr p) = rw p.1 (rw p.0 q)

set_keeps : (holds : ℕ → Bounds → Type 0) (room : RoomBounds) (y : ℕ) (b : Bounds) → ((k : ℕ) → holds k (bounds_at room k)) → holds y b → (k : ℕ) → holds k (bounds_at (slice_set room y b) k)
set_keeps holds room y b h q k = set_keeps_at holds room y b k (h k) q (bounds_set room y k b)

pub in_high : (x : ℕ → ℤ) (room : RoomBounds) (y : ℕ) (v : ℤ) → InRoom x room → x y ≤ℤ v → InRoom x (with_high room y v)
unfolding with_high
in_high x room y v r h = record {
  low = set_keeps (λ k b. b.0 ≤ℤ x k) room y _ r.low (r.low y);
  high = set_keeps (λ k b. x k ≤ℤ b.1) room y _ r.high h;
}

pub in_low : (x : ℕ → ℤ) (room : RoomBounds) (y : ℕ) (v : ℤ) → InRoom x room → v ≤ℤ x y → InRoom x (with_low room y v)
unfolding with_low
in_low x room y v r h = record {
  low = set_keeps (λ k b. b.0 ≤ℤ x k) room y _ r.low h;
  high = set_keeps (λ k b. x k ≤ℤ b.1) room y _ r.high (r.high y);
}

-- ---- split
one_half : (x : ℕ → ℤ) (room : RoomBounds) (y : ℕ) (v : ℤ) (b : Bool) → b ≡ lt_z v (x y) → InRoom x room → InRoom x (with_high room y v) ⊎ InRoom x (with_low room y (v +ℤ pos 1))
one_half x room y v true e r = inr (in_low x room y (v +ℤ pos 1) r (omega (arith, ints)))
one_half x room y v false e r = inl (in_high x room y v r (omega (arith, ints)))

put_half : (x : ℕ → ℤ) (room : RoomBounds) (y : ℕ) (v : ℤ) (kept : List RoomBounds) → InRoom x (with_high room y v) ⊎ InRoom x (with_low room y (v +ℤ pos 1)) → InSome x (with_high room y v ∷ with_low room y (v +ℤ pos 1) ∷ kept)
put_half x room y v kept (inl r) = inl r
put_half x room y v kept (inr r) = inr (inl r)

-- the two halves of a branch hold its solutions
pub split_covers : (x : ℕ → ℤ) (branches : List RoomBounds) (y : ℕ) (v : ℤ) → InSome x branches → InSome x (with_high (in_hand branches) y v ∷ with_low (in_hand branches) y (v +ℤ pos 1) ∷ kept_of branches)
split_covers x [] y v s = absurd s
split_covers x (room ∷ kept) y v (inl r) = put_half x room y v kept (one_half x room y v (lt_z v (x y)) refl r)
split_covers x (room ∷ kept) y v (inr s) = inr (inr s)

-- ---- low and high
-- the term of the unknown is what the right side leaves beside the rest
term_is : (d : ℕ) (x : ℕ → ℤ) (u : Unknown) (e : EquationContent) → Meets d x e → coefficient_of u e.terms *ℤ x (place d u) ≡ e.right -ℤ value_from d x (pos 0) (rest_of u e.terms)
term_is d x u e m =
    let b = beside d x u (pos 0) e.terms in
    apart (value_from d x (pos 0) e.terms) (value_from d x (pos 0) (rest_of u e.terms)) (coefficient_of u e.terms *ℤ x (place d u)) e.right b m
  where
    apart : (whole rest term right : ℤ) → whole ≡ rest +ℤ term → whole ≡ right → term ≡ right -ℤ rest
    apart whole rest term right b m = omega (arith, ints)

pick_least : (d : ℕ) (room : RoomBounds) (ts : List Term) (a : ℤ) (b : Bool) → b ≡ lt_z (pos 0) a
    → ((pos 0 <ℤ a → end_sum d (if b then Greatest else Least) room ts ≡ end_sum d Greatest room ts) × (a <ℤ pos 0 → end_sum d (if b then Greatest else Least) room ts ≡ end_sum d Least room ts))
pick_least d room ts a true e = (λ p. refl, λ p. absurd (omega (arith, ints)))
pick_least d room ts a false e = (λ p. absurd (omega (arith, ints)), λ p. refl)

pick_greatest : (d : ℕ) (room : RoomBounds) (ts : List Term) (a : ℤ) (b : Bool) → b ≡ lt_z (pos 0) a
    → ((pos 0 <ℤ a → end_sum d (if b then Least else Greatest) room ts ≡ end_sum d Least room ts) × (a <ℤ pos 0 → end_sum d (if b then Least else Greatest) room ts ≡ end_sum d Greatest room ts))
pick_greatest d room ts a true e = (λ p. refl, λ p. absurd (omega (arith, ints)))
pick_greatest d room ts a false e = (λ p. absurd (omega (arith, ints)), λ p. refl)

reaches : (right rest low high side a z : ℤ) → low ≤ℤ rest → rest ≤ℤ high → a *ℤ z ≡ right -ℤ rest → (pos 0 <ℤ a → side ≡ high) → (a <ℤ pos 0 → side ≡ low) → Reaches (right -ℤ side) a z
reaches right rest low high side a z l h e up down = (λ p. let q = up p in omega (arith, ints), λ p. let q = down p in omega (arith, ints))

stays : (right rest low high side a z : ℤ) → low ≤ℤ rest → rest ≤ℤ high → a *ℤ z ≡ right -ℤ rest → (pos 0 <ℤ a → side ≡ low) → (a <ℤ pos 0 → side ≡ high) → StaysBelow (right -ℤ side) a z
stays right rest low high side a z l h e up down = (λ p. let q = up p in omega (arith, ints), λ p. let q = down p in omega (arith, ints))

not_zero : (a : ℤ) → not (int_eq a (pos 0)) ≡ true → ¬ (a ≡ pos 0)
not_zero (pos zero) h e = cc
not_zero (pos (suc n)) h e = cc
not_zero (negsuc n) h e = cc

-- an equation leaves no value below the least one
pub at_least : (d : ℕ) (x : ℕ → ℤ) (room : RoomBounds) (u : Unknown) (e : EquationContent) → ¬ (coefficient_of u e.terms ≡ pos 0) → Meets d x e → InRoom x room → least_value d room u e ≤ℤ x (place d u)
unfolding least_value
at_least d x room u e n m r =
    let a = coefficient_of u e.terms in
    let s = sums_bound_value d room x (rest_of u e.terms) r in
    let p = pick_least d room (rest_of u e.terms) a (lt_z (pos 0) a) refl in
    (ceiling_is_least (left_by d (least_by a) room u e) a n).1 (x (place d u))
    (reaches e.right (value_from d x (pos 0) (rest_of u e.terms)) (end_sum d Least room (rest_of u e.terms)) (end_sum d Greatest room (rest_of u e.terms)) (end_sum d (least_by a) room (rest_of u e.terms)) a (x (place d u)) s.0 s.1 (term_is d x u e m) p.0 p.1)

-- and none above the greatest one
pub at_most : (d : ℕ) (x : ℕ → ℤ) (room : RoomBounds) (u : Unknown) (e : EquationContent) → ¬ (coefficient_of u e.terms ≡ pos 0) → Meets d x e → InRoom x room → x (place d u) ≤ℤ greatest_value d room u e
unfolding greatest_value
at_most d x room u e n m r =
    let a = coefficient_of u e.terms in
    let s = sums_bound_value d room x (rest_of u e.terms) r in
    let p = pick_greatest d room (rest_of u e.terms) a (lt_z (pos 0) a) refl in
    (floor_is_greatest (left_by d (greatest_by a) room u e) a n).1 (x (place d u))
    (stays e.right (value_from d x (pos 0) (rest_of u e.terms)) (end_sum d Least room (rest_of u e.terms)) (end_sum d Greatest room (rest_of u e.terms)) (end_sum d (greatest_by a) room (rest_of u e.terms)) a (x (place d u)) s.0 s.1 (term_is d x u e m) p.0 p.1)

above_both : (low v z : ℤ) (b : Bool) → low ≤ℤ z → v ≤ℤ z → (if b then v else low) ≤ℤ z
above_both low v z true l h = h
above_both low v z false l h = l

below_both : (high v z : ℤ) (b : Bool) → z ≤ℤ high → z ≤ℤ v → z ≤ℤ (if b then v else high)
below_both high v z true l h = h
below_both high v z false l h = l

reached : (v least z : ℤ) → le_z v least ≡ true → least ≤ℤ z → v ≤ℤ z
reached v least z h l = omega (arith, ints)

stayed : (greatest v z : ℤ) → le_z greatest v ≡ true → z ≤ℤ greatest → z ≤ℤ v
stayed greatest v z h l = omega (arith, ints)

pub low_keeps : (d : ℕ) (x : ℕ → ℤ) (branches : List RoomBounds) (u : Unknown) (v : ℤ) (e : EquationContent) → EachHolds (low_steps d (in_hand branches) u v e) → Meets d x e → InSome x branches → InSome x (with_low (in_hand branches) (place d u) (raised (in_hand branches) (place d u) v) ∷ kept_of branches)
unfolding low_steps left_steps
low_keeps d x [] u v e h m s = absurd s
low_keeps d x (room ∷ kept) u v e h m (inl r) =
    let l = at_least d x room u e (not_zero _ h.0) m r in
    inl (in_low x room (place d u) _ r (above_both (bounds_at room (place d u)).0 v (x (place d u)) (lt_z (bounds_at room (place d u)).0 v) (r.low (place d u)) (reached v (least_value d room u e) (x (place d u)) h.1.1.1.1.0 l)))
low_keeps d x (room ∷ kept) u v e h m (inr s) = inr s

pub high_keeps : (d : ℕ) (x : ℕ → ℤ) (branches : List RoomBounds) (u : Unknown) (v : ℤ) (e : EquationContent) → EachHolds (high_steps d (in_hand branches) u v e) → Meets d x e → InSome x branches → InSome x (with_high (in_hand branches) (place d u) (lowered (in_hand branches) (place d u) v) ∷ kept_of branches)
unfolding high_steps left_steps
high_keeps d x [] u v e h m s = absurd s
high_keeps d x (room ∷ kept) u v e h m (inl r) =
    let l = at_most d x room u e (not_zero _ h.0) m r in
    inl (in_high x room (place d u) _ r (below_both (bounds_at room (place d u)).1 v (x (place d u)) (lt_z v (bounds_at room (place d u)).1) (r.high (place d u)) (stayed (greatest_value d room u e) v (x (place d u)) h.1.1.1.1.0 l)))
high_keeps d x (room ∷ kept) u v e h m (inr s) = inr s
