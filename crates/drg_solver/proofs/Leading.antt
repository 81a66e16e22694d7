-- The lines of a leaf that closes in one step close it.
use Rattle.std.proofs.Common.{◌≡◌, ◌≢◌, ℕ, zero, suc, ◌<◌, ◌≤◌, ℤ, pos, ◌≤ℤ◌, ◌<ℤ◌, Bool, true, false, List, [], ◌∷◌, length, refl, ap, sym, subst, arith, inl, inr}
use Rattle.std.specs.Prelude.{◌⊎◌, not, if◌then◌else◌, unsigned_abs, slice_set, All}
use Rattle.std.specs.Ordering.{int_eq}
use Rattle.std.specs.Int.Signed.{lt_z, le_z}
use Rattle.std.proofs.lemmas.Int.{ints}
use Rattle.drg_algebra.proofs.Tests.{and-in, not-in, not-false}
use Rattle.drg_linear.specs.declared.unknown.Unknown.{Unknown}
use Rattle.drg_linear.specs.declared.bounds.End.{End}
use Rattle.drg_linear.specs.declared.bounds.End.TheVariants.{Least, Greatest}
use Rattle.drg_linear.specs.Unknowns.{is_unknown, place}
use Rattle.drg_linear.specs.Equations.{EquationContent, is_equation, coefficient_of, rest_of}
use Rattle.drg_linear.specs.Rooms.{RoomBounds, RoomContent, Bounds, IsRoom, bounds_at, end_sum, end_sum_fits}
use Rattle.drg_linear.specs.Closing.{Misses, FailsModulo}
use Rattle.drg_linear.specs.Systems.{FitsOver}
use Rattle.drg_linear.specs.Values.{least_by, greatest_by, least_value, greatest_value}
use Rattle.drg_linear.specs.Moduli.{fixed_products, less_from}
use Rattle.drg_linear.proofs.Counting.{indices}
use Rattle.drg_whole.specs.Residues.{divides}
use Rattle.drg_derivation.specs.declared.line.Line.{Line}
use Rattle.drg_derivation.specs.declared.line.Line.TheVariants as line
use Rattle.drg_rooms.specs.Content.{BranchesContent}
use Rattle.drg_rooms.specs.Steps.{Holds, Fits, EachHolds}
use Rattle.drg_rooms.specs.Indices.{is_index}
use Rattle.drg_rooms.specs.Lines.{is_open, are_indices, is_void, steps_of}
use Rattle.drg_rooms.specs.Values.{left_steps, low_steps, high_steps, miss_steps, with_low, with_high, raised, lowered, low_raised, high_lowered}
use Rattle.drg_rooms.specs.Moduli.{mod_steps}
use Rattle.drg_rooms.specs.Combinations.{is_number, equation_at}
use Rattle.drg_rooms.proofs.StepLaws.{is_met}
use Rattle.drg_solver.specs.declared.closing.Closing.{Closing}
use Rattle.drg_solver.specs.declared.closing.Closing.TheVariants as closing
use Rattle.drg_solver.specs.Closings.{ClosesBy, lines_of, high_of, void_of}
use Rattle.drg_solver.specs.Lines.{IsGood, bounds_after}
use Rattle.drg_solver.specs.Findings.{Lead, state}
use Rattle.drg_solver.proofs.Places.{place_below}
use Rattle.drg_solver.proofs.Fits.{ends_stay, rest_stays, left_in_range, left_fits}
use Rattle.drg_solver.proofs.Terms.{rest_stands}

-- ---- numbers of a line
number_is : (n : ℕ) (equations : List EquationContent) → n < length equations → is_number (pos n) equations ≡ true
unfolding is_number
number_is n equations h = and-in (le_z (pos 0) (pos n)) (lt_z (pos n) (pos (length equations))) (low n) (high n (length equations) h)
  where
    low : (n : ℕ) → le_z (pos 0) (pos n) ≡ true
    low n = grind (arith, ints)

    high : (n m : ℕ) → n < m → lt_z (pos n) (pos m) ≡ true
    high n m h = grind (arith, ints)

index_is : (d x : ℕ) → 1 ≤ x → x ≤ d → is_index 1 (pos x) d ≡ true
index_is d x h k = and-in (le_z (pos 1) (pos x)) (le_z (pos x) (pos d)) (one 1 x h) (one x d k)
  where
    one : (n m : ℕ) → n ≤ m → le_z (pos n) (pos m) ≡ true
    one n m h = grind (arith, ints)

pub indices_are : (d : ℕ) (u : Unknown) → is_unknown d u ≡ true → are_indices d (pos u.r) (pos u.s) (pos u.t) ≡ true
unfolding are_indices
indices_are d u h =
    let i = indices d u h in
    rw (index_is d u.r i.r_low i.r_high, index_is d u.s i.s_low i.s_high, index_is d u.t i.t_low i.t_high) refl

-- ---- miss
pub yes_less : (x y : ℤ) → x <ℤ y → lt_z x y ≡ true
yes_less x y h = grind (arith, ints)

pub yes_at_most : (x y : ℤ) → x ≤ℤ y → le_z x y ≡ true
yes_at_most x y h = grind (arith, ints)

miss_each : (f below g above : Bool) → f ≡ true → g ≡ true → (below ≡ true) ⊎ (above ≡ true) → EachHolds (Fits f ∷ (if below then [] else (Fits g ∷ Holds above ∷ [])))
miss_each f true g above hf hg m = (hf, tt)
miss_each f false g above hf hg (inl e) = cc
miss_each f false g above hf hg (inr e) = (hf, (hg, (e, tt)))

as_tests : (right least greatest : ℤ) → (right <ℤ least) ⊎ (greatest <ℤ right) → (lt_z right least ≡ true) ⊎ (lt_z greatest right ≡ true)
as_tests right least greatest (inl h) = inl (yes_less right least h)
as_tests right least greatest (inr h) = inr (yes_less greatest right h)

miss_holds : (room : RoomContent) (e : EquationContent) → IsRoom room → FitsOver room e → Misses room.d room.bounds e → EachHolds (miss_steps room.d room.bounds e)
miss_holds room e r f m =
    miss_each (end_sum_fits room.d Least room.bounds e.terms) (lt_z e.right (end_sum room.d Least room.bounds e.terms))
    (end_sum_fits room.d Greatest room.bounds e.terms) (lt_z (end_sum room.d Greatest room.bounds e.terms) e.right)
    (ends_stay Least room e r f).fits (ends_stay Greatest room e r f).fits
    (as_tests e.right (end_sum room.d Least room.bounds e.terms) (end_sum room.d Greatest room.bounds e.terms) m)

-- ---- mod
mod_holds : (room : RoomContent) (e : EquationContent) (g : ℤ) → IsRoom room → FitsOver room e → pos 2 ≤ℤ g → FailsModulo room.d room.bounds e (unsigned_abs g) → EachHolds (mod_steps room.d room.bounds g e)
mod_holds room e g r f two m =
    (yes_at_most (pos 2) g two, (m.free, (left_fits room e r f, (not-in (divides (unsigned_abs g) (less_from e.right (fixed_products room.d room.bounds e.terms))) m.fixed, tt))))

-- ---- low and high
not_equal : (a : ℤ) → a ≢ pos 0 → not (int_eq a (pos 0)) ≡ true
not_equal a h = not-in (int_eq a (pos 0)) (not-false (int_eq a (pos 0)) (λ e. h (same a e)))
  where
    same : (a : ℤ) → int_eq a (pos 0) ≡ true → a ≡ pos 0
    same a e = grind (arith, ints)

left_holds : (side : End) (room : RoomContent) (u : Unknown) (e : EquationContent) (condition : Bool) → IsRoom room → FitsOver room e → condition ≡ true
    → EachHolds (left_steps room.d side room.bounds u e (Holds condition ∷ []))
unfolding left_steps
left_holds side room u e condition r f c = (
  (rest_stays Least room u e r f).fits,
  (
    (rest_stays Greatest room u e r f).fits,
    (left_in_range e.right (end_sum room.d side room.bounds (rest_of u e.terms)) (rest_stays side room u e r f).small, (c, tt)),
  ),
)

self_at_most : (v w : ℤ) → v ≡ w → le_z v w ≡ true
self_at_most v w e = grind (arith, ints)

low_holds : (room : RoomContent) (u : Unknown) (v : ℤ) (e : EquationContent) → IsRoom room → FitsOver room e → coefficient_of u e.terms ≢ pos 0 → v ≡ least_value room.d room.bounds u e
    → EachHolds (low_steps room.d room.bounds u v e)
unfolding low_steps
low_holds room u v e r f n is = (
  not_equal (coefficient_of u e.terms) n,
  left_holds (least_by (coefficient_of u e.terms)) room u e (le_z v (least_value room.d room.bounds u e)) r f (self_at_most v (least_value room.d room.bounds u e) is),
)

high_holds : (room : RoomContent) (u : Unknown) (v : ℤ) (e : EquationContent) → IsRoom room → FitsOver room e → coefficient_of u e.terms ≢ pos 0 → v ≡ greatest_value room.d room.bounds u e
    → EachHolds (high_steps room.d room.bounds u v e)
unfolding high_steps
high_holds room u v e r f n is = (
  not_equal (coefficient_of u e.terms) n,
  left_holds (greatest_by (coefficient_of u e.terms)) room u e (le_z (greatest_value room.d room.bounds u e) v) r f (self_at_most (greatest_value room.d room.bounds u e) v (sym is)),
)

-- the steps of a `high` line don't depend on the bounds of its own unknown
high_stands : (d : ℕ) (room : RoomBounds) (u : Unknown) (b : Bounds) (v : ℤ) (e : EquationContent) → is_unknown d u ≡ true → FitsOver (record { d = d; bounds = room }) e → is_equation e ≡ true
    → EachHolds (high_steps d room u v e) → EachHolds (high_steps d (slice_set room (place d u) b) u v e)
unfolding high_steps left_steps greatest_value
high_stands d room u b v e hu f he h =
    rw (rest_stands d Least room u b e hu he f.unknowns, rest_stands d Greatest room u b e hu he f.unknowns, rest_stands d (greatest_by (coefficient_of u e.terms)) room u b e hu he f.unknowns) h

-- ---- void
bounds_here : (room : RoomBounds) (y : ℕ) (b : Bounds) → y < length room → bounds_at (slice_set room y b) y ≡ b
bounds_here [] y b h = absurd (omega (arith, h))
bounds_here (c ∷ room) zero b h = refl
bounds_here (c ∷ room) (suc y) b h = bounds_here room y b (omega (arith, h))

set_length : (room : RoomBounds) (y : ℕ) (b : Bounds) → length (slice_set room y b) ≡ length room
set_length [] y b = refl
set_length (c ∷ room) zero b = refl
set_length (c ∷ room) (suc y) b = ap suc (set_length room y b)

raised_above : (low v : ℤ) (b : Bool) → b ≡ lt_z low v → v ≤ℤ (if b then v else low)
raised_above low v true e = omega (arith, ints)
raised_above low v false e = omega (arith, ints)

lowered_below : (high w : ℤ) (b : Bool) → b ≡ lt_z w high → (if b then w else high) ≤ℤ w
lowered_below high w true e = omega (arith, ints)
lowered_below high w false e = omega (arith, ints)

crossed : (low high v w : ℤ) → v ≤ℤ low → high ≤ℤ w → w <ℤ v → lt_z high low ≡ true
crossed low high v w l h c = grind (arith, ints)

void_after : (room : RoomBounds) (y : ℕ) (v w : ℤ) → y < length room → w <ℤ v → is_void (high_lowered (low_raised room y v) y w) y ≡ true
unfolding with_low with_high
void_after room y v w h c =
    let low = raised room y v in
    let first = slice_set room y (low, (bounds_at room y).1) in
    let here : bounds_at first y ≡ (low, (bounds_at room y).1) = bounds_here room y (low, (bounds_at room y).1) h in
    let high = lowered first y w in
    let there : bounds_at (slice_set first y ((bounds_at first y).0, high)) y ≡ ((bounds_at first y).0, high) = bounds_here first y ((bounds_at first y).0, high) (rw (set_length room y (low, (bounds_at room y).1)) h) in
    let l : v ≤ℤ (bounds_at first y).0 = rw here (raised_above (bounds_at room y).0 v (lt_z (bounds_at room y).0 v) refl) in
    let g : high ≤ℤ w = lowered_below (bounds_at first y).1 w (lt_z w (bounds_at first y).1) refl in
    rw there (crossed (bounds_at first y).0 high v w l g c)

-- ---- the lines of a closing
pub good : (k : BranchesContent) (n : ℕ) (line : Line) → is_open k.branches ≡ true → EachHolds (steps_of k line) → bounds_after line n ≤ 64 → IsGood k n line
good k n line o h f = record { branch = o; met = is_met (steps_of k line) h; few = f }

fits_of : (room : RoomContent) (equations : List EquationContent) (n : ℕ) → All (FitsOver room) equations → n < length equations → FitsOver room (equation_at equations (pos n))
fits_of room equations n all h = all n _ h

cross_lead : (room : RoomContent) (equations : List EquationContent) (kept : List RoomBounds) (u : Unknown) (v w : ℤ) (n m : ℕ) → IsRoom room → All (FitsOver room) equations
    → n < length equations → m < length equations → is_equation (equation_at equations (pos m)) ≡ true → is_unknown room.d u ≡ true
    → coefficient_of u (equation_at equations (pos n)).terms ≢ pos 0 → coefficient_of u (equation_at equations (pos m)).terms ≢ pos 0
    → w <ℤ v → v ≡ least_value room.d room.bounds u (equation_at equations (pos n)) → w ≡ greatest_value room.d room.bounds u (equation_at equations (pos m))
    → Lead (state room.d equations (room.bounds ∷ kept)) 0
    (line.Low (pos u.r) (pos u.s) (pos u.t) v (pos n) ∷ line.High (pos u.r) (pos u.s) (pos u.t) w (pos m) ∷ line.Void (pos u.r) (pos u.s) (pos u.t) ∷ [])
    (state room.d equations kept) 0
unfolding with_low
cross_lead room equations kept u v w n m r fit ln lm he hu cn cm above is_v is_w =
    let y = place room.d u in
    let e = equation_at equations (pos n) in
    let f = equation_at equations (pos m) in
    let fe = fits_of room equations n fit ln in
    let ff = fits_of room equations m fit lm in
    let indices_hold = indices_are room.d u hu in
    let inside : y < length room.bounds = rw r.each (place_below room.d u hu) in
    let high = high_stands room.d room.bounds u (raised room.bounds y v, (bounds_at room.bounds y).1) w f hu ff he (high_holds room u w f r ff cm is_w) in
    let first = state room.d equations (room.bounds ∷ kept) in
    let second = state room.d equations (low_raised room.bounds y v ∷ kept) in
    let third = state room.d equations (high_lowered (low_raised room.bounds y v) y w ∷ kept) in
    let low_good = good first 0 (line.Low (pos u.r) (pos u.s) (pos u.t) v (pos n)) refl (refl, (indices_hold, (number_is n equations ln, low_holds room u v e r fe cn is_v))) (omega arith) in
    let high_good = good second 1 (line.High (pos u.r) (pos u.s) (pos u.t) w (pos m)) refl (refl, (indices_hold, (number_is m equations lm, high))) (omega arith) in
    let void_good = good third 2 (line.Void (pos u.r) (pos u.s) (pos u.t)) refl (refl, (indices_hold, (void_after room.bounds y v w inside above, tt))) (omega arith) in
    (low_good, (high_good, (void_good, (refl, refl))))

pub lines_lead : (room : RoomContent) (equations : List EquationContent) (kept : List RoomBounds) (c : Closing) → IsRoom room → All (FitsOver room) equations → ClosesBy room.d room.bounds equations c
    → Lead (state room.d equations (room.bounds ∷ kept)) 0 (lines_of c) (state room.d equations kept) 0
lines_lead room equations kept (closing.Miss n) r fit h =
    let f = fits_of room equations n fit h.within in
    (good (state room.d equations (room.bounds ∷ kept)) 0 (line.Miss (pos n)) refl (refl, (number_is n equations h.within, miss_holds room (equation_at equations (pos n)) r f h.misses)) (omega arith), (refl, refl))
lines_lead room equations kept (closing.Modulus n g) r fit h =
    let f = fits_of room equations n fit h.within in
    (good (state room.d equations (room.bounds ∷ kept)) 0 (line.Mod (pos n) g) refl (refl, (number_is n equations h.within, mod_holds room (equation_at equations (pos n)) g r f h.modulus h.fails)) (omega arith), (refl, refl))
lines_lead room equations kept (closing.Values low high) r fit h =
    let P : Unknown → Type 0 = λ x. Lead (state room.d equations (room.bounds ∷ kept)) 0
    (line.Low (pos x.r) (pos x.s) (pos x.t) low.number (pos low.equation) ∷ high_of high ∷ void_of high.unknown ∷ [])
    (state room.d equations kept) 0 in
    subst P (sym h.same)
    (cross_lead room equations kept high.unknown low.number high.number low.equation high.equation r fit h.low_within h.high_within h.equation h.crosses.unknown h.crosses.least h.crosses.greatest
    (below low.number high.number (least_value room.d room.bounds high.unknown (equation_at equations (pos low.equation))) (greatest_value room.d room.bounds high.unknown (equation_at equations (pos high.equation))) h.least h.greatest h.crosses.above) h.least h.greatest)
  where
    below : (v w x y : ℤ) → v ≡ x → w ≡ y → y <ℤ x → w <ℤ v
    below v w x y e f h = omega (arith, ints)
