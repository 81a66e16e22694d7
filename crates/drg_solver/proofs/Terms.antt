-- The terms of an equation: the one of an unknown, and the rest.
use Rattle.std.proofs.Common.{◌≡◌, ◌≢◌, ℕ, zero, suc, ◌<◌, ℤ, pos, negsuc, ◌*ℤ◌, ◌+ℤ◌, ◌-ℤ◌, Bool, true, false, List, [], ◌∷◌, length, refl, ap, ◌∙◌, subst, arith, inl, inr}
use Rattle.std.specs.Prelude.{◌&&◌, if◌then◌else◌, not, slice_index_or, slice_set, Contains}
use Rattle.std.specs.Ordering.{int_eq}
use Rattle.std.proofs.lemmas.Int.{ints}
use Rattle.std.proofs.lemmas.Bool.Decides.{nat_tests}
use Rattle.drg_algebra.proofs.Tests.{both, equal-self}
use Rattle.drg_whole.specs.Range.{InRange, in_range}
use Rattle.drg_whole.specs.Sums.{sum_from}
use Rattle.drg_whole.proofs.Ranges.{fitting}
use Rattle.drg_linear.specs.declared.unknown.Unknown.{Unknown}
use Rattle.drg_linear.specs.declared.bounds.End.{End}
use Rattle.drg_linear.specs.Unknowns.{is_unknown, is_same, precedes, place}
use Rattle.drg_linear.specs.Equations.{Term, EquationContent, follows, is_ordered, is_coefficient, all_coefficients, is_equation, coefficient_of, rest_of}
use Rattle.drg_linear.specs.Rooms.{RoomBounds, Bounds, bounds_at, end_of, end_product, end_products, end_sum}
use Rattle.drg_linear.specs.Systems.{are_unknowns}
use Rattle.drg_linear.proofs.RoomChanges.{bounds_set}
use Rattle.drg_rooms.proofs.TermLaws.{same_unknown}
use Rattle.drg_rooms.proofs.OrderLaws.{transitive}
use Rattle.drg_solver.proofs.Places.{one_place}

-- ---- order
same_self : (u : Unknown) → is_same u u ≡ true
same_self u = rw (equal-self u.r, equal-self u.s, equal-self u.t) refl

apart_before : (u v : Unknown) → precedes u v ≡ true → is_same u v ≡ false
apart_before u v h = grind (arith, nat_tests)

apart_after : (u v : Unknown) → precedes u v ≡ true → is_same v u ≡ false
apart_after u v h = grind (arith, nat_tests)

-- the first term stands before all others
before_all : (t : Term) (ts : List Term) (k : ℕ) (u : Term) → follows t ts ≡ true → is_ordered ts ≡ true → k < length ts → slice_index_or ts k u ≡ u → precedes t.0 u.0 ≡ true
before_all t [] k u f o h e = absurd (omega (arith, h))
before_all t (v ∷ vs) zero u f o h e = rw (← e) f
before_all t (v ∷ vs) (suc k) u f o h e =
    let s = both (follows v vs) (is_ordered vs) o in
    transitive t.0 v.0 u.0 f (before_all v vs k u s.0 s.1 (omega (arith, h)) e)

-- ---- the coefficient of a term
own_coefficient : (t : Term) (ts : List Term) (b : Bool) → b ≡ true → (if b then t.1 else coefficient_of t.0 ts) ≡ t.1
own_coefficient t ts true h = refl
own_coefficient t ts false h = cc

later_coefficient : (u : Unknown) (t : Term) (ts : List Term) (b : Bool) → b ≡ false → (if b then t.1 else coefficient_of u ts) ≡ coefficient_of u ts
later_coefficient u t ts true h = cc
later_coefficient u t ts false h = refl

coefficient_at : (ts : List Term) (k : ℕ) (t : Term) → is_ordered ts ≡ true → k < length ts → slice_index_or ts k t ≡ t → coefficient_of t.0 ts ≡ t.1
coefficient_at [] k t o h e = absurd (omega (arith, h))
coefficient_at (u ∷ us) zero t o h e =
    let P : Term → Type 0 = λ t. coefficient_of t.0 (u ∷ us) ≡ t.1 in
    subst P e (own_coefficient u us (is_same u.0 u.0) (same_self u.0))
coefficient_at (u ∷ us) (suc k) t o h e =
    let s = both (follows u us) (is_ordered us) o in
    let first = before_all u us k t s.0 s.1 (omega (arith, h)) e in
    later_coefficient t.0 u us (is_same u.0 t.0) (apart_before u.0 t.0 first) ∙ coefficient_at us k t s.1 (omega (arith, h)) e

is_coefficient_at : (ts : List Term) (k : ℕ) (t : Term) → all_coefficients ts ≡ true → k < length ts → slice_index_or ts k t ≡ t → is_coefficient t.1 ≡ true
is_coefficient_at [] k t c h e = absurd (omega (arith, h))
is_coefficient_at (u ∷ us) zero t c h e = rw (← e) (both (is_coefficient u.1) (all_coefficients us) c).0
is_coefficient_at (u ∷ us) (suc k) t c h e = is_coefficient_at us k t (both (is_coefficient u.1) (all_coefficients us) c).1 (omega (arith, h)) e

is_unknown_at : (d : ℕ) (ts : List Term) (k : ℕ) (t : Term) → are_unknowns d ts ≡ true → k < length ts → slice_index_or ts k t ≡ t → is_unknown d t.0 ≡ true
is_unknown_at d [] k t c h e = absurd (omega (arith, h))
is_unknown_at d (u ∷ us) zero t c h e = rw (← e) (both (is_unknown d u.0) (are_unknowns d us) c).0
is_unknown_at d (u ∷ us) (suc k) t c h e = is_unknown_at d us k t (both (is_unknown d u.0) (are_unknowns d us) c).1 (omega (arith, h)) e

-- the same at a place, whatever stands outside
pub unknown_at : (d : ℕ) (ts : List Term) (k : ℕ) (t : Term) → are_unknowns d ts ≡ true → k < length ts → is_unknown d (slice_index_or ts k t).0 ≡ true
unknown_at d [] k t c h = absurd (omega (arith, h))
unknown_at d (u ∷ us) zero t c h = (both (is_unknown d u.0) (are_unknowns d us) c).0
unknown_at d (u ∷ us) (suc k) t c h = unknown_at d us k t (both (is_unknown d u.0) (are_unknowns d us) c).1 (omega (arith, h))

coefficient_range : (ts : List Term) (k : ℕ) (t : Term) → all_coefficients ts ≡ true → k < length ts → in_range (slice_index_or ts k t).1 ≡ true
coefficient_range [] k t c h = absurd (omega (arith, h))
coefficient_range (u ∷ us) zero t c h = (both (in_range u.1) (not (int_eq u.1 (pos 0))) (both (is_coefficient u.1) (all_coefficients us) c).0).0
coefficient_range (u ∷ us) (suc k) t c h = coefficient_range us k t (both (is_coefficient u.1) (all_coefficients us) c).1 (omega (arith, h))

pub range_at : (e : EquationContent) (k : ℕ) (t : Term) → is_equation e ≡ true → k < length e.terms → InRange (slice_index_or e.terms k t).1
range_at e k t h l =
    fitting (slice_index_or e.terms k t).1
    (coefficient_range e.terms k t (both (is_ordered e.terms) (all_coefficients e.terms) (both (is_ordered e.terms && all_coefficients e.terms) (in_range e.right) h).0).1 l)

not_zero : (a : ℤ) → not (int_eq a (pos 0)) ≡ true → a ≢ pos 0
not_zero (pos zero) h e = cc
not_zero (pos (suc n)) h e = cc
not_zero (negsuc n) h e = cc

pub term_coefficient : (e : EquationContent) (t : Term) → is_equation e ≡ true → Contains e.terms t → coefficient_of t.0 e.terms ≡ t.1
term_coefficient e t h c =
    coefficient_at e.terms c.0 t (both (is_ordered e.terms) (all_coefficients e.terms) (both (is_ordered e.terms && all_coefficients e.terms) (in_range e.right) h).0).0 c.1 c.2

term_is_coefficient : (e : EquationContent) (t : Term) → is_equation e ≡ true → Contains e.terms t → is_coefficient t.1 ≡ true
term_is_coefficient e t h c =
    is_coefficient_at e.terms c.0 t (both (is_ordered e.terms) (all_coefficients e.terms) (both (is_ordered e.terms && all_coefficients e.terms) (in_range e.right) h).0).1 c.1 c.2

pub term_in_range : (e : EquationContent) (t : Term) → is_equation e ≡ true → Contains e.terms t → InRange t.1
term_in_range e t h c = fitting t.1 (both (in_range t.1) (not (int_eq t.1 (pos 0))) (term_is_coefficient e t h c)).0

pub term_not_zero : (e : EquationContent) (t : Term) → is_equation e ≡ true → Contains e.terms t → t.1 ≢ pos 0
term_not_zero e t h c = not_zero t.1 (both (in_range t.1) (not (int_eq t.1 (pos 0))) (term_is_coefficient e t h c)).1

pub term_has_coefficient : (e : EquationContent) (t : Term) → is_equation e ≡ true → Contains e.terms t → coefficient_of t.0 e.terms ≢ pos 0
term_has_coefficient e t h c = rw (term_coefficient e t h c) (term_not_zero e t h c)

pub term_unknown : (d : ℕ) (e : EquationContent) (t : Term) → are_unknowns d e.terms ≡ true → Contains e.terms t → is_unknown d t.0 ≡ true
term_unknown d e t h c = is_unknown_at d e.terms c.0 t h c.1 c.2

-- an unknown with a coefficient has a term
pub record HasTerm (u : Unknown) (ts : List Term) : Type 0 where
  pub term : Term
  pub among : Contains ts term
  pub own : term.0 ≡ u

has_term_at : (u : Unknown) (t : Term) (ts : List Term) (b : Bool) → is_same t.0 u ≡ b → (if b then t.1 else coefficient_of u ts) ≢ pos 0 → (coefficient_of u ts ≢ pos 0 → HasTerm u ts) → HasTerm u (t ∷ ts)
has_term_at u t ts true e h more = record { term = t; among = (0, omega arith, refl); own = same_unknown t.0 u e }
has_term_at u t ts false e h more =
    let m = more h in
    record { term = m.term; among = (suc m.among.0, (let l = m.among.1 in omega (arith, l)), m.among.2); own = m.own }

pub has_term : (u : Unknown) (ts : List Term) → coefficient_of u ts ≢ pos 0 → HasTerm u ts
has_term u [] h = absurd (h refl)
has_term u (t ∷ ts) h = has_term_at u t ts (is_same t.0 u) refl h (λ k. has_term u ts k)

-- ---- a sum is its term of an unknown and the rest
sum_shift : (s a : ℤ) (zs : List ℤ) → sum_from (s +ℤ a) zs ≡ sum_from s zs +ℤ a
sum_shift s a [] = refl
sum_shift s a (z ∷ zs) =
    let e : (s +ℤ a) +ℤ z ≡ (s +ℤ z) +ℤ a = omega (arith, ints) in
    ap (λ (t : ℤ). sum_from t zs) e ∙ sum_shift (s +ℤ z) a zs

beside_at : (d : ℕ) (side : End) (room : RoomBounds) (u : Unknown) (s : ℤ) (t : Term) (ts : List Term) (b : Bool) → is_same t.0 u ≡ b
    → ((s : ℤ) → sum_from s (end_products d side room ts) ≡ sum_from s (end_products d side room (rest_of u ts)) +ℤ end_product d side room (u, coefficient_of u ts))
    → sum_from (s +ℤ end_product d side room t) (end_products d side room ts)
    ≡ sum_from s (end_products d side room (if b then ts else (t ∷ rest_of u ts))) +ℤ end_product d side room (u, (if b then t.1 else coefficient_of u ts))
beside_at d side room u s t ts true e more =
    sum_shift s (end_product d side room t) (end_products d side room ts)
    ∙ ap (λ (v : Unknown). sum_from s (end_products d side room ts) +ℤ end_product d side room (v, t.1)) (same_unknown t.0 u e)
beside_at d side room u s t ts false e more = more (s +ℤ end_product d side room t)

nothing_more : (s z : ℤ) → s ≡ s +ℤ (pos 0 *ℤ z)
nothing_more s z = omega (arith, ints)

beside : (d : ℕ) (side : End) (room : RoomBounds) (u : Unknown) (s : ℤ) (ts : List Term)
    → sum_from s (end_products d side room ts) ≡ sum_from s (end_products d side room (rest_of u ts)) +ℤ end_product d side room (u, coefficient_of u ts)
beside d side room u s [] = nothing_more s (end_of side (bounds_at room (place d u)) (pos 0))
beside d side room u s (t ∷ ts) = beside_at d side room u s t ts (is_same t.0 u) refl (λ s. beside d side room u s ts)

-- the right side less the sum, with a term added again, is what the rest leaves of it
pub left_beside : (d : ℕ) (side : End) (room : RoomBounds) (e : EquationContent) (t : Term) → is_equation e ≡ true → Contains e.terms t
    → (e.right -ℤ end_sum d side room e.terms) +ℤ end_product d side room t ≡ e.right -ℤ end_sum d side room (rest_of t.0 e.terms)
left_beside d side room e t h c =
    let b = beside d side room t.0 (pos 0) e.terms in
    let own : end_product d side room (t.0, coefficient_of t.0 e.terms) ≡ end_product d side room t = ap (λ (a : ℤ). end_product d side room (t.0, a)) (term_coefficient e t h c) in
    apart e.right (end_sum d side room e.terms) (end_sum d side room (rest_of t.0 e.terms)) (end_product d side room (t.0, coefficient_of t.0 e.terms)) (end_product d side room t) b own
  where
    apart : (right whole rest p q : ℤ) → whole ≡ rest +ℤ p → p ≡ q → (right -ℤ whole) +ℤ q ≡ right -ℤ rest
    apart right whole rest p q e f = omega (arith, ints)

-- ---- the rest doesn't depend on the bounds of the unknown
-- no term of the unknown
abbrev Without : Unknown → List Term → Type 0
Without u ts = (t : Term) → Contains ts t → is_same t.0 u ≡ false

rest_at : (u : Unknown) (t : Term) (ts : List Term) (b : Bool) → is_same t.0 u ≡ b → follows t ts ≡ true → is_ordered ts ≡ true → Without u (rest_of u ts) → Without u (if b then ts else (t ∷ rest_of u ts))
rest_at u t ts true e f o more v c =
    let first = before_all t ts c.0 v f o c.1 c.2 in
    rw (← same_unknown t.0 u e) (apart_after t.0 v.0 first)
rest_at u t ts false e f o more v (zero, l, is) = rw (← is) e
rest_at u t ts false e f o more v (suc k, l, is) = more v (k, omega (arith, l), is)

rest_without : (u : Unknown) (ts : List Term) → is_ordered ts ≡ true → Without u (rest_of u ts)
rest_without u [] o v c = absurd (let l = c.1 in omega (arith, l))
rest_without u (t ∷ ts) o v c =
    let s = both (follows t ts) (is_ordered ts) o in
    rest_at u t ts (is_same t.0 u) refl s.0 s.1 (rest_without u ts s.1) v c

rest_unknowns_at : (d : ℕ) (u : Unknown) (t : Term) (ts : List Term) (b : Bool) → is_unknown d t.0 ≡ true → are_unknowns d ts ≡ true → are_unknowns d (rest_of u ts) ≡ true → are_unknowns d (if b then ts else (t ∷ rest_of u ts)) ≡ true
rest_unknowns_at d u t ts true h k m = k
rest_unknowns_at d u t ts false h k m = rw h m

rest_unknowns : (d : ℕ) (u : Unknown) (ts : List Term) → are_unknowns d ts ≡ true → are_unknowns d (rest_of u ts) ≡ true
rest_unknowns d u [] h = refl
rest_unknowns d u (t ∷ ts) h =
    let s = both (is_unknown d t.0) (are_unknowns d ts) h in
    rest_unknowns_at d u t ts (is_same t.0 u) s.0 s.1 (rest_unknowns d u ts s.1)

same_product : (d : ℕ) (side : End) (room : RoomBounds) (u : Unknown) (b : Bounds) (t : Term) → is_unknown d u ≡ true → is_unknown d t.0 ≡ true → is_same t.0 u ≡ false
    → end_product d side (slice_set room (place d u) b) t ≡ end_product d side room t
same_product d side room u b t hu ht s =
    elim (bounds_set room (place d u) (place d t.0) b) [
      | inl e ↦ rw e refl
      | inr p ↦ (let one = one_place d t.0 u ht hu p.0 in
          let yes : is_same t.0 u ≡ true = rw one (same_self u) in cc)
    ]

same_products : (d : ℕ) (side : End) (room : RoomBounds) (u : Unknown) (b : Bounds) (ts : List Term) → is_unknown d u ≡ true → are_unknowns d ts ≡ true → Without u ts
    → end_products d side (slice_set room (place d u) b) ts ≡ end_products d side room ts
same_products d side room u b [] hu h w = refl
same_products d side room u b (t ∷ ts) hu h w =
    let s = both (is_unknown d t.0) (are_unknowns d ts) h in
    let first = same_product d side room u b t hu s.0 (w t (0, omega arith, refl)) in
    let rest = same_products d side room u b ts hu s.1 (λ v c. w v (suc c.0, (let l = c.1 in omega (arith, l)), c.2)) in
    rw (first, rest) refl

pub rest_stands : (d : ℕ) (side : End) (room : RoomBounds) (u : Unknown) (b : Bounds) (e : EquationContent) → is_unknown d u ≡ true → is_equation e ≡ true → are_unknowns d e.terms ≡ true
    → end_products d side (slice_set room (place d u) b) (rest_of u e.terms) ≡ end_products d side room (rest_of u e.terms)
rest_stands d side room u b e hu he h =
    let o = (both (is_ordered e.terms) (all_coefficients e.terms) (both (is_ordered e.terms && all_coefficients e.terms) (in_range e.right) he).0).0 in
    same_products d side room u b (rest_of u e.terms) hu (rest_unknowns d u e.terms h) (rest_without u e.terms o)
