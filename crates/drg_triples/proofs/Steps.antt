-- One bound and one term more, and that a counting equation is an equation: its unknowns ascend, and each coefficient is 1.
use Rattle.std.proofs.Common.{◌≡◌, ℕ, zero, suc, ◌+◌, ◌*◌, ◌<◌, ◌≤◌, ◌^◌, true, List, [], ◌∷◌, ◌++◌, length, refl, sym, ap, ◌∙◌, subst, arith, map}
use Rattle.std.specs.Prelude.{ℤ, pos, ◌≤ℤ◌, unsigned_abs, int_le, ◌&&◌}
use Rattle.std.specs.List.{range_with_len}
use Rattle.std.proofs.lemmas.Int.{ints}
use Rattle.std.proofs.lemmas.Bool.Decides.{nat_tests}
use Rattle.std.proofs.lemmas.List.FromFn.{map-range_with_len_more, length-map-range_with_len}
use Rattle.drg_algebra.proofs.Tests.{and-in}
use Rattle.drg_whole.specs.Range.{InRange, in_range}
use Rattle.drg_whole.proofs.Ranges.{fits}
use Rattle.drg_intersection.specs.Numbers.{Numbers}
use Rattle.drg_linear.specs.declared.triple.TripleType.{TripleType}
use Rattle.drg_linear.specs.declared.triple.Vertex.{Vertex}
use Rattle.drg_linear.specs.declared.triple.Vertex.TheVariants.{First, Second, Third}
use Rattle.drg_linear.specs.Unknowns.{precedes}
use Rattle.drg_linear.specs.Equations.{Term, follows, is_ordered, all_coefficients, is_equation}
use Rattle.drg_linear.specs.Rooms.{Bounds, RoomBounds, RoomContent, are_ordered, IsRoom}
use Rattle.drg_linear.specs.Triples.{unknown_over, sum_over, high_bound}
use Rattle.drg_triple_numbers.specs.Places.{unknown_at}
use Rattle.drg_triples.specs.LiveTypes.{number_in}
use Rattle.drg_triples.specs.Counting.{starting_bounds, starting_room}
use Rattle.drg_triples.proofs.Weights.{natural_high}

-- ---- equations
terms_from : Vertex → ℕ → ℕ → ℕ → ℕ → List Term
terms_from vertex x y q n = map (λ q. (unknown_over vertex x y q, pos 1)) (range_with_len q n)

next_precedes : (vertex : Vertex) (x y q : ℕ) → precedes (unknown_over vertex x y q) (unknown_over vertex x y (q + 1)) ≡ true
next_precedes First x y q = grind (arith, nat_tests)
next_precedes Second x y q = grind (arith, nat_tests)
next_precedes Third x y q = grind (arith, nat_tests)

next_follows : (vertex : Vertex) (x y q n : ℕ) → follows (unknown_over vertex x y q, pos 1) (terms_from vertex x y (q + 1) n) ≡ true
unfolding terms_from
next_follows vertex x y q zero = refl
next_follows vertex x y q (suc n) = next_precedes vertex x y q

ordered : (vertex : Vertex) (x y q n : ℕ) → is_ordered (terms_from vertex x y q n) ≡ true
unfolding terms_from
ordered vertex x y q zero = refl
ordered vertex x y q (suc n) = and-in _ _ (next_follows vertex x y q n) (ordered vertex x y (q + 1) n)

ones : (vertex : Vertex) (x y q n : ℕ) → all_coefficients (terms_from vertex x y q n) ≡ true
unfolding terms_from
ones vertex x y q zero = refl
ones vertex x y q (suc n) = ones vertex x y (q + 1) n

pub counting_is_equation : (d : ℕ) (vertex : Vertex) (x y : ℕ) (terms : List Term) (right : ℤ) → terms ≡ sum_over d vertex x y → InRange right
    → is_equation (record { terms = terms; right = right }) ≡ true
unfolding terms_from
counting_is_equation d vertex x y terms right e h =
    let P : List Term → Type 0 = λ terms. is_equation (record { terms = terms; right = right }) ≡ true in
    subst P (sym e) (and-in _ _ (and-in _ _ (ordered vertex x y 1 d) (ones vertex x y 1 d)) (fits right h))

abbrev term_over : Vertex → ℕ → ℕ → ℕ → Term
term_over vertex x y q = (unknown_over vertex x y q, pos 1)

-- one term more
pub terms_more : (vertex : Vertex) (x y q : ℕ) → map (term_over vertex x y) (range_with_len 1 (q + 1)) ≡ map (term_over vertex x y) (range_with_len 1 q) ++ term_over vertex x y (q + 1) ∷ []
terms_more vertex x y q = map-range_with_len_more (term_over vertex x y) 1 q (q + 1) (omega arith)

-- ---- rooms
abbrev first_bounds : ℕ → (ℕ → ℕ → ℕ → ℤ) → TripleType → ℕ → Bounds
first_bounds d p ty k = (pos 0, high_bound p ty (unknown_at d k))

-- the bounds of one unknown more
pub room_more : (d : ℕ) (p : ℕ → ℕ → ℕ → ℤ) (ty : TripleType) (k : ℕ) → map (first_bounds d p ty) (range_with_len 0 (k + 1)) ≡ map (first_bounds d p ty) (range_with_len 0 k) ++ first_bounds d p ty k ∷ []
room_more d p ty k = map-range_with_len_more (first_bounds d p ty) 0 k k (omega arith)

bounds_from : ℕ → (ℕ → ℕ → ℕ → ℤ) → TripleType → ℕ → ℕ → List Bounds
bounds_from d p ty q n = map (first_bounds d p ty) (range_with_len q n)

natural_test : (m : ℕ) → (int_le (pos 0) (pos 0) && int_le (pos 0) (pos m)) ≡ true
natural_test zero = refl
natural_test (suc m) = grind (arith, nat_tests)

in_order : (numbers : Numbers) (ty : TripleType) (q n : ℕ) → are_ordered (bounds_from numbers.d (number_in numbers) ty q n) ≡ true
unfolding bounds_from
in_order numbers ty q zero = refl
in_order numbers ty q (suc n) =
    let z = high_bound (number_in numbers) ty (unknown_at numbers.d q) in
    let P : ℤ → Type 0 = λ z. (int_le (pos 0) (pos 0) && int_le (pos 0) z) ≡ true in
    and-in _ _ (subst P (sym (natural_high numbers ty (unknown_at numbers.d q))) (natural_test (unsigned_abs z))) (in_order numbers ty (q + 1) n)

module _ (numbers : Numbers) (ty : TripleType) (d : ℕ) (bounds : List Bounds) (e : d ≡ numbers.d) (f : bounds ≡ starting_bounds d (number_in numbers) ty) where
  bounds_are_those : bounds ≡ starting_bounds numbers.d (number_in numbers) ty
  bounds_are_those = f ∙ ap (λ d. starting_bounds d (number_in numbers) ty) e

  pub room_is : Path RoomContent (record { d = d; bounds = bounds }) (starting_room numbers ty)
  room_is i = record { d = e i; bounds = bounds_are_those i }

  -- they are those of a room
  pub is_room : d ≤ 12 → IsRoom (record { d = d; bounds = bounds })
  unfolding bounds_from
  is_room h = record {
    d = omega arith;
    each = ap length f ∙ length-map-range_with_len (first_bounds d (number_in numbers) ty) 0 (d * d * d);
    ordered = subst (λ (b : RoomBounds). are_ordered b ≡ true) (sym bounds_are_those) (in_order numbers ty 0 (numbers.d * numbers.d * numbers.d));
  }
