-- An equation fits exactly where it fits over the room.
use Rattle.std.proofs.Common.{◌≡◌, ℕ, zero, suc, ◌+◌, ◌*◌, ◌<◌, ◌≤◌, ◌^◌, true, List, [], ◌∷◌, ◌++◌, refl, sym, ap, ap₂, ◌∙◌, subst, arith, map}
use Rattle.std.specs.Prelude.{ℤ, pos, ◌+ℤ◌, ◌*ℤ◌, ◌↔◌, ◌&&◌, unsigned_abs, cond, int_lt, Bool, false}
use Rattle.std.specs.Int.{int_min}
use Rattle.std.specs.List.{range_with_len}
use Rattle.std.proofs.lemmas.Int.{ints}
use Rattle.std.proofs.lemmas.Bool.Decides.{nat_tests}
use Rattle.std.proofs.lemmas.List.FromFn.{get_or-map-range_with_len}
use Rattle.drg_algebra.proofs.Tests.{both, and-in}
use Rattle.drg_whole.specs.Range.{in_range}
use Rattle.drg_whole.specs.Sums.{sum_from, sum_fits_from}
use Rattle.drg_whole.proofs.Ranges.{fits, fitting}
use Rattle.drg_intersection.specs.Numbers.{Numbers}
use Rattle.drg_linear.specs.declared.unknown.Unknown.{Unknown}
use Rattle.drg_linear.specs.declared.triple.TripleType.{TripleType}
use Rattle.drg_linear.specs.declared.triple.Vertex.{Vertex}
use Rattle.drg_linear.specs.declared.triple.Vertex.TheVariants.{First, Second, Third}
use Rattle.drg_linear.specs.declared.bounds.End.TheVariants.{Greatest}
use Rattle.drg_linear.specs.Unknowns.{is_unknown, place}
use Rattle.drg_linear.specs.Equations.{Term, EquationContent}
use Rattle.drg_linear.specs.Rooms.{Bounds, RoomContent, bounds_at, end_products}
use Rattle.drg_linear.specs.Systems.{weight, are_unknowns, FitsOver}
use Rattle.drg_linear.specs.Triples.{unknown_over, sum_over, high_bound}
use Rattle.drg_triple_numbers.proofs.Places.{unknowns_have_places}
use Rattle.drg_triples.specs.declared.counted.Counted.{Counted}
use Rattle.drg_triples.specs.LiveTypes.{number_in}
use Rattle.drg_triples.specs.Counting.{starting_bounds, starting_room, equation_of, high_bounds, work_numbers, equation_fits, IsCounted}
use Rattle.drg_triples.specs.Laws.{FitsMeansFitsOver}

abbrev pub sums_fit : RoomContent → EquationContent → Bool
sums_fit room e =
    let products = end_products room.d Greatest room.bounds e.terms in
    sum_fits_from (pos 0) products && in_range (sum_from (pos 0) products +ℤ pos (unsigned_abs e.right))

-- ---- sums of numbers that aren't negative
abbrev pub total_over : (ℕ → ℕ) → ℕ → ℕ → ℕ
total_over h q zero = 0
total_over h q (suc n) = h q + total_over h (q + 1) n

pub fits_where_small : (h : ℕ → ℕ) (r t q n : ℕ) → t + (total_over h q n + r) < 2 ^ 127 → sum_fits_from (pos t) (map (λ k. pos (h k)) (range_with_len q n) ++ pos r ∷ []) ≡ true
fits_where_small h r t q zero s =
    and-in _ _ (and-in _ _ (fits (pos r) (omega arith)) (fits (pos (t + r)) (omega arith))) refl
fits_where_small h r t q (suc n) s =
    and-in _ _ (and-in _ _ (fits (pos (h q)) (omega arith)) (fits (pos (t + h q)) (omega arith)))
    (fits_where_small h r (t + h q) (q + 1) n (omega arith))

pub small_where_fits : (h : ℕ → ℕ) (r t q n : ℕ) → sum_fits_from (pos t) (map (λ k. pos (h k)) (range_with_len q n) ++ pos r ∷ []) ≡ true → t + (total_over h q n + r) < 2 ^ 127
small_where_fits h r t q zero s =
    let here = fitting (pos (t + r)) (both _ _ (both _ _ s).0).1 in
    omega (arith, here)
small_where_fits h r t q (suc n) s =
    let rest = small_where_fits h r (t + h q) (q + 1) n (both _ _ s).1 in
    omega (arith, rest)

-- one number more: it is in range where the sum with it is
both_or_last : (a b : Bool) → (b ≡ true → a ≡ true) → b ≡ ((a && b) && true)
both_or_last true true h = refl
both_or_last true false h = refl
both_or_last false true h = (let e = h refl in cc)
both_or_last false false h = refl

end_fits : (t r : ℕ) → in_range (pos (t + r)) ≡ ((in_range (pos r) && in_range (pos (t + r))) && true)
end_fits t r = both_or_last (in_range (pos r)) (in_range (pos (t + r))) (λ e. (let here = fitting (pos (t + r)) e in fits (pos r) (omega (arith, here))))

and_front : (a b : Bool) (c d : Bool) → c ≡ d → (a && b && c) ≡ (a && b && d)
and_front a b c d e = ap (λ z. a && b && z) e

and_assoc : (a b c d : Bool) → ((a && b && c) && d) ≡ (a && b && (c && d))
and_assoc true true c d = refl
and_assoc true false c d = refl
and_assoc false b c d = refl

fits_push : (h : ℕ → ℕ) (r t q n : ℕ)
    → (let zs = map (λ k. pos (h k)) (range_with_len q n) in
    (sum_fits_from (pos t) zs && in_range (sum_from (pos t) zs +ℤ pos r)) ≡ sum_fits_from (pos t) (zs ++ pos r ∷ []))
fits_push h r t q zero = end_fits t r
fits_push h r t q (suc n) =
    and_assoc (in_range (pos (h q))) (in_range (pos (t + h q))) (sum_fits_from (pos (t + h q)) (map (λ k. pos (h k)) (range_with_len (q + 1) n))) _
    ∙ and_front (in_range (pos (h q))) (in_range (pos (t + h q))) _ _ (fits_push h r (t + h q) (q + 1) n)

-- the unknowns of an equation
pub unknown_in : (d : ℕ) (vertex : Vertex) (i j k : ℕ) → 1 ≤ i → i ≤ d → 1 ≤ j → j ≤ d → 1 ≤ k → k ≤ d → is_unknown d (unknown_over vertex i j k) ≡ true
unknown_in d First i j k a b e f g h = grind (arith, nat_tests)
unknown_in d Second i j k a b e f g h = grind (arith, nat_tests)
unknown_in d Third i j k a b e f g h = grind (arith, nat_tests)

module _ (numbers : Numbers) (ty : TripleType) where
  natural_min : (x y : ℤ) → x ≡ pos (unsigned_abs x) → y ≡ pos (unsigned_abs y) → int_min x y ≡ pos (unsigned_abs (int_min x y))
  natural_min x y h k = by (int_lt y x)
    where
      by : (b : Bool) → cond b y x ≡ pos (unsigned_abs (cond b y x))
      by true = k
      by false = h

  -- a high bound isn't negative
  pub natural_high : (n : Unknown) → high_bound (number_in numbers) ty n ≡ pos (unsigned_abs (high_bound (number_in numbers) ty n))
  natural_high n =
      natural_min (number_in numbers ty.u n.s n.t) _ refl (natural_min (number_in numbers ty.v n.r n.t) (number_in numbers ty.w n.r n.s) refl refl)

  -- ---- the bounds of an unknown
  pub bounds_are : (n : Unknown) → is_unknown numbers.d n ≡ true
      → bounds_at (starting_bounds numbers.d (number_in numbers) ty) (place numbers.d n) ≡ (pos 0, high_bound (number_in numbers) ty n)
  bounds_are n h =
      get_or-map-range_with_len _ 0 (numbers.d * numbers.d * numbers.d) (place numbers.d n) (place numbers.d n) (pos 0, pos 0) (unknowns_have_places.within numbers.d n h) (omega arith)
      ∙ ap (λ m. (pos 0, high_bound (number_in numbers) ty m)) (unknowns_have_places.back numbers.d n h)

  -- ---- the sums of an equation
  terms_from : Vertex → ℕ → ℕ → ℕ → ℕ → List Term
  terms_from vertex x y q n = map (λ q. (unknown_over vertex x y q, pos 1)) (range_with_len q n)

  abbrev highest : Vertex → ℕ → ℕ → ℕ → ℕ
  highest vertex x y q = unsigned_abs (high_bound (number_in numbers) ty (unknown_over vertex x y q))

  once : (m n k : ℕ) → m ≡ n → 1 * m + k ≡ n + k
  once m n k e = omega (arith, e)

  weight_is : (vertex : Vertex) (x y q n : ℕ) → ((k : ℕ) → q ≤ k → k < q + n → is_unknown numbers.d (unknown_over vertex x y k) ≡ true)
      → weight numbers.d (starting_bounds numbers.d (number_in numbers) ty) (terms_from vertex x y q n) ≡ total_over (highest vertex x y) q n
  unfolding terms_from
  weight_is vertex x y q zero h = refl
  weight_is vertex x y q (suc n) h =
      let rest = weight_is vertex x y (q + 1) n (λ k l u. h k (omega (arith, l)) (omega (arith, u))) in
      let here = bounds_are (unknown_over vertex x y q) (h q (omega arith) (omega arith)) in
      once _ (highest vertex x y q) _ (ap (λ b. unsigned_abs b.1) here) ∙ ap (λ m. highest vertex x y q + m) rest

  unknowns_are : (vertex : Vertex) (x y q n : ℕ) → ((k : ℕ) → q ≤ k → k < q + n → is_unknown numbers.d (unknown_over vertex x y k) ≡ true)
      → are_unknowns numbers.d (terms_from vertex x y q n) ≡ true
  unfolding terms_from
  unknowns_are vertex x y q zero h = refl
  unknowns_are vertex x y q (suc n) h =
      and-in _ _ (h q (omega arith) (omega arith)) (unknowns_are vertex x y (q + 1) n (λ k l u. h k (omega (arith, l)) (omega (arith, u))))

  one_times : (m : ℕ) → pos 1 *ℤ pos m ≡ pos m
  one_times m = omega (arith, ints)

  -- the products of an equation at the high bounds
  products_are : (vertex : Vertex) (x y q n : ℕ) → ((k : ℕ) → q ≤ k → k < q + n → is_unknown numbers.d (unknown_over vertex x y k) ≡ true)
      → end_products numbers.d Greatest (starting_bounds numbers.d (number_in numbers) ty) (terms_from vertex x y q n)
      ≡ map (λ q. high_bound (number_in numbers) ty (unknown_over vertex x y q)) (range_with_len q n)
  unfolding terms_from
  products_are vertex x y q zero h = refl
  products_are vertex x y q (suc n) h =
      let n_q = unknown_over vertex x y q in
      let here = ap (λ (b : Bounds). pos 1 *ℤ b.1) (bounds_are n_q (h q (omega arith) (omega arith))) in
      let one = ap (λ z. pos 1 *ℤ z) (natural_high n_q) ∙ (one_times _ ∙ sym (natural_high n_q)) in
      ap₂ (λ z zs. z ∷ zs) (here ∙ one) (products_are vertex x y (q + 1) n (λ k l u. h k (omega (arith, l)) (omega (arith, u))))

  map_same : (f g : ℕ → ℤ) → ((k : ℕ) → f k ≡ g k) → (q n : ℕ) → map f (range_with_len q n) ≡ map g (range_with_len q n)
  map_same f g h q zero = refl
  map_same f g h q (suc n) = ap₂ (λ z zs. z ∷ zs) (h q) (map_same f g h (q + 1) n)

  module _ (c : Counted) (inside : IsCounted numbers.d c) where
    abbrev right : ℕ
    right = unsigned_abs (equation_of numbers ty c).right

    numbers_are : work_numbers numbers ty c ≡ map (λ q. pos (highest c.vertex c.x c.y q)) (range_with_len 1 numbers.d) ++ pos right ∷ []
    numbers_are = ap (λ l. l ++ pos right ∷ []) (map_same _ _ (λ q. natural_high (unknown_over c.vertex c.x c.y q)) 1 numbers.d)

    unknown_at_each : (k : ℕ) → 1 ≤ k → k < 1 + numbers.d → is_unknown numbers.d (unknown_over c.vertex c.x c.y k) ≡ true
    unknown_at_each k l u = unknown_in numbers.d c.vertex c.x c.y k inside.x_low inside.x_high inside.y_low inside.y_high l (omega (arith, u))

    weight_of : weight numbers.d (starting_bounds numbers.d (number_in numbers) ty) (equation_of numbers ty c).terms ≡ total_over (highest c.vertex c.x c.y) 1 numbers.d
    unfolding terms_from
    weight_of = weight_is c.vertex c.x c.y 1 numbers.d unknown_at_each

    -- the greatest sum of its terms in the room, and with it the magnitude of its right side, are in range exactly where
    -- it fits
    sums_are_same : sums_fit (starting_room numbers ty) (equation_of numbers ty c) ≡ equation_fits numbers ty c
    unfolding terms_from
    sums_are_same =
        let both_sides : List ℤ → Bool = λ l. sum_fits_from (pos 0) l && in_range (sum_from (pos 0) l +ℤ pos right) in
        let highs = map_same _ (λ q. pos (highest c.vertex c.x c.y q)) (λ q. natural_high (unknown_over c.vertex c.x c.y q)) 1 numbers.d in
        ap both_sides (products_are c.vertex c.x c.y 1 numbers.d unknown_at_each ∙ highs)
        ∙ (fits_push (highest c.vertex c.x c.y) right 0 1 numbers.d ∙ ap (λ l. sum_fits_from (pos 0) l) (sym numbers_are))

    pub sums_are : (room : RoomContent) (e : EquationContent) → room ≡ starting_room numbers ty → e ≡ equation_of numbers ty c → sums_fit room e ≡ equation_fits numbers ty c
    sums_are room e f g = ap₂ sums_fit f g ∙ sums_are_same

    pub fits_over : equation_fits numbers ty c ≡ true → FitsOver (starting_room numbers ty) (equation_of numbers ty c)
    unfolding terms_from
    fits_over e = record {
      unknowns = unknowns_are c.vertex c.x c.y 1 numbers.d unknown_at_each;
      fits = (let P : List ℤ → Type 0 = λ l. sum_fits_from (pos 0) l ≡ true in
          let small = small_where_fits (highest c.vertex c.x c.y) right 0 1 numbers.d (subst P numbers_are e) in
          let same = weight_of in omega (arith, small, same));
    }

    pub fits_in : (room : RoomContent) (e : EquationContent) → room ≡ starting_room numbers ty → e ≡ equation_of numbers ty c → equation_fits numbers ty c ≡ true → FitsOver room e
    fits_in room e f g h = subst (λ (r : RoomContent). FitsOver r e) (sym f) (subst (FitsOver (starting_room numbers ty)) (sym g) (fits_over h))

    pub fits_by : FitsOver (starting_room numbers ty) (equation_of numbers ty c) → equation_fits numbers ty c ≡ true
    fits_by w =
        let P : List ℤ → Type 0 = λ l. sum_fits_from (pos 0) l ≡ true in
        let small = w.fits in
        let same = weight_of in
        subst P (sym numbers_are) (fits_where_small (highest c.vertex c.x c.y) right 0 1 numbers.d (omega (arith, small, same)))

pub fits_means_fits_over : FitsMeansFitsOver
fits_means_fits_over numbers ty c h = (fits_over numbers ty c h, fits_by numbers ty c h)
