-- The solutions of a counting system, and its equations.
use Rattle.std.proofs.Common.{◌≡◌, ℕ, zero, suc, ◌+◌, ◌*◌, ◌<◌, ◌≤◌, true, List, [], ◌∷◌, ◌++◌, length, refl, sym, ap, ◌∙◌, subst, arith, map, inl, inr}
use Rattle.std.specs.Prelude.{ℤ, pos, ◌≤ℤ◌, ◌↔◌, ◌⊎◌, Contains}
use Rattle.std.proofs.lemmas.Int.{ints}
use Rattle.std.proofs.lemmas.Bool.{cases_lt}
use Rattle.std.proofs.lemmas.List.{get_or_past}
use Rattle.std.proofs.lemmas.List.FromFn.{length-map-range_with_len}
use Rattle.std.proofs.lemmas.List.Elements.{Contains-append_left, Contains-append_right, Contains-append_cases, Contains-push, Contains-push_cases}
use Rattle.drg_intersection.specs.Numbers.{Numbers}
use Rattle.drg_linear.specs.declared.triple.TripleType.{TripleType}
use Rattle.drg_linear.specs.declared.triple.Vertex.{Vertex}
use Rattle.drg_linear.specs.declared.triple.Vertex.TheVariants.{First, Second, Third}
use Rattle.drg_linear.specs.Unknowns.{place}
use Rattle.drg_linear.specs.Equations.{EquationContent, Meets, MeetsAll}
use Rattle.drg_linear.specs.Rooms.{Bounds, bounds_at, InRoom}
use Rattle.drg_linear.specs.Triples.{high_bound, IsTripleSolution}
use Rattle.drg_triple_numbers.specs.Places.{unknown_at}
use Rattle.drg_triple_numbers.proofs.Places.{places_have_unknowns}
use Rattle.drg_triples.specs.declared.counted.Counted.{Counted}
use Rattle.drg_triples.specs.LiveTypes.{number_in}
use Rattle.drg_triples.specs.Counting.{starting_bounds, counted_with, counted_at, counted_of, equation_of, IsCounted}
use Rattle.drg_triples.specs.Laws.{SolvesCounting, SystemHasTheSolutions, EquationsAreAll}
use Rattle.drg_triples.proofs.Lists.{in_up_to, up_to_cases}
use Rattle.drg_triples.proofs.Weights.{bounds_are}

-- ---- the equations
abbrev count : Vertex → ℕ → ℕ → Counted
count vertex x y = record { vertex = vertex; x = x; y = y }

counted_inside : (d : ℕ) (vertex : Vertex) (c : Counted) → Contains (counted_at d vertex) c → IsCounted d c
counted_inside d vertex c h =
    let row = up_to_cases (counted_with d vertex) d c h in
    let one = up_to_cases (λ y. count vertex row.0 y ∷ []) d c row.3 in
    elim (Contains-push_cases [] (count vertex row.0 one.0) c one.3) [
      | inl (k, l, e) ↦ absurd (omega arith)
      | inr same ↦ subst (IsCounted d) same (record { x_low = row.1; x_high = row.2; y_low = one.1; y_high = one.2 })
    ]

counted_there : (d : ℕ) (vertex : Vertex) (x y : ℕ) → 1 ≤ x → x ≤ d → 1 ≤ y → y ≤ d → Contains (counted_at d vertex) (count vertex x y)
counted_there d vertex x y a b e f =
    in_up_to (counted_with d vertex) x d (count vertex x y) a b
    (in_up_to (λ y. count vertex x y ∷ []) y d (count vertex x y) e f (Contains-push [] (count vertex x y)))

counted_one : (d : ℕ) (vertex : Vertex) (x y : ℕ) → 1 ≤ x → x ≤ d → 1 ≤ y → y ≤ d → Contains (counted_of d) (count vertex x y)
counted_one d First x y a b e f = Contains-append_left (counted_at d First) _ _ (counted_there d First x y a b e f)
counted_one d Second x y a b e f =
    Contains-append_right (counted_at d First) _ _ (Contains-append_left (counted_at d Second) _ _ (counted_there d Second x y a b e f))
counted_one d Third x y a b e f =
    Contains-append_right (counted_at d First) _ _ (Contains-append_right (counted_at d Second) _ _ (counted_there d Third x y a b e f))

pub equations_are_all : EquationsAreAll
equations_are_all d c = (
  λ h. elim (Contains-append_cases (counted_at d First) (counted_at d Second ++ counted_at d Third) c h) [
    | inl first ↦ counted_inside d First c first
    | inr rest ↦ elim (Contains-append_cases (counted_at d Second) (counted_at d Third) c rest) [
      | inl second ↦ counted_inside d Second c second
      | inr third ↦ counted_inside d Third c third
    ]
  ],
  λ i. counted_one d c.vertex c.x c.y i.x_low i.x_high i.y_low i.y_high,
)

-- ---- all equations of a list hold
module _ (d : ℕ) (x : ℕ → ℤ) (f : Counted → EquationContent) where
  meets_all : (cs : List Counted) → ((c : Counted) → Contains cs c → Meets d x (f c)) → MeetsAll d x (map f cs)
  meets_all [] h = tt
  meets_all (c ∷ cs) h = (h c (0, omega arith, refl), meets_all cs (λ e (k, l, p). h e (suc k, omega (arith, l), p)))

  meets_one : (cs : List Counted) (c : Counted) → MeetsAll d x (map f cs) → Contains cs c → Meets d x (f c)
  meets_one [] c h (k, l, p) = absurd (omega arith)
  meets_one (e ∷ es) c h (zero, l, p) = subst (λ e. Meets d x (f e)) p h.0
  meets_one (e ∷ es) c h (suc k, l, p) = meets_one es c h.1 (k, omega (arith, l), p)

-- ---- the room
past : (d : ℕ) (p : ℕ → ℕ → ℕ → ℤ) (ty : TripleType) (k : ℕ) → d * d * d ≤ k → bounds_at (starting_bounds d p ty) k ≡ (pos 0, pos 0)
past d p ty k h =
    let f : ℕ → Bounds = λ k. (pos 0, high_bound p ty (unknown_at d k)) in
    let long = length-map-range_with_len f 0 (d * d * d) in
    get_or_past _ k (pos 0, pos 0) (omega (arith, h, long))

none_between : (z : ℤ) (b : Bounds) → b ≡ (pos 0, pos 0) → b.0 ≤ℤ z → z ≤ℤ b.1 → z ≡ pos 0
none_between z b e low high =
    let l : pos 0 ≤ℤ z = subst (λ (b : Bounds). b.0 ≤ℤ z) e low in
    let h : z ≤ℤ pos 0 = subst (λ (b : Bounds). z ≤ℤ b.1) e high in
    omega (arith, ints, l, h)

both_at : (z : ℤ) → z ≡ pos 0 → (pos 0 ≤ℤ z) × (z ≤ℤ pos 0)
both_at z e = (omega (arith, ints), omega (arith, ints))

module _ (numbers : Numbers) (ty : TripleType) (x : ℕ → ℤ) where
  solves_triples : SolvesCounting numbers ty x
      → IsTripleSolution numbers.d (number_in numbers) ty x × ((k : ℕ) → numbers.d * numbers.d * numbers.d ≤ k → x k ≡ pos 0)
  solves_triples s = (
    record {
      natural = λ n h. subst (λ (b : Bounds). b.0 ≤ℤ x (place numbers.d n)) (bounds_are numbers ty n h) (s.0.low (place numbers.d n));
      bounded = λ n h. subst (λ (b : Bounds). x (place numbers.d n) ≤ℤ b.1) (bounds_are numbers ty n h) (s.0.high (place numbers.d n));
      counted = λ vertex i j a b e f.
          meets_one numbers.d x (equation_of numbers ty) (counted_of numbers.d) (count vertex i j) s.1 (counted_one numbers.d vertex i j a b e f);
    },
    λ k h. none_between (x k) _ (past numbers.d (number_in numbers) ty k h) (s.0.low k) (s.0.high k),
  )

  within : IsTripleSolution numbers.d (number_in numbers) ty x → ((k : ℕ) → numbers.d * numbers.d * numbers.d ≤ k → x k ≡ pos 0) → (k : ℕ)
      → let b = bounds_at (starting_bounds numbers.d (number_in numbers) ty) k in (b.0 ≤ℤ x k) × (x k ≤ℤ b.1)
  within s zeros k =
      let P : Bounds → Type 0 = λ b. (b.0 ≤ℤ x k) × (x k ≤ℤ b.1) in
      elim (cases_lt k (numbers.d * numbers.d * numbers.d)) [
        | inl less ↦ (let at = places_have_unknowns numbers.d k less in
            let n = unknown_at numbers.d k in
            let Q : ℕ → Type 0 = λ m. (let b = bounds_at (starting_bounds numbers.d (number_in numbers) ty) m in (b.0 ≤ℤ x m) × (x m ≤ℤ b.1)) in
            let here = sym (bounds_are numbers ty n at.numbers) in
            subst Q at.place_is (subst (λ (b : Bounds). (b.0 ≤ℤ x (place numbers.d n)) × (x (place numbers.d n) ≤ℤ b.1)) here (s.natural n at.numbers, s.bounded n at.numbers)))
        | inr more ↦ subst P (sym (past numbers.d (number_in numbers) ty k more)) (both_at (x k) (zeros k more))
      ]

  triples_solve : IsTripleSolution numbers.d (number_in numbers) ty x × ((k : ℕ) → numbers.d * numbers.d * numbers.d ≤ k → x k ≡ pos 0)
      → SolvesCounting numbers ty x
  triples_solve s = (
    record {
      low = λ k. (within s.0 s.1 k).0;
      high = λ k. (within s.0 s.1 k).1;
    },
    meets_all numbers.d x (equation_of numbers ty) (counted_of numbers.d) (λ c m. (let i = (equations_are_all numbers.d c).0 m in
        s.0.counted c.vertex c.x c.y i.x_low i.x_high i.y_low i.y_high)),
  )

pub solutions_are : SystemHasTheSolutions
solutions_are numbers ty x = (solves_triples numbers ty x, triples_solve numbers ty x)
