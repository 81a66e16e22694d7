-- What a graph of an array has for each live type: its intersection numbers are counts.
use Rattle.std.proofs.Common.{◌≡◌, ℕ, zero, suc, ◌*◌, ◌<◌, ◌≤◌, Bool, true, false, refl, sym, ap, ap₂, ◌∙◌, subst, arith}
use Rattle.std.specs.Prelude.{ℤ, pos, ◌≤ℤ◌, ◌<ℤ◌, ◌-ℤ◌, nat_le, nat_lt, if◌then◌else◌}
use Rattle.std.specs.Int.{int_min}
use Rattle.std.proofs.lemmas.Bool.Decides.{nat_tests}
use Rattle.drg_array.specs.Entries.{Entries, IsArray, diameter}
use Rattle.drg_graph.specs.Graph.{Graph, is_at_distance, is_vertex, pairs_at, IsDistanceRegular}
use Rattle.drg_graph.specs.Numbers.{AreRows}
use Rattle.drg_graph.proofs.NumberLaws.{numbers_are_counts}
use Rattle.drg_graph.proofs.Regular.{first_vertex, occurs}
use Rattle.drg_graph.proofs.Rows.{counts-are}
use Rattle.drg_intersection.specs.Numbers.{Numbers, AreNumbersOf, p_at}
use Rattle.drg_intersection.proofs.Ranges.{one_whole}
use Rattle.drg_linear.specs.declared.triple.TripleType.{TripleType}
use Rattle.drg_linear.specs.declared.triple.Vertex.{Vertex}
use Rattle.drg_linear.specs.declared.triple.Vertex.TheVariants.{First, Second, Third}
use Rattle.drg_linear.specs.Unknowns.{place}
use Rattle.drg_linear.specs.Equations.{value_from}
use Rattle.drg_linear.specs.Triples.{opposite, fixed_number, sum_over, high_bound, IsTripleSolution}
use Rattle.drg_linear.proofs.Counting.{indices}
use Rattle.drg_triple_numbers.specs.TripleNumbers.{AreApart, Triple, number_of, numbers_at, IsWithin, AreNumbers, IsLive}
use Rattle.drg_triple_numbers.specs.Places.{unknown_at}
use Rattle.drg_triple_numbers.proofs.Triples.{triples_exist, numbers_are_solution}
use Rattle.drg_triples.specs.LiveTypes.{number_in, IsLiveType}
use Rattle.drg_triples.specs.Laws.{LiveTypesOccur, TriplesSolveSystems, NoSolutionNoGraph}
use Rattle.drg_triples.proofs.Solutions.{solutions_are}

at_most : (h d : ℕ) → nat_le h d ≡ true → h ≤ d
at_most h d e = grind (arith, nat_tests)

not_above : (h d : ℕ) → nat_le h d ≡ false → h ≤ d → ⊥
not_above h d e l = absurd (grind (arith, nat_tests))

-- the number at each place that is no unknown's is 0
none_at : (b : Bool) (z : ℤ) → b ≡ false → (if b then z else pos 0) ≡ pos 0
none_at true z h = cc
none_at false z h = refl

past_test : (k m : ℕ) → m ≤ k → nat_lt k m ≡ false
past_test k m h = grind (arith, nat_tests)

pub zero_outside : (g : Graph) (d u v w k : ℕ) → d * d * d ≤ k → numbers_at g d u v w k ≡ pos 0
zero_outside g d u v w k h = none_at (nat_lt k (d * d * d)) (number_of g u v w (unknown_at d k)) (past_test k (d * d * d) h)

within_of : (a : Entries) (numbers : Numbers) (ty : TripleType) → AreNumbersOf a numbers → IsLiveType numbers ty → IsWithin a ty
within_of a numbers ty are live =
    let same = are.same_d in
    let one = live.first in
    let two = live.second in
    let three = live.inside in
    record { u = omega arith; v = omega arith; w = omega arith }

module _ (g : Graph) (a : Entries) (numbers : Numbers) (array : IsArray a) (regular : IsDistanceRegular g a) (are : AreNumbersOf a numbers) where
  abbrev start : ℕ
  start = (first_vertex g a regular).0

  -- for each distance a vertex at it from a first one
  partner : (h : ℕ) (b : Bool) → nat_le h (diameter a) ≡ b → ℕ
  partner h true e = (occurs g a regular array start (first_vertex g a regular).1 h (at_most h (diameter a) e)).0
  partner h false e = 0

  apart_by : (h : ℕ) (b : Bool) (e : nat_le h (diameter a) ≡ b) → h ≤ diameter a → is_at_distance g h start (partner h b e) ≡ true
  unfolding partner
  apart_by h true e l = (occurs g a regular array start (first_vertex g a regular).1 h (at_most h (diameter a) e)).1
  apart_by h false e l = absurd (not_above h (diameter a) e l)

  -- the counts of these two
  counts : ℕ → ℕ → ℕ → ℤ
  counts h i j = pos (pairs_at g i j start (partner h (nat_le h (diameter a)) refl))

  rows : (h : ℕ) → h ≤ diameter a → AreRows a h (diameter a) (counts h)
  unfolding counts
  rows h l = counts-are g a regular array h start (partner h (nat_le h (diameter a)) refl) (apart_by h (nat_le h (diameter a)) refl l)

  same : (h i j : ℕ) → h ≤ diameter a → i ≤ diameter a → j ≤ diameter a → number_in numbers h i j ≡ counts h i j
  unfolding counts
  same h i j hh hi hj =
      one_whole _ _ (numbers_are_counts g a h i j start (partner h (nat_le h (diameter a)) refl) _ array regular (apart_by h (nat_le h (diameter a)) refl hh) hi hj (are.intersections h i j hh hi hj))

  module _ (ty : TripleType) (inside : IsWithin a ty) where
    counts_are : AreNumbers a counts ty
    counts_are = record { first = rows ty.u inside.u; second = rows ty.v inside.v; third = rows ty.w inside.w }

    live_by : IsLive (number_in numbers) ty → IsLive counts ty
    live_by live = subst (λ z. pos 0 <ℤ z) (same ty.w ty.v ty.u inside.w inside.v inside.u) live

    opposite_in : (vertex : Vertex) → opposite ty vertex ≤ diameter a
    opposite_in First = inside.u
    opposite_in Second = inside.v
    opposite_in Third = inside.w

    solution_of : (x : ℕ → ℤ) → IsTripleSolution (diameter a) counts ty x → IsTripleSolution (diameter a) (number_in numbers) ty x
    solution_of x s = record {
      natural = s.natural;
      bounded = λ n h.
          (let i = indices (diameter a) n h in
          let one = same ty.u n.s n.t inside.u i.s_high i.t_high in
          let two = same ty.v n.r n.t inside.v i.r_high i.t_high in
          let three = same ty.w n.r n.s inside.w i.r_high i.s_high in
          let highs : high_bound counts ty n ≡ high_bound (number_in numbers) ty n = ap₂ int_min (sym one) (ap₂ int_min (sym two) (sym three)) in
          subst (λ z. x (place (diameter a) n) ≤ℤ z) highs (s.bounded n h));
      counted = λ vertex i j ai bi aj bj.
          s.counted vertex i j ai bi aj bj ∙ ap (λ z. z -ℤ fixed_number ty vertex i j) (sym (same (opposite ty vertex) i j (opposite_in vertex) bi bj));
    }

    pub occur : IsLive (number_in numbers) ty → Triple g ty
    occur live = triples_exist g a counts ty array regular inside counts_are (live_by live)

    pub solve : (u v w : ℕ) → AreApart g ty u v w → IsTripleSolution (diameter a) (number_in numbers) ty (numbers_at g (diameter a) u v w)
    solve u v w apart = solution_of (numbers_at g (diameter a) u v w) (numbers_are_solution g a counts ty u v w array regular inside counts_are apart)

pub live_types_occur : LiveTypesOccur
live_types_occur g a numbers ty array regular are live = occur g a numbers array regular are ty (within_of a numbers ty are live) live.live

pub triples_solve_systems : TriplesSolveSystems
triples_solve_systems g a numbers ty u v w array regular are live apart =
    let P : ℕ → Type 0 = λ d. IsTripleSolution d (number_in numbers) ty (numbers_at g d u v w) in
    (solutions_are numbers ty (numbers_at g numbers.d u v w)).1
    (subst P (sym are.same_d) (solve g a numbers array regular are ty (within_of a numbers ty are live) u v w apart), zero_outside g numbers.d u v w)

pub no_solution_no_graph : NoSolutionNoGraph
no_solution_no_graph a numbers ty array are live none g regular =
    let three = live_types_occur g a numbers ty array regular are live in
    none (numbers_at g numbers.d three.u three.v three.w) (triples_solve_systems g a numbers ty three.u three.v three.w array regular are live three.apart)
