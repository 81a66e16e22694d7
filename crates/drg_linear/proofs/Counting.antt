-- Numbers from 0 that meet the counting equations stay within the high bounds.
use Rattle.std.proofs.Common.{◌≡◌, ℕ, zero, suc, ◌<◌, ◌≤◌, ◌+◌, ℤ, pos, ◌*ℤ◌, ◌+ℤ◌, ◌-ℤ◌, ◌≤ℤ◌, Bool, true, false, List, refl, arith, inl, inr}
use Rattle.std.specs.Prelude.{◌⊎◌, ◌&&◌, map, nat_le, cond, int_lt}
use Rattle.std.specs.Int.{int_min}
use Rattle.std.specs.List.{range_with_len}
use Rattle.std.proofs.lemmas.Int.{ints}
use Rattle.std.proofs.lemmas.Bool.Decides.{nat_tests}
use Rattle.drg_algebra.proofs.Tests.{and-in}
use Rattle.drg_linear.specs.declared.unknown.Unknown.{Unknown}
use Rattle.drg_linear.specs.declared.triple.TripleType.{TripleType}
use Rattle.drg_linear.specs.declared.triple.Vertex.{Vertex}
use Rattle.drg_linear.specs.declared.triple.Vertex.TheVariants.{First, Second, Third}
use Rattle.drg_linear.specs.Unknowns.{is_unknown, place}
use Rattle.drg_linear.specs.Equations.{Term, value_from}
use Rattle.drg_linear.specs.Triples.{unknown_over, opposite, fixed_number, sum_over, MeetsCounting, IsNatural, EquationsBound}

terms_of : Vertex → ℕ → ℕ → ℕ → ℕ → List Term
terms_of vertex x y q n = map (λ q. (unknown_over vertex x y q, pos 1)) (range_with_len q n)

-- one more number that isn't negative
more : (t z : ℤ) → pos 0 ≤ℤ z → t ≤ℤ (t +ℤ pos 1 *ℤ z)
more t z h = omega (arith, ints)

through : (a b c : ℤ) → a ≤ℤ b → b ≤ℤ c → a ≤ℤ c
through a b c h k = omega (arith, ints)

no_less : (d : ℕ) (x : ℕ → ℤ) (vertex : Vertex) (i j q n : ℕ) (total : ℤ) → ((k : ℕ) → q ≤ k → k < q + n → pos 0 ≤ℤ x (place d (unknown_over vertex i j k))) → total ≤ℤ value_from d x total (terms_of vertex i j q n)
unfolding terms_of
no_less d x vertex i j q zero total h = omega (arith, ints)
no_less d x vertex i j q (suc n) total h =
    let z = x (place d (unknown_over vertex i j q)) in
    through total (total +ℤ pos 1 *ℤ z) _ (more total z (h q (omega arith) (omega arith)))
    (no_less d x vertex i j (q + 1) n (total +ℤ pos 1 *ℤ z) (λ k l m. h k (omega (arith, l)) (omega (arith, m))))

first_of : (t z : ℤ) → pos 0 ≤ℤ t → z ≤ℤ (t +ℤ pos 1 *ℤ z)
first_of t z h = omega (arith, ints)

not_negative : (t z : ℤ) → pos 0 ≤ℤ t → pos 0 ≤ℤ z → pos 0 ≤ℤ (t +ℤ pos 1 *ℤ z)
not_negative t z h k = omega (arith, ints)

here_or : (q k : ℕ) → q ≤ k → (q ≡ k) ⊎ (q + 1 ≤ k)
here_or zero zero h = inl refl
here_or zero (suc k) h = inr (omega arith)
here_or (suc q) zero h = absurd (omega (arith, h))
here_or (suc q) (suc k) h = elim (here_or q k (omega (arith, h))) [ inl e ↦ inl (omega (arith, e)) | inr l ↦ inr (omega (arith, l)) ]

-- a number is at most a sum of numbers that aren't negative, of which it is one
member : (d : ℕ) (x : ℕ → ℤ) (vertex : Vertex) (i j q n : ℕ) (total : ℤ) (k : ℕ) → ((k : ℕ) → q ≤ k → k < q + n → pos 0 ≤ℤ x (place d (unknown_over vertex i j k))) → pos 0 ≤ℤ total → q ≤ k → k < q + n
    → x (place d (unknown_over vertex i j k)) ≤ℤ value_from d x total (terms_of vertex i j q n)
unfolding terms_of
member d x vertex i j q zero total k h o l m = absurd (omega (arith, l, m))
member d x vertex i j q (suc n) total k h o l m =
    let z = x (place d (unknown_over vertex i j q)) in
    let rest : (k : ℕ) → q + 1 ≤ k → k < q + 1 + n → pos 0 ≤ℤ x (place d (unknown_over vertex i j k)) = λ k l m. h k (omega (arith, l)) (omega (arith, m)) in
    elim (here_or q k l) [
      | inl e ↦ rw (← e) (through z (total +ℤ pos 1 *ℤ z) _ (first_of total z o) (no_less d x vertex i j (q + 1) n (total +ℤ pos 1 *ℤ z) rest))
      | inr g ↦ member d x vertex i j (q + 1) n (total +ℤ pos 1 *ℤ z) k rest (not_negative total z o (h q (omega arith) (omega arith))) g (omega (arith, m))
    ]

-- the indices of an unknown
is_index : (x d : ℕ) → 1 ≤ x → x ≤ d → (nat_le 1 x && nat_le x d) ≡ true
is_index x d l h = and-in (nat_le 1 x) (nat_le x d) (grind (arith, nat_tests)) (grind (arith, nat_tests))

unknown_in : (d : ℕ) (vertex : Vertex) (i j k : ℕ) → 1 ≤ i → i ≤ d → 1 ≤ j → j ≤ d → 1 ≤ k → k ≤ d → is_unknown d (unknown_over vertex i j k) ≡ true
unknown_in d First i j k a b e f g h = grind (arith, nat_tests)
unknown_in d Second i j k a b e f g h = grind (arith, nat_tests)
unknown_in d Third i j k a b e f g h = grind (arith, nat_tests)

fixed_not_negative : (ty : TripleType) (vertex : Vertex) (i j : ℕ) → pos 0 ≤ℤ fixed_number ty vertex i j
fixed_not_negative ty First i j = omega (arith, ints)
fixed_not_negative ty Second i j = omega (arith, ints)
fixed_not_negative ty Third i j = omega (arith, ints)

at_most_right : (z s p f : ℤ) → z ≤ℤ s → s ≡ p -ℤ f → pos 0 ≤ℤ f → z ≤ℤ p
at_most_right z s p f h e l = omega (arith, ints)

below_opposite : (d : ℕ) (p : ℕ → ℕ → ℕ → ℤ) (ty : TripleType) (x : ℕ → ℤ) → IsNatural d x → MeetsCounting d p ty x → (vertex : Vertex) (i j k : ℕ) → 1 ≤ i → i ≤ d → 1 ≤ j → j ≤ d → 1 ≤ k → k ≤ d
    → x (place d (unknown_over vertex i j k)) ≤ℤ p (opposite ty vertex) i j
unfolding terms_of
below_opposite d p ty x natural m vertex i j k a b e f g h =
    at_most_right _ (value_from d x (pos 0) (sum_over d vertex i j)) (p (opposite ty vertex) i j) (fixed_number ty vertex i j)
    (member d x vertex i j 1 d (pos 0) k (λ k l u. natural (unknown_over vertex i j k) (unknown_in d vertex i j k a b e f l (omega (arith, u)))) (omega (arith, ints)) g (omega (arith, h)))
    (m vertex i j a b e f) (fixed_not_negative ty vertex i j)

pub record Indices (d : ℕ) (n : Unknown) : Type 0 where
  pub r_low : 1 ≤ n.r
  pub r_high : n.r ≤ d
  pub s_low : 1 ≤ n.s
  pub s_high : n.s ≤ d
  pub t_low : 1 ≤ n.t
  pub t_high : n.t ≤ d

pub indices : (d : ℕ) (n : Unknown) → is_unknown d n ≡ true → Indices d n
indices d n h = record {
  r_low = grind (arith, nat_tests);
  r_high = grind (arith, nat_tests);
  s_low = grind (arith, nat_tests);
  s_high = grind (arith, nat_tests);
  t_low = grind (arith, nat_tests);
  t_high = grind (arith, nat_tests);
}

least : (z x y : ℤ) → z ≤ℤ x → z ≤ℤ y → z ≤ℤ int_min x y
least z x y h k = least_by z x y (int_lt y x) h k
  where
    least_by : (z x y : ℤ) (b : Bool) → z ≤ℤ x → z ≤ℤ y → z ≤ℤ cond b y x
    least_by z x y true h k = k
    least_by z x y false h k = h

pub equations_bound : EquationsBound
equations_bound d p ty x natural m = record {
  natural = natural;
  counted = m;
  bounded = λ n h.
      let i = indices d n h in
      least (x (place d n)) (p ty.u n.s n.t) (int_min (p ty.v n.r n.t) (p ty.w n.r n.s))
      (below_opposite d p ty x natural m First n.s n.t n.r i.s_low i.s_high i.t_low i.t_high i.r_low i.r_high)
      (least (x (place d n)) (p ty.v n.r n.t) (p ty.w n.r n.s)
      (below_opposite d p ty x natural m Second n.r n.t n.s i.r_low i.r_high i.t_low i.t_high i.s_low i.s_high)
      (below_opposite d p ty x natural m Third n.r n.s n.t i.r_low i.r_high i.s_low i.s_high i.t_low i.t_high));
}
