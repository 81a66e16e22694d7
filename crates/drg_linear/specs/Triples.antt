-- The counting equations of triple intersection numbers (Vidali 2018).
use Rattle.std.specs.Prelude.{◌≡◌, ◌≤◌, ◌==◌, ℕ, ℤ, pos, ◌-ℤ◌, ◌≤ℤ◌, true, ◌&&◌, List, map}
use Rattle.std.specs.Int.{int_min}
use Rattle.std.specs.List.{range_with_len}
use Rattle.drg_algebra.specs.Sums.{bit}
use Rattle.drg_linear.specs.declared.unknown.Unknown.{Unknown}
use Rattle.drg_linear.specs.declared.triple.TripleType.{TripleType}
use Rattle.drg_linear.specs.declared.triple.Vertex.{Vertex}
use Rattle.drg_linear.specs.declared.triple.Vertex.TheVariants.{First, Second, Third}
use Rattle.drg_linear.specs.Unknowns.{is_unknown, place}
use Rattle.drg_linear.specs.Equations.{Term, EquationContent, Meets}

-- the unknown with distance q from the vertex and x and y from the two others, in their order
abbrev pub unknown_over : Vertex → ℕ → ℕ → ℕ → Unknown
unknown_over First x y q = record { r = q; s = x; t = y }
unknown_over Second x y q = record { r = x; s = q; t = y }
unknown_over Third x y q = record { r = x; s = y; t = q }

-- the distance of the two other vertices
abbrev pub opposite : TripleType → Vertex → ℕ
opposite ty First = ty.u
opposite ty Second = ty.v
opposite ty Third = ty.w

-- [0 x y], [x 0 y] or [x y 0]: only the vertex itself is at distance 0, and its distances from the
-- two others are those of the type
abbrev pub fixed_number : TripleType → Vertex → ℕ → ℕ → ℤ
fixed_number ty First x y = pos (bit (x == ty.w && y == ty.v))
fixed_number ty Second x y = pos (bit (x == ty.w && y == ty.u))
fixed_number ty Third x y = pos (bit (x == ty.v && y == ty.u))

-- the unknowns with distances x and y from two vertices, each once
abbrev pub sum_over : ℕ → Vertex → ℕ → ℕ → List Term
sum_over d vertex x y = map (λ q. (unknown_over vertex x y q, pos 1)) (range_with_len 1 d)

-- p h i j are the intersection numbers p^h_ij. The numbers with distances x and y from two vertices
-- add up to p^h_xy, where h is the distance of the two; the one with a distance 0 goes to the right
-- side.
abbrev pub counting_equation
    : ℕ → (ℕ → ℕ → ℕ → ℤ) → TripleType → Vertex → ℕ → ℕ → EquationContent
counting_equation d p ty vertex x y =
    record {
      terms = sum_over d vertex x y;
      right = p (opposite ty vertex) x y -ℤ fixed_number ty vertex x y;
    }

-- the least of p^U_st, p^V_rt and p^W_rs for [r s t]
abbrev pub high_bound : (ℕ → ℕ → ℕ → ℤ) → TripleType → Unknown → ℤ
high_bound p ty n = int_min (p ty.u n.s n.t) (int_min (p ty.v n.r n.t) (p ty.w n.r n.s))

-- each counting equation holds
abbrev pub MeetsCounting : ℕ → (ℕ → ℕ → ℕ → ℤ) → TripleType → (ℕ → ℤ) → Type 0
MeetsCounting d p ty x =
    (vertex : Vertex) (i j : ℕ) → 1 ≤ i → i ≤ d → 1 ≤ j → j ≤ d
    → Meets d x (counting_equation d p ty vertex i j)

-- no number of an unknown is negative
abbrev pub IsNatural : ℕ → (ℕ → ℤ) → Type 0
IsNatural d x = (n : Unknown) → is_unknown d n ≡ true → pos 0 ≤ℤ x (place d n)

-- a solution of the counting system: each number is from 0 to its high bound, and each equation
-- holds
pub record IsTripleSolution (d : ℕ) (p : ℕ → ℕ → ℕ → ℤ) (ty : TripleType) (x : ℕ → ℤ)
    : Type 0 where
  pub natural : IsNatural d x
  pub bounded : (n : Unknown) → is_unknown d n ≡ true → x (place d n) ≤ℤ high_bound p ty n
  pub counted : MeetsCounting d p ty x

-- numbers from 0 that meet the counting equations stay within the high bounds
abbrev pub EquationsBound : Type 0
EquationsBound =
    (d : ℕ) (p : ℕ → ℕ → ℕ → ℤ) (ty : TripleType) (x : ℕ → ℤ)
    → IsNatural d x → MeetsCounting d p ty x → IsTripleSolution d p ty x
