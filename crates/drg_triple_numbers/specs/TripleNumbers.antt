-- Triple intersection numbers of three vertices of a graph (Vidali 2018).
use Rattle.std.specs.Prelude.{ℕ, ℤ, pos, ◌*◌, ◌≤◌, ◌<ℤ◌, nat_lt, ◌&&◌, if◌then◌else◌}
use Rattle.drg_algebra.specs.Sums.{count_of}
use Rattle.drg_array.specs.Entries.{Entries, diameter}
use Rattle.drg_graph.specs.Graph.{Graph, is_at_distance, HasDistance}
use Rattle.drg_graph.specs.Numbers.{AreRows}
use Rattle.drg_linear.specs.declared.unknown.Unknown.{Unknown}
use Rattle.drg_linear.specs.declared.triple.TripleType.{TripleType}
use Rattle.drg_triple_numbers.specs.Places.{unknown_at}

-- u, v and w have the distances of the type
pub record AreApart (g : Graph) (ty : TripleType) (u v w : ℕ) : Type 0 where
  pub vw : HasDistance g ty.u v w
  pub uw : HasDistance g ty.v u w
  pub uv : HasDistance g ty.w u v

-- three vertices of the type
pub record Triple (g : Graph) (ty : TripleType) : Type 0 where
  pub u : ℕ
  pub v : ℕ
  pub w : ℕ
  pub apart : AreApart g ty u v w

-- how many vertices are at distances r, s and t from u, v and w
abbrev pub triple_at : Graph → ℕ → ℕ → ℕ → ℕ → ℕ → ℕ → ℕ
triple_at g u v w r s t =
    count_of
    (λ x. is_at_distance g r u x && (is_at_distance g s v x && is_at_distance g t w x))
    g.vertices

-- the number that an unknown stands for
abbrev pub number_of : Graph → ℕ → ℕ → ℕ → Unknown → ℤ
number_of g u v w n = pos (triple_at g u v w n.r n.s n.t)

-- the numbers at the places of the unknowns, and 0 outside
abbrev pub numbers_at : Graph → ℕ → ℕ → ℕ → ℕ → ℕ → ℤ
numbers_at g d u v w k =
    if nat_lt k (d * d * d) then number_of g u v w (unknown_at d k) else pos 0

-- the distances of the type are at most d
pub record IsWithin (a : Entries) (ty : TripleType) : Type 0 where
  pub u : ty.u ≤ diameter a
  pub v : ty.v ≤ diameter a
  pub w : ty.w ≤ diameter a

-- p h i j, with h a distance of the type, are intersection numbers of the array
pub record AreNumbers (a : Entries) (p : ℕ → ℕ → ℕ → ℤ) (ty : TripleType) : Type 0 where
  pub first : AreRows a ty.u (diameter a) (p ty.u)
  pub second : AreRows a ty.v (diameter a) (p ty.v)
  pub third : AreRows a ty.w (diameter a) (p ty.w)

-- p^W_VU, the number of w for each u and v, is positive
abbrev pub IsLive : (ℕ → ℕ → ℕ → ℤ) → TripleType → Type 0
IsLive p ty = pos 0 <ℤ p ty.w ty.v ty.u
