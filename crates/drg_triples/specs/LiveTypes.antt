-- The live types of triples of vertices, in their order (Vidali 2018).
use Rattle.std.specs.Prelude.{◌≡◌, ℕ, ◌≤◌, ◌<◌, ◌⊎◌, ◌↔◌, ℤ, pos, List, Contains}
use Rattle.std.specs.List.{AllPairs}
use Rattle.drg_intersection.specs.Numbers.{Numbers, p_at}
use Rattle.drg_linear.specs.declared.triple.TripleType.{TripleType}
use Rattle.drg_triple_numbers.specs.TripleNumbers.{IsLive}

-- the intersection number p^h_ij as a whole number
abbrev pub number_in : Numbers → ℕ → ℕ → ℕ → ℤ
number_in numbers h i j = pos (p_at numbers h i j)

-- 1 <= U <= V <= W <= d, and p^W_VU > 0
pub record IsLiveType (numbers : Numbers) (ty : TripleType) : Type 0 where
  pub some : 1 ≤ ty.u
  pub first : ty.u ≤ ty.v
  pub second : ty.v ≤ ty.w
  pub inside : ty.w ≤ numbers.d
  pub live : IsLive (number_in numbers) ty

-- one type comes before another in lexicographic order of U, V and W
abbrev pub IsEarlier : TripleType → TripleType → Type 0
IsEarlier s t = (s.u < t.u) ⊎ ((s.u ≡ t.u) × ((s.v < t.v) ⊎ ((s.v ≡ t.v) × (s.w < t.w))))

-- the list has exactly the live types, ascending
pub record AreLiveTypes (numbers : Numbers) (found : List TripleType) : Type 0 where
  pub members : (ty : TripleType) → Contains found ty ↔ IsLiveType numbers ty
  pub ascending : AllPairs IsEarlier found

-- the same of the live types before (u, v, w)
pub record AreLiveBefore (numbers : Numbers) (u v w : ℕ) (found : List TripleType) : Type 0 where
  pub members :
      (ty : TripleType)
      → Contains found ty ↔ (IsLiveType numbers ty × IsEarlier ty (record { u = u; v = v; w = w }))
  pub ascending : AllPairs IsEarlier found
