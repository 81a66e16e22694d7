-- The order of pairs.
use Rattle.std.proofs.Common.{◌≡◌, ℕ, zero, suc, ◌<◌, refl, sym, ap, arith, inl, inr}
use Rattle.std.specs.Prelude.{◌⊎◌}
use Rattle.drg_edges.specs.Pairs.{Precedes}

compare : (m n : ℕ) → (m < n) ⊎ ((m ≡ n) ⊎ (n < m))
compare zero zero = inr (inl refl)
compare zero (suc n) = inl (omega arith)
compare (suc m) zero = inr (inr (omega arith))
compare (suc m) (suc n) = elim (compare m n) [ inl e ↦ inl (omega (arith, e)) | inr (inl e) ↦ inr (inl (ap suc e)) | inr (inr e) ↦ inr (inr (omega (arith, e))) ]

-- of two pairs one comes before the other, or they are one
pub order : (u v x y : ℕ) → Precedes u v x y ⊎ (((u ≡ x) × (v ≡ y)) ⊎ Precedes x y u v)
order u v x y = elim (compare u x) [
  | inl less ↦ inl (inl less)
  | inr (inl same) ↦ elim (compare v y) [
    | inl less ↦ inl (inr (same, less))
    | inr (inl equal) ↦ inr (inl (same, equal))
    | inr (inr more) ↦ inr (inr (inr (sym same, more)))
  ]
  | inr (inr more) ↦ inr (inr (inl more))
]

-- a pair before the one after (x, y) comes before (x, y), or is (x, y)
pub before_next : (u v x y : ℕ) → Precedes u v x (suc y) → Precedes u v x y ⊎ ((u ≡ x) × (v ≡ y))
before_next u v x y (inl less) = inl (inl less)
before_next u v x y (inr (same, less)) = elim (compare v y) [
  | inl e ↦ inl (inr (same, e))
  | inr (inl e) ↦ inr (same, e)
  | inr (inr e) ↦ absurd (omega (arith, less, e))
]

pub next_after : (u v x y : ℕ) → Precedes u v x y → Precedes u v x (suc y)
next_after u v x y (inl less) = inl less
next_after u v x y (inr (same, less)) = inr (same, omega (arith, less))

-- the rows are taken one after the other
pub row_end : (u v x n : ℕ) → v < n → Precedes u v (suc x) 0 → Precedes u v x n
row_end u v x n inside (inl less) = elim (compare u x) [
  | inl e ↦ inl e
  | inr (inl e) ↦ inr (e, inside)
  | inr (inr e) ↦ absurd (omega (arith, less, e))
]
row_end u v x n inside (inr (same, less)) = absurd (omega (arith, less))

pub row_start : (u v x n : ℕ) → Precedes u v x n → Precedes u v (suc x) 0
row_start u v x n (inl less) = inl (omega (arith, less))
row_start u v x n (inr (same, less)) = inl (omega (arith, same))
