-- The fields of a record that has two.
use Rattle.std.proofs.Common.{◌≡◌, [], ◌∷◌, List, ℕ, Some, None, length, arith}
use Rattle.csv.specs.Records.{field_at}

pub are_two : (r : List (List ℕ)) (a b : List ℕ) → length r ≡ 2 → Some a ≡ field_at r 0 → Some b ≡ field_at r 1 → a ∷ b ∷ [] ≡ r
unfolding field_at
are_two [] a b n x y = absurd (omega arith)
are_two (u ∷ []) a b n x y = absurd (omega arith)
are_two (u ∷ v ∷ []) a b n x y = cc (x, y)
are_two (u ∷ v ∷ w ∷ r) a b n x y = absurd (omega arith)

pub has_first : (r : List (List ℕ)) → length r ≡ 2 → None ≡ field_at r 0 → ⊥
unfolding field_at
has_first [] n e = absurd (omega arith)
has_first (u ∷ r) n e = cc e

pub has_second : (r : List (List ℕ)) → length r ≡ 2 → None ≡ field_at r 1 → ⊥
unfolding field_at
has_second [] n e = absurd (omega arith)
has_second (u ∷ []) n e = absurd (omega arith)
has_second (u ∷ v ∷ r) n e = cc e
