-- The division of a leaf.
use Rattle.std.proofs.Common.{◌≡◌, ℕ, ◌+◌, ℤ, pos, ◌+ℤ◌, ◌≤ℤ◌, List, [], ◌∷◌, ◌++◌, length, ap, ◌∙◌, arith}
use Rattle.std.proofs.lemmas.Int.{ints}
use Rattle.drg_linear.specs.declared.system.Branching.{Branching}
use Rattle.drg_linear.specs.declared.unknown.Unknown.{Unknown}
use Rattle.drg_linear.specs.Unknowns.{place}
use Rattle.drg_linear.specs.Rooms.{RoomContent}
use Rattle.drg_linear.specs.Splits.{side_up_to, side_above}
use Rattle.drg_solver.specs.declared.leaf.Leaf.{Leaf}
use Rattle.drg_solver.specs.Leaves.{with_bounds, lower, upper, split_of, IsDivision}

pub division : (leaf : Leaf) (u : Unknown) (v : ℤ) (splits splits' : List Branching) (waiting middle waiting' : List Leaf) (last : ℕ) (up_to above : RoomContent)
    → splits' ≡ splits ++ split_of leaf u v ∷ []
    → middle ≡ waiting ++ record { place = last; room = above } ∷ []
    → waiting' ≡ middle ++ record { place = leaf.place; room = up_to } ∷ []
    → last ≡ 1 + length splits
    → above ≡ with_bounds leaf.room (side_above leaf.room.bounds (place leaf.room.d u) v)
    → up_to ≡ with_bounds leaf.room (side_up_to leaf.room.bounds (place leaf.room.d u) v)
    → IsDivision leaf u v splits splits' waiting waiting'
division leaf u v splits splits' waiting middle waiting' last up_to above s m w l a b =
    let second : Path Leaf (record { place = last; room = above }) (upper (1 + length splits) leaf u v) = λ i. record { place = l i; room = a i } in
    let first : Path Leaf (record { place = leaf.place; room = up_to }) (lower leaf u v) = λ i. record { place = leaf.place; room = b i } in
    record {
      listed = s;
      sides = w ∙ (ap (λ ws. ws ++ record { place = leaf.place; room = up_to } ∷ []) m ∙ (λ i. (waiting ++ second i ∷ []) ++ first i ∷ []));
    }

pub next_not_negative : (low v : ℤ) → pos 0 ≤ℤ low → low ≤ℤ v → pos 0 ≤ℤ (v +ℤ pos 1)
next_not_negative low v l h = omega (arith, ints)
