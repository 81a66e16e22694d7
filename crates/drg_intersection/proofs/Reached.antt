-- From one number to the next.
use Rattle.std.proofs.Common.{ℕ, suc, sym, subst, arith, inl, inr}
use Rattle.drg_array.specs.Entries.{Entries, diameter}
use Rattle.drg_array.specs.declared.node.Node.TheVariants.{K, N, P}
use Rattle.drg_intersection.specs.Faults.{Passes, IsReached, AllPass}
use Rattle.drg_intersection.proofs.Places.{two_cases}

pub next_size : (a : Entries) (i : ℕ) → IsReached a (K i) → Passes a (K i) → IsReached a (K (suc i))
next_size a i reached here (K l) node less =
    elim (two_cases l i less) [
      | inl same ↦ (let Q : ℕ → Type 0 = λ t. Passes a (K t) in subst Q (sym same) here)
      | inr less ↦ reached (K l) node less
    ]
next_size a i reached here N node before = absurd before
next_size a i reached here (P h l j) node before = absurd before
next_size a i reached here other node before = absurd node

pub next_entry : (a : Entries) (h i j : ℕ) → IsReached a (P h i j) → Passes a (P h i j) → IsReached a (P h i (suc j))
next_entry a h i j reached here (K l) node before = reached (K l) node tt
next_entry a h i j reached here N node before = reached N node tt
next_entry a h i j reached here (P m n l) node (inl less) = reached (P m n l) node (inl less)
next_entry a h i j reached here (P m n l) node (inr (same, inl less)) = reached (P m n l) node (inr (same, inl less))
next_entry a h i j reached here (P m n l) node (inr (same, inr (equal, less))) =
    elim (two_cases l j less) [
      | inl e ↦ (let Q : ℕ → Type 0 = λ t. Passes a (P t i j) in let R : ℕ → Type 0 = λ t. Passes a (P m t j) in let S : ℕ → Type 0 = λ t. Passes a (P m n t) in
          subst S (sym e) (subst R (sym equal) (subst Q (sym same) here)))
      | inr f ↦ reached (P m n l) node (inr (same, inr (equal, f)))
    ]
next_entry a h i j reached here other node before = absurd node

pub next_table : (a : Entries) (h : ℕ) → IsReached a (P h (suc (diameter a)) 0) → IsReached a (P (suc h) 0 0)
next_table a h reached (K l) node before = reached (K l) node tt
next_table a h reached N node before = reached N node tt
next_table a h reached (P m n l) node (inl less) =
    elim (two_cases m h less) [
      | inl same ↦ reached (P m n l) node (inr (same, inl (omega (arith, node.1))))
      | inr earlier ↦ reached (P m n l) node (inl earlier)
    ]
next_table a h reached (P m n l) node (inr (same, inl less)) = absurd (omega (arith, less))
next_table a h reached (P m n l) node (inr (same, inr (equal, less))) = absurd (omega (arith, less))
next_table a h reached other node before = absurd node

pub all_reached : (a : Entries) → IsReached a (P (suc (diameter a)) 0 0) → AllPass a
all_reached a reached (K i) node = reached (K i) node tt
all_reached a reached N node = reached N node tt
all_reached a reached (P h i j) node = reached (P h i j) node (inl (omega (arith, node.0)))
all_reached a reached other node = absurd node
