-- The references and counts while the pairs are taken in lexicographic order.
use Rattle.std.specs.Prelude.{◌≡◌, ◌≢◌, ℕ, ◌<◌, List, length, Option, None, Some, slice_index_or}
use Rattle.drg_graph.specs.Graph.{Graph, HasDistance}
use Rattle.drg_edges.specs.Pairs.{Precedes, down_count, up_count, IsReference, Differs}
use Rattle.drg_edges.specs.declared.references.Counts.{Counts}
use Rattle.drg_edges.specs.declared.references.Difference.{Difference}
use Rattle.drg_edges.specs.declared.references.Reference.{Reference}

-- The reference at a place of a list, if there is one.
abbrev pub reference_of : List (Option Reference) → ℕ → Option Reference
reference_of references i = slice_index_or references i None

-- The counts are those of the pair (x, y) at distance i.
pub record AreCounts (g : Graph) (i x y : ℕ) (counts : Counts) : Type 0 where
  pub down : counts.down ≡ down_count g i x y
  pub up : counts.up ≡ up_count g i x y

-- The pair is the reference of the distance i, with its counts, and comes before (x, y).
pub record IsFound (g : Graph) (i x y : ℕ) (found : Reference) : Type 0 where
  pub reference : IsReference g i found.x found.y
  pub before : Precedes found.x found.y x y
  pub counts : AreCounts g i found.x found.y found.counts

-- The reference of the distance i, as far as the pairs before (x, y) tell it.
abbrev pub IsReferenceBefore : Graph → (i x y : ℕ) → Option Reference → Type 0
IsReferenceBefore g i x y None = (u v : ℕ) → HasDistance g i u v → Precedes u v x y → ⊥
IsReferenceBefore g i x y (Some found) = IsFound g i x y found

-- These are the references of the distances from 0 on, as far as the pairs before (x, y) tell them.
abbrev pub AreReferences : Graph → (x y : ℕ) → List (Option Reference) → Type 0
AreReferences g x y references = (i : ℕ) → i < length references → IsReferenceBefore g i x y (reference_of references i)

-- No pair before (x, y) differs from the reference of its distance.
abbrev pub AreAlike : Graph → (x y : ℕ) → Type 0
AreAlike g x y = (i u v : ℕ) → Precedes u v x y → Differs g i u v → ⊥

-- A pair (x, y) is the first that differs from the reference of its distance.
pub record IsFirstDifference (g : Graph) (x : ℕ) (found : Difference) : Type 0 where
  pub reference : IsReference g found.distance found.reference.x found.reference.y
  pub reference_counts : AreCounts g found.distance found.reference.x found.reference.y found.reference.counts
  pub at : HasDistance g found.distance x found.y
  pub counts : AreCounts g found.distance x found.y found.counts
  pub unlike : found.reference.counts ≢ found.counts
  pub earlier : AreAlike g x found.y
