-- The answer on a pair that differs from the reference of its distance.
use Rattle.std.proofs.Common.{◌≡◌, ℕ, Bool, true, false, refl, sym, ap₂, ◌∙◌}
use Rattle.std.specs.Prelude.{◌==◌, ◌≢◌, if◌then◌else◌}
use Rattle.drg_algebra.proofs.Tests.{same-number, differ}
use Rattle.drg_graph.specs.Graph.{Graph}
use Rattle.drg_edges.specs.Answers.{AreTold, IsDifference}
use Rattle.drg_edges.specs.Pairs.{HasDistances}
use Rattle.drg_edges.specs.References.{AreCounts, IsFirstDifference}
use Rattle.drg_edges.specs.declared.references.Counts.{Counts}
use Rattle.drg_edges.specs.declared.references.Difference.{Difference}

told_of : (g : Graph) (i x y x2 y2 : ℕ) (p q : Counts) (up : Bool) → AreCounts g i x y p → AreCounts g i x2 y2 q → p ≢ q → (p.down == q.down) ≡ up
    → AreTold g i x y x2 y2 up (if up then p.up else p.down) (if up then q.up else q.down)
told_of g i x y x2 y2 p q false a b apart e = (a.down, b.down, differ p.down q.down e)
told_of g i x y x2 y2 p q true a b apart e =
    let same = same-number p.down q.down e in
    (sym a.down ∙ (same ∙ b.down), a.up, b.up, λ equal. apart (ap₂ (λ m n. record { down = m; up = n }) same equal))

pub difference_of : (g : Graph) (x : ℕ) (found : Difference) → HasDistances g → IsFirstDifference g x found
    → IsDifference g found.reference.x found.reference.y x found.y found.distance (found.reference.counts.down == found.counts.down)
    (if found.reference.counts.down == found.counts.down then found.reference.counts.up else found.reference.counts.down)
    (if found.reference.counts.down == found.counts.down then found.counts.up else found.counts.down)
difference_of g x found connected h = record {
  connected = connected;
  reference = h.reference;
  at = h.at;
  told = told_of g found.distance found.reference.x found.reference.y x found.y found.reference.counts found.counts (found.reference.counts.down == found.counts.down) h.reference_counts h.counts h.unlike refl;
  earlier = h.earlier;
}
