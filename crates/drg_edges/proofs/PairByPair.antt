-- From the references before one pair to those before the next.
use Rattle.std.proofs.Common.{◌≡◌, ℕ, zero, suc, ◌<◌, true, List, length, Option, None, Some, replicate, refl, sym, ap, ap₂, subst, ◌∙◌, arith, inl, inr}
use Rattle.std.specs.Prelude.{◌≢◌, ◌==◌, MatchOption, IfSome}
use Rattle.drg_algebra.specs.Sums.{below, is_among}
use Rattle.drg_algebra.proofs.Tests.{decided, same-number, differ, below-out}
use Rattle.drg_graph.specs.Graph.{Graph, HasDistance}
use Rattle.drg_graph.proofs.Distances.{distance-unique, distance-left, distance-right}
use Rattle.drg_edges.specs.Pairs.{Precedes, down_count, up_count, IsReference, Differs}
use Rattle.drg_edges.specs.References.{reference_of, AreCounts, IsFound, IsReferenceBefore, AreReferences, AreAlike}
use Rattle.drg_edges.specs.declared.references.Counts.{Counts}
use Rattle.drg_edges.specs.declared.references.Reference.{Reference}
use Rattle.drg_edges.proofs.AnswerLaws.{one_reference}
use Rattle.drg_edges.proofs.Order.{order, before_next, next_after, row_end, row_start}

pub none_before : (u v : ℕ) → Precedes u v 0 0 → ⊥
none_before u v (inl less) = omega (arith, less)
none_before u v (inr (same, less)) = omega (arith, less)

none_at : (n i : ℕ) → reference_of (replicate n None) i ≡ None
none_at zero i = refl
none_at (suc n) zero = refl
none_at (suc n) (suc i) = none_at n i

-- before the first pair nothing is known
pub references_start : (g : Graph) (references : List (Option Reference)) (n : ℕ) → references ≡ replicate n None → AreReferences g 0 0 references
references_start g references n all i inside = subst (IsReferenceBefore g i 0 0) (sym (ap (λ rs. reference_of rs i) all ∙ none_at n i)) (λ u v e before. none_before u v before)

pub alike_start : (g : Graph) → AreAlike g 0 0
alike_start g i u v before e = none_before u v before

module _ (g : Graph) (x y d : ℕ) (at : HasDistance g d x y) where
  -- at another distance than that of (x, y) nothing is new
  kept : (i : ℕ) (noted : Option Reference) → i ≢ d → IsReferenceBefore g i x y noted → IsReferenceBefore g i x (suc y) noted
  kept i None apart h =
      λ u v e before. elim (before_next u v x y before) [
        | inl earlier ↦ h u v e earlier
        | inr same ↦ (let P : ℕ → ℕ → Type 0 = λ a b. HasDistance g i a b in
            apart (distance-unique g i d x y (subst (λ a. P a y) same.0 (subst (P u) same.1 e)) at))
      ]
  kept i (Some found) apart h = record { reference = h.reference; before = next_after found.x found.y x y h.before; counts = h.counts }

  -- at its distance (x, y) is the reference where there was none
  noted_here : (before after : Option Reference) (found : Reference) → found.x ≡ x → found.y ≡ y → AreCounts g d x y found.counts → IsReferenceBefore g d x y before
      → MatchOption before (after ≡ Some found) (λ first. after ≡ Some first) → IsReferenceBefore g d x (suc y) after
  noted_here None after found ex ey counts h new =
      let whole : IsFound g d x (suc y) found = record {
        reference = subst (λ a. IsReference g d a found.y) (sym ex) (subst (λ b. IsReference g d x b) (sym ey) (record { at = at; first = h }));
        before = inr (ex, omega (arith, ey));
        counts = subst (λ a. AreCounts g d a found.y found.counts) (sym ex) (subst (λ b. AreCounts g d x b found.counts) (sym ey) counts);
      } in
      subst (IsReferenceBefore g d x (suc y)) (sym new) whole
  noted_here (Some first) after found ex ey counts h new =
      let whole : IsFound g d x (suc y) first = record { reference = h.reference; before = next_after first.x first.y x y h.before; counts = h.counts } in
      subst (IsReferenceBefore g d x (suc y)) (sym new) whole

  pub references_next : (old new : List (Option Reference)) (found : Reference) → length new ≡ length old → found.x ≡ x → found.y ≡ y → AreCounts g d x y found.counts
      → AreReferences g x y old → ((i : ℕ) → i ≢ d → reference_of new i ≡ reference_of old i)
      → MatchOption (reference_of old d) (reference_of new d ≡ Some found) (λ first. reference_of new d ≡ Some first) → AreReferences g x (suc y) new
  references_next old new found long ex ey counts are others here i inside = elim (decided (i == d)) [
    | inl e ↦ (let same : i ≡ d = same-number i d e in
        let inside_old : d < length old = omega (arith, same, inside, long) in
        subst (λ j. IsReferenceBefore g j x (suc y) (reference_of new j)) (sym same)
        (noted_here (reference_of old d) (reference_of new d) found ex ey counts (are d inside_old) here))
    | inr e ↦ (let apart : i ≢ d = differ i d e in
        subst (IsReferenceBefore g i x (suc y)) (sym (others i apart)) (kept i (reference_of old i) apart (are i (omega (arith, inside, long)))))
  ]

  -- the pair itself doesn't differ where its counts are those that are noted, or none are
  not_here : (noted : Option Reference) (counts : Counts) → AreCounts g d x y counts → IsReferenceBefore g d x y noted
      → IfSome noted (λ first. first.counts ≡ counts) → Differs g d x y → ⊥
  not_here None counts are h alike e =
      let place : (e.x_reference ≡ x) × (e.y_reference ≡ y) = elim (order e.x_reference e.y_reference x y) [
        | inl before ↦ absurd (h e.x_reference e.y_reference e.reference.at before)
        | inr (inl same) ↦ same
        | inr (inr after) ↦ absurd (e.reference.first x y at after)
      ] in
      elim e.unlike [
        | inl down ↦ down (ap₂ (λ a b. down_count g d a b) place.0 place.1)
        | inr up ↦ up (ap₂ (λ a b. up_count g d a b) place.0 place.1)
      ]
  not_here (Some first) counts are h alike e =
      let place = one_reference g d first.x first.y e.x_reference e.y_reference h.reference e.reference in
      elim e.unlike [
        | inl down ↦ down (sym (ap₂ (λ a b. down_count g d a b) place.0 place.1) ∙ (sym h.counts.down ∙ (ap (λ c. c.down) alike ∙ are.down)))
        | inr up ↦ up (sym (ap₂ (λ a b. up_count g d a b) place.0 place.1) ∙ (sym h.counts.up ∙ (ap (λ c. c.up) alike ∙ are.up)))
      ]

  pub alike_next : (old : List (Option Reference)) (counts : Counts) → d < length old → AreCounts g d x y counts → AreReferences g x y old → AreAlike g x y
      → IfSome (reference_of old d) (λ first. first.counts ≡ counts) → AreAlike g x (suc y)
  alike_next old counts inside are references alike same i u v before e = elim (before_next u v x y before) [
    | inl earlier ↦ alike i u v earlier e
    | inr here ↦ (let D : ℕ → ℕ → ℕ → Type 0 = λ j a b. Differs g j a b in
        let e2 : Differs g i x y = subst (λ a. D i a y) here.0 (subst (D i u) here.1 e) in
        let far : i ≡ d = distance-unique g i d x y e2.at at in
        not_here (reference_of old d) counts are (references d inside) same (subst (λ j. D j x y) far e2))
  ]

-- ---- from one row to the next
module _ (g : Graph) (n : ℕ) (vertices : g.vertices ≡ below n) where
  inside : (i u v : ℕ) → HasDistance g i u v → v < n
  inside i u v e = below-out n v (subst (λ vs. is_among v vs ≡ true) vertices (distance-right g i u v e))

  row_noted : (i x : ℕ) (noted : Option Reference) → IsReferenceBefore g i x n noted → IsReferenceBefore g i (suc x) 0 noted
  row_noted i x None h = λ u v e before. h u v e (row_end u v x n (inside i u v e) before)
  row_noted i x (Some found) h = record { reference = h.reference; before = row_start found.x found.y x n h.before; counts = h.counts }

  pub references_row : (x : ℕ) (references : List (Option Reference)) → AreReferences g x n references → AreReferences g (suc x) 0 references
  references_row x references are i h = row_noted i x (reference_of references i) (are i h)

  pub alike_row : (x : ℕ) → AreAlike g x n → AreAlike g (suc x) 0
  alike_row x alike i u v before e = alike i u v (row_end u v x n (inside i u v e.at) before) e

  -- and after the last row all pairs are taken
  pub alike_all : AreAlike g n 0 → (i u v : ℕ) → Differs g i u v → ⊥
  alike_all alike i u v e = alike i u v (inl (below-out n u (subst (λ vs. is_among u vs ≡ true) vertices (distance-left g i u v e.at)))) e
