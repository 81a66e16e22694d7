-- The steps of a search keep what is known of it.
use Rattle.std.proofs.Common.{◌≡◌, ◌≢◌, ℕ, ◌+◌, ◌<◌, ◌≤◌, ℤ, List, [], ◌∷◌, ◌++◌, length, set, refl, sym, ap, ◌∙◌, arith, subst, inl, inr}
use Rattle.std.proofs.lemmas.List.{length-set, get_or-set_same, get_or-set_other, get_or_append_left, get_or_push}
use Rattle.std.proofs.lemmas.List.Elements.{All-weaker}
use Rattle.std.proofs.lemmas.Bool.{cases_eq}
use Rattle.drg_linear.specs.declared.system.Branching.{Branching}
use Rattle.drg_linear.specs.declared.unknown.Unknown.{Unknown}
use Rattle.drg_linear.specs.Unknowns.{place}
use Rattle.drg_linear.specs.Equations.{EquationContent}
use Rattle.drg_linear.specs.Rooms.{RoomContent, RoomBounds, IsSolution, slack}
use Rattle.drg_linear.specs.Splits.{Divides, side_up_to, side_above, leaf_at, divided, IsLive, HoldsSolutionAt, AreLive}
use Rattle.drg_linear.specs.Systems.{SystemContent}
use Rattle.drg_solver.specs.declared.leaf.Leaf.{Leaf}
use Rattle.drg_solver.specs.Parts.{IsPart}
use Rattle.drg_solver.specs.Findings.{IsDivided}
use Rattle.drg_solver.specs.Leaves.{lower, upper, split_of, IsHeld, IsInPlace, AreInPlace, AreApart, AreDeep, leaves_after, IsUnderWay}
use Rattle.drg_solver.proofs.Rooms.{slack_falls, up_to_is_part, above_is_part}
use Rattle.drg_solver.proofs.Splits.{length_divided, length_leaves, leaves_push, live_push}
use Rattle.drg_solver.proofs.Few.{distinct_few}

-- ---- the leaves after one more split
-- the side above comes to the end
divided_last : (d : ℕ) (leaves : List RoomBounds) (s : Branching) → leaf_at (divided d leaves s) (length leaves) ≡ side_above (leaf_at leaves s.leaf) (place d s.unknown) s.at
divided_last d leaves s =
    let up = side_up_to (leaf_at leaves s.leaf) (place d s.unknown) s.at in
    get_or_push (set leaves s.leaf up) (side_above (leaf_at leaves s.leaf) (place d s.unknown) s.at) [] (length leaves) (length-set leaves s.leaf up)

-- the side up to `at` stays in place
divided_same : (d : ℕ) (leaves : List RoomBounds) (s : Branching) → s.leaf < length leaves → leaf_at (divided d leaves s) s.leaf ≡ side_up_to (leaf_at leaves s.leaf) (place d s.unknown) s.at
divided_same d leaves s h =
    let up = side_up_to (leaf_at leaves s.leaf) (place d s.unknown) s.at in
    get_or_append_left (set leaves s.leaf up) _ [] s.leaf (omega (arith, length-set leaves s.leaf up, h))
    ∙ get_or-set_same leaves s.leaf up [] h

-- all others stay
divided_other : (d : ℕ) (leaves : List RoomBounds) (s : Branching) (k : ℕ) → k < length leaves → k ≢ s.leaf → leaf_at (divided d leaves s) k ≡ leaf_at leaves k
divided_other d leaves s k h apart =
    let up = side_up_to (leaf_at leaves s.leaf) (place d s.unknown) s.at in
    get_or_append_left (set leaves s.leaf up) _ [] k (omega (arith, length-set leaves s.leaf up, h))
    ∙ get_or-set_other leaves s.leaf k up [] apart

-- ---- leaves in their places
held_place : (whole : RoomContent) (leaves : List RoomBounds) (waiting : List Leaf) (k : ℕ) → AreInPlace whole leaves waiting → IsHeld k waiting → k < length leaves
held_place whole leaves [] k p h = absurd h
held_place whole leaves (w ∷ waiting) k p (inl e) = (let l = p.0.within in omega (arith, l, e))
held_place whole leaves (w ∷ waiting) k p (inr h) = held_place whole leaves waiting k p.1 h

-- a split of another leaf moves none of them
in_place_divided : (d : ℕ) (whole : RoomContent) (leaves : List RoomBounds) (s : Branching) (waiting : List Leaf) → (IsHeld s.leaf waiting → ⊥) → AreInPlace whole leaves waiting → AreInPlace whole (divided d leaves s) waiting
in_place_divided d whole leaves s [] apart p = tt
in_place_divided d whole leaves s (w ∷ waiting) apart p =
    let longer = length_divided d leaves s in
    let l = p.0.within in (
      record {
        within = omega (arith, longer, l);
        there = divided_other d leaves s w.place l (λ e. apart (inl e)) ∙ p.0.there;
        part = p.0.part;
      },
      in_place_divided d whole leaves s waiting (λ h. apart (inr h)) p.1,
    )

-- ---- the moments of a search
-- it starts with one leaf, the whole room
pub starts : (s : SystemContent) → IsPart s.room s.room → IsUnderWay s [] (record { place = 0; room = s.room } ∷ [])
starts s p = record {
  each = tt;
  in_place = (record { within = omega arith; there = refl; part = p }, tt);
  apart = (λ h. h, tt);
  deep = (omega arith, tt);
  found = λ k h. (let l = h.0 in inl (omega (arith, l)));
}

-- the next leaf is closed
pub goes_on : (s : SystemContent) (splits : List Branching) (w : Leaf) (waiting : List Leaf) → IsUnderWay s splits (w ∷ waiting)
    → ((x : ℕ → ℤ) → IsSolution s.room.d w.room.bounds s.equations x → ⊥) → IsUnderWay s splits waiting
goes_on s splits w waiting u none = record {
  each = u.each;
  in_place = u.in_place.1;
  apart = u.apart.1;
  deep = u.deep.1;
  found = λ k h. elim (u.found k h) [
    | inl e ↦ (let P : RoomBounds → Type 0 = λ room. IsSolution s.room.d room s.equations h.1 in
        absurd (none h.1 (subst P (ap (leaf_at (leaves_after s splits)) (sym e) ∙ u.in_place.0.there) h.2)))
    | inr i ↦ i
  ];
}

-- the next leaf is split
splits_in_place : (whole : RoomContent) (leaves : List RoomBounds) (w : Leaf) (waiting : List Leaf) (u : Unknown) (v : ℤ) (last : ℕ) → AreInPlace whole leaves (w ∷ waiting) → AreApart (w ∷ waiting)
    → Divides w.room.bounds (place w.room.d u) v → last ≡ length leaves
    → AreInPlace whole (divided w.room.d leaves (split_of w u v)) (lower w u v ∷ upper last w u v ∷ waiting)
splits_in_place whole leaves w waiting u v last p apart d is =
    let s = split_of w u v in
    let k = w.room.d in
    let here = p.0.there in
    let l = p.0.within in
    let longer = length_divided k leaves s in
    let low = up_to_is_part whole w.room (place k u) v p.0.part d in
    let high = above_is_part whole w.room (place k u) v p.0.part d in
    let below = divided_same k leaves s l ∙ ap (λ r. side_up_to r (place k u) v) here in
    let above = ap (leaf_at (divided k leaves s)) is ∙ divided_last k leaves s ∙ ap (λ r. side_above r (place k u) v) here in
    let first : IsInPlace whole (divided k leaves s) (lower w u v) = record { within = omega (arith, longer, l); there = below; part = low } in
    let second : IsInPlace whole (divided k leaves s) (upper last w u v) = record { within = omega (arith, longer, is); there = above; part = high } in
    (first, (second, in_place_divided k whole leaves s waiting apart.0 p.1))

splits_apart : (whole : RoomContent) (leaves : List RoomBounds) (w : Leaf) (waiting : List Leaf) (u : Unknown) (v : ℤ) (last : ℕ) → AreInPlace whole leaves (w ∷ waiting) → AreApart (w ∷ waiting)
    → last ≡ length leaves → AreApart (lower w u v ∷ upper last w u v ∷ waiting)
splits_apart whole leaves w waiting u v last p apart is =
    let l = p.0.within in
    let new : IsHeld last waiting → ⊥ = λ h. (let low = held_place whole leaves waiting last p.1 h in omega (arith, low, is)) in
    let old : IsHeld w.place (upper last w u v ∷ waiting) → ⊥ = λ h. elim h [
      | inl e ↦ omega (arith, e, is, l)
      | inr i ↦ apart.0 i
    ] in
    (old, (new, apart.1))

splits_found : (d : ℕ) (equations : List EquationContent) (leaves : List RoomBounds) (w : Leaf) (waiting : List Leaf) (u : Unknown) (v : ℤ) (last : ℕ)
    → ((k : ℕ) → HoldsSolutionAt d equations leaves k → IsHeld k (w ∷ waiting)) → last ≡ length leaves
    → (k : ℕ) → HoldsSolutionAt d equations (divided d leaves (split_of w u v)) k → IsHeld k (lower w u v ∷ upper last w u v ∷ waiting)
splits_found d equations leaves w waiting u v last found is k h =
    let s = split_of w u v in
    let longer = length_divided d leaves s in
    elim (cases_eq k w.place) [
      | inl same ↦ inl (sym same)
      | inr apart ↦ elim (cases_eq k (length leaves)) [
        | inl end ↦ inr (inl (is ∙ sym end))
        | inr before ↦ (let l = h.0 in
            let within : k < length leaves = omega (arith, l, longer, before) in
            let P : RoomBounds → Type 0 = λ room. IsSolution d room equations h.1 in
            let stays = divided_other d leaves s k within apart in
            elim (found k (within, h.1, subst P stays h.2)) [
              | inl e ↦ absurd (apart (sym e))
              | inr i ↦ inr (inr i)
            ])
      ]
    ]

pub splits_up : (s : SystemContent) (splits : List Branching) (w : Leaf) (waiting : List Leaf) (u : Unknown) (v : ℤ) → IsUnderWay s splits (w ∷ waiting) → IsDivided s w.room u v
    → IsUnderWay s (splits ++ split_of w u v ∷ []) (lower w u v ∷ upper (1 + length splits) w u v ∷ waiting)
splits_up s splits w waiting u v h d =
    let k = s.room.d in
    let b = split_of w u v in
    let leaves = leaves_after s splits in
    let count = length_leaves k (s.room.bounds ∷ []) splits in
    let last : 1 + length splits ≡ length leaves = omega (arith, count) in
    let same : w.room.d ≡ k = h.in_place.0.part.d in
    let more : leaves_after s (splits ++ b ∷ []) ≡ divided k leaves b = leaves_push k (s.room.bounds ∷ []) splits b in
    let there : leaf_at leaves w.place ≡ w.room.bounds = h.in_place.0.there in
    let sides : Divides w.room.bounds (place w.room.d u) v = rw same d.sides in
    let live : IsLive k s.equations leaves b = record {
      leaf = h.in_place.0.within;
      unknown = d.unknown;
      sides = rw there d.sides;
      unclosed = rw there d.unclosed;
    } in
    let falls = slack_falls w.room.bounds (place w.room.d u) v sides.low sides.high in
    let deep = h.deep.0 in
    let L : List RoomBounds → Type 0 = λ ls. AreInPlace s.room ls (lower w u v ∷ upper (1 + length splits) w u v ∷ waiting) in
    let F : List RoomBounds → Type 0 = λ ls. (k : ℕ) → HoldsSolutionAt s.room.d s.equations ls k → IsHeld k (lower w u v ∷ upper (1 + length splits) w u v ∷ waiting) in
    let in_place = splits_in_place s.room leaves w waiting u v (1 + length splits) h.in_place h.apart sides last in
    let N : ℕ → Type 0 = λ n. AreInPlace s.room (divided n leaves b) (lower w u v ∷ upper (1 + length splits) w u v ∷ waiting) in
    record {
      each = live_push k s.equations (s.room.bounds ∷ []) splits b h.each live;
      in_place = subst L (sym more) (subst N same in_place);
      apart = splits_apart s.room leaves w waiting u v (1 + length splits) h.in_place h.apart last;
      deep = (omega (arith, falls.0, deep), (omega (arith, falls.1, deep), h.deep.1));
      found = subst F (sym more) (splits_found k s.equations leaves w waiting u v (1 + length splits) h.found last);
    }

-- the leaves that wait are few
pub waiting_few : (n : ℕ) (waiting : List Leaf) → AreDeep n waiting → length waiting ≤ 1 + n
waiting_few n [] d = omega arith
waiting_few n (w ∷ waiting) d = (let k = d.0 in omega (arith, k))

-- at each moment the splits are live
pub live : (s : SystemContent) (splits : List Branching) (waiting : List Leaf) → IsUnderWay s splits waiting → AreLive s.room.d s.equations s.room.bounds splits
live s splits waiting u = record {
  each = u.each;
  few = λ places d all.
      let held = All-weaker (HoldsSolutionAt s.room.d s.equations (leaves_after s splits)) (λ k. IsHeld k waiting) u.found places all in
      let less = distinct_few places waiting d held in
      let few = waiting_few (slack s.room.bounds) waiting u.deep in
      omega (arith, less, few);
}
