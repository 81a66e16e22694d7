-- What a search has reached when it has opened some branches, and how a branch moves it on.
use Rattle.std.proofs.Common.{◌≡◌, ℕ, ◌+◌, ◌*◌, ◌<◌, ◌≤◌, ℤ, List, [], ◌∷◌, ◌++◌, length, map, reverse, refl, sym, ap, ◌∙◌, subst, arith}
use Rattle.std.specs.Prelude.{pos}
use Rattle.std.proofs.lemmas.List.{length_push, nil_from_length, reverse-append}
use Rattle.drg_derivation.specs.declared.line.Line.{Line}
use Rattle.drg_derivation.specs.declared.line.Line.TheVariants as line
use Rattle.drg_linear.specs.declared.system.Branching.{Branching}
use Rattle.drg_linear.specs.declared.unknown.Unknown.{Unknown}
use Rattle.drg_linear.specs.Unknowns.{place}
use Rattle.drg_linear.specs.Rooms.{RoomBounds, IsRoom, IsSolution, points}
use Rattle.drg_linear.specs.Splits.{side_up_to, side_above}
use Rattle.drg_linear.specs.Systems.{SystemContent}
use Rattle.drg_solver.specs.declared.leaf.Leaf.{Leaf}
use Rattle.drg_solver.specs.Lines.{CloseAll}
use Rattle.drg_solver.specs.Answers.{IsSpent, opened}
use Rattle.drg_solver.specs.Findings.{Lead, state, CloseLeaf, IsDivided}
use Rattle.drg_solver.specs.Leaves.{lower, upper, split_of, IsDivision, IsUnderWay}
use Rattle.drg_solver.proofs.Rooms.{whole_is_part}
use Rattle.drg_solver.proofs.Splits.{splits_below_points}
use Rattle.drg_solver.proofs.UnderWay.{starts, goes_on, splits_up, live}
use Rattle.drg_solver.proofs.Closed.{joined, close_all, none_in_leaf, split_leads}

pub bounds_of : Leaf → RoomBounds
bounds_of w = w.room.bounds

-- the rooms of the leaves that wait, the next one first
unfoldable pub rooms : List Leaf → List RoomBounds
rooms waiting = map bounds_of (reverse waiting)

pub record IsReached (s : SystemContent) (count : ℕ) (splits : List Branching) (waiting : List Leaf) (lines : List Line) : Type 0 where
  pub under_way : IsUnderWay s splits (reverse waiting)
  pub counted : count + length waiting ≡ 1 + 2 * length splits
  pub earned : length splits ≤ count
  pub written : Lead (opened s s.equations) 0 lines (state s.room.d s.equations (rooms waiting)) 0

reverse_push : (waiting : List Leaf) (w : Leaf) → reverse (waiting ++ w ∷ []) ≡ w ∷ reverse waiting
reverse_push waiting w = reverse-append waiting (w ∷ [])

rooms_push : (waiting : List Leaf) (w : Leaf) → rooms (waiting ++ w ∷ []) ≡ w.room.bounds ∷ rooms waiting
unfolding rooms bounds_of
rooms_push waiting w = ap (λ ws. map bounds_of ws) (reverse_push waiting w)

rooms_nil : rooms [] ≡ []
unfolding rooms
rooms_nil = refl

-- ---- before the first branch
pub at_start : (s : SystemContent) (splits : List Branching) (empty waiting : List Leaf) (w : Leaf) (lines : List Line) → IsRoom s.room
    → splits ≡ [] → empty ≡ [] → waiting ≡ empty ++ w ∷ [] → w ≡ record { place = 0; room = s.room } → lines ≡ [] → IsReached s 0 splits waiting lines
at_start s splits empty waiting w lines r no_split none one is no_line =
    let start : Leaf = record { place = 0; room = s.room } in
    let just : waiting ≡ start ∷ [] = one ∙ (λ i. none i ++ is i ∷ []) in
    let P : List Leaf → Type 0 = λ ws. IsReached s 0 [] ws [] in
    let Q : List Branching → Type 0 = λ ss. IsReached s 0 ss waiting [] in
    let L : List Line → Type 0 = λ ls. IsReached s 0 splits waiting ls in
    let R : List RoomBounds → Type 0 = λ rs. Lead (opened s s.equations) 0 [] (state s.room.d s.equations rs) 0 in
    let here : rooms (start ∷ []) ≡ s.room.bounds ∷ [] = rooms_push [] start ∙ ap (λ rs. s.room.bounds ∷ rs) rooms_nil in
    subst L (sym no_line) (subst Q (sym no_split) (subst P (sym just) (record {
      under_way = starts s (whole_is_part s.room r);
      counted = omega arith;
      earned = omega arith;
      written = subst R (sym here) (refl, refl);
    })))

-- ---- the leaf in hand
pub in_hand : (s : SystemContent) (count : ℕ) (splits : List Branching) (waiting rest : List Leaf) (w : Leaf) (lines : List Line) → IsReached s count splits waiting lines → waiting ≡ rest ++ w ∷ []
    → IsUnderWay s splits (w ∷ reverse rest)
in_hand s count splits waiting rest w lines r m =
    let Q : List Leaf → Type 0 = λ ws. IsUnderWay s splits ws in subst Q (ap reverse m ∙ reverse_push rest w) r.under_way

written_in_hand : (s : SystemContent) (count : ℕ) (splits : List Branching) (waiting rest : List Leaf) (w : Leaf) (lines : List Line) (r : IsReached s count splits waiting lines) → waiting ≡ rest ++ w ∷ []
    → Lead (opened s s.equations) 0 lines (state s.room.d s.equations (w.room.bounds ∷ rooms rest)) 0
written_in_hand s count splits waiting rest w lines r m =
    let R : List RoomBounds → Type 0 = λ rs. Lead (opened s s.equations) 0 lines (state s.room.d s.equations rs) 0 in
    subst R (ap rooms m ∙ rooms_push rest w) r.written

-- it is closed
pub after_closed : (s : SystemContent) (count : ℕ) (splits : List Branching) (waiting rest : List Leaf) (w : Leaf) (lines more all : List Line) → IsReached s count splits waiting lines → waiting ≡ rest ++ w ∷ []
    → CloseLeaf s w.room more → all ≡ lines ++ more → IsReached s (count + 1) splits rest all
after_closed s count splits waiting rest w lines more all r m c is =
    let A : List Line → Type 0 = λ ls. Lead (opened s s.equations) 0 ls (state s.room.d s.equations (rooms rest)) 0 in
    let longer = ap length m ∙ length_push rest w in
    let counted = r.counted in
    let earned = r.earned in
    record {
      under_way = goes_on s splits w (reverse rest) (in_hand s count splits waiting rest w lines r m) (λ x h. none_in_leaf s.room.d s.equations w.room.bounds more x (c []) h);
      counted = omega (arith, longer, counted);
      earned = omega (arith, earned);
      written = subst A (sym is) (joined lines more (opened s s.equations) (state s.room.d s.equations (w.room.bounds ∷ rooms rest)) (state s.room.d s.equations (rooms rest)) 0 0 0
          (written_in_hand s count splits waiting rest w lines r m) (c (rooms rest)));
    }

-- it is divided
pub after_division : (s : SystemContent) (count : ℕ) (splits splits' : List Branching) (waiting rest waiting' : List Leaf) (w : Leaf) (u : Unknown) (v : ℤ) (lines all : List Line) → IsReached s count splits waiting lines → waiting ≡ rest ++ w ∷ []
    → IsDivided s w.room u v → IsDivision w u v splits splits' rest waiting' → all ≡ lines ++ line.Split (pos u.r) (pos u.s) (pos u.t) v ∷ [] → IsReached s (count + 1) splits' waiting' all
after_division s count splits splits' waiting rest waiting' w u v lines all r m d n is =
    let A : List Line → Type 0 = λ ls. Lead (opened s s.equations) 0 ls (state s.room.d s.equations (rooms waiting')) 0 in
    let first = lower w u v in
    let second = upper (1 + length splits) w u v in
    let now = in_hand s count splits waiting rest w lines r m in
    let same : w.room.d ≡ s.room.d = now.in_place.0.part.d in
    let next = splits_up s splits w (reverse rest) u v now d in
    let turned : reverse ((rest ++ second ∷ []) ++ first ∷ []) ≡ first ∷ second ∷ reverse rest = reverse_push (rest ++ second ∷ []) first ∙ ap (λ ws. first ∷ ws) (reverse_push rest second) in
    let two : rooms ((rest ++ second ∷ []) ++ first ∷ []) ≡ first.room.bounds ∷ second.room.bounds ∷ rooms rest = rooms_push (rest ++ second ∷ []) first ∙ ap (λ rs. first.room.bounds ∷ rs) (rooms_push rest second) in
    let P : List Branching → Type 0 = λ ss. IsUnderWay s ss (reverse waiting') in
    let Q : List Leaf → Type 0 = λ ws. IsUnderWay s (splits ++ split_of w u v ∷ []) ws in
    let D : ℕ → Type 0 = λ k. Lead (state s.room.d s.equations (w.room.bounds ∷ rooms rest)) 0 (line.Split (pos u.r) (pos u.s) (pos u.t) v ∷ [])
    (state s.room.d s.equations (side_up_to w.room.bounds (place k u) v ∷ side_above w.room.bounds (place k u) v ∷ rooms rest)) 0 in
    let lead = subst D (sym same) (split_leads s.room.d s.equations w.room.bounds (rooms rest) u v 0 d.unknown d.sides) in
    let R : List RoomBounds → Type 0 = λ rs. Lead (opened s s.equations) 0 (lines ++ line.Split (pos u.r) (pos u.s) (pos u.t) v ∷ []) (state s.room.d s.equations rs) 0 in
    let longer = ap length m ∙ length_push rest w in
    let more = ap length n.listed ∙ length_push splits (split_of w u v) in
    let two_more = ap length n.sides ∙ length_push (rest ++ second ∷ []) first in
    let one_more = length_push rest second in
    let counted = r.counted in
    let earned = r.earned in
    record {
      under_way = subst P (sym n.listed) (subst Q (sym (ap reverse n.sides ∙ turned)) next);
      counted = omega (arith, longer, more, two_more, one_more, counted);
      earned = omega (arith, more, earned);
      written = subst A (sym is) (subst R (sym (ap rooms n.sides ∙ two))
          (joined lines (line.Split (pos u.r) (pos u.s) (pos u.t) v ∷ []) (opened s s.equations) (state s.room.d s.equations (w.room.bounds ∷ rooms rest)) _ 0 0 0
          (written_in_hand s count splits waiting rest w lines r m) lead));
    }

-- ---- none waits
all_written : (s : SystemContent) (count : ℕ) (splits : List Branching) (waiting : List Leaf) (lines : List Line) → IsReached s count splits waiting lines → length waiting ≡ 0
    → Lead (opened s s.equations) 0 lines (state s.room.d s.equations []) 0
all_written s count splits waiting lines r none =
    let R : List RoomBounds → Type 0 = λ rs. Lead (opened s s.equations) 0 lines (state s.room.d s.equations rs) 0 in
    subst R (ap rooms (nil_from_length waiting none) ∙ rooms_nil) r.written

pub all_closed : (s : SystemContent) (count : ℕ) (splits : List Branching) (waiting : List Leaf) (lines : List Line) → IsReached s count splits waiting lines → length waiting ≡ 0
    → CloseAll (opened s s.equations) 0 lines
all_closed s count splits waiting lines r none =
    close_all lines (opened s s.equations) (state s.room.d s.equations []) 0 0 (all_written s count splits waiting lines r none) refl

pub none_left : (s : SystemContent) (count : ℕ) (splits : List Branching) (waiting : List Leaf) (lines : List Line) → IsReached s count splits waiting lines → length waiting ≡ 0
    → (x : ℕ → ℤ) → IsSolution s.room.d s.room.bounds s.equations x → ⊥
none_left s count splits waiting lines r none x h = none_in_leaf s.room.d s.equations s.room.bounds lines x (all_written s count splits waiting lines r none) h

-- ---- the budget is spent, and one more waits
pub spent : (s : SystemContent) (count : ℕ) (splits : List Branching) (waiting : List Leaf) (lines : List Line) → IsReached s count splits waiting lines → 0 < length waiting → IsSpent s count count splits
spent s count splits waiting lines r some =
    let counted = r.counted in
    record {
      opened = refl;
      earned = omega (arith, counted, some);
      live = live s splits (reverse waiting) r.under_way;
    }

pub not_enough : (s : SystemContent) (count : ℕ) (splits : List Branching) (waiting : List Leaf) (lines : List Line) → IsReached s count splits waiting lines → 0 < length waiting → 2 * points s.room.bounds ≤ count → ⊥
not_enough s count splits waiting lines r some h =
    let counted = r.counted in
    let short = splits_below_points s.room.d s.equations s.room.bounds splits r.under_way.each in
    omega (arith, counted, some, short, h)
