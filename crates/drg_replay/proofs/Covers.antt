-- The triple intersection numbers of a graph stay in an open branch, so lines that close every branch
-- exclude every graph.
use Rattle.std.proofs.Common.{◌≡◌, ℕ, zero, suc, ◌+◌, ◌*◌, ◌<◌, ◌≤◌, Bool, true, false, List, [], ◌∷◌, length, Ok, refl, sym, ap, ◌∙◌, subst, arith, inl, Option, Some, None}
use Rattle.std.specs.Prelude.{ℤ, pos, negsuc, unsigned_abs, ◌≤ℤ◌, ◌&&◌, not, nat_le, nat_lt, int_le, int_lt, map, if◌then◌else◌, ⊤}
use Rattle.std.specs.List.{range_with_len}
use Rattle.std.proofs.lemmas.Int.{ints}
use Rattle.std.proofs.lemmas.Bool.Decides.{nat_tests}
use Rattle.drg_algebra.proofs.Tests.{both}
use Rattle.drg_array.specs.Entries.{Entries, IsArray, diameter}
use Rattle.drg_array.specs.declared.claim.Claim.{Claim}
use Rattle.drg_derivation.specs.declared.line.Line.{Line}
use Rattle.drg_derivation.specs.declared.line.Line.TheVariants.{Eq, Comb, Low, High, Split, Miss, Mod, Void}
use Rattle.drg_graph.specs.Graph.{Graph, IsDistanceRegular}
use Rattle.drg_graph.specs.Numbers.{AreRows}
use Rattle.drg_linear.specs.declared.triple.TripleType.{TripleType}
use Rattle.drg_linear.specs.Equations.{Meets}
use Rattle.drg_linear.specs.Rooms.{RoomBounds, bounds_at, InRoom}
use Rattle.drg_linear.specs.Triples.{high_bound, IsTripleSolution}
use Rattle.drg_triple_numbers.specs.Places.{unknown_at}
use Rattle.drg_triple_numbers.specs.TripleNumbers.{Triple, AreApart, numbers_at, IsWithin, AreNumbers, IsLive}
use Rattle.drg_triple_numbers.proofs.Places.{places_have_unknowns}
use Rattle.drg_triple_numbers.proofs.Triples.{not_negative, triples_exist, numbers_are_solution}
use Rattle.drg_rooms.specs.Content.{BranchesContent}
use Rattle.drg_rooms.specs.Lines as room_lines
use Rattle.drg_rooms.specs.Laws.{InSome, IsKept}
use Rattle.drg_rooms.proofs.Keeping.{keeps}
use Rattle.drg_rooms.proofs.CombLaws.{meets_back}
use Rattle.drg_replay.specs.Steps.{EachHolds, first_failure}
use Rattle.drg_replay.specs.Indices.{is_index}
use Rattle.drg_replay.specs.Rows.{rows_at, entry}
use Rattle.drg_replay.specs.Rooms.{room_steps, room_after, are_closed}
use Rattle.drg_replay.specs.Systems.{number, all_rows_stand, is_live, type_of, for_type, vertex_of, equation_of, eq_steps, starting_room}
use Rattle.drg_replay.specs.Lines.{known_of, eq_after}
use Rattle.drg_replay.specs.Answers.{AllAreMet}
use Rattle.drg_replay.specs.Soundness.{ClosedRoomsLaw}
use Rattle.drg_replay.proofs.ProgressLaws.{array_stays, claim_stays}
use Rattle.drg_replay.proofs.LineLaws.{rule_holds, rule_met}
use Rattle.drg_replay.proofs.KnownLaws.{all_upper, index_below}
use Rattle.drg_replay.proofs.Soundness.{rows_known}
use Rattle.drg_replay.proofs.RowLaws.{Rowed, fewer_rows}
use Rattle.drg_replay.proofs.RoomSteps.{met_in_rooms}
use Rattle.drg_replay.proofs.StepLaws.{at_most, is_whole_less}

-- ---- the room at the start
inside : (f : ℕ → ℤ × ℤ) (q n k : ℕ) → k < n → bounds_at (map f (range_with_len q n)) k ≡ f (q + k)
inside f q zero k h = absurd (omega arith)
inside f q (suc n) zero h = ap f (omega arith)
inside f q (suc n) (suc k) h = inside f (q + 1) n k (omega arith) ∙ ap f (omega arith)

outside : (f : ℕ → ℤ × ℤ) (q n k : ℕ) → n ≤ k → bounds_at (map f (range_with_len q n)) k ≡ (pos 0, pos 0)
outside f q zero k h = refl
outside f q (suc n) zero h = absurd (omega arith)
outside f q (suc n) (suc k) h = outside f (q + 1) n k (omega arith)

not_chosen : (b : Bool) (x : ℤ) → b ≡ false → (if b then x else pos 0) ≡ pos 0
not_chosen true x h = cc
not_chosen false x h = refl

none_outside : (g : Graph) (d u v w k : ℕ) → d * d * d ≤ k → numbers_at g d u v w k ≡ pos 0
none_outside g d u v w k h = not_chosen (nat_lt k (d * d * d)) _ (grind (arith, nat_tests))

within_bounds : (x : ℤ) (b c : ℤ × ℤ) → b ≡ c → c.0 ≤ℤ x → x ≤ℤ c.1 → (b.0 ≤ℤ x) × (x ≤ℤ b.1)
within_bounds x b c e low high = (let P : ℤ × ℤ → Type 0 = λ b. (b.0 ≤ℤ x) × (x ≤ℤ b.1) in subst P (sym e) (low, high))

abbrev first_bounds : ℕ → List (List (List ℤ)) → TripleType → ℕ → ℤ × ℤ
first_bounds d rows ty k = (pos 0, high_bound (number rows) ty (unknown_at d k))

-- a solution whose numbers outside the places of unknowns are 0 lies in the room at the start
module _ (d : ℕ) (rows : List (List (List ℤ))) (ty : TripleType) (x : ℕ → ℤ) (solution : IsTripleSolution d (number rows) ty x) (natural : (k : ℕ) → pos 0 ≤ℤ x k) (none : (k : ℕ) → d * d * d ≤ k → x k ≡ pos 0) where
  lies_by : (k : ℕ) (b : Bool) → nat_lt k (d * d * d) ≡ b → ((bounds_at (starting_room d rows ty) k).0 ≤ℤ x k) × (x k ≤ℤ (bounds_at (starting_room d rows ty) k).1)
  lies_by k true h =
      let less : k < d * d * d = grind (arith, nat_tests) in
      let at = places_have_unknowns d k less in
      let P : ℕ → Type 0 = λ l. x l ≤ℤ high_bound (number rows) ty (unknown_at d k) in
      within_bounds (x k) _ (first_bounds d rows ty k) (inside (first_bounds d rows ty) 0 (d * d * d) k less ∙ ap (first_bounds d rows ty) (omega arith)) (natural k)
      (subst P at.place_is (solution.bounded (unknown_at d k) at.numbers))
  lies_by k false h =
      let more : d * d * d ≤ k = grind (arith, nat_tests) in
      let zero_is = none k more in
      within_bounds (x k) _ (pos 0, pos 0) (outside (first_bounds d rows ty) 0 (d * d * d) k more) (natural k) (omega (arith, ints, zero_is))

  starts_within : InRoom x (starting_room d rows ty)
  starts_within = record { low = λ k. (lies_by k (nat_lt k (d * d * d)) refl).0; high = λ k. (lies_by k (nat_lt k (d * d * d)) refl).1 }

-- ---- rows that stand
none_at : (rows : List (List (List ℤ))) (h : ℕ) → length rows ≤ h → rows_at rows h ≡ []
none_at [] h l = refl
none_at (r ∷ rows) zero l = absurd (omega arith)
none_at (r ∷ rows) (suc h) l = none_at rows h (omega arith)

-- rows of each upper index from 0 to d, as met lines state them
record Stated (a : Entries) (rows : List (List (List ℤ))) : Type 0 where
  pub rowed : (h : ℕ) → Rowed a h (rows_at rows h)
  pub upper : length rows ≡ diameter a + 1

module _ (a : Entries) (array : IsArray a) (rows : List (List (List ℤ))) (stated : Stated a rows) where
  stands_within : (h : ℕ) → all_rows_stand a rows h ≡ true → h ≤ diameter a
  stands_within h stands = by (nat_le h (diameter a)) refl where
    by : (b : Bool) → nat_le h (diameter a) ≡ b → h ≤ diameter a
    by true e = at_most h (diameter a) e
    by false e =
        let more : diameter a < h = grind (arith, nat_tests) in
        let upper = stated.upper in
        let none = ap length (none_at rows h (omega arith)) in
        let some = array.some in
        let all = at_most (diameter a) (length (rows_at rows h)) stands in
        absurd (omega (arith, none, some, all))

  all_rows : (h : ℕ) → all_rows_stand a rows h ≡ true → AreRows a h (diameter a) (number rows h)
  all_rows h stands =
      let known = stated.rowed h in fewer_rows a h (diameter a) (length (rows_at rows h)) (entry h (rows_at rows h)) (at_most _ _ stands) known.are

  -- a live type, by the rows that stand
  record Lives (ty : TripleType) : Type 0 where
    pub within : IsWithin a ty
    pub numbers : AreNumbers a (number rows) ty
    pub live : IsLive (number rows) ty

  lives : (ty : TripleType) → is_live a rows ty ≡ true → Lives ty
  lives ty h =
      let outer = both (all_rows_stand a rows ty.u && all_rows_stand a rows ty.v && all_rows_stand a rows ty.w) (int_lt (pos 0) (number rows ty.w ty.v ty.u)) h in
      let middle = both (all_rows_stand a rows ty.u && all_rows_stand a rows ty.v) (all_rows_stand a rows ty.w) outer.0 in
      let inner = both (all_rows_stand a rows ty.u) (all_rows_stand a rows ty.v) middle.0 in
      record {
        within = record { u = stands_within ty.u inner.0; v = stands_within ty.v inner.1; w = stands_within ty.w middle.1 };
        numbers = record { first = all_rows ty.u inner.0; second = all_rows ty.v inner.1; third = all_rows ty.w middle.1 };
        live = is_whole_less _ _ outer.1;
      }

stated_of : (a : Entries) (claim : Claim) (lines : List Line) → AllAreMet a claim lines → Stated a (known_of a claim lines).counts.rows
stated_of a claim lines met =
    let rows = (known_of a claim lines).counts.rows in
    let here = array_stays a claim lines in
    record {
      rowed = λ h. subst (λ b. Rowed b h (rows_at rows h)) here (rows_known a claim lines met h);
      upper = subst (λ b. length rows ≡ diameter b + 1) here (all_upper a claim lines);
    }

-- an index is from 1 to d
from_one : (limit : ℕ) (n : ℤ) → is_index 1 n limit ≡ true → 1 ≤ unsigned_abs n
from_one limit (pos n) h = let b = both (int_le (pos 1) (pos n)) (int_le (pos n) (pos limit)) h in omega (arith, ints)
from_one limit (negsuc n) h = cc

-- ---- three vertices of the type of the claim
-- where rooms stand, the claim has a type, and the graph has three vertices of it
HasTriple : Graph → Claim → Option BranchesContent → Type 0
HasTriple g claim None = ⊤
HasTriple g claim (Some b) = (ty : TripleType) × (type_of claim ≡ Some ty) × Triple g ty

room_has : (g : Graph) (claim : Claim) (line : Line) (rooms : Option BranchesContent) → HasTriple g claim rooms → HasTriple g claim (room_after line rooms)
unfolding HasTriple
room_has g claim line None has = has
room_has g claim line (Some b) has = has

-- what a fact on the array and the claim says of those in force
in_force : (G : Entries → Claim → Type 0) (a : Entries) (claim : Claim) (lines : List Line) → G a claim → G (known_of a claim lines).array (known_of a claim lines).claim
in_force G a claim lines h = subst (λ b. G b (known_of a claim lines).claim) (sym (array_stays a claim lines)) (subst (G a) (sym (claim_stays a claim lines)) h)

module _ (g : Graph) (a : Entries) (array : IsArray a) (regular : IsDistanceRegular g a) (claim : Claim) where
  eq_has : (rows : List (List (List ℤ))) (rooms : Option BranchesContent) (n x y : ℤ) → Stated a rows → (t : Option TripleType) → type_of claim ≡ t
      → EachHolds (for_type t (λ ty. eq_steps a rows ty n x y)) → HasTriple g claim rooms → HasTriple g claim (eq_after t (diameter a) rows rooms n x y)
  unfolding HasTriple
  eq_has rows rooms n x y stated None e steps has = has
  eq_has rows rooms n x y stated (Some ty) e steps has =
      let l = lives a array rows stated ty steps.0 in (ty, e, triples_exist g a (number rows) ty array regular l.within l.numbers l.live)

  has_triple : (lines : List Line) → AllAreMet a claim lines → HasTriple g claim (known_of a claim lines).rooms
  unfolding HasTriple
  has_triple [] met = tt
  has_triple (Eq n x y ∷ earlier) met =
      let k = known_of a claim earlier in
      let G : Entries → Claim → Type 0 = λ b c. EachHolds (for_type (type_of c) (λ ty. eq_steps b k.counts.rows ty n x y)) → HasTriple g claim (eq_after (type_of c) (diameter b) k.counts.rows k.rooms n x y) in
      let here : G a claim = λ steps. eq_has k.counts.rows k.rooms n x y (stated_of a claim earlier met.0) (type_of claim) refl steps (has_triple earlier met.0) in
      in_force G a claim earlier here (rule_holds k (Eq n x y) met.1)
  has_triple (Comb m values ∷ earlier) met = room_has g claim (Comb m values) (known_of a claim earlier).rooms (has_triple earlier met.0)
  has_triple (Low r s t v n ∷ earlier) met = room_has g claim (Low r s t v n) (known_of a claim earlier).rooms (has_triple earlier met.0)
  has_triple (High r s t v n ∷ earlier) met = room_has g claim (High r s t v n) (known_of a claim earlier).rooms (has_triple earlier met.0)
  has_triple (Split r s t v ∷ earlier) met = room_has g claim (Split r s t v) (known_of a claim earlier).rooms (has_triple earlier met.0)
  has_triple (Miss n ∷ earlier) met = room_has g claim (Miss n) (known_of a claim earlier).rooms (has_triple earlier met.0)
  has_triple (Mod n h ∷ earlier) met = room_has g claim (Mod n h) (known_of a claim earlier).rooms (has_triple earlier met.0)
  has_triple (Void r s t ∷ earlier) met = room_has g claim (Void r s t) (known_of a claim earlier).rooms (has_triple earlier met.0)
  has_triple (_ ∷ earlier) met = has_triple earlier met.0

-- ---- their numbers are kept
-- the numbers meet the equations made, and lie in an open branch
Kept : ℕ → (ℕ → ℤ) → Option BranchesContent → Type 0
Kept d x None = ⊤
Kept d x (Some b) = (b.d ≡ d) × IsKept x b

room_keeps : (d : ℕ) (x : ℕ → ℤ) (line : Line) (rooms : Option BranchesContent) → first_failure (room_steps rooms line) ≡ Ok tt → Kept d x rooms → Kept d x (room_after line rooms)
unfolding Kept
room_keeps d x line None met kept = kept
room_keeps d x line (Some b) met kept = (kept.0, keeps b line x (met_in_rooms (room_lines.steps_of b line) met) kept.1)

module _ (g : Graph) (a : Entries) (array : IsArray a) (regular : IsDistanceRegular g a) (claim : Claim) (ty : TripleType) (typed : type_of claim ≡ Some ty) (u v w : ℕ) (apart : AreApart g ty u v w) where
  abbrev counts : ℕ → ℤ
  counts = numbers_at g (diameter a) u v w

  eq_keeps : (rows : List (List (List ℤ))) (rooms : Option BranchesContent) (n x y : ℤ) → Stated a rows → EachHolds (eq_steps a rows ty n x y) → Kept (diameter a) counts rooms
      → Kept (diameter a) counts (eq_after (Some ty) (diameter a) rows rooms n x y)
  unfolding Kept
  eq_keeps rows rooms n x y stated steps kept =
      let d = diameter a in
      let l = lives a array rows stated ty steps.0 in
      let solution = numbers_are_solution g a (number rows) ty u v w array regular l.within l.numbers apart in
      let meets : Meets d counts (equation_of d rows ty n x y) =
      solution.counted (vertex_of n) (unsigned_abs x) (unsigned_abs y) (from_one d x steps.1.1.0) (index_below 1 d x steps.1.1.0) (from_one d y steps.1.1.1.0) (index_below 1 d y steps.1.1.1.0) in
      by rooms kept (starts_within d rows ty counts solution (λ k. not_negative g d u v w k) (λ k. none_outside g d u v w k)) meets
    where
      by : (rooms : Option BranchesContent) → Kept (diameter a) counts rooms → InRoom counts (starting_room (diameter a) rows ty) → Meets (diameter a) counts (equation_of (diameter a) rows ty n x y)
          → Kept (diameter a) counts (eq_after (Some ty) (diameter a) rows rooms n x y)
      by None kept starts meets = (refl, ((meets, tt), inl starts))
      by (Some b) kept starts meets =
          (kept.0, (meets_back b.d counts b.equations _ kept.1.0 (subst (λ d. Meets d counts (equation_of (diameter a) rows ty n x y)) (sym kept.0) meets), kept.1.1))

  kept_by : (lines : List Line) → AllAreMet a claim lines → Kept (diameter a) counts (known_of a claim lines).rooms
  unfolding Kept
  kept_by [] met = tt
  kept_by (Eq n x y ∷ earlier) met =
      let k = known_of a claim earlier in
      let G : Entries → Claim → Type 0 = λ b c. EachHolds (for_type (type_of c) (λ ty. eq_steps b k.counts.rows ty n x y)) → Kept (diameter a) counts (eq_after (type_of c) (diameter b) k.counts.rows k.rooms n x y) in
      let H : Option TripleType → Type 0 = λ t. EachHolds (for_type t (λ ty. eq_steps a k.counts.rows ty n x y)) → Kept (diameter a) counts (eq_after t (diameter a) k.counts.rows k.rooms n x y) in
      let here : H (Some ty) = λ steps. eq_keeps k.counts.rows k.rooms n x y (stated_of a claim earlier met.0) steps (kept_by earlier met.0) in
      in_force G a claim earlier (subst H (sym typed) here) (rule_holds k (Eq n x y) met.1)
  kept_by (Comb m values ∷ earlier) met = (let k = known_of a claim earlier in room_keeps (diameter a) counts (Comb m values) k.rooms (rule_met k (Comb m values) met.1) (kept_by earlier met.0))
  kept_by (Low r s t v n ∷ earlier) met = (let k = known_of a claim earlier in room_keeps (diameter a) counts (Low r s t v n) k.rooms (rule_met k (Low r s t v n) met.1) (kept_by earlier met.0))
  kept_by (High r s t v n ∷ earlier) met = (let k = known_of a claim earlier in room_keeps (diameter a) counts (High r s t v n) k.rooms (rule_met k (High r s t v n) met.1) (kept_by earlier met.0))
  kept_by (Split r s t v ∷ earlier) met = (let k = known_of a claim earlier in room_keeps (diameter a) counts (Split r s t v) k.rooms (rule_met k (Split r s t v) met.1) (kept_by earlier met.0))
  kept_by (Miss n ∷ earlier) met = (let k = known_of a claim earlier in room_keeps (diameter a) counts (Miss n) k.rooms (rule_met k (Miss n) met.1) (kept_by earlier met.0))
  kept_by (Mod n h ∷ earlier) met = (let k = known_of a claim earlier in room_keeps (diameter a) counts (Mod n h) k.rooms (rule_met k (Mod n h) met.1) (kept_by earlier met.0))
  kept_by (Void r s t ∷ earlier) met = (let k = known_of a claim earlier in room_keeps (diameter a) counts (Void r s t) k.rooms (rule_met k (Void r s t) met.1) (kept_by earlier met.0))
  kept_by (_ ∷ earlier) met = kept_by earlier met.0

-- ---- no branch is left
none_open : (x : ℕ → ℤ) (branches : List RoomBounds) → not (room_lines.is_open branches) ≡ true → InSome x branches → ⊥
none_open x [] e some = some
none_open x (room ∷ kept) e some = cc

none_left : (g : Graph) (claim : Claim) (d : ℕ) (rooms : Option BranchesContent) → HasTriple g claim rooms
    → ((ty : TripleType) → type_of claim ≡ Some ty → (u v w : ℕ) → AreApart g ty u v w → Kept d (numbers_at g d u v w) rooms) → are_closed rooms ≡ true → ⊥
unfolding HasTriple Kept
none_left g claim d None has keeps closed = cc
none_left g claim d (Some b) (ty, typed, three) keeps closed = none_open _ b.branches closed (keeps ty typed three.u three.v three.w three.apart).1.1

pub closed_rooms : ClosedRoomsLaw
closed_rooms a claim lines array met closed g regular =
    none_left g claim (diameter a) (known_of a claim lines).rooms (has_triple g a array regular claim lines met)
    (λ ty typed u v w apart. kept_by g a array regular claim ty typed u v w apart lines met) closed
