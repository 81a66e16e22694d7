-- What is known of lines that are tried on a leaf, and that it doesn't depend on the other branches.
use Rattle.std.proofs.Common.{◌≡◌, ℕ, zero, suc, ◌<◌, ◌≤◌, true, false, List, [], ◌∷◌, ◌++◌, length, take, take-suc, refl, sym, ap, ◌∙◌, subst, arith}
use Rattle.std.specs.Prelude.{slice_index_or}
use Rattle.std.proofs.lemmas.List.{length_push}
use Rattle.drg_derivation.specs.declared.line.Line.{Line}
use Rattle.drg_derivation.specs.declared.line.Line.TheVariants as line
use Rattle.drg_linear.specs.Equations.{EquationContent}
use Rattle.drg_linear.specs.Rooms.{RoomContent, RoomBounds}
use Rattle.drg_linear.specs.Systems.{SystemContent}
use Rattle.drg_rooms.specs.Content.{BranchesContent}
use Rattle.drg_rooms.specs.Lines.{is_open, after, equations_after}
use Rattle.drg_rooms.specs.Answers.{IsMet}
use Rattle.drg_rooms.proofs.HandLaws.{answer_of_the_room}
use Rattle.drg_solver.specs.Lines.{IsGood, bounds_after}
use Rattle.drg_solver.specs.Trials.{IsTaken, is_combination}
use Rattle.drg_solver.specs.Findings.{Lead, CloseLeaf, state}
use Rattle.drg_solver.proofs.Closed.{joined}

-- ---- one line
bounds_grow : (l : Line) (n : ℕ) → bounds_after l n ≤ suc n
bounds_grow (line.Low r s t v m) n = omega arith
bounds_grow (line.High r s t v m) n = omega arith
bounds_grow _ n = omega arith

same_equations : (l : Line) (equations : List EquationContent) → is_combination l ≡ false → equations_after l equations ≡ equations
same_equations (line.Comb m values) equations h = cc
same_equations _ equations h = refl

-- a line that closes the branch in hand leaves no bound line counted
fresh_after : (l : Line) (d : ℕ) (equations : List EquationContent) (room : RoomBounds) (kept : List RoomBounds) (n : ℕ)
    → is_open (after l (state d equations (room ∷ kept))).branches ≡ false → bounds_after l n ≡ 0
fresh_after (line.Miss m) d equations room kept n h = refl
fresh_after (line.Mod m g) d equations room kept n h = refl
fresh_after (line.Void r s t) d equations room kept n h = refl
fresh_after (line.Split r s t v) d equations room kept n h = refl
fresh_after _ d equations room kept n h = cc

-- ---- lines tried one after another
pub record IsTried (s : SystemContent) (room : RoomContent) (done : List Line) (k : BranchesContent) : Type 0 where
  pub count : ℕ
  pub lead : Lead (state s.room.d s.equations (room.bounds ∷ [])) 0 done k count
  pub few : count ≤ length done
  pub d : k.d ≡ s.room.d
  pub equations : k.equations ≡ s.equations
  pub fresh : is_open k.branches ≡ false → count ≡ 0

pub at_first : (s : SystemContent) (room : RoomContent) (k : BranchesContent) → k ≡ state s.room.d s.equations (room.bounds ∷ []) → IsTried s room [] k
at_first s room k is = subst (λ k. IsTried s room [] k) (sym is) (record {
  count = 0;
  lead = (refl, refl);
  few = omega arith;
  d = refl;
  equations = refl;
  fresh = λ h. refl;
})

fresh_from : (l : Line) (d : ℕ) (equations : List EquationContent) (branches : List RoomBounds) (n : ℕ) → is_open branches ≡ true
    → is_open (after l (state d equations branches)).branches ≡ false → bounds_after l n ≡ 0
fresh_from l d equations [] n o h = cc
fresh_from l d equations (room ∷ kept) n o h = fresh_after l d equations room kept n h

pub tried_on : (s : SystemContent) (room : RoomContent) (done : List Line) (l : Line) (k k' : BranchesContent) → IsTried s room done k → is_open k.branches ≡ true → IsTaken k l k' → length done < 64
    → IsTried s room (done ++ l ∷ []) k'
tried_on s room done l k k' t o taken few =
    let grow = bounds_grow l t.count in
    let before = t.few in
    let longer = length_push done l in
    let one : IsGood k t.count l = record { branch = o; met = taken.met; few = omega (arith, grow, before, few) } in
    subst (λ k. IsTried s room (done ++ l ∷ []) k) (sym taken.made) (record {
      count = bounds_after l t.count;
      lead = joined done (l ∷ []) (state s.room.d s.equations (room.bounds ∷ [])) k (after l k) 0 t.count (bounds_after l t.count) t.lead (one, (refl, refl));
      few = omega (arith, grow, before, longer);
      d = t.d;
      equations = same_equations l k.equations taken.plain ∙ t.equations;
      fresh = λ h. fresh_from l k.d k.equations k.branches t.count o h;
    })

-- ---- before branches that are kept for later
met_before : (l : Line) (d : ℕ) (equations : List EquationContent) (room : RoomBounds) (rest kept : List RoomBounds)
    → IsMet (state d equations (room ∷ rest)) l → IsMet (state d equations (room ∷ (rest ++ kept))) l
met_before l d equations room rest kept h =
    answer_of_the_room d equations room (rest ++ kept) l ∙ (sym (answer_of_the_room d equations room rest l) ∙ h)

abbrev with_more : BranchesContent → List RoomBounds → BranchesContent
with_more k kept = state k.d k.equations (k.branches ++ kept)

after_before : (l : Line) (d : ℕ) (equations : List EquationContent) (room : RoomBounds) (rest kept : List RoomBounds)
    → after l (state d equations (room ∷ (rest ++ kept))) ≡ with_more (after l (state d equations (room ∷ rest))) kept
after_before (line.Comb m values) d equations room rest kept = refl
after_before (line.Low r s t v n) d equations room rest kept = refl
after_before (line.High r s t v n) d equations room rest kept = refl
after_before (line.Split r s t v) d equations room rest kept = refl
after_before (line.Miss n) d equations room rest kept = refl
after_before (line.Mod n g) d equations room rest kept = refl
after_before (line.Void r s t) d equations room rest kept = refl
after_before _ d equations room rest kept = refl

lead_before : (kept : List RoomBounds) (lines : List Line) (d : ℕ) (equations : List EquationContent) (branches : List RoomBounds) (k : BranchesContent) (n m : ℕ)
    → Lead (state d equations branches) n lines k m → Lead (state d equations (branches ++ kept)) n lines (with_more k kept) m
lead_before kept [] d equations branches k n m h = (ap (λ k. with_more k kept) h.0, h.1)
lead_before kept (l ∷ lines) d equations [] k n m h = absurd (shut h.0.branch)
  where
    shut : false ≡ true → ⊥
    shut e = cc
lead_before kept (l ∷ lines) d equations (room ∷ rest) k n m h =
    let next = after l (state d equations (room ∷ rest)) in
    let first : IsGood (state d equations (room ∷ (rest ++ kept))) n l = record { branch = refl; met = met_before l d equations room rest kept h.0.met; few = h.0.few } in
    (first, subst (λ k'. Lead k' (bounds_after l n) lines (with_more k kept) m) (sym (after_before l d equations room rest kept)) (lead_before kept lines next.d next.equations next.branches k (bounds_after l n) m h.1))

-- ---- the leaf is closed
none_open : (branches : List RoomBounds) → is_open branches ≡ false → branches ≡ []
none_open [] h = refl
none_open (room ∷ kept) h = cc

pub closes_leaf : (s : SystemContent) (room : RoomContent) (lines : List Line) (k : BranchesContent) → IsTried s room lines k → is_open k.branches ≡ false → CloseLeaf s room lines
closes_leaf s room lines k t closed = λ kept.
    let start = state s.room.d s.equations (room.bounds ∷ []) in
    let none = none_open k.branches closed in
    let d = t.d in
    let equations = t.equations in
    let at_end : k ≡ state s.room.d s.equations [] = (λ i. state (d i) (equations i) (none i)) in
    let led = subst (λ k. Lead start 0 lines k 0) at_end (subst (λ m. Lead start 0 lines k m) (t.fresh closed) t.lead) in
    lead_before kept lines s.room.d s.equations (room.bounds ∷ []) (state s.room.d s.equations []) 0 0 led

-- ---- the lines and the equations of a list, one after another
take_short : {X : Type 0} (xs : List X) (n : ℕ) → length (take n xs) ≤ n
take_short [] zero = omega arith
take_short [] (suc n) = omega arith
take_short (x ∷ xs) zero = omega arith
take_short (x ∷ xs) (suc n) = (let h = take_short xs n in omega (arith, h))

take_all : {X : Type 0} (xs : List X) (n : ℕ) → length xs ≤ n → take n xs ≡ xs
take_all [] zero h = refl
take_all [] (suc n) h = refl
take_all (x ∷ xs) zero h = absurd (omega (arith, h))
take_all (x ∷ xs) (suc n) h = ap (λ ys. x ∷ ys) (take_all xs n (omega (arith, h)))

pub tried_next : (s : SystemContent) (room : RoomContent) (lines : List Line) (n : ℕ) (outside : Line) (k k' : BranchesContent) → IsTried s room (take n lines) k → is_open k.branches ≡ true
    → IsTaken k (slice_index_or lines n outside) k' → n < length lines → length lines ≤ 64 → IsTried s room (take (suc n) lines) k'
tried_next s room lines n outside k k' t o taken within few =
    let short = take_short lines n in
    subst (λ done. IsTried s room done k') (sym (take-suc lines n outside within))
    (tried_on s room (take n lines) (slice_index_or lines n outside) k k' t o taken (omega (arith, short, within, few)))

pub tried_all : (s : SystemContent) (room : RoomContent) (lines : List Line) (n : ℕ) (k : BranchesContent) → IsTried s room (take n lines) k → length lines ≤ n → is_open k.branches ≡ false → CloseLeaf s room lines
tried_all s room lines n k t all closed = closes_leaf s room lines k (subst (λ done. IsTried s room done k) (take_all lines n all) t) closed

pub pushed_next : (d : ℕ) (equations : List EquationContent) (room : RoomBounds) (n : ℕ) (item copy : EquationContent) (k k' : BranchesContent) → k ≡ state d (take n equations) (room ∷ []) → n < length equations
    → item ≡ slice_index_or equations n item → copy ≡ item → k' ≡ record k { equations = k.equations ++ copy ∷ [] } → k' ≡ state d (take (suc n) equations) (room ∷ [])
pushed_next d equations room n item copy k k' is within there same made =
    made
    ∙ (λ i. record (is i) { equations = (is i).equations ++ same i ∷ [] })
    ∙ ap (λ e. state d (take n equations ++ e ∷ []) (room ∷ [])) there
    ∙ ap (λ made. state d made (room ∷ [])) (sym (take-suc equations n item within))

pub pushed_all : (d d' : ℕ) (equations : List EquationContent) (room : RoomBounds) (n : ℕ) → d ≡ d' → length equations ≤ n → state d (take n equations) (room ∷ []) ≡ state d' equations (room ∷ [])
pushed_all d d' equations room n same all = (let made = take_all equations n all in λ i. state (same i) (made i) (room ∷ []))
