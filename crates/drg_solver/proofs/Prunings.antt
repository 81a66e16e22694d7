-- Names of the equations that a closing needs, and lines that are followed with new numbers.
use Rattle.std.proofs.Common.{◌≡◌, ℕ, ◌<◌, ◌≤◌, ℤ, true, false, List, [], ◌∷◌, ◌++◌, length, refl, sym, ◌∙◌, subst, arith, inl}
use Rattle.std.specs.Prelude.{slice_index_or}
use Rattle.drg_derivation.specs.declared.line.Line.{Line}
use Rattle.drg_linear.specs.declared.system.EquationName.{EquationName}
use Rattle.drg_linear.specs.Equations.{EquationContent}
use Rattle.drg_linear.specs.Rooms.{RoomBounds, IsRoom, IsSolution}
use Rattle.drg_linear.specs.Systems.{SystemContent}
use Rattle.drg_rooms.specs.Content.{BranchesContent}
use Rattle.drg_rooms.specs.Lines.{is_open, after}
use Rattle.drg_rooms.specs.Laws.{IsKept, InSome}
use Rattle.drg_rooms.proofs.Keeping.{keeps}
use Rattle.drg_solver.specs.Lines.{line_of, Names, NameEach, IsGood, bounds_after, CloseAll}
use Rattle.drg_solver.specs.Answers.{IsClosing, opened}
use Rattle.drg_solver.specs.Findings.{Lead}
use Rattle.drg_solver.specs.Trials.{IsTaken, AreNamed}
use Rattle.drg_solver.proofs.Closed.{joined, close_all, named_length, some_equation}

-- ---- names
named_push : (s : SystemContent) (lines : List Line) (es : List EquationContent) (l : Line) (e : EquationContent) → NameEach s lines es → Names s l e → NameEach s (lines ++ l ∷ []) (es ++ e ∷ [])
named_push s [] [] l e h n = (n, tt)
named_push s [] (f ∷ fs) l e h n = absurd h
named_push s (k ∷ ks) [] l e h n = absurd h
named_push s (k ∷ ks) (f ∷ fs) l e h n = (h.0, named_push s ks fs l e h.1 n)

pub named_next : (s : SystemContent) (lines : List Line) (k k' : BranchesContent) (n : ℕ) (name : EquationName) (e : EquationContent) → AreNamed s lines k → n < length s.equations
    → name ≡ slice_index_or s.names n name → e ≡ slice_index_or s.equations n e → k' ≡ record k { equations = k.equations ++ e ∷ [] } → AreNamed s (lines ++ line_of name ∷ []) k'
named_next s lines k k' n name e a within named is made =
    let one : Names s (line_of name) e = record {
      number = n;
      name = name;
      within = within;
      equation = sym is;
      named = sym named;
      written = refl;
    } in
    let state = a.state in
    record {
      made = a.made ++ e ∷ [];
      named = named_push s lines a.made (line_of name) e a.named one;
      state = made ∙ (λ i. record (state i) { equations = (state i).equations ++ e ∷ [] });
    }

-- ---- lines
pub record IsFollowed (start : BranchesContent) (lines : List Line) (k : BranchesContent) (count : ℕ) : Type 0 where
  pub lead : Lead start 0 lines k count
  pub few : count ≤ 64

pub none_followed : (start : BranchesContent) → IsFollowed start [] start 0
none_followed start = record { lead = (refl, refl); few = omega arith }

pub followed_next : (start : BranchesContent) (lines : List Line) (l : Line) (k k' : BranchesContent) (count : ℕ) → IsFollowed start lines k count → is_open k.branches ≡ true → IsTaken k l k' → bounds_after l count ≤ 64
    → IsFollowed start (lines ++ l ∷ []) k' (bounds_after l count)
followed_next start lines l k k' count f o taken few =
    let one : IsGood k count l = record { branch = o; met = taken.met; few = few } in
    subst (λ k. IsFollowed start (lines ++ l ∷ []) k (bounds_after l count)) (sym taken.made) (record {
      lead = joined lines (l ∷ []) start k (after l k) 0 count (bounds_after l count) f.lead (one, (refl, refl));
      few = few;
    })

pub followed_all : (start : BranchesContent) (lines : List Line) (k : BranchesContent) (count : ℕ) → IsFollowed start lines k count → is_open k.branches ≡ false → CloseAll start 0 lines
followed_all start lines k count f closed = close_all lines start k 0 count f.lead closed

-- ---- lines that close every branch leave no solution
none_in_some : (x : ℕ → ℤ) (branches : List RoomBounds) → is_open branches ≡ false → InSome x branches → ⊥
none_in_some x [] h s = s
none_in_some x (room ∷ kept) h s = absurd (shut h)
  where
    shut : true ≡ false → ⊥
    shut e = cc

closes_none : (lines : List Line) (k : BranchesContent) (n : ℕ) (x : ℕ → ℤ) → CloseAll k n lines → IsKept x k → ⊥
closes_none [] k n x h s = none_in_some x k.branches h s.1
closes_none (l ∷ lines) k n x h s = closes_none lines (after l k) (bounds_after l n) x h.1 (keeps k l x h.0.met s)

pub is_closing : (s : SystemContent) (names lines all : List Line) (k : BranchesContent) → IsRoom s.room → AreNamed s names k → CloseAll k 0 lines
    → ((x : ℕ → ℤ) → IsSolution s.room.d s.room.bounds s.equations x → ⊥) → all ≡ names ++ lines → IsClosing s all
is_closing s names lines all k room a closes none whole =
    let closed : CloseAll (opened s a.made) 0 lines = subst (λ k. CloseAll k 0 lines) a.state closes in
    let no_solution : (x : ℕ → ℤ) → IsSolution s.room.d s.room.bounds a.made x → ⊥ = λ x h. closes_none lines (opened s a.made) 0 x closed (h.1, inl h.0) in
    let some = some_equation s.room.d s.room a.made room no_solution in
    let same = named_length s names a.made a.named in
    record {
      names = names;
      made = a.made;
      room_lines = lines;
      whole = whole;
      named = a.named;
      some = omega (arith, some, same);
      closed = closed;
      none = none;
    }

pub is_whole_closing : (s : SystemContent) (names lines all : List Line) → IsRoom s.room → NameEach s names s.equations → CloseAll (opened s s.equations) 0 lines
    → ((x : ℕ → ℤ) → IsSolution s.room.d s.room.bounds s.equations x → ⊥) → all ≡ names ++ lines → IsClosing s all
is_whole_closing s names lines all room named closes none whole =
    is_closing s names lines all (opened s s.equations) room (record { made = s.equations; named = named; state = refl }) closes none whole
