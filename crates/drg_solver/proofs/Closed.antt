-- Lines one after another, and what lines that close every branch say.
use Rattle.std.proofs.Common.{◌≡◌, ℕ, zero, suc, ◌<◌, ◌≤◌, ℤ, true, false, List, [], ◌∷◌, ◌++◌, length, take, take-suc, refl, sym, ap, subst, arith, inl}
use Rattle.std.specs.Prelude.{◌≤ℤ◌, slice_index_or, pos}
use Rattle.std.proofs.lemmas.Int.{ints}
use Rattle.std.specs.Int.Signed.{lt_z, le_z}
use Rattle.drg_algebra.proofs.Tests.{and-in}
use Rattle.drg_derivation.specs.declared.line.Line.{Line}
use Rattle.drg_derivation.specs.declared.line.Line.TheVariants as line
use Rattle.drg_linear.specs.declared.unknown.Unknown.{Unknown}
use Rattle.drg_linear.specs.declared.system.EquationName.{EquationName}
use Rattle.drg_linear.specs.Unknowns.{is_unknown, place}
use Rattle.drg_linear.specs.Equations.{EquationContent, MeetsAll}
use Rattle.drg_linear.specs.Rooms.{RoomContent, RoomBounds, IsRoom, IsSolution, bounds_at}
use Rattle.drg_linear.specs.Splits.{Divides, side_up_to, side_above}
use Rattle.drg_linear.specs.Systems.{SystemContent}
use Rattle.drg_rooms.specs.Content.{BranchesContent}
use Rattle.drg_rooms.specs.Lines.{is_open, after, splits}
use Rattle.drg_rooms.specs.Values.{with_low, with_high}
use Rattle.drg_rooms.specs.Laws.{IsKept}
use Rattle.drg_rooms.proofs.Keeping.{keeps}
use Rattle.drg_solver.specs.Lines.{line_of, Names, NameEach, bounds_after, CloseAll}
use Rattle.drg_solver.specs.Findings.{Lead, state}
use Rattle.drg_solver.proofs.Fits.{order_at}
use Rattle.drg_solver.proofs.Leading.{good, indices_are, yes_at_most, yes_less}

-- ---- lines one after another
pub joined : (first more : List Line) (k l m : BranchesContent) (a b c : ℕ) → Lead k a first l b → Lead l b more m c → Lead k a (first ++ more) m c
joined [] more k l m a b c h g =
    let P : BranchesContent → Type 0 = λ k. Lead k a more m c in
    let Q : ℕ → Type 0 = λ b. Lead l b more m c in
    subst P (sym h.0) (subst Q (sym h.1) g)
joined (line ∷ first) more k l m a b c h g = (h.0, joined first more (after line k) l m (bounds_after line a) b c h.1 g)

pub close_all : (lines : List Line) (k l : BranchesContent) (a b : ℕ) → Lead k a lines l b → is_open l.branches ≡ false → CloseAll k a lines
close_all [] k l a b h o = (let P : BranchesContent → Type 0 = λ k. is_open k.branches ≡ false in subst P (sym h.0) o)
close_all (line ∷ lines) k l a b h o = (h.0, close_all lines (after line k) l (bounds_after line a) b h.1 o)

-- ---- lines keep solutions
pub kept_through : (lines : List Line) (k l : BranchesContent) (a b : ℕ) (x : ℕ → ℤ) → Lead k a lines l b → IsKept x k → IsKept x l
kept_through [] k l a b x h s = (let P : BranchesContent → Type 0 = λ k. IsKept x k in subst P h.0 s)
kept_through (line ∷ lines) k l a b x h s = kept_through lines (after line k) l (bounds_after line a) b x h.1 (keeps k line x h.0.met s)

-- lines that close a leaf leave no solution in it
pub none_in_leaf : (d : ℕ) (equations : List EquationContent) (room : RoomBounds) (lines : List Line) (x : ℕ → ℤ) → Lead (state d equations (room ∷ [])) 0 lines (state d equations []) 0 → IsSolution d room equations x → ⊥
none_in_leaf d equations room lines x h s = (kept_through lines (state d equations (room ∷ [])) (state d equations []) 0 0 x h (s.1, inl s.0)).1

-- ---- a split
pub split_leads : (d : ℕ) (equations : List EquationContent) (room : RoomBounds) (kept : List RoomBounds) (u : Unknown) (v : ℤ) (n : ℕ) → is_unknown d u ≡ true → Divides room (place d u) v
    → Lead (state d equations (room ∷ kept)) n (line.Split (pos u.r) (pos u.s) (pos u.t) v ∷ [])
    (state d equations (side_up_to room (place d u) v ∷ side_above room (place d u) v ∷ kept)) 0
unfolding with_low with_high splits
split_leads d equations room kept u v n hu h =
    let b = bounds_at room (place d u) in
    let sides = and-in (le_z b.0 v) (lt_z v b.1) (yes_at_most b.0 v h.low) (yes_less v b.1 h.high) in
    (good (state d equations (room ∷ kept)) n (line.Split (pos u.r) (pos u.s) (pos u.t) v) refl (refl, (indices_are d u hu, (sides, tt))) (omega arith), (refl, refl))

-- ---- the names of equations
named_push : (s : SystemContent) (lines : List Line) (es : List EquationContent) (line : Line) (e : EquationContent) → NameEach s lines es → Names s line e → NameEach s (lines ++ line ∷ []) (es ++ e ∷ [])
named_push s [] [] line e h n = (n, tt)
named_push s [] (f ∷ fs) line e h n = absurd h
named_push s (l ∷ ls) [] line e h n = absurd h
named_push s (l ∷ ls) (f ∷ fs) line e h n = (h.0, named_push s ls fs line e h.1 n)

pub named_on : (s : SystemContent) (lines : List Line) (n : ℕ) (name : EquationName) (e : EquationContent) → n < length s.equations → NameEach s lines (take n s.equations) → name ≡ slice_index_or s.names n name
    → NameEach s (lines ++ line_of name ∷ []) (take (suc n) s.equations)
named_on s lines n name e h each is =
    let f = slice_index_or s.equations n e in
    let more : take (suc n) s.equations ≡ take n s.equations ++ f ∷ [] = take-suc s.equations n e h in
    let one : Names s (line_of name) f = record {
      number = n;
      name = name;
      within = h;
      equation = same_at s.equations n e f h;
      named = sym is;
      written = refl;
    } in
    rw more (named_push s lines (take n s.equations) (line_of name) f each one)
  where
    same_at : {X : Type 0} (xs : List X) (n : ℕ) (a b : X) → n < length xs → slice_index_or xs n b ≡ slice_index_or xs n a
    same_at [] n a b h = absurd (omega (arith, h))
    same_at (x ∷ xs) zero a b h = refl
    same_at (x ∷ xs) (suc n) a b h = same_at xs n a b (omega (arith, h))

pub named_length : (s : SystemContent) (lines : List Line) (es : List EquationContent) → NameEach s lines es → length lines ≡ length es
named_length s [] [] h = refl
named_length s [] (e ∷ es) h = absurd h
named_length s (l ∷ ls) [] h = absurd h
named_length s (l ∷ ls) (e ∷ es) h = ap suc (named_length s ls es h.1)

-- ---- a system without an equation has a solution
low_solves : (d : ℕ) (room : RoomContent) (equations : List EquationContent) → IsRoom room → equations ≡ [] → IsSolution d room.bounds equations (λ k. (bounds_at room.bounds k).0)
low_solves d room equations r e =
    let P : List EquationContent → Type 0 = λ es. MeetsAll d (λ k. (bounds_at room.bounds k).0) es in
    (record { low = λ k. equal (bounds_at room.bounds k).0; high = λ k. order_at room.bounds k r.ordered }, subst P (sym e) tt)
  where
    equal : (a : ℤ) → a ≤ℤ a
    equal a = omega (arith, ints)

pub some_equation : (d : ℕ) (room : RoomContent) (equations : List EquationContent) → IsRoom room → ((x : ℕ → ℤ) → IsSolution d room.bounds equations x → ⊥) → 1 ≤ length equations
some_equation d room [] r none = absurd (none (λ k. (bounds_at room.bounds k).0) (low_solves d room [] r refl))
some_equation d room (e ∷ es) r none = omega arith
