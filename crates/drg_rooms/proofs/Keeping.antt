-- Each line that is met keeps the solutions, and so does each run of lines.
use Rattle.std.proofs.Common.{◌≡◌, ℕ, ℤ, List, [], ◌∷◌, inl, refl}
use Rattle.std.specs.Prelude.{unsigned_abs}
use Rattle.drg_linear.specs.Equations.{Meets, MeetsAll}
use Rattle.drg_linear.specs.Rooms.{RoomBounds, InRoom}
use Rattle.drg_derivation.specs.declared.line.Line.TheVariants.{Comb, Low, High, Split, Miss, Mod, Void}
use Rattle.drg_rooms.specs.Combinations.{equation_at}
use Rattle.drg_rooms.specs.Lines.{steps_of, unknown_at, place_at}
use Rattle.drg_rooms.specs.Laws.{Event, Made, Taken, InSome, IsKept, EventsAreMet, content_of, made_by, KeepsSolutions, NoSolutionLeft}
use Rattle.drg_rooms.proofs.StepLaws.{each_holds}
use Rattle.drg_rooms.proofs.RoomLaws.{miss_covers, void_covers, split_covers, low_keeps, high_keeps}
use Rattle.drg_rooms.proofs.ModLaws.{mod_covers}
use Rattle.drg_rooms.proofs.CombLaws.{meets_at, meets_back, meets_combination}

pub keeps : KeepsSolutions
keeps k (Comb m values) x h kept = (meets_back k.d x k.equations _ kept.0 (meets_combination k.d x k.equations values kept.0), kept.1)
keeps k (Low r s t v n) x h kept =
    (kept.0, low_keeps k.d x k.branches (unknown_at r s t) v (equation_at k.equations n) (each_holds (steps_of k (Low r s t v n)) h).1.1.1 (meets_at k.d x k.equations (unsigned_abs n) kept.0) kept.1)
keeps k (High r s t v n) x h kept =
    (kept.0, high_keeps k.d x k.branches (unknown_at r s t) v (equation_at k.equations n) (each_holds (steps_of k (High r s t v n)) h).1.1.1 (meets_at k.d x k.equations (unsigned_abs n) kept.0) kept.1)
keeps k (Split r s t v) x h kept = (kept.0, split_covers x k.branches (place_at k.d r s t) v kept.1)
keeps k (Miss n) x h kept =
    (kept.0, miss_covers k.d x k.branches (equation_at k.equations n) (each_holds (steps_of k (Miss n)) h).1.1 (meets_at k.d x k.equations (unsigned_abs n) kept.0) kept.1)
keeps k (Mod n g) x h kept =
    (kept.0, mod_covers k.d x k.branches g (equation_at k.equations n) (each_holds (steps_of k (Mod n g)) h).1.1 (meets_at k.d x k.equations (unsigned_abs n) kept.0) kept.1)
keeps k (Void r s t) x h kept = (kept.0, void_covers x k.branches (place_at k.d r s t) (each_holds (steps_of k (Void r s t)) h).1.1.0 kept.1)
keeps k _ x h kept = kept

same_d : (d : ℕ) (room : RoomBounds) (events : List Event) → (content_of d room events).d ≡ d
same_d d room [] = refl
same_d d room (Made e ∷ earlier) = same_d d room earlier
same_d d room (Taken line ∷ earlier) = same_d d room earlier

-- a run of lines that are met keeps each solution
pub run_keeps : (d : ℕ) (room : RoomBounds) (events : List Event) (x : ℕ → ℤ) → EventsAreMet d room events → InRoom x room → MeetsAll d x (made_by events) → IsKept x (content_of d room events)
run_keeps d room [] x h r m = (tt, inl r)
run_keeps d room (Made e ∷ earlier) x h r m =
    let k = run_keeps d room earlier x h.0 r m.1 in
    let n : Meets (content_of d room earlier).d x e = rw (same_d d room earlier) m.0 in
    (meets_back (content_of d room earlier).d x (content_of d room earlier).equations e k.0 n, k.1)
run_keeps d room (Taken line ∷ earlier) x h r m = keeps (content_of d room earlier) line x h.1 (run_keeps d room earlier x h.0 r m)

in_none : (x : ℕ → ℤ) (branches : List RoomBounds) → branches ≡ [] → InSome x branches → ⊥
in_none x [] e s = s
in_none x (room ∷ kept) e s = cc

pub no_solution_left : NoSolutionLeft
no_solution_left d room events x h closed s = in_none x (content_of d room events).branches closed (run_keeps d room events x h s.0 s.1).1
