-- A room closes in one step where an equation misses, fails modulo a number, or values cross, and only there.
use Rattle.std.proofs.Common.{ℕ, ◌<◌, ℤ, ◌≤ℤ◌, ◌<ℤ◌, List, length, subst, arith}
use Rattle.std.specs.Prelude.{Contains, All, replicate, Option, None, Some, IfNone, IfSome, MatchOption}
use Rattle.std.proofs.lemmas.Int.{ints}
use Rattle.drg_linear.specs.Unknowns.{place}
use Rattle.drg_linear.specs.Equations.{Term, EquationContent}
use Rattle.drg_linear.specs.Rooms.{RoomContent, IsRoom}
use Rattle.drg_linear.specs.Values.{least_value, greatest_value}
use Rattle.drg_linear.specs.Closing.{Misses, FailsModulo, ClosesInOneStep, ByMiss, ByModulus, ByValues}
use Rattle.drg_solver.specs.declared.closing.Closing.{Closing}
use Rattle.drg_solver.specs.Closings.{ClosesBy}
use Rattle.drg_solver.specs.Tables.{with_equations, IsBelow, NoneCrosses}
use Rattle.drg_solver.proofs.Places.{place_below}
use Rattle.drg_solver.proofs.Terms.{has_term}
use Rattle.drg_solver.proofs.LeastValues.{table_reaches}

of_member : {X : Type 0} (P : X → Type 0) (xs : List X) (x : X) → All P xs → Contains xs x → P x
of_member P xs x all c = subst P c.2 (all c.0 x c.1)

below_and_above : (least value greatest : ℤ) → least ≤ℤ value → value ≤ℤ greatest → greatest <ℤ least → ⊥
below_and_above least value greatest l g h = omega (arith, ints)

pub no_closing : (room : RoomContent) (equations : List EquationContent) → IsRoom room
    → All (λ e. Misses room.d room.bounds e → ⊥) equations
    → All (λ e. (g : ℕ) → FailsModulo room.d room.bounds e g → Misses room.d room.bounds e) equations
    → All (NoneCrosses room.d room.bounds (with_equations room.d room.bounds 0 (replicate (length room.bounds) None) equations)) equations
    → ClosesInOneStep room.d room.bounds equations → ⊥
no_closing room equations r misses fails crosses (ByMiss e c h) =
    of_member {X = EquationContent} (λ e. Misses room.d room.bounds e → ⊥) equations e misses c h
no_closing room equations r misses fails crosses (ByModulus e g c h) =
    of_member {X = EquationContent} (λ e. Misses room.d room.bounds e → ⊥) equations e misses c
    (of_member {X = EquationContent} (λ e. (g : ℕ) → FailsModulo room.d room.bounds e g → Misses room.d room.bounds e) equations e fails c g h)
no_closing room equations r misses fails crosses (ByValues u e f c k h) =
    let table = with_equations room.d room.bounds 0 (replicate (length room.bounds) None) equations in
    let t = has_term u e.terms h.least in
    let s = has_term u f.terms h.greatest in
    let l : place room.d u < length room.bounds = rw r.each (place_below room.d u h.unknown) in
    let a = table_reaches room.d room.bounds (length room.bounds) equations e t.term c t.among (rw t.own l) in
    let there = rw t.own at a.there in
    let reaches = rw t.own at a.reaches in
    let none = of_member {X = EquationContent} (NoneCrosses room.d room.bounds table) equations f crosses k in
    let at_term : IsBelow table (place room.d s.term.0) (greatest_value room.d room.bounds s.term.0 f) =
    of_member {X = Term} (λ t. IsBelow table (place room.d t.0) (greatest_value room.d room.bounds t.0 f)) f.terms s.term none s.among in
    let below : IsBelow table (place room.d u) (greatest_value room.d room.bounds u f) = rw s.own at at_term in
    below_and_above (least_value room.d room.bounds u e) a.value.number (greatest_value room.d room.bounds u f) reaches (below a.value there) h.above

-- what a search for values that cross finds
pub closing_or_none : (room : RoomContent) (equations : List EquationContent) (found : Option Closing) → IsRoom room
    → All (λ e. Misses room.d room.bounds e → ⊥) equations
    → All (λ e. (g : ℕ) → FailsModulo room.d room.bounds e g → Misses room.d room.bounds e) equations
    → IfNone found (All (NoneCrosses room.d room.bounds (with_equations room.d room.bounds 0 (replicate (length room.bounds) None) equations)) equations)
    → IfSome found (ClosesBy room.d room.bounds equations)
    → MatchOption found (ClosesInOneStep room.d room.bounds equations → ⊥) (ClosesBy room.d room.bounds equations)
closing_or_none room equations None r m f n s = no_closing room equations r m f n
closing_or_none room equations (Some c) r m f n s = s
