-- Values of an unknown that cross.
use Rattle.std.proofs.Common.{◌≡◌, ℕ, ◌<◌, ℤ, pos, ◌<ℤ◌, true, List, length, sym, ◌∙◌, subst, arith}
use Rattle.std.specs.Prelude.{All, Contains, slice_index_or, Some, None}
use Rattle.std.proofs.lemmas.Int.{ints}
use Rattle.drg_linear.specs.declared.unknown.Unknown.{Unknown}
use Rattle.drg_linear.specs.Unknowns.{place}
use Rattle.drg_linear.specs.Equations.{Term, EquationContent, is_equation, coefficient_of}
use Rattle.drg_linear.specs.Rooms.{RoomContent}
use Rattle.drg_linear.specs.Systems.{FitsOver}
use Rattle.drg_linear.specs.Values.{least_value, greatest_value}
use Rattle.drg_rooms.specs.Combinations.{equation_at, no_equation}
use Rattle.drg_solver.specs.declared.closing.Bound.{Bound}
use Rattle.drg_solver.specs.Closings.{ByValues}
use Rattle.drg_solver.specs.Tables.{Table, AreLeft}
use Rattle.drg_solver.proofs.Places.{one_place}
use Rattle.drg_solver.proofs.Terms.{term_unknown, term_has_coefficient}

moved : (z number least greatest : ℤ) → number ≡ least → z ≡ greatest → z <ℤ number → greatest <ℤ least
moved z number least greatest e f h = omega (arith, ints)

pub values_cross : (room : RoomContent) (equations : List EquationContent) (table : Table) (n k : ℕ) (t : Term) (low : Bound) (z : ℤ)
    → n < length equations → All (FitsOver room) equations → All (λ e. is_equation e ≡ true) equations → Contains (equation_at equations (pos n)).terms t
    → AreLeft room.d room.bounds equations table → Some low ≡ slice_index_or table k None → k ≡ place room.d t.0
    → z ≡ greatest_value room.d room.bounds t.0 (equation_at equations (pos n)) → z <ℤ low.number
    → ByValues room.d room.bounds equations low (record { unknown = t.0; number = z; equation = n })
values_cross room equations table n k t low z h fit are among left found is_place is below =
    let f = equation_at equations (pos n) in
    let e = equation_at equations (pos low.equation) in
    let fe : is_equation f ≡ true = are n no_equation h in
    let l = left k low (sym found) in
    let hu = term_unknown room.d f t (fit n no_equation h).unknowns among in
    let same : low.unknown ≡ t.0 = one_place room.d low.unknown t.0 l.unknown hu (l.place ∙ is_place) in
    let least : low.number ≡ least_value room.d room.bounds t.0 e = subst (λ (u : Unknown). low.number ≡ least_value room.d room.bounds u e) same l.number in
    record {
      low_within = l.within;
      high_within = h;
      same = same;
      equation = fe;
      crosses = record {
        unknown = hu;
        least = subst (λ (u : Unknown). coefficient_of u e.terms ≡ pos 0 → ⊥) same l.term;
        greatest = term_has_coefficient f t fe among;
        above = moved z low.number (least_value room.d room.bounds t.0 e) (greatest_value room.d room.bounds t.0 f) least is below;
      };
      least = least;
      greatest = is;
    }
