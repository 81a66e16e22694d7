use Rattle.std.proofs.Common.{◌≡◌}
use Rattle.drg_triples.specs.Counting.{up_to, counted_with, extended}
use Rattle.drg_triples.specs.Faults.{AllFit}
use Rattle.drg_triples.proofs.counting.add_equations_at.Given as goal

abbrev pub invariant-firsts : goal.invariant-firsts
invariant-firsts l =
    let done = up_to (counted_with l.numbers.d l.vertex) l.x in
    record {
      system : l.system ≡ extended l.numbers l.ty l.fn.system done;
      fit : AllFit l.numbers l.ty done;
    }
