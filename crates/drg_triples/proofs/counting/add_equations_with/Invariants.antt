use Rattle.std.proofs.Common.{◌≡◌, ◌∷◌, []}
use Rattle.drg_triples.specs.Counting.{up_to, extended}
use Rattle.drg_triples.specs.Faults.{AllFit}
use Rattle.drg_triples.proofs.counting.add_equations_with.Given as goal

abbrev pub invariant-seconds : goal.invariant-seconds
invariant-seconds l =
    let done = up_to (λ y. record { vertex = l.vertex; x = l.x; y = y } ∷ []) l.y in
    record {
      system : l.system ≡ extended l.numbers l.ty l.fn.system done;
      fit : AllFit l.numbers l.ty done;
    }
